-- A comment that ends lies in its text.
use Rattle.std.proofs.Common.{◌≡◌, ℕ, ◌+◌, ◌≤◌, Bool, true, false, List, [], ◌∷◌, length, Option, Some, None, if◌then◌else◌, refl, sym, ap}
use Rattle.std.proofs.Common.{◌==◌, ◌<◌, ◌∙◌, ap₂, arith, codes, drop, eqb-true, get_or, subst}
use Rattle.std.proofs.lemmas.List.{drop_more}
use Rattle.lemmas.proofs.Bools.{first_of_and, second_of_and}
use Rattle.source.specs.Tokens.{begins}
use Rattle.surface.specs.Tokens.{one_more, comment_len}

-- so many bytes further on
abbrev pub later : ℕ → Option ℕ → Option ℕ
later n None = None
later n (Some m) = Some (n + m)

pub later_by_one : (n : ℕ) (o : Option ℕ) → later n (one_more o) ≡ later (n + 1) o
later_by_one n None = refl
later_by_one n (Some m) = let e : n + (1 + m) ≡ n + 1 + m = omega arith in ap (λ k. Some k) e

-- a text that begins with two bytes
pub begins_two : (x y : ℕ) (text : List ℕ) → begins (x ∷ y ∷ []) text ≡ true → (after : List ℕ) × (text ≡ x ∷ y ∷ after)
begins_two x y [] e = absurd cc
begins_two x y (b ∷ []) e = absurd (false_no (second_of_and (x == b) false e))
  where
    false_no : false ≡ true → ⊥
    false_no f = cc
begins_two x y (b ∷ c ∷ bytes) e =
    let first : x ≡ b = eqb-true x b (first_of_and (x == b) (begins (y ∷ []) (c ∷ bytes)) e) in
    let second : y ≡ c = eqb-true y c (first_of_and (y == c) true (second_of_and (x == b) (begins (y ∷ []) (c ∷ bytes)) e)) in
    (bytes, ap₂ (λ (u v : ℕ). u ∷ v ∷ bytes) (sym first) (sym second))

pub two_at_least : (x y : ℕ) (text : List ℕ) → begins (x ∷ y ∷ []) text ≡ true → 2 ≤ length text
two_at_least x y text e =
    let two = begins_two x y text e in
    let n : length text ≡ length (x ∷ y ∷ two.0) = ap (λ (xs : List ℕ). length xs) two.1 in
    omega (arith, n)

pub comment_within : (bytes : List ℕ) (n : ℕ) → comment_len bytes ≡ Some n → n ≤ length bytes
comment_within [] n e = absurd cc
comment_within (b ∷ bytes) n e = go (begins (codes "*/") (b ∷ bytes)) refl (comment_len bytes) refl e (λ m so. comment_within bytes m so)
  where
    go : (t : Bool) → begins (codes "*/") (b ∷ bytes) ≡ t → (o : Option ℕ) → comment_len bytes ≡ o → (if t then Some 2 else one_more o) ≡ Some n
        → ((m : ℕ) → comment_len bytes ≡ Some m → m ≤ length bytes) → n ≤ length (b ∷ bytes)
    go true is o so f more = let same : 2 ≡ n = cc in let some = two_at_least 42 47 (b ∷ bytes) is in omega (arith, same, some)
    go false is None so f more = absurd cc
    go false is (Some m) so f more = let same : 1 + m ≡ n = cc in let less = more m so in omega (arith, same, less)

-- A comment that does not end here ends later, or not at all.
not_here : (t : Bool) (o p : Option ℕ) → t ≡ false → (if t then o else p) ≡ p
not_here t o p e = rw e refl

not_first : (text : List ℕ) (b : ℕ) (bytes : List ℕ) → text ≡ b ∷ bytes → begins (codes "*/") text ≡ false → comment_len text ≡ one_more (comment_len bytes)
not_first text b bytes e f =
    ap comment_len e
    ∙ not_here (begins (codes "*/") (b ∷ bytes)) (Some 2) (one_more (comment_len bytes)) (subst (λ (xs : List ℕ). begins (codes "*/") xs ≡ false) e f)

pub ends_later : (text : List ℕ) (at : ℕ) → at < length text → begins (codes "*/") (drop at text) ≡ false
    → later at (comment_len (drop at text)) ≡ comment_len text → later (at + 1) (comment_len (drop (at + 1) text)) ≡ comment_len text
ends_later text at lt further so =
    let bytes : List ℕ = drop (at + 1) text in
    let here : comment_len (drop at text) ≡ one_more (comment_len bytes) = not_first (drop at text) (get_or text at 0) bytes (drop_more text at 0 lt) further in
    sym (later_by_one at (comment_len bytes)) ∙ ap (later at) (sym here) ∙ so
