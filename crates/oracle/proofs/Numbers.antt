-- The map that finds invocations grows with them.
use Rattle.std.proofs.Common.{◌≡◌, ◌≢◌, ℕ, suc, ◌+◌, ◌<◌, Bool, true, false, List, [], ◌∷◌, ◌++◌, length, Option, Some, None, if◌then◌else◌, refl}
use Rattle.std.proofs.Common.{sym, ap, ◌∙◌, subst, arith}
use Rattle.std.specs.Prelude.{cond, unwrap_or}
use Rattle.std.proofs.lemmas.Option.{slice_get_within}
use Rattle.std.specs.HashMap.{HashMap, get, Updates}
use Rattle.oracle.specs.declared.invocations.Made.{Made}
use Rattle.oracle.specs.declared.invocations.Invocation.{Invocation}
use Rattle.oracle.specs.Running.{same_made, made_from}
use Rattle.oracle.specs.Numbering.{IsNumbering}
use Rattle.oracle.proofs.Entering.{made_same, made_found}
use Rattle.oracle.proofs.Apart.{made_refl}

-- whether two are equal keys
abbrev pub DealsApart : (Made → Made → Bool) → Type 0
DealsApart eq = (x y : Made) → eq x y ≡ same_made x y

abbrev or_later : Option ℕ → Option ℕ → Option ℕ
or_later None o = o
or_later (Some i) o = Some i

last_from : (made : Made) (i : ℕ) (x : Invocation) (xs : List Invocation) → made_from made i (xs ++ x ∷ [])
    ≡ or_later (made_from made i xs) (if same_made x.made made then Some (i + length xs) else None)
last_from made i x [] =
    let e : i + 0 ≡ i = omega arith in
    rw e refl
last_from made i x (y ∷ ys) = go (same_made y.made made) (last_from made (i + 1) x ys)
  where
    go : (t : Bool) → made_from made (i + 1) (ys ++ x ∷ [])
        ≡ or_later (made_from made (i + 1) ys) (if same_made x.made made then Some (i + 1 + length ys) else None)
        → (if t then Some i else made_from made (i + 1) (ys ++ x ∷ [])) ≡ or_later (if t then Some i else made_from made (i + 1) ys)
        (if same_made x.made made then Some (i + suc (length ys)) else None)
    go true ih = refl
    go false ih =
        let e : i + suc (length ys) ≡ i + 1 + length ys = omega arith in
        rw e ih

pub numbers_more : {S : Type 0} (eq : Made → Made → Bool) (m n : HashMap Made ℕ S) (xs : List Invocation) (made : Made) (block : ℕ)
    → DealsApart eq → IsNumbering eq m xs → made_from made 0 xs ≡ None
    → Updates eq m n made (Some (length xs)) → IsNumbering eq n (xs ++ record { made = made; block = block } ∷ [])
numbers_more eq m n xs made block apart numbers absent updates q =
    updates.0 q ∙ ap (λ b. cond b (Some (length xs)) (get eq m q)) (apart made q) ∙ go (same_made made q) refl
    ∙ sym (last_from q 0 (record { made = made; block = block }) xs)
  where
    later : (v : Option ℕ) → v ≡ or_later v None
    later None = refl
    later (Some i) = refl

    go : (t : Bool) → same_made made q ≡ t → cond t (Some (length xs)) (get eq m q)
        ≡ or_later (made_from q 0 xs) (if t then Some (0 + length xs) else None)
    go true e =
        let none : made_from q 0 xs ≡ None = subst (λ a. made_from a 0 xs ≡ None) (made_same made q e) absent in
        let same : length xs ≡ 0 + length xs = omega arith in
        ap (λ k. Some k) same ∙ sym (ap (λ v. or_later v (Some (0 + length xs))) none)
    go false e = numbers q ∙ later (made_from q 0 xs)

-- the map has one of its numbers written again
pub numbers_same : {S : Type 0} (eq : Made → Made → Bool) (m n : HashMap Made ℕ S) (xs : List Invocation) (made : Made) (k : ℕ)
    → DealsApart eq → IsNumbering eq m xs → made_from made 0 xs ≡ Some k
    → Updates eq m n made (Some k) → IsNumbering eq n xs
numbers_same eq m n xs made k apart numbers there updates q = updates.0 q ∙ ap (λ b. cond b (Some k) (get eq m q)) (apart made q)
    ∙ go (same_made made q) refl
  where
    go : (t : Bool) → same_made made q ≡ t → cond t (Some k) (get eq m q) ≡ made_from q 0 xs
    go true e = sym there ∙ ap (λ a. made_from a 0 xs) (made_same made q e)
    go false e = numbers q

made_below : (made : Made) (xs : List Invocation) (k : ℕ) → made_from made 0 xs ≡ Some k → k < length xs
made_below made xs k h =
    let r = made_found made 0 k xs h in
    let is = r.2 in
    let low = slice_get_within xs r.0 r.1 r.3 in
    omega (arith, is, low)

-- the number for a place is that of the invocation that was made there, or the next one
pub kept_old : (xs : List Invocation) (made : Made) (k : ℕ) → k ≡ unwrap_or (made_from made 0 xs) (length xs) → k ≢ length xs → made_from made 0 xs ≡ Some k
kept_old xs made k e h = go (made_from made 0 xs) refl
  where
    go : (o : Option ℕ) → made_from made 0 xs ≡ o → made_from made 0 xs ≡ Some k
    go None q = absurd (h (e ∙ ap (λ o. unwrap_or o (length xs)) q))
    go (Some j) q = q ∙ ap (λ i. Some i) (sym (e ∙ ap (λ o. unwrap_or o (length xs)) q))

pub kept_new : (xs : List Invocation) (made : Made) (k : ℕ) → k ≡ unwrap_or (made_from made 0 xs) (length xs) → k ≡ length xs → made_from made 0 xs ≡ None
kept_new xs made k e h = go (made_from made 0 xs) refl
  where
    go : (o : Option ℕ) → made_from made 0 xs ≡ o → made_from made 0 xs ≡ None
    go None q = q
    go (Some j) q =
        let low = made_below made xs j q in
        let same : k ≡ j = e ∙ ap (λ o. unwrap_or o (length xs)) q in
        absurd (omega (arith, low, same, h))

-- the one that is added is the first that was made there, if no other was
pub made_last : (xs : List Invocation) (made : Made) (block : ℕ) → made_from made 0 xs ≡ None
    → made_from made 0 (xs ++ record { made = made; block = block } ∷ []) ≡ Some (length xs)
made_last xs made block absent =
    let first : 0 + length xs ≡ length xs = omega arith in
    last_from made 0 (record { made = made; block = block }) xs ∙ ap (λ v. or_later v (if same_made made made then Some (0 + length xs) else None)) absent
    ∙ ap (λ b. if b then Some (0 + length xs) else None) (made_refl made) ∙ ap (λ k. Some k) first
