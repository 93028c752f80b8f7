-- Lists of bytes that all pass a test, joined.
use Rattle.std.proofs.Common.{◌≡◌, refl, sym, ◌∙◌, ap, subst, ℕ, zero, suc, ◌+◌, ◌/◌, ◌%◌, ◌<◌, ◌≤◌, Bool, true, false, not, ◌&&◌, ◌||◌}
use Rattle.std.proofs.Common.{◌==◌, ℤ, pos, negsuc}
use Rattle.std.proofs.Common.{List, [], ◌∷◌, ◌++◌, inl, inr, arith}
use Rattle.std.specs.Prelude.{All, decimal, flat_map, nat_le, if◌then◌else◌}
use Rattle.std.specs.List.{list_all}
use Rattle.std.proofs.lemmas.Bool.{ne_eqb, le-leb, leb-true, not-true, and_parts, and_from, or_parts, or_from}
use Rattle.std.proofs.lemmas.List.Folds.{list_all-append}
use Rattle.std.proofs.lemmas.List.Elements.{All-nil, All-cons, All-head, All-tail}
use Rattle.std.specs.Fmt.{digits_onto, digit_glyph}
use Rattle.std.proofs.DigitsParse.{digits_onto-nil, digit_glyph_below_ten}
use Rattle.sink.specs.Numbered.{numbered}
use Rattle.trace_text.specs.TraceText.{paired}
use Rattle.semantics.specs.Text.{IsName, IsNameRest, literal}
use Rattle.html_text.specs.Plain.{is_markup, is_special, IsPlain, IsInert, IsQuotable, IsInPart, IsInWord}

-- THE TESTS
abbrev pub plain : ℕ → Bool
plain c = not (is_special c)

abbrev pub inert : ℕ → Bool
inert c = not (is_markup c)

abbrev pub quotable : ℕ → Bool
quotable c = nat_le 32 c && plain c

abbrev pub in_part : ℕ → Bool
in_part c = quotable c && not (c == 59)

abbrev pub in_word : ℕ → Bool
in_word c = in_part c && not (c == 58)

-- LISTS
module _ (test : ℕ → Bool) where
  pub join : (xs ys : List ℕ) → list_all test xs ≡ true → list_all test ys ≡ true → list_all test (xs ++ ys) ≡ true
  join xs ys a b = list_all-append test xs ys ∙ and_from (list_all test xs) (list_all test ys) a b

  -- a text that passes, and such pieces joined from the left, as `◌++◌` does
  abbrev pub Passing : Type 0
  Passing = (text : List ℕ) × (list_all test text ≡ true)

  abbrev pub joined : List ℕ → List Passing → List ℕ
  joined first [] = first
  joined first (piece ∷ pieces) = joined (first ++ piece.0) pieces

  pub join_all : (first : Passing) (pieces : List Passing) → list_all test (joined first.0 pieces) ≡ true
  join_all first [] = first.1
  join_all first (piece ∷ pieces) = join_all (first.0 ++ piece.0, join first.0 piece.0 first.1 piece.1) pieces

  pub all_from : (P : ℕ → Type 0) → ((c : ℕ) → test c ≡ true → P c) → (xs : List ℕ) → list_all test xs ≡ true → All P xs
  all_from P means [] a = All-nil P
  all_from P means (x ∷ xs) a = let h = and_parts (test x) (list_all test xs) a in All-cons P x xs (means x h.0) (all_from P means xs h.1)

  pub all_to : (P : ℕ → Type 0) → ((c : ℕ) → P c → test c ≡ true) → (xs : List ℕ) → All P xs → list_all test xs ≡ true
  all_to P passes [] all = refl
  all_to P passes (x ∷ xs) all = and_from (test x) (list_all test xs) (passes x (All-head P x xs all)) (all_to P passes xs (All-tail P x xs all))

  pub all_numbered : {X : Type 0} (text : ℕ → X → List ℕ) → ((n : ℕ) (x : X) → list_all test (text n x) ≡ true) → (n : ℕ) (xs : List X)
      → list_all test (numbered text n xs) ≡ true
  all_numbered text each n [] = refl
  all_numbered text each n (x ∷ xs) = join (text n x) (numbered text (n + 1) xs) (each n x) (all_numbered text each (n + 1) xs)

  pub all_paired : {X Y : Type 0} (text : ℕ → X → Y → List ℕ) → ((n : ℕ) (x : X) (y : Y) → list_all test (text n x y) ≡ true)
      → (n : ℕ) (xs : List X) (ys : List Y) → list_all test (paired text n xs ys) ≡ true
  all_paired text each n [] ys = refl
  all_paired text each n (x ∷ xs) [] = refl
  all_paired text each n (x ∷ xs) (y ∷ ys) = join (text n x y) (paired text (n + 1) xs ys) (each n x y) (all_paired text each (n + 1) xs ys)

  pub all_each : {X : Type 0} (P : X → Type 0) (text : X → List ℕ) → ((x : X) → P x → list_all test (text x) ≡ true) → (xs : List X) → All P xs
      → list_all test (flat_map text xs) ≡ true
  all_each P text each [] all = refl
  all_each P text each (x ∷ xs) all = join (text x) (flat_map text xs) (each x (All-head P x xs all)) (all_each P text each xs (All-tail P x xs all))

pub lift : (test other : ℕ → Bool) → ((c : ℕ) → test c ≡ true → other c ≡ true) → (xs : List ℕ) → list_all test xs ≡ true → list_all other xs ≡ true
lift test other weaker [] a = refl
lift test other weaker (x ∷ xs) a =
    let h = and_parts (test x) (list_all test xs) a in
    and_from (other x) (list_all other xs) (weaker x h.0) (lift test other weaker xs h.1)

-- WHAT THE TESTS MEAN
pub plain_means : (c : ℕ) → plain c ≡ true → IsPlain c
plain_means c e = not-true (is_special c) e

pub inert_means : (c : ℕ) → inert c ≡ true → IsInert c
inert_means c e = not-true (is_markup c) e

pub quotable_means : (c : ℕ) → quotable c ≡ true → IsQuotable c
quotable_means c e = let h = and_parts (nat_le 32 c) (plain c) e in (leb-true 32 c h.0, plain_means c h.1)

pub in_part_means : (c : ℕ) → in_part c ≡ true → IsInPart c
in_part_means c e = let h = and_parts (quotable c) (not (c == 59)) e in (quotable_means c h.0, not-true (c == 59) h.1)

pub in_word_means : (c : ℕ) → in_word c ≡ true → IsInWord c
in_word_means c e = let h = and_parts (in_part c) (not (c == 58)) e in (in_part_means c h.0, not-true (c == 58) h.1)

pub word_part : (c : ℕ) → in_word c ≡ true → in_part c ≡ true
word_part c e = (and_parts (in_part c) (not (c == 58)) e).0

pub part_quotable : (c : ℕ) → in_part c ≡ true → quotable c ≡ true
part_quotable c e = (and_parts (quotable c) (not (c == 59)) e).0

pub quotable_plain : (c : ℕ) → quotable c ≡ true → plain c ≡ true
quotable_plain c e = (and_parts (nat_le 32 c) (plain c) e).1

pub plain_inert : (c : ℕ) → plain c ≡ true → inert c ≡ true
plain_inert c e = ap not (or_parts (c == 34) (is_markup c) (plain_means c e)).1

pub word_plain : (c : ℕ) → in_word c ≡ true → plain c ≡ true
word_plain c e = quotable_plain c (part_quotable c (word_part c e))

pub quotable_inert : (c : ℕ) → quotable c ≡ true → inert c ≡ true
quotable_inert c e = plain_inert c (quotable_plain c e)

-- BYTES OF NAMES AND DIGITS
pub plain_of : (c : ℕ) → (c ≡ 34 → ⊥) → (c ≡ 60 → ⊥) → (c ≡ 62 → ⊥) → (c ≡ 38 → ⊥) → (c ≡ 39 → ⊥) → (c ≡ 96 → ⊥) → (c ≡ 92 → ⊥) → plain c ≡ true
plain_of c a b d e f g h = ap not (or_from (c == 34) (is_markup c) (ne_eqb c 34 a)
    (or_from ((c == 60) || (c == 62) || (c == 38) || (c == 39) || (c == 96)) (c == 92)
    (or_from ((c == 60) || (c == 62) || (c == 38) || (c == 39)) (c == 96)
    (or_from ((c == 60) || (c == 62) || (c == 38)) (c == 39)
    (or_from ((c == 60) || (c == 62)) (c == 38) (or_from (c == 60) (c == 62) (ne_eqb c 60 b) (ne_eqb c 62 d)) (ne_eqb c 38 e))
    (ne_eqb c 39 f)) (ne_eqb c 96 g)) (ne_eqb c 92 h)))

name_byte : (c : ℕ) → IsNameRest c → plain c ≡ true
name_byte c (inl (inl (low, high))) = plain_of c (λ e. omega (arith, low, e)) (λ e. omega (arith, low, e)) (λ e. omega (arith, low, e))
    (λ e. omega (arith, low, e)) (λ e. omega (arith, low, e)) (λ e. omega (arith, high, e)) (λ e. omega (arith, high, e))
name_byte c (inl (inr (low, high))) = plain_of c (λ e. omega (arith, low, e)) (λ e. omega (arith, low, e)) (λ e. omega (arith, low, e))
    (λ e. omega (arith, low, e)) (λ e. omega (arith, low, e)) (λ e. omega (arith, low, e)) (λ e. omega (arith, low, e))
name_byte c (inr (inl (low, high))) = plain_of c (λ e. omega (arith, low, e)) (λ e. omega (arith, high, e)) (λ e. omega (arith, high, e))
    (λ e. omega (arith, low, e)) (λ e. omega (arith, low, e)) (λ e. omega (arith, high, e)) (λ e. omega (arith, high, e))
name_byte c (inr (inr is)) = ap plain is

pub name_plain : (name : List ℕ) → IsName name → list_all plain name ≡ true
name_plain [] is = absurd is
name_plain (c ∷ cs) is = and_from (plain c) (list_all plain cs) (name_byte c (inl is.0)) (all_to plain IsNameRest name_byte cs is.1)

-- NUMBERS, of any size
digit_quotable : (c : ℕ) → 48 ≤ c → c ≤ 57 → quotable c ≡ true
digit_quotable c low high = and_from (nat_le 32 c) (plain c) (le-leb 32 c (omega (arith, low))) (name_byte c (inr (inl (low, high))))

digit_in_word : (c : ℕ) → 48 ≤ c → c ≤ 57 → in_word c ≡ true
digit_in_word c low high = and_from (in_part c) (not (c == 58))
    (and_from (quotable c) (not (c == 59)) (digit_quotable c low high) (ap not (ne_eqb c 59 (λ e. omega (arith, high, e)))))
    (ap not (ne_eqb c 58 (λ e. omega (arith, high, e))))

glyph_in_word : (n : ℕ) → in_word (digit_glyph false (n % 10)) ≡ true
glyph_in_word n =
    let d : ℕ = 48 + n % 10 in
    let less : n % 10 < 10 = omega arith in
    let is : d ≡ digit_glyph false (n % 10) = digit_glyph_below_ten false (n % 10) d less refl in
    ap in_word (sym is) ∙ digit_in_word d (omega arith) (omega (arith, less))

spelled : (k n : ℕ) (acc : List ℕ) → list_all in_word acc ≡ true → list_all in_word (digits_onto k 10 false n acc) ≡ true
spelled zero n acc all = all
spelled (suc k) n acc all = by (n / 10 == 0) (spelled k (n / 10) (digit_glyph false (n % 10) ∷ acc) more)
  where
    more : list_all in_word (digit_glyph false (n % 10) ∷ acc) ≡ true
    more = and_from (in_word (digit_glyph false (n % 10))) (list_all in_word acc) (glyph_in_word n) all

    by : (t : Bool) → list_all in_word (digits_onto k 10 false (n / 10) (digit_glyph false (n % 10) ∷ acc)) ≡ true
        → list_all in_word (if t then digit_glyph false (n % 10) ∷ acc else digits_onto k 10 false (n / 10) (digit_glyph false (n % 10) ∷ acc)) ≡ true
    by true longer = more
    by false longer = longer

pub number : (n : ℕ) → list_all in_word (decimal n) ≡ true
number n = subst (λ (bs : List ℕ). list_all in_word bs ≡ true) (digits_onto-nil 10 false n) (spelled 64 n [] refl)

pub integer : (z : ℤ) → list_all in_word (literal z) ≡ true
integer (pos n) = number n
integer (negsuc n) = number (n + 1)
