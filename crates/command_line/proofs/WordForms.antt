-- What `strip_prefix`, `split_once` and `parse` say of a word, as the functions of specs/Words.antt.
use Rattle.std.proofs.Common.{◌≡◌, ◌≢◌, ◌<◌, ◌^◌, ◌+◌, suc, ◌==◌, ◌&&◌, ◌||◌, Bool, ap, true, false, ◌∙◌, ℕ, List, [], ◌∷◌, ◌++◌, length, get_or}
use Rattle.std.proofs.Common.{Option, Some, None, option_map, refl, sym, arith, take, drop}
use Rattle.std.specs.Prelude.{MatchOption, nat_lt, if◌then◌else◌}
use Rattle.std.specs.Borrow.{Bor}
use Rattle.std.specs.Char.{digit_value}
use Rattle.std.specs.List.{list_all, list_any, before_first, after_first, position_or_len}
use Rattle.std.specs.Str.Parse.{AllDigits, IsNumeral, digits_value, without_leading_plus}
use Rattle.std.proofs.lemmas.Bool.{ltb-true, lt-ltb, and_parts}
use Rattle.std.proofs.lemmas.Bool.Decides.{nat_tests}
use Rattle.std.proofs.lemmas.Grind.{common_steps}
use Rattle.std.proofs.lemmas.List.{take_at, drop_at, take_all, append_assoc, get_or_append_left, get_or_at, length_push}
use Rattle.std.proofs.lemmas.List.Sums.{position_or_len_is}
use Rattle.lemmas.proofs.Bools.{equal_itself}
use Rattle.command_line.specs.Words.{after, is_numeral, parts_at, number_of}

-- A FIRST BYTE
after-at : (c : ℕ) (rest : List ℕ) → after c (c ∷ rest) ≡ Some rest
after-at c rest = go (c == c) refl (grind (arith, nat_tests))
  where
    go : (t : Bool) → (c == c) ≡ t → t ≡ true → after c (c ∷ rest) ≡ Some rest
    go t e f = rw (e, f)

pub after-from : (c : ℕ) (bs : List ℕ) (r : Option (Bor (List ℕ)))
    → MatchOption r ((rest : List ℕ) → bs ≢ c ∷ rest) (λ x. bs ≡ c ∷ x.now) → option_map (λ s. s.now) r ≡ after c bs
after-from c [] None h = refl
after-from c [] (Some x) h = cc
after-from c (b ∷ bs) None h = go (b == c) refl
  where
    go : (t : Bool) → (b == c) ≡ t → None ≡ after c (b ∷ bs)
    go true e = absurd (h bs (ap (λ n. n ∷ bs) (grind (arith, nat_tests))))
    go false e = rw e
after-from c (b ∷ bs) (Some x) h = sym (ap (after c) h ∙ after-at c x.now)

-- THE FIRST BYTE c
abbrev pub Lacks : ℕ → List ℕ → Type 0
Lacks c xs = (i : ℕ) → i < length xs → get_or xs i 0 ≢ c

head_differs : (c x : ℕ) (xs : List ℕ) → Lacks c (x ∷ xs) → (x == c) ≡ false
head_differs c x xs h = let ne : x ≢ c = h 0 (grind (arith, common_steps)) in grind (arith, nat_tests)

Lacks-tail : (c x : ℕ) (xs : List ℕ) → Lacks c (x ∷ xs) → Lacks c xs
Lacks-tail c x xs h i lt = let k = h (suc i) (grind (arith, common_steps)) in grind (arith, common_steps)

list_any-Lacks : (c : ℕ) (xs : List ℕ) → Lacks c xs → list_any (λ x. x == c) xs ≡ false
list_any-Lacks c [] h = refl
list_any-Lacks c (x ∷ xs) h = rw (head_differs c x xs h) (list_any-Lacks c xs (Lacks-tail c x xs h))

list_any-at : (c : ℕ) (xs ys : List ℕ) → list_any (λ x. x == c) (xs ++ c ∷ ys) ≡ true
list_any-at c [] ys = rw (equal_itself c)
list_any-at c (x ∷ xs) ys = let rest = list_any-at c xs ys in elim (x == c) as (λ b. ◌||◌ b (list_any (λ y. y == c) (xs ++ c ∷ ys)) ≡ true)
    [ true ↦ refl | false ↦ rest ]

position_or_len-Lacks : (c : ℕ) (xs : List ℕ) → Lacks c xs → position_or_len (λ x. x == c) xs ≡ length xs
position_or_len-Lacks c xs h =
    position_or_len_is (λ x. x == c) xs (length xs) 0 (omega arith) (λ k lt. let ne = h k lt in grind (arith, nat_tests)) (λ lt. absurd (omega arith))

position_or_len-at : (c : ℕ) (xs ys : List ℕ) → Lacks c xs → position_or_len (λ x. x == c) (xs ++ c ∷ ys) ≡ length xs
position_or_len-at c xs ys h =
    position_or_len_is (λ x. x == c) (xs ++ c ∷ ys) (length xs) 0 (grind (arith, common_steps))
    (λ k lt. let ne = h k lt in rw get_or_append_left (grind (arith, nat_tests))) (λ _. rw (get_or_at xs c ys 0 (length xs) refl) (equal_itself c))

before_first-Lacks : (c : ℕ) (xs : List ℕ) → Lacks c xs → before_first (λ x. x == c) xs ≡ xs
before_first-Lacks c xs h = ap (λ n. take n xs) (position_or_len-Lacks c xs h) ∙ take_all (length xs) xs (omega arith)

before_first-at : (c : ℕ) (xs ys : List ℕ) → Lacks c xs → before_first (λ x. x == c) (xs ++ c ∷ ys) ≡ xs
before_first-at c xs ys h = ap (λ n. take n (xs ++ c ∷ ys)) (position_or_len-at c xs ys h) ∙ take_at xs (c ∷ ys) (length xs) refl

after_first-at : (c : ℕ) (xs ys : List ℕ) → Lacks c xs → after_first (λ x. x == c) (xs ++ c ∷ ys) ≡ ys
after_first-at c xs ys h =
    ap (λ (n : ℕ). drop (n + 1) (xs ++ c ∷ ys)) (position_or_len-at c xs ys h)
    ∙ ap (drop (length xs + 1)) (sym (append_assoc xs (c ∷ []) ys)) ∙ drop_at (xs ++ c ∷ []) ys (length xs + 1) (length_push xs c)

-- TWO PARTS
pub parts_at-there : (c : ℕ) (xs ys : List ℕ) → Lacks c xs → parts_at c (xs ++ c ∷ ys) ≡ (xs, Some ys)
parts_at-there c xs ys h = rw (before_first-at c xs ys h, list_any-at c xs ys, after_first-at c xs ys h)

pub parts_at-without : (c : ℕ) (text : List ℕ) → Lacks c text → parts_at c text ≡ (text, None)
parts_at-without c text h = rw (before_first-Lacks c text h, list_any-Lacks c text h)

-- NUMBERS
digits_from : (ds : List ℕ) → list_all (λ d. nat_lt (digit_value d) 10) ds ≡ true → AllDigits 10 ds
digits_from [] e = tt
digits_from (d ∷ ds) e = let parts = and_parts _ _ e in (ltb-true _ _ parts.0, digits_from ds parts.1)

digits_back : (ds : List ℕ) → AllDigits 10 ds → list_all (λ d. nat_lt (digit_value d) 10) ds ≡ true
digits_back [] h = refl
digits_back (d ∷ ds) h = rw (lt-ltb (digit_value d) 10 h.0) (digits_back ds h.1)

numeral : (ds : List ℕ) → IsNumeral 10 ds → is_numeral ds ≡ true
numeral ds h = rw (lt-ltb 0 (length ds) h.0) (digits_back ds h.1)

numeral_from : (ds : List ℕ) → is_numeral ds ≡ true → IsNumeral 10 ds
numeral_from ds e = let parts = and_parts _ _ e in (ltb-true _ _ parts.0, digits_from ds parts.1)

-- the number of the digits ds, where they are a numeral and fit
abbrev number_if : List ℕ → Bool → Bool → Option ℕ
number_if ds a b = if a && b then Some (digits_value 10 ds) else None

pub number_of-ok : (text : List ℕ) (n : ℕ)
    → (IsNumeral 10 (without_leading_plus text) × (digits_value 10 (without_leading_plus text) < 2 ^ 64)) × (n ≡ digits_value 10 (without_leading_plus text))
    → Some n ≡ number_of text
number_of-ok text n h =
    let ds : List ℕ = without_leading_plus text in
    ap (λ k. Some k) h.1
    ∙ sym (ap (λ a. number_if ds a (nat_lt (digits_value 10 ds) (2 ^ 64))) (numeral ds h.0.0)
    ∙ ap (number_if ds true) (lt-ltb (digits_value 10 ds) (2 ^ 64) h.0.1))

pub number_of-err : (text : List ℕ)
    → ¬ (IsNumeral 10 (without_leading_plus text) × (digits_value 10 (without_leading_plus text) < 2 ^ 64)) → None ≡ number_of text
number_of-err text none = go (is_numeral (without_leading_plus text)) (nat_lt (digits_value 10 (without_leading_plus text)) (2 ^ 64)) refl refl
  where
    go : (a b : Bool) → is_numeral (without_leading_plus text) ≡ a → nat_lt (digits_value 10 (without_leading_plus text)) (2 ^ 64) ≡ b → None ≡ number_of text
    go true true e f = absurd (none (numeral_from _ e, ltb-true _ _ f))
    go true false e f =
        sym (ap (λ a. number_if (without_leading_plus text) a (nat_lt (digits_value 10 (without_leading_plus text)) (2 ^ 64))) e
        ∙ ap (number_if (without_leading_plus text) true) f)
    go false b e f = sym (ap (λ a. number_if (without_leading_plus text) a (nat_lt (digits_value 10 (without_leading_plus text)) (2 ^ 64))) e)
