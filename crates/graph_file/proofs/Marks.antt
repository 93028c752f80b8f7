-- A field that is read is the field that is written, and what is written is read again.
use Rattle.std.proofs.Common.{◌≡◌, ℕ, zero, suc, ◌+◌, ◌^◌, ◌<◌, ◌≤◌, ◌&&◌, ◌||◌, not, eqb, ltb, leb, Bool, true, false, cond, List, [], ◌∷◌, length}
use Rattle.std.proofs.Common.{get_or, All, Some, None, ℤ, pos, negsuc, neg_ℤ, refl, sym, ap, subst, ◌∙◌, arith}
use Rattle.std.specs.Prelude.{codes}
use Rattle.std.specs.Int.{w64}
use Rattle.std.specs.Int.RustNames.{FitsSigned}
use Rattle.std.specs.Fmt.{decimal}
use Rattle.std.specs.List.{list_all}
use Rattle.std.specs.Char.{is_ascii_digit}
use Rattle.std.specs.Str.{all_ascii_digits, bytes_eq}
use Rattle.std.specs.Str.Parse.{digits_value}
use Rattle.std.proofs.lemmas.Bool.{false≢true, lt-ltb, ltb-true, le-leb, leb-true, eqb-true, eq-eqb, ne_eqb, and_parts, and_from, or_left, or_right}
use Rattle.std.proofs.lemmas.Bool.{not-true, not_from_false}
use Rattle.std.proofs.lemmas.List.Elements.{All-weaker}
use Rattle.std.proofs.lemmas.List.Sums.{AllPass-from_list_all, list_all-from_AllPass}
use Rattle.std.proofs.lemmas.Option.{cond_some}
use Rattle.std.proofs.lemmas.Slice.Eq.{bytes_eq-Decides}
use Rattle.std.proofs.lemmas.Fmt.{digits_decimal, digits_value-decimal, decimal-digits_value, decimal_nonempty, first_decimal, decimal_digit}
use Rattle.semantics.specs.Text.{literal}
use Rattle.graph_file.specs.Fields.{is_numeral, number_of, is_literal, literal_in, literal_value, literal_of}
use Rattle.graph_file.proofs.Numbers.{own, is_numeral_means, same_digits}

-- ---- bytes

pub weaker : (P Q : ℕ → Bool) → ((b : ℕ) → P b ≡ true → Q b ≡ true) → (bs : List ℕ) → list_all P bs ≡ true → list_all Q bs ≡ true
weaker P Q h bs e = list_all-from_AllPass Q bs (All-weaker (λ b. P b ≡ true) (λ b. Q b ≡ true) h bs (AllPass-from_list_all P bs e))

pub apart : (P : ℕ → Bool) (c : ℕ) → ((b : ℕ) → P b ≡ true → eqb b c ≡ false) → (bs : List ℕ) → list_all P bs ≡ true → All (λ b. eqb b c ≡ false) bs
apart P c h bs e = All-weaker (λ b. P b ≡ true) (λ b. eqb b c ≡ false) h bs (AllPass-from_list_all P bs e)

-- a byte of a field
abbrev pub is_plain : ℕ → Bool
is_plain b = leb 33 b && leb b 126

-- a field: bytes that are printed and no spaces, and at least one
pub record IsField (bs : List ℕ) : Type 0 where
  pub some : 0 < length bs
  pub plain : list_all is_plain bs ≡ true

digit_bounds : (b : ℕ) → is_ascii_digit b ≡ true → (48 ≤ b) × (b ≤ 57)
digit_bounds b e = let p = and_parts (leb 48 b) (leb b 57) e in (leb-true _ _ p.0, leb-true _ _ p.1)

digit_plain : (b : ℕ) → is_ascii_digit b ≡ true → is_plain b ≡ true
digit_plain b e = let h = digit_bounds b e in and_from (leb 33 b) (leb b 126) (le-leb _ _ (omega (arith, h))) (le-leb _ _ (omega (arith, h)))

digit_no_dot : (b : ℕ) → is_ascii_digit b ≡ true → eqb b 46 ≡ false
digit_no_dot b e = let h = digit_bounds b e in ne_eqb b 46 (λ z. absurd (omega (arith, h)))

-- ---- numbers

pub is_numeral_from : (bs : List ℕ) → all_ascii_digits bs ≡ true → 0 < length bs → (get_or bs 0 0 ≡ 48 → length bs ≡ 1) → is_numeral bs ≡ true
unfolding is_numeral
is_numeral_from [] d some short = absurd (omega arith)
is_numeral_from (b ∷ bs) d some short = and_from (list_all is_ascii_digit (b ∷ bs)) (not (eqb b 48) || eqb (length bs) 0) (same_digits (b ∷ bs) ∙ d)
    (go (eqb b 48) refl)
  where
    go : (t : Bool) → eqb b 48 ≡ t → (not (eqb b 48) || eqb (length bs) 0) ≡ true
    go true e = or_right (not (eqb b 48)) (eqb (length bs) 0) (let h = short (eqb-true b 48 e) in eq-eqb (length bs) 0 (omega arith))
    go false e = or_left (not (eqb b 48)) (eqb (length bs) 0) (not_from_false (eqb b 48) e)

decimal_short : (n : ℕ) → n < 2 ^ 64 → get_or (decimal n) 0 0 ≡ 48 → length (decimal n) ≡ 1
decimal_short zero h e = ap (λ (xs : List ℕ). length xs) (decimal_digit 0 (omega arith))
decimal_short (suc n) h e = absurd (omega (arith, first_decimal (suc n) (omega arith) h))

pub decimal_is_numeral : (n : ℕ) → n < 2 ^ 64 → is_numeral (decimal n) ≡ true
decimal_is_numeral n h = is_numeral_from (decimal n) (digits_decimal own n h) (decimal_nonempty n h) (decimal_short n h)

pub numeral_is_decimal : (bs : List ℕ) → is_numeral bs ≡ true → digits_value 10 bs < 2 ^ 64 → bs ≡ decimal (digits_value 10 bs)
numeral_is_decimal bs e h = let n = is_numeral_means bs e in sym (decimal-digits_value own bs n.digits n.some n.short h)

pub number_is : (bs : List ℕ) (n : ℕ) → number_of bs ≡ Some n → (bs ≡ decimal n) × (n < 2 ^ 32)
unfolding number_of
number_is bs n e =
    let p = cond_some (is_numeral bs && ltb (digits_value 10 bs) (2 ^ 32)) (digits_value 10 bs) n e in
    let q = and_parts (is_numeral bs) (ltb (digits_value 10 bs) (2 ^ 32)) p.0 in
    let lt = ltb-true _ _ q.1 in
    (rw (← p.1) (numeral_is_decimal bs q.0 (omega arith)), rw (← p.1) lt)

pub number_again : (n : ℕ) → n < 2 ^ 32 → number_of (decimal n) ≡ Some n
unfolding number_of
number_again n h =
    let wide : n < 2 ^ 64 = omega arith in
    let v = digits_value-decimal own n wide in
    rw (decimal_is_numeral n wide, v, lt-ltb n (2 ^ 32) h) refl

pub decimal_field : (n : ℕ) → n < 2 ^ 64 → IsField (decimal n)
decimal_field n h = record {
  some = decimal_nonempty n h;
  plain = weaker is_ascii_digit is_plain digit_plain (decimal n) (same_digits (decimal n)
      ∙ digits_decimal own n h);
}

pub decimal_no_dot : (n : ℕ) → n < 2 ^ 64 → All (λ b. eqb b 46 ≡ false) (decimal n)
decimal_no_dot n h = apart is_ascii_digit 46 digit_no_dot (decimal n) (same_digits (decimal n) ∙ digits_decimal own n h)

-- ---- literals

numeral_not_zero : (bs : List ℕ) → is_numeral bs ≡ true → not (bytes_eq bs (codes "0")) ≡ true → digits_value 10 bs < 2 ^ 64 → 0 < digits_value 10 bs
numeral_not_zero bs e h lt = go (digits_value 10 bs) refl
  where
    go : (v : ℕ) → digits_value 10 bs ≡ v → 0 < digits_value 10 bs
    go zero k =
        let z : bs ≡ 48 ∷ [] = numeral_is_decimal bs e lt ∙ ap decimal k ∙ decimal_digit 0 (omega arith) in
        absurd (false≢true (sym (not-true _ h) ∙ (bytes_eq-Decides bs (codes "0")).1 z))
    go (suc v) k = omega arith

literal_is_in : (fits : Bool) (y z : ℤ) → literal_in fits y ≡ Some z → (fits ≡ true) × (y ≡ z)
literal_is_in fits y z e = cond_some fits y z e

negative : (v : ℕ) (z : ℤ) → 0 < v → v ≤ 2 ^ 63 → neg_ℤ (pos v) ≡ z → (45 ∷ decimal v ≡ literal z) × FitsSigned w64 z
negative zero z some le e = absurd (omega arith)
negative (suc v) z some le e =
    let one : v + 1 ≡ suc v = omega arith in
    let made : (45 ∷ decimal (suc v) ≡ literal (negsuc v)) × FitsSigned w64 (negsuc v) = (rw one refl, record { sfits = omega arith }) in
    subst (λ (y : ℤ). (45 ∷ decimal (suc v) ≡ literal y) × FitsSigned w64 y) e made

literal_is_at : (c : ℕ) (cs : List ℕ) (z : ℤ) (t : Bool) → eqb c 45 ≡ t → is_literal (c ∷ cs) ≡ true → literal_value (c ∷ cs) ≡ Some z
    → (c ∷ cs ≡ literal z) × FitsSigned w64 z
unfolding is_literal
literal_is_at c cs z true t e h =
    let one : (is_numeral cs && not (bytes_eq cs (codes "0"))) ≡ true = rw t at e in
    let n = and_parts (is_numeral cs) (not (bytes_eq cs (codes "0"))) one in
    let k : literal_in (leb (digits_value 10 cs) (2 ^ 63)) (neg_ℤ (pos (digits_value 10 cs))) ≡ Some z = rw t at h in
    let p = literal_is_in (leb (digits_value 10 cs) (2 ^ 63)) (neg_ℤ (pos (digits_value 10 cs))) z k in
    let le = leb-true _ _ p.0 in
    let some = numeral_not_zero cs n.0 n.1 (omega arith) in
    let made = negative (digits_value 10 cs) z some le p.1 in
    let head : c ≡ 45 = eqb-true c 45 t in
    let tail = numeral_is_decimal cs n.0 (omega arith) in
    (ap (λ (x : ℕ). x ∷ cs) head ∙ ap (λ (xs : List ℕ). 45 ∷ xs) tail ∙ made.0, made.1)
literal_is_at c cs z false t e h =
    let one : is_numeral (c ∷ cs) ≡ true = rw t at e in
    let k : literal_in (ltb (digits_value 10 (c ∷ cs)) (2 ^ 63)) (pos (digits_value 10 (c ∷ cs))) ≡ Some z = rw t at h in
    let p = literal_is_in (ltb (digits_value 10 (c ∷ cs)) (2 ^ 63)) (pos (digits_value 10 (c ∷ cs))) z k in
    let lt = ltb-true _ _ p.0 in
    let tail = numeral_is_decimal (c ∷ cs) one (omega arith) in
    let made : (c ∷ cs ≡ literal (pos (digits_value 10 (c ∷ cs)))) × FitsSigned w64 (pos (digits_value 10 (c ∷ cs))) = (tail, record { sfits = lt }) in
    subst (λ (y : ℤ). (c ∷ cs ≡ literal y) × FitsSigned w64 y) p.1 made

pub literal_is : (bs : List ℕ) (z : ℤ) → literal_of bs ≡ Some z → (bs ≡ literal z) × FitsSigned w64 z
unfolding literal_of
literal_is bs z e = go bs (is_literal bs) refl e
  where
    go : (xs : List ℕ) (t : Bool) → is_literal xs ≡ t → cond (is_literal xs) (literal_value xs) None ≡ Some z → (xs ≡ literal z) × FitsSigned w64 z
    go xs false t h = absurd (let k : None ≡ Some z = rw t at h in cc)
    go [] true t h = absurd (let k : None ≡ Some z = rw t at h in cc)
    go (c ∷ cs) true t h = literal_is_at c cs z (eqb c 45) refl t (let k : literal_value (c ∷ cs) ≡ Some z = rw t at h in k)

positive_again : (bs : List ℕ) (n : ℕ) → bs ≡ decimal n → n < 2 ^ 63 → literal_of bs ≡ Some (pos n)
unfolding literal_of is_literal
positive_again [] n e h = absurd (let k = ap (λ (xs : List ℕ). length xs) e in omega (arith, k, decimal_nonempty n (omega arith)))
positive_again (c ∷ cs) n e h =
    let wide : n < 2 ^ 64 = omega arith in
    let num : is_numeral (c ∷ cs) ≡ true = ap is_numeral e ∙ decimal_is_numeral n wide in
    let first = (is_numeral_means (c ∷ cs) num).first in
    let no : eqb c 45 ≡ false = ne_eqb c 45 (λ z. absurd (omega (arith, first))) in
    let v : digits_value 10 (c ∷ cs) ≡ n = ap (digits_value 10) e ∙ digits_value-decimal own n wide in
    let lt : ltb n (2 ^ 63) ≡ true = lt-ltb n (2 ^ 63) h in
    rw (no, num, v, lt) refl

negative_again : (n : ℕ) → n < 2 ^ 63 → literal_of (45 ∷ decimal (suc n)) ≡ Some (negsuc n)
unfolding literal_of is_literal
negative_again n h =
    let wide : suc n < 2 ^ 64 = omega arith in
    let num : is_numeral (decimal (suc n)) ≡ true = decimal_is_numeral (suc n) wide in
    let v : digits_value 10 (decimal (suc n)) ≡ suc n = digits_value-decimal own (suc n) wide in
    let lt : leb (suc n) (2 ^ 63) ≡ true = le-leb (suc n) (2 ^ 63) (omega arith) in
    let not0 : bytes_eq (decimal (suc n)) (codes "0") ≡ false = go (bytes_eq (decimal (suc n)) (codes "0")) refl in
    rw (num, not0, v, lt) refl
  where
    go : (t : Bool) → bytes_eq (decimal (suc n)) (codes "0") ≡ t → bytes_eq (decimal (suc n)) (codes "0") ≡ false
    go true e =
        let z : decimal (suc n) ≡ 48 ∷ [] = (bytes_eq-Decides (decimal (suc n)) (codes "0")).0 e in
        let k : digits_value 10 (48 ∷ []) ≡ suc n = sym (ap (digits_value 10) z) ∙ digits_value-decimal own (suc n) (omega arith) in
        absurd (let zero-is : digits_value 10 (48 ∷ []) ≡ 0 = refl in omega arith)
    go false e = e

pub literal_again : (z : ℤ) → FitsSigned w64 z → literal_of (literal z) ≡ Some z
literal_again (pos n) fits = positive_again (decimal n) n refl fits.sfits
literal_again (negsuc n) fits = let one : n + 1 ≡ suc n = omega arith in rw one (negative_again n fits.sfits)

pub literal_field : (z : ℤ) → FitsSigned w64 z → IsField (literal z)
literal_field (pos n) fits = let h = fits.sfits in decimal_field n (omega arith)
literal_field (negsuc n) fits = let h = fits.sfits in let d = decimal_field (n + 1) (omega arith) in record { some = omega arith; plain = d.plain }
