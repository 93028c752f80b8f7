-- What `parse` reads is what the definitions say.
use Rattle.std.proofs.Common.{◌≡◌, ℕ, ◌^◌, ◌<◌, ◌≤◌, ◌&&◌, ◌||◌, not, eqb, ltb, leb, Bool, true, false, List, [], ◌∷◌, length, get_or, Some, None}
use Rattle.std.proofs.Common.{Result, Ok, Err, ℤ, pos, neg_ℤ, refl, sym, ap, subst, ◌∙◌, arith}
use Rattle.std.specs.Prelude.{codes}
use Rattle.std.specs.Int.{w64}
use Rattle.std.specs.List.{list_all}
use Rattle.std.specs.Char.{is_ascii_digit}
use Rattle.std.specs.Result.{OkIff, MatchResult, result_ok}
use Rattle.std.specs.Str.{all_ascii_digits, IsUtf8, bytes_eq}
use Rattle.std.specs.Str.Parse.{ParsesUnsigned, ParsesSigned, digits_value}
use Rattle.std.proofs.lemmas.Bool.{false≢true, lt-ltb, ltb-true, le-leb, leb-true, eqb-true, and_parts}
use Rattle.std.proofs.lemmas.Bool.Decides.{nat_tests}
use Rattle.std.proofs.lemmas.Str.{IsUtf8-from_ascii}
use Rattle.std.proofs.lemmas.Str.Ascii.{IsAscii-cons}
use Rattle.std.proofs.lemmas.Str.Parse.{IsNumeralModel, numerals_by_value, tells_all_ascii_digits, parse_plain, parse_signed_plain, parse_signed_minus}
use Rattle.std.proofs.lemmas.Fmt.{IsAscii-from_digits}
use Rattle.graph_file.specs.Fields.{is_numeral, number_of, is_literal, literal_in, literal_value, literal_of}

pub own : IsNumeralModel (λ ds. all_ascii_digits ds ≡ true) (digits_value 10)
own = numerals_by_value _ tells_all_ascii_digits

pub same_digits : (ds : List ℕ) → list_all is_ascii_digit ds ≡ all_ascii_digits ds
same_digits [] = refl
same_digits (d ∷ ds) = ap (λ (b : Bool). is_ascii_digit d && b) (same_digits ds)

pub record IsNumeral (bs : List ℕ) : Type 0 where
  pub digits : all_ascii_digits bs ≡ true
  pub some : 0 < length bs
  pub first : (48 ≤ get_or bs 0 0) × (get_or bs 0 0 ≤ 57)
  pub short : get_or bs 0 0 ≡ 48 → length bs ≡ 1

pub is_numeral_means : (bs : List ℕ) → is_numeral bs ≡ true → IsNumeral bs
unfolding is_numeral
is_numeral_means [] e = absurd (false≢true e)
is_numeral_means (d ∷ ds) e =
    let h = and_parts (list_all is_ascii_digit (d ∷ ds)) (not (eqb d 48) || eqb (length ds) 0) e in
    let k = and_parts (is_ascii_digit d) (list_all is_ascii_digit ds) h.0 in
    record {
      digits = sym (same_digits (d ∷ ds)) ∙ h.0;
      some = omega arith;
      first = let t = k.0 in (grind (arith, nat_tests), grind (arith, nat_tests));
      short = λ z. let t = h.1 in grind (arith, nat_tests);
    }

pub numeral_is_utf8 : (bs : List ℕ) → is_numeral bs ≡ true → IsUtf8 bs
numeral_is_utf8 bs e = IsUtf8-from_ascii bs (IsAscii-from_digits bs (own.to bs (is_numeral_means bs e).digits))

number_at : {E : Type 0} (bs : List ℕ) (r : Result ℕ E) → OkIff r ((all_ascii_digits bs ≡ true) × (0 < length bs) × (digits_value 10 bs < 2 ^ 32))
    (digits_value 10 bs) → IsNumeral bs → is_numeral bs ≡ true → result_ok r ≡ number_of bs
unfolding number_of
number_at bs (Ok x) k n e = let t : ltb (digits_value 10 bs) (2 ^ 32) ≡ true = lt-ltb _ _ k.0.2 in rw (e, t, k.1) refl
number_at bs (Err d) k n e = go (ltb (digits_value 10 bs) (2 ^ 32)) refl
  where
    go : (t : Bool) → ltb (digits_value 10 bs) (2 ^ 32) ≡ t → None ≡ number_of bs
    go true f = absurd (k (n.digits, n.some, ltb-true _ _ f))
    go false f = rw (e, f) refl

pub number_parsed : {E : Type 0} (bs : List ℕ) (r : Result ℕ E) → ParsesUnsigned 32 10 bs r → is_numeral bs ≡ true → result_ok r ≡ number_of bs
number_parsed bs r h e =
    let n = is_numeral_means bs e in
    number_at bs r (parse_plain own 32 bs r h (λ z. absurd (omega (arith, n.first)))) n e

plain_at : {E : Type 0} (bs : List ℕ) (r : Result ℤ E) → OkIff r ((all_ascii_digits bs ≡ true) × (0 < length bs) × (digits_value 10 bs < 2 ^ 63))
    (pos (digits_value 10 bs)) → IsNumeral bs → result_ok r ≡ literal_in (ltb (digits_value 10 bs) (2 ^ 63)) (pos (digits_value 10 bs))
plain_at bs (Ok x) k n = let t : ltb (digits_value 10 bs) (2 ^ 63) ≡ true = lt-ltb _ _ k.0.2 in rw (t, k.1) refl
plain_at bs (Err d) k n = go (ltb (digits_value 10 bs) (2 ^ 63)) refl
  where
    go : (t : Bool) → ltb (digits_value 10 bs) (2 ^ 63) ≡ t → None ≡ literal_in (ltb (digits_value 10 bs) (2 ^ 63)) (pos (digits_value 10 bs))
    go true f = absurd (k (n.digits, n.some, ltb-true _ _ f))
    go false f = rw f refl

minus_at : {E : Type 0} (bs : List ℕ) (r : Result ℤ E) → OkIff r ((all_ascii_digits bs ≡ true) × (0 < length bs) × (digits_value 10 bs ≤ 2 ^ 63))
    (neg_ℤ (pos (digits_value 10 bs))) → IsNumeral bs → result_ok r ≡ literal_in (leb (digits_value 10 bs) (2 ^ 63)) (neg_ℤ (pos (digits_value 10 bs)))
minus_at bs (Ok x) k n = let t : leb (digits_value 10 bs) (2 ^ 63) ≡ true = le-leb _ _ k.0.2 in rw (t, k.1) refl
minus_at bs (Err d) k n = go (leb (digits_value 10 bs) (2 ^ 63)) refl
  where
    go : (t : Bool) → leb (digits_value 10 bs) (2 ^ 63) ≡ t → None ≡ literal_in (leb (digits_value 10 bs) (2 ^ 63)) (neg_ℤ (pos (digits_value 10 bs)))
    go true f = absurd (k (n.digits, n.some, leb-true _ _ f))
    go false f = rw f refl

literal_cases : {E : Type 0} (c : ℕ) (cs : List ℕ) (r : Result ℤ E) → ParsesSigned w64 10 (c ∷ cs) r → (t : Bool) → eqb c 45 ≡ t → is_literal (c ∷ cs)
    ≡ true → result_ok r ≡ literal_value (c ∷ cs)
unfolding is_literal
literal_cases c cs r h true t e =
    let one : (is_numeral cs && not (bytes_eq cs (codes "0"))) ≡ true = rw t at e in
    let n = is_numeral_means cs (and_parts (is_numeral cs) (not (bytes_eq cs (codes "0"))) one).0 in
    let is : c ≡ 45 = eqb-true c 45 t in
    rw t (minus_at cs r (parse_signed_minus own w64 (c ∷ cs) r h is) n)
literal_cases c cs r h false t e =
    let one : is_numeral (c ∷ cs) ≡ true = rw t at e in
    let n = is_numeral_means (c ∷ cs) one in
    rw t (plain_at (c ∷ cs) r (parse_signed_plain own w64 (c ∷ cs) r h (λ z. absurd (omega (arith, n.first))) (λ z. absurd (omega (arith, n.first)))) n)

pub literal_parsed : {E : Type 0} (bs : List ℕ) (r : Result ℤ E) → ParsesSigned w64 10 bs r → is_literal bs ≡ true → result_ok r ≡ literal_of bs
unfolding literal_of
literal_parsed [] r h e = absurd (false≢true (unfold is_literal in e))
literal_parsed (c ∷ cs) r h e = rw e (literal_cases c cs r h (eqb c 45) refl e)

utf8_cases : (c : ℕ) (cs : List ℕ) → (t : Bool) → eqb c 45 ≡ t → is_literal (c ∷ cs) ≡ true → IsUtf8 (c ∷ cs)
unfolding is_literal
utf8_cases c cs true t e =
    let one : (is_numeral cs && not (bytes_eq cs (codes "0"))) ≡ true = rw t at e in
    let n = is_numeral_means cs (and_parts (is_numeral cs) (not (bytes_eq cs (codes "0"))) one).0 in
    let is : c ≡ 45 = eqb-true c 45 t in
    IsUtf8-from_ascii (c ∷ cs) (IsAscii-cons c cs (omega arith) (IsAscii-from_digits cs (own.to cs n.digits)))
utf8_cases c cs false t e = numeral_is_utf8 (c ∷ cs) (rw t at e)

pub literal_is_utf8 : (bs : List ℕ) → is_literal bs ≡ true → IsUtf8 bs
literal_is_utf8 [] e = absurd (false≢true (unfold is_literal in e))
literal_is_utf8 (c ∷ cs) e = utf8_cases c cs (eqb c 45) refl e

-- what a conversion to text gave
pub no_text : {T E : Type 0} (r : Result T E) (P : T → Type 0) (Q : Type 0) (R : E → Type 0) → MatchResult r P (λ d. (Q → ⊥) × R d) → Q → result_ok r ≡ None → ⊥
no_text (Ok x) P Q R h q e = absurd cc
no_text (Err d) P Q R h q e = h.0 q

pub some_text : {T E : Type 0} (r : Result T E) (P : T → Type 0) (Q : E → Type 0) (x : T) → MatchResult r P Q → result_ok r ≡ Some x → P x
some_text (Ok y) P Q x h e = let k : y ≡ x = cc in subst P k h
some_text (Err d) P Q x h e = absurd cc
