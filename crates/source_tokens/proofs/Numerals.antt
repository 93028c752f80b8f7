-- What `parse` reads of a run of digits is its value.
use Rattle.std.proofs.Common.{◌≡◌, ℕ, ◌^◌, ◌<◌, ◌≢◌, Bool, true, false, List, [], ◌∷◌, length, get_or, None, Result, Ok, Err, refl, arith, nat_lt, ◌≤◌, rules}
use Rattle.std.specs.List.{list_all}
use Rattle.std.specs.Char.{is_ascii_digit}
use Rattle.std.specs.Result.{OkIff, result_ok}
use Rattle.std.specs.Str.{IsUtf8}
use Rattle.std.specs.Str.Parse.{ParsesUnsigned, digits_value}
use Rattle.std.proofs.lemmas.Bool.{lt-ltb, ltb-true, and_parts}
use Rattle.std.proofs.lemmas.Bool.Decides.{nat_tests}
use Rattle.std.proofs.lemmas.Str.{IsUtf8-from_ascii}
use Rattle.std.proofs.lemmas.Str.Parse.{IsNumeralModel, numerals_by_value, parse_plain}
use Rattle.std.proofs.lemmas.Fmt.{IsAscii-from_digits}
use Rattle.source_tokens.specs.Beginnings.{value_of}

pub own : IsNumeralModel (λ ds. list_all is_ascii_digit ds ≡ true) (digits_value 10)
own = numerals_by_value _ (search rules)

pub digits_are_utf8 : (run : List ℕ) → list_all is_ascii_digit run ≡ true → IsUtf8 run
digits_are_utf8 run e = IsUtf8-from_ascii run (IsAscii-from_digits run (own.to run e))

no_plus : (run : List ℕ) → list_all is_ascii_digit run ≡ true → get_or run 0 0 ≢ 43
no_plus [] e = λ z. absurd cc
no_plus (d ∷ ds) e = λ z.
    let t = (and_parts (is_ascii_digit d) (list_all is_ascii_digit ds) e).0 in
    let low : 48 ≤ d = grind (arith, nat_tests) in
    absurd (omega arith)

value_at : {E : Type 0} (run : List ℕ) (r : Result ℕ E)
    → OkIff r ((list_all is_ascii_digit run ≡ true) × (0 < length run) × (digits_value 10 run < 2 ^ 64)) (digits_value 10 run)
    → list_all is_ascii_digit run ≡ true → 0 < length run → result_ok r ≡ value_of run
value_at run (Ok x) k e some = let t : nat_lt (digits_value 10 run) (2 ^ 64) ≡ true = lt-ltb _ _ k.0.2 in rw (t, k.1) refl
value_at run (Err d) k e some = go (nat_lt (digits_value 10 run) (2 ^ 64)) refl
  where
    go : (t : Bool) → nat_lt (digits_value 10 run) (2 ^ 64) ≡ t → None ≡ value_of run
    go true f = absurd (k (e, some, ltb-true _ _ f))
    go false f = rw f refl

pub value_parsed : {E : Type 0} (run : List ℕ) (r : Result ℕ E)
    → ParsesUnsigned 64 10 run r → list_all is_ascii_digit run ≡ true → 0 < length run → result_ok r ≡ value_of run
value_parsed run r h e some = value_at run r (parse_plain own 64 run r h (no_plus run e)) e some
