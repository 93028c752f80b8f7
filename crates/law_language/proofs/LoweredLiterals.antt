-- A literal is a number of 64 bits.
use Rattle.std.proofs.Common.{◌≡◌, ℕ, suc, ◌-◌, ◌^◌, ◌%◌, ◌<◌, ◌≤◌, Bool, true, false, nat_lt, pos, negsuc, FitsSigned, refl, arith, ltb-true, ltb-false}
use mir.Val.{sel}
use Rattle.std.specs.Int.{w64, cast_signed, cast_unsigned}
use Rattle.operators.specs.declared.Unary.TheVariants.{Neg}
use Rattle.operators.specs.Values.{on_int}
use Rattle.source.specs.Evaluates.{signed}

cast_fits : (n : ℕ) → n < 2 ^ 64 → FitsSigned w64 (cast_signed w64 n)
cast_fits n h = go (nat_lt n (2 ^ 63)) refl
  where
    go : (t : Bool) → nat_lt n (2 ^ 63) ≡ t → FitsSigned w64 (sel t (pos n) (negsuc (2 ^ 64 - suc n)))
    go true e = record { sfits = ltb-true n (2 ^ 63) e }
    go false e = record { sfits = omega (arith, ltb-false n (2 ^ 63) e) }

pub signed_fits : (n : ℕ) → n ≤ 2 ^ 63 → FitsSigned w64 (signed n)
signed_fits n h = cast_fits n (omega (arith, h))

pub negated_fits : (n : ℕ) → FitsSigned w64 (on_int Neg (signed n))
negated_fits n = cast_fits ((2 ^ 64 - cast_unsigned w64 (signed n)) % 2 ^ 64) (omega arith)
