-- What the operators do with values, which value is true, and what an index names.
use Rattle.std.specs.Prelude.{List, [], ◌∷◌, ℕ, ◌-◌, ◌%◌, ◌^◌, Bool, true, false, not, ◌&&◌, ◌||◌, ℤ, pos, negsuc, nat_lt, int_lt, int_le, int_rem}
use Rattle.std.specs.Prelude.{bit_and, bit_or, bit_xor, if◌then◌else◌}
use Rattle.std.specs.Int.{w64, cast_signed, cast_unsigned, int_wrapping_add, int_wrapping_sub, int_wrapping_mul, int_wrapping_div, int_wrapping_neg}
use Rattle.std.specs.Int.{int_shl, int_shr}
use Rattle.tags.specs.declared.value.Value.{Value}
use Rattle.tags.specs.declared.value.Value.TheVariants.{Int, Fault}
use Rattle.tags.specs.declared.value.FaultKind.TheVariants.{Zero, Range}
use Rattle.tags.specs.declared.value.Origin.{Origin}
use Rattle.operators.specs.declared.Unary.{Unary}
use Rattle.operators.specs.declared.Unary.TheVariants.{Neg, Not}
use Rattle.operators.specs.declared.Binary.{Binary}
use Rattle.operators.specs.declared.Binary.TheVariants.{Add, Sub, Mul, Div, Rem, And, Or, Xor, Shl, Shr, Eq, Ne, Lt, Le}

-- an integer other than 0
abbrev pub is_nonzero : ℤ → Bool
is_nonzero (pos n) = nat_lt 0 n
is_nonzero (negsuc n) = true

abbrev pub truth : Value → Bool
truth (Int z) = is_nonzero z
truth (Fault k o) = false

abbrev pub flag_of : Bool → Value
flag_of b = Int (if b then pos 1 else pos 0)

-- the low six bits of a shift's amount
abbrev pub shift_of : ℤ → ℕ
shift_of z = cast_unsigned w64 z % 64

-- what a divisor of 0 gives, and else the answer
abbrev pub unless_zero : ℤ → Origin → ℤ → Value
unless_zero divisor origin z = if is_nonzero divisor then Int z else Fault Zero origin

abbrev pub on_int : Unary → ℤ → ℤ
on_int Neg x = int_wrapping_neg w64 x
on_int Not x = cast_signed w64 (2 ^ 64 - 1 - cast_unsigned w64 x)

abbrev pub on_ints : Binary → ℤ → ℤ → Origin → Value
on_ints Add x y o = Int (int_wrapping_add w64 x y)
on_ints Sub x y o = Int (int_wrapping_sub w64 x y)
on_ints Mul x y o = Int (int_wrapping_mul w64 x y)
on_ints Div x y o = unless_zero y o (int_wrapping_div w64 x y)
on_ints Rem x y o = unless_zero y o (int_rem x y)
on_ints And x y o = Int (cast_signed w64 (bit_and (cast_unsigned w64 x) (cast_unsigned w64 y)))
on_ints Or x y o = Int (cast_signed w64 (bit_or (cast_unsigned w64 x) (cast_unsigned w64 y)))
on_ints Xor x y o = Int (cast_signed w64 (bit_xor (cast_unsigned w64 x) (cast_unsigned w64 y)))
on_ints Shl x y o = Int (int_shl w64 x (shift_of y))
on_ints Shr x y o = Int (int_shr x (shift_of y))
on_ints Eq x y o = flag_of (not (int_lt x y) && not (int_lt y x))
on_ints Ne x y o = flag_of (int_lt x y || int_lt y x)
on_ints Lt x y o = flag_of (int_lt x y)
on_ints Le x y o = flag_of (int_le x y)

-- all operators on two values
abbrev pub binaries : List Binary
binaries = Add ∷ Sub ∷ Mul ∷ Div ∷ Rem ∷ And ∷ Or ∷ Xor ∷ Shl ∷ Shr ∷ Eq ∷ Ne ∷ Lt ∷ Le ∷ []

-- the operators that make a fault where the divisor is 0
abbrev pub is_division : Binary → Bool
is_division Div = true
is_division Rem = true
is_division op = false

-- a faulty operand is the result, the left one first
abbrev pub apply1 : Unary → Value → Value
apply1 op (Int x) = Int (on_int op x)
apply1 op (Fault k o) = Fault k o

abbrev pub apply2 : Binary → Value → Value → Origin → Value
apply2 op (Int x) (Int y) origin = on_ints op x y origin
apply2 op (Int x) (Fault k o) origin = Fault k o
apply2 op (Fault k o) w origin = Fault k o

-- what an index names in an array: a place, or the fault that stands for it
pub data Indexed : Type 0 where
  Place : (place : ℕ) → Indexed
  Outside : (fault : Value) → Indexed

abbrev pub index_in : ℕ → Value → Origin → Indexed
index_in len (Int (pos n)) origin = if nat_lt n len then Place n else Outside (Fault Range origin)
index_in len (Int (negsuc n)) origin = Outside (Fault Range origin)
index_in len (Fault k o) origin = Outside (Fault k o)
