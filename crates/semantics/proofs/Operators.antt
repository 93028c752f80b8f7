-- Worked examples of the operators, each at its corners.
use Rattle.std.proofs.Common.{◌≡◌, refl, pos, negsuc, true, false}
use Rattle.tags.specs.declared.value.Value.{Value}
use Rattle.tags.specs.declared.value.Value.TheVariants.{Int, Fault}
use Rattle.tags.specs.declared.value.FaultKind.TheVariants.{Zero, Range}
use Rattle.tags.specs.declared.value.Origin.{Origin}
use Rattle.tags.specs.declared.value.Origin.TheVariants.{Untold, At}
use Rattle.operators.specs.Values.{truth, apply1, apply2, Place, Outside, index_in}
use Rattle.operators.specs.declared.Binary.TheVariants as B
use Rattle.operators.specs.declared.Unary.TheVariants as U

abbrev least : Value
least = Int (negsuc 9223372036854775807)

abbrev greatest : Value
greatest = Int (pos 9223372036854775807)

abbrev minus_one : Value
minus_one = Int (negsuc 0)

-- sums, differences and products wrap around
sum_wraps : apply2 B.Add greatest (Int (pos 1)) Untold ≡ least
sum_wraps = refl

-- the least value less 1 is the greatest
difference_wraps : apply2 B.Sub least (Int (pos 1)) Untold ≡ greatest
difference_wraps = refl

-- -5 times 7
product : apply2 B.Mul (Int (negsuc 4)) (Int (pos 7)) Untold ≡ Int (negsuc 34)
product = refl

-- twice the greatest value is -2
product_wraps : apply2 B.Mul greatest (Int (pos 2)) Untold ≡ Int (negsuc 1)
product_wraps = refl

-- a quotient is truncated towards zero, and a remainder has the dividend's sign
quotient : apply2 B.Div (Int (negsuc 6)) (Int (pos 2)) Untold ≡ Int (negsuc 2)
quotient = refl

-- -7 by 2 leaves -1
remainder : apply2 B.Rem (Int (negsuc 6)) (Int (pos 2)) Untold ≡ Int (negsuc 0)
remainder = refl

-- 7 by -2 leaves 1
remainder_by_negative : apply2 B.Rem (Int (pos 7)) (Int (negsuc 1)) Untold ≡ Int (pos 1)
remainder_by_negative = refl

-- the least value by -1
least_quotient : apply2 B.Div least minus_one Untold ≡ least
least_quotient = refl

-- and leaves 0
least_remainder : apply2 B.Rem least minus_one Untold ≡ Int (pos 0)
least_remainder = refl

-- a divisor of 0 makes a fault, with the origin that is passed in
zero_divisor : apply2 B.Div (Int (pos 7)) (Int (pos 0)) (At 3 4) ≡ Fault Zero (At 3 4)
zero_divisor = refl

-- the same for the remainder
zero_divisor_of_remainder : apply2 B.Rem (Int (pos 7)) (Int (pos 0)) Untold ≡ Fault Zero Untold
zero_divisor_of_remainder = refl

-- bit by bit, in two's complement
and : apply2 B.And (Int (negsuc 1)) (Int (pos 7)) Untold ≡ Int (pos 6)
and = refl

-- -8 and 1 have the bits of -7
or : apply2 B.Or (Int (negsuc 7)) (Int (pos 1)) Untold ≡ Int (negsuc 6)
or = refl

-- -1 without its last bit is -2
xor : apply2 B.Xor minus_one (Int (pos 1)) Untold ≡ Int (negsuc 1)
xor = refl

-- the complement of 0 is -1
complement : apply1 U.Not (Int (pos 0)) ≡ minus_one
complement = refl

-- and the other way round
complement_of_minus_one : apply1 U.Not minus_one ≡ Int (pos 0)
complement_of_minus_one = refl

-- minus the least value is the least value
minus_least : apply1 U.Neg least ≡ least
minus_least = refl

-- minus 0 is 0
minus_zero : apply1 U.Neg (Int (pos 0)) ≡ Int (pos 0)
minus_zero = refl

-- a shift is by the low six bits of its right operand: by 65 as by 1, and by -1 as by 63
shift_left : apply2 B.Shl (Int (pos 1)) (Int (pos 65)) Untold ≡ Int (pos 2)
shift_left = refl

-- 3 by 63 to the left: one bit is left
shift_drops_high_bits : apply2 B.Shl (Int (pos 3)) (Int (pos 63)) Untold ≡ least
shift_drops_high_bits = refl

-- -8 by 1 to the right is -4
shift_right_keeps_the_sign : apply2 B.Shr (Int (negsuc 7)) (Int (pos 1)) Untold ≡ Int (negsuc 3)
shift_right_keeps_the_sign = refl

-- and so is -7
shift_right_rounds_down : apply2 B.Shr (Int (negsuc 6)) (Int (pos 1)) Untold ≡ Int (negsuc 3)
shift_right_rounds_down = refl

-- the least value by 63 to the right is -1
shift_by_minus_one : apply2 B.Shr least minus_one Untold ≡ minus_one
shift_by_minus_one = refl

-- comparisons are signed, and give 1 or 0
equal : apply2 B.Eq (Int (negsuc 5)) (Int (negsuc 5)) Untold ≡ Int (pos 1)
equal = refl

-- a value is not unequal to itself
not_equal : apply2 B.Ne (Int (negsuc 5)) (Int (negsuc 5)) Untold ≡ Int (pos 0)
not_equal = refl

-- -1 is less than 0
less : apply2 B.Lt minus_one (Int (pos 0)) Untold ≡ Int (pos 1)
less = refl

-- no value is less than itself
not_less_than_itself : apply2 B.Lt least least Untold ≡ Int (pos 0)
not_less_than_itself = refl

-- but at most itself
at_most_itself : apply2 B.Le least least Untold ≡ Int (pos 1)
at_most_itself = refl

-- the greatest value is not at most the least
not_at_most : apply2 B.Le greatest least Untold ≡ Int (pos 0)
not_at_most = refl

-- A faulty operand is the result, with its own origin; the left one first
left_fault_first : (o p q : Origin) → apply2 B.Add (Fault Range o) (Fault Zero p) q ≡ Fault Range o
left_fault_first o p q = refl

-- a fault on the right is passed on, by a comparison too
right_fault : (o q : Origin) → apply2 B.Eq (Int (pos 1)) (Fault Zero o) q ≡ Fault Zero o
right_fault o q = refl

-- also where the divisor is 0
fault_before_zero : (o q : Origin) → apply2 B.Div (Fault Range o) (Int (pos 0)) q ≡ Fault Range o
fault_before_zero o q = refl

-- and by an operator on one value
fault_of_one : (o : Origin) → apply1 U.Not (Fault Range o) ≡ Fault Range o
fault_of_one o = refl

-- an integer other than 0 is true, also a negative one; a fault is false
zero_is_false : truth (Int (pos 0)) ≡ false
zero_is_false = refl

-- 2 is true
two_is_true : truth (Int (pos 2)) ≡ true
two_is_true = refl

-- -1 is true
negative_is_true : truth minus_one ≡ true
negative_is_true = refl

-- a fault is false, whatever its origin
fault_is_false : (o : Origin) → truth (Fault Zero o) ≡ false
fault_is_false o = refl

-- an index names a place from 0 on, below the length
last_place : (o : Origin) → index_in 2 (Int (pos 1)) o ≡ Place 1
last_place o = refl

-- the length itself is outside
beyond_the_last : (o : Origin) → index_in 2 (Int (pos 2)) o ≡ Outside (Fault Range o)
beyond_the_last o = refl

-- and so is -1
negative_index : (o : Origin) → index_in 2 minus_one o ≡ Outside (Fault Range o)
negative_index o = refl

-- a faulty index is that fault
faulty_index : (o p : Origin) → index_in 2 (Fault Zero o) p ≡ Outside (Fault Zero o)
faulty_index o p = refl
