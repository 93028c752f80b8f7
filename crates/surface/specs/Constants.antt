-- CONSTANTS. Each step of one is an integer of 64 bits; there is no division by zero, and a shift is by 0 to 63.
use Rattle.std.specs.Prelude.{ℕ, ◌^◌, ◌&&◌, Bool, ℤ, pos, negsuc, ◌+ℤ◌, ◌-ℤ◌, ◌*ℤ◌, neg_ℤ, int_lt, int_le}
use Rattle.std.specs.Prelude.{Option, None, Some, Result, Ok, Err, if◌then◌else◌}
use Rattle.tags.specs.declared.value.Value.{Value}
use Rattle.tags.specs.declared.value.Value.TheVariants.{Int, Fault as FaultyValue}
use Rattle.tags.specs.declared.value.Origin.TheVariants.{Untold}
use Rattle.operators.specs.declared.Unary.{Unary}
use Rattle.operators.specs.declared.Unary.TheVariants as unary
use Rattle.operators.specs.declared.Binary.{Binary}
use Rattle.operators.specs.declared.Binary.TheVariants as binary
use Rattle.operators.specs.Values.{on_int, on_ints}
use Rattle.source.specs.declared.fault.FaultKind.TheVariants.{NoSuchName}
use Rattle.source.specs.declared.word.InfixSign.{InfixSign}
use Rattle.source.specs.declared.word.InfixSign.TheVariants.{Direct, Greater, AtLeast}
use Rattle.source.specs.Tree.{Name, NumberAt}
use Rattle.source.specs.Outside.{is_in}
use Rattle.surface.specs.declared.fault.Fault.{Fault}
use Rattle.surface.specs.declared.fault.FaultKind.TheVariants.{Core, BadConst}
use Rattle.surface.specs.Tree.{Count, Written, Constant, Expr, Number, Named, Bracket, Prefix, Infix, And, Or, Not, Fetch, Store, Call, If, Loop, For}
use Rattle.surface.specs.First.{◌>>=◌, refused}
use Rattle.surface.specs.Known.{Known, lookup, natural}

-- the place of the token that stands for an expression
abbrev pub place_of : Expr → ℕ
place_of (Number at n) = at
place_of (Named at x) = at
place_of (Bracket e) = place_of e
place_of (Prefix at op e) = at
place_of (Infix at s l r) = at
place_of (And at l r) = at
place_of (Or at l r) = at
place_of (Not at e) = at
place_of (Fetch at a es) = at
place_of (Store at a es d) = at
place_of (Call at strict f es) = at
place_of (If at p l r) = at
place_of (Loop at bound firsts turn) = at
place_of (For at bound i a b carried body) = at

-- whether 64 bits hold it
abbrev pub is_in_64_bits : ℤ → Bool
is_in_64_bits z = int_le (negsuc 9223372036854775807) z && int_le z (pos 9223372036854775807)

abbrev pub in_64_bits : ℕ → ℤ → Result ℤ Fault
in_64_bits at z = if is_in_64_bits z then Ok z else refused BadConst at

-- what the operator of graphs gives, which is exact where nothing wraps
abbrev pub integer_in : ℕ → Value → Result ℤ Fault
integer_in at (Int z) = in_64_bits at z
integer_in at (FaultyValue k o) = refused BadConst at

abbrev pub is_shift : ℤ → Bool
is_shift z = int_le (pos 0) z && int_lt z (pos 64)

abbrev pub shift_factor : ℤ → ℤ
shift_factor (pos n) = pos (2 ^ n)
shift_factor (negsuc n) = pos 1

abbrev pub directly : ℕ → Binary → ℤ → ℤ → Result ℤ Fault
directly at binary.Add x y = in_64_bits at (x +ℤ y)
directly at binary.Sub x y = in_64_bits at (x -ℤ y)
directly at binary.Mul x y = in_64_bits at (x *ℤ y)
-- the least number by -1 is the only quotient that 64 bits do not hold
directly at binary.Div x y = if int_lt x (negsuc 9223372036854775806) && int_lt y (pos 0) && int_lt (negsuc 1) y then refused BadConst at else integer_in at
    (on_ints binary.Div x y Untold)
directly at binary.Shl x y = if is_shift y then in_64_bits at (x *ℤ shift_factor y) else refused BadConst at
directly at binary.Shr x y = if is_shift y then integer_in at (on_ints binary.Shr x y Untold) else refused BadConst at
directly at op x y = integer_in at (on_ints op x y Untold)

abbrev pub combined : ℕ → InfixSign → ℤ → ℤ → Result ℤ Fault
combined at (Direct op) x y = directly at op x y
combined at Greater x y = directly at binary.Lt y x
combined at AtLeast x y = directly at binary.Le y x

abbrev pub negated : ℕ → ℤ → Result ℤ Fault
negated at z = in_64_bits at (neg_ℤ z)

abbrev pub inverted : ℕ → Unary → ℤ → Result ℤ Fault
inverted at unary.Neg z = negated at z
inverted at unary.Not z = in_64_bits at (on_int unary.Not z)

-- a constant by its name, where those before it are known
abbrev pub constant_or : Known → ℕ → Name → Option ℤ → Result ℤ Fault
constant_or known at x (Some z) = Ok z
constant_or known at x None = if is_in x known.names then refused BadConst at else refused (Core NoSuchName) at

abbrev pub constant_named : Known → ℕ → Name → Result ℤ Fault
constant_named known at x = constant_or known at x (lookup known.constants x)

-- A constant expression: numbers, constants, brackets, and the operators of the core.
abbrev pub constant : Known → Expr → Result ℤ Fault
constant known (Number at n) = Ok (pos n)
constant known (Named at x) = constant_named known at x
constant known (Bracket e) = constant known e
constant known (Prefix at op e) = do
  z ← constant known e
  inverted at op z
constant known (Infix at s l r) = do
  x ← constant known l
  y ← constant known r
  combined at s x y
constant known e = refused BadConst (place_of e)

abbrev pub count_place : Count → ℕ
count_place (Written at n) = at
count_place (Constant at x) = at

abbrev pub count_of : Known → Count → Result ℤ Fault
count_of known (Written at n) = Ok (pos n)
count_of known (Constant at x) = constant_named known at x

-- the number where it is known, else 0
abbrev pub number_or_zero : Result ℤ Fault → ℕ
number_or_zero result = elim result as (λ _. ℕ) [ Ok z ↦ natural z | Err fault ↦ 0 ]

-- a count as the core has it
abbrev pub counted : Known → Count → NumberAt
counted known n = record { at = count_place n; number = number_or_zero (count_of known n) }
