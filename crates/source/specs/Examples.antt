-- What small programs give.
use Rattle.std.specs.Prelude.{ℕ, zero, suc, pos, [], ◌∷◌, Option, Some, None}
use Rattle.tags.specs.declared.value.Value.{Value}
use Rattle.tags.specs.declared.value.Value.TheVariants.{Int, Fault}
use Rattle.tags.specs.declared.value.FaultKind.TheVariants.{Zero, Range}
use Rattle.tags.specs.declared.value.Origin.TheVariants.{At}
use Rattle.semantics.specs.Meaning as Meaning
use Rattle.source.specs.Tree.{Program}
use Rattle.source.specs.Evaluates.{World, RunsMain}
use Rattle.source.specs.Theorem.{world, Computes}
use Rattle.source.specs.Lowered.{origin_of}
use Rattle.source.specs.Samples.{signs, factorial, else_if, sum_up, count_up, cells, misses, two_faults, pairs, strict_call}

-- faults have the origins that lowering gives them
abbrev pub over : Program → (ℕ → Option Value) → World
over p memory = world p (origin_of p) memory

abbrev pub empty : ℕ → Option Value
empty x = None

-- -7 + ~-(7) - -(5)
abbrev pub SignsGive : Type 0
SignsGive = RunsMain (over signs empty) (Int (pos 7) ∷ []) (Int (pos 4) ∷ []) []

-- the second arm of the `if` after `else` is not done
abbrev pub ElseIfGives : Type 0
ElseIfGives = RunsMain (over else_if empty) (Int (pos 0) ∷ []) (Int (pos 2) ∷ []) []

abbrev pub FactorialGives : Type 0
FactorialGives = RunsMain (over factorial empty) (Int (pos 2) ∷ []) (Int (pos 2) ∷ []) []

abbrev pub SumGives : Type 0
SumGives = RunsMain (over sum_up empty) (Int (pos 2) ∷ []) (Int (pos 1) ∷ []) []

abbrev pub CountGives : Type 0
CountGives = RunsMain (over count_up empty) (Int (pos 2) ∷ []) (Int (pos 2) ∷ []) []

-- the second value of a pair is dropped
abbrev pub PairsGive : Type 0
PairsGive = RunsMain (over pairs empty) (Int (pos 7) ∷ []) (Int (pos 7) ∷ []) []

abbrev pub eight_at_one : ℕ → Option Value
eight_at_one zero = None
eight_at_one (suc zero) = Some (Int (pos 8))
eight_at_one (suc (suc x)) = None

abbrev pub CellsGive : Type 0
CellsGive = RunsMain (over cells eight_at_one) (Int (pos 5) ∷ []) (Int (pos 8) ∷ []) ((1, Int (pos 8)) ∷ [])

-- a strict call has the values of a call
abbrev pub eight_at_zero : ℕ → Option Value
eight_at_zero zero = Some (Int (pos 8))
eight_at_zero (suc x) = None

abbrev pub StrictCallGives : Type 0
StrictCallGives = RunsMain (over strict_call eight_at_zero) (Int (pos 5) ∷ []) (Int (pos 5) ∷ []) []

-- the whole of a memory that the program computes, with its only output
abbrev pub eight_first : ℕ → Option Value
eight_first zero = Some (Int (pos 8))
eight_first (suc j) = None

abbrev pub eight_at_both : Meaning.Memory
eight_at_both = record { cells = eight_at_one; outputs = eight_first }

abbrev pub MemoryIsComputed : Type 0
MemoryIsComputed = Computes cells (origin_of cells) (pos 5 ∷ []) eight_at_both

-- a store outside of the array: the fault is made at node 2
abbrev pub OutsideGives : Type 0
OutsideGives = RunsMain (over misses empty) (Int (pos 2) ∷ []) (Fault Range (At 0 2) ∷ []) []

-- of two faults under `>` the right one, which is made at node 4
abbrev pub FaultsGive : Type 0
FaultsGive = RunsMain (over two_faults empty) (Int (pos 2) ∷ []) (Fault Zero (At 0 4) ∷ []) []
