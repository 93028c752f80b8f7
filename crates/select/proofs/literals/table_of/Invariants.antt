use Rattle.std.proofs.Common.{◌≡◌, ◌++◌, ℤ, All}
use Rattle.std.specs.Prelude.{FitsSigned}
use Rattle.std.specs.Int.{w64}
use Rattle.select.specs.Literals.{table_of}
use Rattle.select.proofs.literals.table_of.Given as goal

abbrev pub invariant-loop-literal : goal.invariant-loop-literal
invariant-loop-literal g l = (l.literals.items ++ l.literal-iterator ≡ table_of l.fn.blocks) × All (λ (z : ℤ). FitsSigned w64 z) l.literals.items
