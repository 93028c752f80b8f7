use Rattle.std.proofs.Common.{◌≡◌, ◌++◌, ℤ, All}
use Rattle.std.specs.Prelude.{FitsSigned}
use Rattle.std.specs.Int.{w64}
use Rattle.assembler.proofs.found.in_order.Given as goal

abbrev pub invariant-loop-literal : goal.invariant-loop-literal
invariant-loop-literal g l = (l.literals.items ++ l.literal-iterator ≡ l.fn.set.keys) × All (λ (z : ℤ). FitsSigned w64 z) l.literals.items
