use Rattle.std.proofs.Common.{drop}
use Rattle.assembler.proofs.Sets.{IsFilled}
use Rattle.assembler.proofs.checks.set_of.Given as goal

abbrev pub invariant-loop-literal : goal.invariant-loop-literal
invariant-loop-literal g l = IsFilled l.literals (drop l.literal-index l.table) l.table
