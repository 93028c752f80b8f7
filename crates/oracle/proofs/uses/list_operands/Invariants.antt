use Rattle.std.proofs.Common.{◌≡◌, ◌++◌, drop}
use Rattle.oracle.specs.Uses.{operand_uses}
use Rattle.oracle.proofs.uses.list_operands.Given as goal

abbrev pub invariant-loop-position : goal.invariant-loop-position
invariant-loop-position g l =
    l.fn.uses.items ++ operand_uses l.node l.at 0 l.sources ≡ l.uses.items ++ operand_uses l.node l.at l.position (drop l.position l.sources)
