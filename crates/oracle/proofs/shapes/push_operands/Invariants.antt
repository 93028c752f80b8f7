use Rattle.std.proofs.Common.{◌≡◌, ◌-◌, ◌++◌}
use Rattle.oracle.specs.Lines.{operand_spots}
use Rattle.oracle.proofs.shapes.push_operands.Given as goal

abbrev pub invariant-loop-position : goal.invariant-loop-position
invariant-loop-position g l = l.fn.spots.items ++ operand_spots l.node 0 l.count ≡ l.spots.items ++ operand_spots l.node l.position (l.count - l.position)
