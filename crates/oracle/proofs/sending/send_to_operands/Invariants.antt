use Rattle.std.proofs.Common.{◌≡◌, ◌++◌, drop}
use Rattle.oracle.specs.Sending.{operand_tokens}
use Rattle.oracle.proofs.sending.send_to_operands.Given as goal

abbrev pub invariant-loop-position : goal.invariant-loop-position
invariant-loop-position g l =
    l.fn.fresh.items ++ operand_tokens l.sent l.node l.port l.at 0 l.sources ≡ l.fresh.items ++ operand_tokens l.sent l.node l.port l.at l.position
    (drop l.position l.sources)
