use Rattle.std.proofs.Common.{◌≡◌, ◌+◌, ◌++◌, drop}
use Rattle.oracle.specs.Sending.{steered_tokens}
use Rattle.oracle.proofs.sending.steer_nodes.Given as goal

abbrev pub invariant-loop-i : goal.invariant-loop-i
invariant-loop-i g l =
    l.fn.fresh.items ++ steered_tokens l.sent l.cond l.inputs l.nodes ≡ l.fresh.items ++ steered_tokens l.sent l.cond (l.inputs + l.i) (drop l.i l.nodes)
