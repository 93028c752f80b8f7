use Rattle.std.proofs.Common.{◌≡◌, ◌+◌, ◌++◌, drop}
use Rattle.oracle.specs.Sending.{node_tokens}
use Rattle.oracle.proofs.sending.send_to_nodes.Given as goal

abbrev pub invariant-loop-i : goal.invariant-loop-i
invariant-loop-i g l =
    l.fn.fresh.items ++ node_tokens l.sent l.node l.port l.inputs l.nodes ≡ l.fresh.items ++ node_tokens l.sent l.node l.port (l.inputs + l.i)
    (drop l.i l.nodes)
