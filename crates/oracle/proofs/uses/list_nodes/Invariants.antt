use Rattle.std.proofs.Common.{◌≡◌, ◌+◌, ◌++◌, drop}
use Rattle.oracle.specs.Uses.{node_uses}
use Rattle.oracle.proofs.uses.list_nodes.Given as goal

abbrev pub invariant-loop-i : goal.invariant-loop-i
invariant-loop-i g l =
    l.fn.uses.items ++ node_uses l.node l.inputs l.nodes ≡ l.uses.items ++ node_uses l.node (l.inputs + l.i) (drop l.i l.nodes)
