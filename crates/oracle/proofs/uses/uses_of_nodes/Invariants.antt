use Rattle.std.proofs.Common.{◌≡◌, ◌-◌, ◌++◌}
use Rattle.oracle.specs.Uses.{uses_from}
use Rattle.oracle.proofs.uses.uses_of_nodes.Given as goal

abbrev pub invariant-loop-node : goal.invariant-loop-node
invariant-loop-node g l = uses_from l.block.1 0 l.count ≡ l.nodes.items ++ uses_from l.block.1 l.node (l.count - l.node)
