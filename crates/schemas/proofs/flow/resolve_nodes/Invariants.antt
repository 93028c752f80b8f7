use Rattle.std.proofs.Common.{◌≡◌, map, take}
use Rattle.schemas.specs.Flows.{resolved_node}
use Rattle.schemas.proofs.flow.resolve_nodes.Given as goal

abbrev pub invariant-loop-node : goal.invariant-loop-node
invariant-loop-node g l = l.resolved.items ≡ map (resolved_node l.checked) (take l.node-index l.nodes)
