use Rattle.std.proofs.Common.{◌≡◌, drop, map}
use Rattle.schemas.specs.Flows.{resolved_node}
use Rattle.schemas.specs.Triggers as Triggers
use Rattle.code_map.proofs.triggers.note_nodes.Given as goal

abbrev pub invariant-loop-node : goal.invariant-loop-node
invariant-loop-node g l = Triggers.with_nodes l.triggers (map (resolved_node l.checked) (drop l.node-index l.nodes))
    ≡ Triggers.with_nodes l.fn.triggers (map (resolved_node l.checked) l.nodes)
