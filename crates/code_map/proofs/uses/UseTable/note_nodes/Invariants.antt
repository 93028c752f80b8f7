use Rattle.std.proofs.Common.{◌≡◌, ◌+◌, drop, map}
use Rattle.schemas.specs.Flows.{resolved_node, resolved_named}
use Rattle.schemas.specs.UseCounts.{noted_nodes}
use Rattle.code_map.proofs.uses.UseTable.note_nodes.Given as goal

abbrev pub invariant-loop-index : goal.invariant-loop-index
invariant-loop-index g l =
    noted_nodes l.self (resolved_named l.checked l.block) l.triggers (l.block.1.inputs + l.index) (map (resolved_node l.checked) (drop l.index l.block.1.nodes))
    ≡ noted_nodes l.fn.self (resolved_named l.checked l.block) l.triggers l.block.1.inputs (map (resolved_node l.checked) l.block.1.nodes)
