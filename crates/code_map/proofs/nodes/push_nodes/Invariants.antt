use Rattle.std.proofs.Common.{◌≡◌, ◌+◌, drop, map}
use Rattle.semantics.specs.Graph.{flow_of}
use Rattle.schemas.specs.Flows.{resolved_node}
use Rattle.code_map.specs.Counts as Counts
use Rattle.code_map.proofs.nodes.push_nodes.Given as goal

abbrev pub invariant-loop-index : goal.invariant-loop-index
invariant-loop-index g l =
    Counts.laid_nodes l.rows (flow_of l.checked).blocks l.triggers l.uses (l.block.1.inputs + l.index) (map (resolved_node l.checked) (drop l.index l.block.1.nodes))
    ≡ Counts.laid_nodes l.fn.rows (flow_of l.checked).blocks l.triggers l.uses l.block.1.inputs (map (resolved_node l.checked) l.block.1.nodes)
