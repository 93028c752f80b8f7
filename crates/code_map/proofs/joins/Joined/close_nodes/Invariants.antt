use Rattle.std.proofs.Common.{◌≡◌, ◌+◌, ◌≤◌, drop, map, length}
use Rattle.schemas.specs.Flows.{resolved_node}
use Rattle.code_map.specs.Joins as Joins
use Rattle.code_map.proofs.joins.Joined.close_nodes.Given as goal

abbrev pub invariant-loop-index : goal.invariant-loop-index
invariant-loop-index g l =
    (Joins.closed_nodes l.fn.self (l.first + l.index) (map (resolved_node l.checked) (drop l.index l.nodes)) ≡ l.self)
    × (l.index ≤ length l.nodes)
