use Rattle.std.proofs.Common.{◌≡◌, ◌+◌, ◌-◌, ◌*◌, ◌≤◌, drop, length}
use Rattle.schemas.specs.Ends as Ends
use Rattle.schemas.proofs.ends.close_nodes.Given as goal

abbrev pub invariant-loop-index : goal.invariant-loop-index
invariant-loop-index g l =
    (Ends.closed_nodes (Ends.closing l.fn.builder l.fn.ends.items) (l.first + l.index) (drop l.index l.nodes) ≡ Ends.closing l.builder l.ends.items)
    × (length l.builder.instrs ≤ length l.fn.builder.instrs + 1048577 * (length l.nodes - l.index))
    × (length l.ends.items ≤ length l.fn.ends.items + (length l.nodes - l.index))
    × (l.index ≤ length l.nodes)
