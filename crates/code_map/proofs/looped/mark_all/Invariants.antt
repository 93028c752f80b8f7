use Rattle.std.proofs.Common.{◌≡◌, ◌<◌, ℕ, true, false, length, drop, map, slice_index_or}
use Rattle.std.specs.Prelude.{if◌then◌else◌}
use Rattle.schemas.specs.Flows.{resolved_node}
use Rattle.schemas.specs.Variants as Variants
use Rattle.code_map.proofs.looped.mark_all.Given as goal

abbrev pub invariant-loop-node : goal.invariant-loop-node
invariant-loop-node g l =
    (length l.looped ≡ length l.fn.looped)
    × ((k : ℕ) → k < length l.looped → (if slice_index_or l.looped k false then true else Variants.some_node_loops k (map (resolved_node l.checked) (drop l.node-index l.nodes)))
    ≡ (if slice_index_or l.fn.looped k false then true else Variants.some_node_loops k (map (resolved_node l.checked) l.nodes)))
