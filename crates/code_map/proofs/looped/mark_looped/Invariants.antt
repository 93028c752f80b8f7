use Rattle.std.proofs.Common.{◌≡◌, ◌<◌, ℕ, true, false, length, drop, map, slice_index_or}
use Rattle.std.specs.Prelude.{if◌then◌else◌}
use Rattle.schemas.specs.Flows.{resolved_named}
use Rattle.schemas.specs.Variants as Variants
use Rattle.code_map.proofs.looped.mark_looped.Given as goal

abbrev pub invariant-loop-block : goal.invariant-loop-block
invariant-loop-block g l =
    (length l.looped ≡ length l.fn.looped)
    × ((k : ℕ) → k < length l.looped → (if slice_index_or l.looped k false then true else Variants.some_block_loops k (map (resolved_named l.checked) (drop l.block-index l.blocks)))
    ≡ (if slice_index_or l.fn.looped k false then true else Variants.some_block_loops k (map (resolved_named l.checked) l.blocks)))
