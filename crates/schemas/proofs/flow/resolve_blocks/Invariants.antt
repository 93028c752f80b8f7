use Rattle.std.proofs.Common.{◌≡◌, map, take}
use Rattle.schemas.specs.Flows.{resolved_named}
use Rattle.schemas.proofs.flow.resolve_blocks.Given as goal

abbrev pub invariant-loop-block : goal.invariant-loop-block
invariant-loop-block g l = l.resolved.items ≡ map (resolved_named l.checked) (take l.block-index l.blocks)
