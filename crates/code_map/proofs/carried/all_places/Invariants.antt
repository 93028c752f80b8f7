use Rattle.std.proofs.Common.{◌≡◌, map, take}
use Rattle.code_map.specs.Numbered as Numbered
use Rattle.code_map.proofs.carried.all_places.Given as goal

abbrev pub invariant-loop-block : goal.invariant-loop-block
invariant-loop-block g l = map (λ ms. ms.items) l.marks.items ≡ map Numbered.numbers_of (take l.block-index l.plan.program.blocks)
