use Rattle.std.proofs.Common.{◌≡◌, take}
use Rattle.code_map.specs.Owners as Owners
use Rattle.code_map.proofs.blocks.owned.Given as goal

abbrev pub invariant-loop-part : goal.invariant-loop-part
invariant-loop-part g l = l.owners.items ≡ Owners.owned l.block l.turns (take l.part-index l.parts)
