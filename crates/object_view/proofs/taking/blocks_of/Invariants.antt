use Rattle.std.proofs.Common.{◌≡◌, take}
use Rattle.object_view.proofs.taking.blocks_of.Given as goal

abbrev pub invariant-loop-number : goal.invariant-loop-number
invariant-loop-number g l = l.blocks.items ≡ take l.number l.object.code.program.blocks
