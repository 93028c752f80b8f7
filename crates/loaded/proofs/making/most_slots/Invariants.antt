use Rattle.std.proofs.Common.{◌≡◌, take}
use Rattle.loaded.specs.Ready.{widest}
use Rattle.loaded.proofs.making.most_slots.Given as goal

abbrev pub invariant-loop-number : goal.invariant-loop-number
invariant-loop-number l = l.most ≡ widest (take l.number l.object.code.program.blocks)
