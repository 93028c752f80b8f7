use Rattle.std.proofs.Common.{◌≡◌, take}
use Rattle.loaded.specs.Ready.{entries_in}
use Rattle.loaded.proofs.making.entries_of.Given as goal

abbrev pub invariant-loop-number : goal.invariant-loop-number
invariant-loop-number g l = l.entries.items ≡ take l.number (entries_in 0 l.object.code.program.blocks)
