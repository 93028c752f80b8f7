use Rattle.std.proofs.Common.{◌≡◌, take}
use Rattle.source.specs.Outside.{bare}
use Rattle.lowering.proofs.turns.bare_names.Given as goal

abbrev pub invariant-loop-x : goal.invariant-loop-x
invariant-loop-x g l = l.all.items ≡ bare (take l.x-index l.names)
