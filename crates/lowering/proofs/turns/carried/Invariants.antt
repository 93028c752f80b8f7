use Rattle.std.proofs.Common.{◌≡◌, ◌++◌, take}
use Rattle.source.specs.Outside.{bare}
use Rattle.lowering.proofs.turns.carried.Given as goal

abbrev pub invariant-loop-name : goal.invariant-loop-name
invariant-loop-name g l = l.all.items ≡ bare l.fn.names ++ take l.name-index l.outs
