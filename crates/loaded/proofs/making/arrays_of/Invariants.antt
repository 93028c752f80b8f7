use Rattle.std.proofs.Common.{◌≡◌, take, sum}
use Rattle.loaded.specs.Ready.{arrays_in}
use Rattle.loaded.proofs.making.arrays_of.Given as goal

abbrev pub invariant-loop-number : goal.invariant-loop-number
invariant-loop-number g l = (l.arrays.items ≡ take l.number (arrays_in 0 l.object.code.program.arrays))
    × (l.base ≡ sum (take l.number l.object.code.program.arrays))
