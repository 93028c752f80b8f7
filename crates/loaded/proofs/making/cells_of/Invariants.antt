use Rattle.std.proofs.Common.{◌≡◌, take, sum}
use Rattle.loaded.proofs.making.cells_of.Given as goal

abbrev pub invariant-loop-number : goal.invariant-loop-number
invariant-loop-number l = l.cells ≡ sum (take l.number l.object.code.program.arrays)
