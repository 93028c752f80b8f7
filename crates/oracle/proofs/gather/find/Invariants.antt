use Rattle.std.proofs.Common.{◌≡◌, drop}
use Rattle.oracle.specs.Acting.{find_from}
use Rattle.oracle.proofs.gather.find.Given as goal

abbrev pub invariant-loop-i : goal.invariant-loop-i
invariant-loop-i l = find_from l.context l.spot 0 l.waiting ≡ find_from l.context l.spot l.i (drop l.i l.waiting)
