use Rattle.std.proofs.Common.{◌≡◌, take}
use Rattle.object_view.proofs.taking.literals_of.Given as goal

abbrev pub invariant-loop-number : goal.invariant-loop-number
invariant-loop-number g l = l.literals.items ≡ take l.number l.object.code.literals
