use Rattle.std.proofs.Common.{◌≡◌, max, drop}
use Rattle.semantics.specs.Placed as Placed
use Rattle.select.proofs.instrs.needed.Given as goal

abbrev pub invariant-loop-slot : goal.invariant-loop-slot
invariant-loop-slot l = max l.most (Placed.needed (drop l.slot-index l.slots)) ≡ Placed.needed l.slots
