use Rattle.machine.specs.Bundles.{bounds_within}
use Rattle.machine.specs.Starts.{AreEmpty}
use Rattle.machine.proofs.starting.bundles.Given as goal

abbrev pub invariant-loop-to : goal.invariant-loop-to
invariant-loop-to g l = AreEmpty l._to (bounds_within l.reach) l.all.items
