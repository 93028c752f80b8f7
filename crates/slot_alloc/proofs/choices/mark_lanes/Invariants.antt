use Rattle.std.proofs.Common.{◌≡◌}
use Rattle.slot_alloc.specs.Words.{mark_lanes}
use Rattle.slot_alloc.proofs.choices.mark_lanes.Given as goal

abbrev pub invariant-loop-lane : goal.invariant-loop-lane
invariant-loop-lane l = l.lanes ≡ mark_lanes l.known l.mark l.lane
