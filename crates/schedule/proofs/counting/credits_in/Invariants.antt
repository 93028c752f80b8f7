use Rattle.std.proofs.Common.{◌≡◌, ◌≤◌, Some}
use Rattle.semantics.specs.Report.{sum_below, waiters}
use Rattle.element.specs.Holding.{held_of}
use Rattle.schedule.specs.Reported.{slot_of_lane}
use Rattle.schedule.proofs.counting.credits_in.Given as goal

abbrev pub invariant-loop-slot : goal.invariant-loop-slot
invariant-loop-slot g l = record {
  count : l.count ≡ sum_below l.slot (λ r. waiters (slot_of_lane l.frame r (Some (held_of l.lane))));
  few : l.count ≤ l.slot;
}
