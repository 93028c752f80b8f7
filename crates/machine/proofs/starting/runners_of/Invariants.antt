use Rattle.std.proofs.Common.{◌≡◌, ◌++◌, ◌+◌, map, length, All}
use Rattle.crossbeam_utils.specs.Padded.{padded_value}
use Rattle.element.specs.Holding.{held_of, fixed_of}
use Rattle.machine.specs.Bundles.{bounds_within}
use Rattle.machine.specs.Starts.{IsNew, lanes_in, lanes_fixed, seats_in}
use Rattle.machine.proofs.starting.runners_of.Given as goal

abbrev pub invariant-each : goal.invariant-each
invariant-each g l = record {
  held : lanes_in l.runners.items ++ map held_of l.lanes.items ≡ map held_of l.fn.lanes.items;
  fixed : lanes_fixed l.runners.items ++ map fixed_of l.lanes.items ≡ map fixed_of l.fn.lanes.items;
  seats : seats_in l.runners.items ++ l.seats.items ≡ l.fn.seats.items;
  new : All (λ p. IsNew l.elements (bounds_within l.reach) (padded_value p)) l.runners.items;
  count : l._at + length l.lanes.items ≡ length l.fn.lanes.items;
  seat_count : length l.seats.items ≡ length l.lanes.items;
}
