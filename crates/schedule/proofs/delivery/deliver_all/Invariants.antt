use Rattle.std.proofs.Common.{◌≡◌, length, map, drop}
use Rattle.std.specs.Prelude.{All}
use Rattle.element.specs.Holding.{held_of, fixed_of}
use Rattle.schedule.specs.State.{AllFrom, IsAt, IsNearIn, lanes_of}
use Rattle.schedule.proofs.delivery.deliver_all.Given as goal

abbrev pub invariant-loop-place : goal.invariant-loop-place
invariant-loop-place g l = record {
  count : length l.lanes.items ≡ l.elements;
  at : AllFrom (IsAt l.elements) 0 (map held_of l.lanes.items);
  fixed : map fixed_of l.lanes.items ≡ map fixed_of l.initial.lanes.items;
  near : All (IsNearIn (map fixed_of l.initial.lanes.items)) (drop l.place l.sent.items);
  same : lanes_of l.lanes.items (drop l.place l.sent.items) ≡ lanes_of l.initial.lanes.items (drop l.fn.arrived l.sent.items);
}
