use Rattle.std.proofs.Common.{◌≡◌, ◌+◌, length, map, take}
use Rattle.element.specs.Holding.{held_of, fixed_of}
use Rattle.schedule.specs.State.{AllFrom, IsAt, delivered}
use Rattle.schedule.specs.Starts.{start_tokens}
use Rattle.schedule.proofs.machine.give_inputs.Given as goal

abbrev pub invariant-loop-input : goal.invariant-loop-input
invariant-loop-input g l = record {
  count : length l.lanes.items ≡ l.elements;
  at : AllFrom (IsAt l.elements) 0 (map held_of l.lanes.items);
  fixed : map fixed_of l.lanes.items ≡ map fixed_of l.fn.lanes.items;
  given : map held_of l.lanes.items ≡ delivered (start_tokens l.first (take l.input-index l.inputs)) (map held_of l.fn.lanes.items);
  ip : l.ip ≡ l.first + l.input-index;
}
