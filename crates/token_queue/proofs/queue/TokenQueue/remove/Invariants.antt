use Rattle.std.proofs.Common.{◌≡◌, ◌-◌, length}
use Rattle.token_queue.specs.Ring.{held}
use Rattle.token_queue.proofs.Rings.{opening}
use Rattle.token_queue.proofs.queue.TokenQueue.remove.Given as goal

abbrev pub invariant-loop-moved : goal.invariant-loop-moved
invariant-loop-moved g l = record {
  places : length l.self-inside.places.items ≡ length l.initial.self-inside.places.items;
  mask : l.self-inside.mask ≡ l.initial.self-inside.mask;
  head : l.self-inside.head ≡ l.initial.self-inside.head;
  tail : l.self-inside.tail ≡ l.initial.self-inside.tail;
  items : held l.initial.self-inside.head l.initial.self-inside.tail l.self-inside.places.items ≡ opening l.fn.self.items l.at (l.at - l.moved);
}
