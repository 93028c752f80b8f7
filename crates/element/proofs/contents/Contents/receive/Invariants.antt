use Rattle.std.proofs.Common.{◌≡◌, ◌+◌, ◌-◌, ◌≤◌, ◌++◌, length, take}
use Rattle.element.specs.Holding.{held_in, with_queue}
use Rattle.element.proofs.contents.Contents.receive.Given as goal

abbrev pub invariant-loop-token : goal.invariant-loop-token
invariant-loop-token g l = record {
  held : held_in l.self ≡ with_queue (held_in l.fn.self) (l.fn.self.queue.items ++ take l.token-index l.tokens);
  room : length l.self.queue.items + (length l.tokens - l.token-index) ≤ l.self.queue.room;
}
