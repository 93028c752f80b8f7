use Rattle.std.proofs.Common.{◌≡◌, ◌+◌, ◌≤◌, length}
use Rattle.std.specs.Prelude.{vec_len}
use Rattle.element.specs.Holding.{held_in}
use Rattle.element.specs.ByDepth.{whole}
use Rattle.element.proofs.contents.Contents.put_back.Given as goal

abbrev pub invariant-tokens : goal.invariant-tokens
invariant-tokens g l = record {
  same : whole l.aside.items (held_in l.self) ≡ whole l.fn.aside.items (held_in l.fn.self);
  room : length l.self.queue.items + vec_len l.aside ≤ l.self.queue.room;
  gone : vec_len l.aside ≤ l.self.queue.gone;
}

abbrev pub decreases-tokens : goal.decreases-tokens
decreases-tokens g l = goal.left-tokens g l
