use Rattle.std.proofs.Common.{◌≡◌, ◌+◌, ◌≤◌, ◌++◌, length, take}
use Rattle.std.specs.Prelude.{vec_len}
use Rattle.std.specs.Vec.{vec_capacity}
use Rattle.semantics.specs.Machine.{answers}
use Rattle.element.specs.Holding.{held_in, shape_of, queued, elsewhere}
use Rattle.element.proofs.contents.Contents.answer_all.Given as goal

abbrev pub invariant-loop-k : goal.invariant-loop-k
invariant-loop-k g l = record {
  held : held_in l.self ≡ queued (held_in l.initial.self) (answers (take l.k l.initial.self.answered.items) l.value);
  sent : l.sent.items ≡ l.initial.sent.items ++ elsewhere (shape_of l.initial.self) (answers (take l.k l.initial.self.answered.items) l.value);
  len : length l.self.queue.items ≤ length l.initial.self.queue.items + l.k;
  capacity : l.self.queue.room ≡ l.initial.self.queue.room;
  sent_len : vec_len l.sent ≤ vec_len l.initial.sent + l.k;
  sent_capacity : vec_capacity l.sent ≡ vec_capacity l.initial.sent;
}
