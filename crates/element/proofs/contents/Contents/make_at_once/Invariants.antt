use Rattle.std.proofs.Common.{◌≡◌, ◌==◌, ◌+◌, ◌*◌, ◌≤◌, ℕ, true, false, length}
use Rattle.std.specs.Prelude.{vec_len}
use Rattle.std.specs.Vec.{vec_capacity}
use Rattle.element.specs.Holding.{held_in, shape_of, IsSoundLane}
use Rattle.element.specs.Steps.{SendsEvents}
use Rattle.element.specs.ByDepth.{SendsOthers}
use Rattle.element.proofs.contents.Contents.make_at_once.Given as goal

abbrev pub invariant-parts : goal.invariant-parts
invariant-parts g l = record {
  gone : l.self.queue.gone + l.left ≡ l.fn.self.queue.gone + l.fn.events;
  made : (steps : ℕ) → l.fn.self.queue.gone + l.fn.events ≤ steps → (made : ℕ) × SendsEvents (g.C.Instructions.program l.code) steps made
      (held_in l.fn.self) l.fn.sent.items (held_in l.self) l.sent.items;
  others : g.T.Company.HOLDS ≡ true → (steps : ℕ) → l.fn.self.queue.gone + l.fn.events ≤ steps → (made : ℕ) × SendsOthers
      (g.C.Instructions.program l.code) steps made (held_in l.fn.self) l.fn.sent.items (held_in l.self) l.sent.items;
  len : length l.self.queue.items + 2 * l.fn.self.queue.gone ≤ length l.fn.self.queue.items + 2 * l.self.queue.gone;
  capacity : l.self.queue.room ≡ l.fn.self.queue.room;
  least : l.fn.self.queue.gone ≤ l.self.queue.gone;
  sound : IsSoundLane (g.C.Instructions.program l.code) (held_in l.self);
  shape : shape_of l.self ≡ shape_of l.fn.self;
  room : length l.self.queue.items + 2 * l.left + 1 ≤ l.self.queue.room;
  sent_room : (g.T.Company.COUNT == 1) ≡ false → vec_len l.sent + 2 * l.left ≤ vec_capacity l.sent;
}

abbrev pub decreases-parts : goal.decreases-parts
decreases-parts g l = l.left
