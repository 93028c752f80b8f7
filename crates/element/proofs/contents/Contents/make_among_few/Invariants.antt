use Rattle.std.proofs.Common.{◌≡◌, ◌+◌, ◌-◌, ◌*◌, ◌≤◌, ℕ, true, length}
use Rattle.std.specs.Prelude.{vec_len}
use Rattle.std.specs.Vec.{vec_capacity}
use Rattle.element.specs.Holding.{held_in, shape_of, IsSoundLane}
use Rattle.element.specs.Steps.{SendsEvents}
use Rattle.element.specs.ByDepth.{SendsOthers}
use Rattle.element.proofs.contents.Contents.make_among_few.Given as goal

abbrev pub invariant-events : goal.invariant-events
invariant-events g l = record {
  gone : l.gone ≡ l.self.queue.gone;
  before : l.gone ≤ l.end;
  within : l.stop ≤ l.end;
  waiting : l.stop ≤ l.gone + length l.self.queue.items;
  made : (steps : ℕ) → l.end ≤ steps → (made : ℕ) × SendsEvents (g.C.Instructions.program l.code) steps made (held_in l.fn.self) l.fn.sent.items
      (held_in l.self) l.sent.items;
  others : g.T.Company.HOLDS ≡ true → (steps : ℕ) → l.end ≤ steps → (made : ℕ) × SendsOthers (g.C.Instructions.program l.code) steps made
      (held_in l.fn.self) l.fn.sent.items (held_in l.self) l.sent.items;
  least : l.fn.self.queue.gone ≤ l.gone;
  sound : IsSoundLane (g.C.Instructions.program l.code) (held_in l.self);
  shape : shape_of l.self ≡ shape_of l.fn.self;
  len : length l.self.queue.items + 2 * (l.end - l.gone) ≤ length l.fn.self.queue.items + 2 * l.fn.events;
  capacity : l.self.queue.room ≡ l.fn.self.queue.room;
  sent_len : vec_len l.sent + 2 * (l.end - l.gone) ≤ vec_len l.fn.sent + 2 * l.fn.events;
  sent_capacity : vec_capacity l.sent ≡ vec_capacity l.fn.sent;
}

abbrev pub decreases-events : goal.decreases-events
decreases-events g l = l.end - l.gone
