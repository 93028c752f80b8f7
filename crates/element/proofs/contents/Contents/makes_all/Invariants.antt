use Rattle.std.proofs.Common.{◌≡◌, ℕ, ◌+◌, ◌-◌, ◌*◌, ◌≤◌, length}
use Rattle.std.specs.Prelude.{vec_len}
use Rattle.std.specs.Vec.{vec_capacity}
use Rattle.element.specs.Holding.{held_in, shape_of}
use Rattle.element.specs.ByDepth.{MakesByDepth, AreAside, whole}
use Rattle.element.proofs.contents.Contents.makes_all.Given as goal

abbrev pub invariant-turns : goal.invariant-turns
invariant-turns g l = record {
  are : AreAside (g.C.Instructions.program l.code) l.aside.items (held_in l.self);
  made : (steps : ℕ) → l.end ≤ steps → (n : ℕ) × MakesByDepth (g.C.Instructions.program l.code) steps n (whole l.fn.aside.items (held_in l.fn.self))
      (whole l.aside.items (held_in l.self));
  sent : l.sent.items ≡ l.fn.sent.items;
  shape : shape_of l.self ≡ shape_of l.fn.self;
  within : l.self.queue.gone ≤ l.end + vec_len l.aside;
  short : vec_len l.aside ≤ 4611686018427387904;
  room : length l.self.queue.items + vec_len l.aside + 2 * (l.end + vec_len l.aside) + 1 ≤ l.self.queue.room + 2 * l.self.queue.gone;
  aside_room : length l.self.queue.items + vec_len l.aside + 2 * (l.end + vec_len l.aside) ≤ vec_capacity l.aside + 2 * l.self.queue.gone;
}

-- an event makes two tokens at most, and a request that is put aside is one token fewer
abbrev pub decreases-turns : goal.decreases-turns
decreases-turns g l = length l.self.queue.items + 4 * (l.end + vec_len l.aside - l.self.queue.gone)
