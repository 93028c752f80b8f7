use Rattle.std.proofs.Common.{◌≡◌, ◌*◌, ℤ, List, length, take, drop}
use Rattle.semantics.specs.Machine.{Machine, Size, Run, at_start}
use Rattle.replay.specs.Moments.{Watches}
use Rattle.replay.specs.DoesAs.{KnowsAll}
use Rattle.replay.proofs.replaying.replay.Given as goal

-- Each run has got this far, and goes on with the other events.
abbrev pub invariant-loop-event : goal.invariant-loop-event
invariant-loop-event g l = record {
  frames : l.state.frames ≡ l.frames;
  so_far : (z : Size) (xs : List ℤ) (last : Machine) → z.elements * z.frames ≡ l.frames → length xs ≡ l.inputs
      → Run (g.C.Instructions.program l.code) z (at_start (g.C.Instructions.program l.code) xs) l.events last
      → (mid : Machine) × Watches (g.C.Instructions.program l.code) z (at_start (g.C.Instructions.program l.code) xs)
      (take l.event-index l.events) l.moments.items mid
      × KnowsAll (g.C.Instructions.program l.code) l.state mid × Run (g.C.Instructions.program l.code) z mid (drop l.event-index l.events) last;
}
