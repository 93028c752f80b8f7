use Rattle.std.proofs.Common.{◌≡◌, ◌++◌, ℕ, false}
use Rattle.semantics.specs.Machine.{Events}
use Rattle.schedule.specs.declared.halt.Halt.{Halt}
use Rattle.schedule.specs.State.{State, state_of, IsWell}
use Rattle.schedule.specs.Steps.{logged}
use Rattle.schedule.specs.Runs.{Plays, rounds_of}
use Rattle.schedule.proofs.elements.Elements.play_listed.Given as goal

abbrev pub invariant-events : goal.invariant-events
invariant-events g l = record {
  well : IsWell g.C.Instructions.program g.C.Instructions.width l.self;
  elements : l.self.shape.elements ≡ l.fn.self.shape.elements;
  played : (made : Events)
      × ((rounds : ℕ) (last : State) (halt : Halt) (later : Events) → Plays false (rounds_of rounds l.fn.self.shape.elements)
      (state_of g.C.Instructions.program g.C.Instructions.width l.self) last halt later
      → (all : ℕ) × Plays false (rounds_of all l.fn.self.shape.elements) (state_of g.C.Instructions.program g.C.Instructions.width l.fn.self) last
      halt (made ++ later))
      × (l.log.events.items ≡ logged g.L.Log.KEEPS_EVENTS l.fn.log.events.items made);
}

abbrev pub decreases-events : goal.decreases-events
decreases-events g l = l.left
