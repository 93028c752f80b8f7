use Rattle.std.proofs.Common.{◌≡◌, true, ◌++◌, drop}
use Rattle.semantics.specs.Machine.{Events}
use Rattle.schedule.specs.declared.halt.Halt.{Halt}
use Rattle.schedule.specs.State.{State, state_of, IsWell}
use Rattle.schedule.specs.Steps.{logged}
use Rattle.schedule.specs.Runs.{Plays}
use Rattle.schedule.proofs.elements.Elements.play.Given as goal

-- what the rest makes, after what was made so far, is what all makes
abbrev pub invariant-loop-element : goal.invariant-loop-element
invariant-loop-element g l = record {
  well : IsWell g.C.Instructions.program g.C.Instructions.width l.self;
  elements : l.self.shape.elements ≡ l.fn.self.shape.elements;
  played : (made : Events)
      × ((last : State) (halt : Halt) (later : Events) → Plays true (drop l.element-index l.picks)
      (state_of g.C.Instructions.program g.C.Instructions.width l.self) last halt later
      → Plays true l.picks (state_of g.C.Instructions.program g.C.Instructions.width l.fn.self) last halt (made ++ later))
      × (l.log.events.items ≡ logged g.L.Log.KEEPS_EVENTS l.fn.log.events.items made);
}
