use Rattle.std.proofs.Common.{◌≡◌}
use Rattle.semantics.specs.Machine.{Events}
use Rattle.schedule.specs.State.{state_of, IsWell}
use Rattle.schedule.specs.Steps.{logged}
use Rattle.schedule.specs.Runs.{steps_over}
use Rattle.schedule.specs.Turns.{Leads}
use Rattle.schedule.proofs.Turning.{Passes}
use Rattle.schedule.proofs.elements.Elements.play_by_depth.Given as goal

abbrev pub invariant-passes : goal.invariant-passes
invariant-passes g l = record {
  well : IsWell g.C.Instructions.program g.C.Instructions.width l.self;
  elements : l.self.shape.elements ≡ l.fn.self.shape.elements;
  played : (made : Events)
      × Leads l.fn.self.shape.elements (state_of g.C.Instructions.program g.C.Instructions.width l.fn.self) made 0
      (state_of g.C.Instructions.program g.C.Instructions.width l.self)
      × (l.log.events.items ≡ logged g.L.Log.KEEPS_EVENTS l.fn.log.events.items made);
}

abbrev pub decreases-passes : goal.decreases-passes
decreases-passes g l = steps_over (state_of g.C.Instructions.program g.C.Instructions.width l.self)

abbrev pub invariant-loop-element : goal.invariant-loop-element
invariant-loop-element g l = record {
  well : IsWell g.C.Instructions.program g.C.Instructions.width l.self;
  elements : l.self.shape.elements ≡ l.fn.self.shape.elements;
  played : (made : Events)
      × Leads l.fn.self.shape.elements (state_of g.C.Instructions.program g.C.Instructions.width l.fn.self) made l.element
      (state_of g.C.Instructions.program g.C.Instructions.width l.self)
      × (l.log.events.items ≡ logged g.L.Log.KEEPS_EVENTS l.fn.log.events.items made);
  passes : Passes (state_of g.C.Instructions.program g.C.Instructions.width l.initial.self) l.element
      (state_of g.C.Instructions.program g.C.Instructions.width l.self);
}
