use Rattle.std.proofs.Common.{◌≡◌}
use Rattle.semantics.specs.Machine.{Events}
use Rattle.schedule.specs.State.{state_of, IsWell}
use Rattle.schedule.specs.Runs.{steps_over}
use Rattle.schedule.specs.Turns.{Leads}
use Rattle.schedule.proofs.elements.Elements.play_alone_by_depth.Given as goal

abbrev pub invariant-turns : goal.invariant-turns
invariant-turns g l = record {
  well : IsWell g.C.Instructions.program g.C.Instructions.width l.self;
  elements : l.self.shape.elements ≡ 1;
  played : (made : Events) × Leads 1 (state_of g.C.Instructions.program g.C.Instructions.width l.fn.self) made 0
      (state_of g.C.Instructions.program g.C.Instructions.width l.self);
  log : l.log.events.items ≡ l.fn.log.events.items;
}

abbrev pub decreases-turns : goal.decreases-turns
decreases-turns g l = steps_over (state_of g.C.Instructions.program g.C.Instructions.width l.self)
