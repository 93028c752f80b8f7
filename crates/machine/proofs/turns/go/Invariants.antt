use Rattle.schedule.specs.State.{setting_in}
use Rattle.machine.specs.Runners.{Keeps, IsClear, StaysAt}
use Rattle.machine.proofs.turns.go.Given as goal

abbrev pub invariant-turns : goal.invariant-turns
invariant-turns g l = record {
  stays : StaysAt l.fn.runner l.runner;
  keeps : Keeps g.L.Log.KEEPS_EVENTS (setting_in g.C.Instructions.program g.C.Instructions.width l.shape) l.mesh l.fn.runner l.runner;
  clear : IsClear l.runner;
}
