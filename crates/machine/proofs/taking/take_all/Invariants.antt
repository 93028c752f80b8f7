use Rattle.schedule.specs.State.{setting_in}
use Rattle.machine.specs.Runners.{Keeps, IsClear, StaysAt}
use Rattle.machine.proofs.taking.take_all.Given as goal

abbrev pub invariant-loop-from : goal.invariant-loop-from
invariant-loop-from g l = record {
  stays : StaysAt l.fn.runner l.runner;
  keeps : Keeps g.L.Log.KEEPS_EVENTS (setting_in g.C.Instructions.program g.C.Instructions.width l.shape) l.mesh l.fn.runner l.runner;
  clear : IsClear l.runner;
}
