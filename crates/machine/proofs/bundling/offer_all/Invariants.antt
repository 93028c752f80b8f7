use Rattle.std.proofs.Common.{◌≡◌}
use Rattle.element.specs.Holding.{held_of}
use Rattle.schedule.specs.State.{setting_in}
use Rattle.machine.specs.Runners.{Keeps, IsClear, StaysAt}
use Rattle.machine.proofs.bundling.offer_all.Given as goal

abbrev pub invariant-loop-to : goal.invariant-loop-to
invariant-loop-to g l = record {
  stays : StaysAt l.fn.runner l.runner;
  keeps : Keeps g.L.Log.KEEPS_EVENTS (setting_in g.C.Instructions.program g.C.Instructions.width l.shape) l.mesh l.fn.runner l.runner;
  clear : IsClear l.runner;
  lane : held_of l.runner.lane ≡ held_of l.fn.runner.lane;
}
