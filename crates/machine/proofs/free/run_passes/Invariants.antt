use Rattle.std.proofs.Common.{◌≡◌, length}
use Rattle.schedule.specs.State.{setting_in}
use Rattle.machine.specs.Starts.{AllEnded}
use Rattle.machine.proofs.free.run_passes.Given as goal

abbrev pub invariant-passes : goal.invariant-passes
invariant-passes g l = record {
  each : AllEnded l.take g.L.Log.KEEPS_EVENTS (setting_in g.C.Instructions.program g.C.Instructions.width l.shape) l.mesh g.G.Gate.may_stop l.fn.runners l.runners;
  count : length l.runners ≡ length l.fn.runners;
}
