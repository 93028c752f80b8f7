use Rattle.std.proofs.Common.{sym, subst}
use Rattle.schedule.specs.State.{setting_in}
use Rattle.schedule.specs.Setting.{Setting}
use Rattle.machine.specs.declared.runner.Runner.{Runner}
use Rattle.machine.specs.Runners.{Runs, IsClear}
use Rattle.machine.proofs.free.fn.run_each.for_each_mut.Goals as goal

pub run-requires : goal.run-requires
run-requires g c =
    let s : Setting = setting_in g.C.Instructions.program g.C.Instructions.width c.captures.shape.now in
    let value = c.deref_mut-runner.ensures.value in
    record {
      good = c.requires.0;
      runs = subst (λ (r : Runner g.row.C.Denot g.row.A.Denot g.row.L.Denot). Runs g.L.Log.KEEPS_EVENTS s c.captures.mesh.now r) (sym value) c.requires.1;
      clear = subst (λ (r : Runner g.row.C.Denot g.row.A.Denot g.row.L.Denot). IsClear r) (sym value) c.requires.2;
    }
