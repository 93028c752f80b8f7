use Rattle.std.proofs.Common.{◌≡◌, ◌∙◌}
use Rattle.schedule.specs.State.{setting_in}
use Rattle.schedule.specs.Setting.{Setting}
use Rattle.machine.proofs.Passes.{all_twice, all_ready}
use Rattle.machine.proofs.free.run_passes.Goals as goal

pub run_each-requires-in-passes-clause-ready : goal.run_each-requires-in-passes-clause-ready
run_each-requires-in-passes-clause-ready g c κs within =
    let s : Setting = setting_in g.C.Instructions.program g.C.Instructions.width c.args.shape.now in
    let i = c.passes.invariant in
    all_ready {C = g.row.C.Denot} {A = g.row.A.Denot} {L = g.row.L.Denot} c.args.take g.L.Log.KEEPS_EVENTS s c.args.mesh.now g.G.Gate.may_stop c.args.runners.now
    c.passes.runners i.count (c.all_wait.ensures c.if-not-all_wait.false) c.requires.ready i.each

pub passes-preserved : goal.passes-preserved
passes-preserved g c =
    let s : Setting = setting_in g.C.Instructions.program g.C.Instructions.width c.args.shape.now in
    let i = c.passes.invariant in
    record {
      each = all_twice {C = g.row.C.Denot} {A = g.row.A.Denot} {L = g.row.L.Denot} c.args.take g.L.Log.KEEPS_EVENTS s c.args.mesh.now g.G.Gate.may_stop
          c.args.runners.now c.passes.runners c.run_each-in-passes.new.runners i.count (c.all_wait.ensures c.if-not-all_wait.false) i.each c.run_each-in-passes.ensures.each;
      count = c.run_each-in-passes.ensures.count ∙ i.count;
    }
