use Rattle.std.proofs.Common.{◌∙◌}
use Rattle.schedule.specs.State.{setting_in}
use Rattle.machine.proofs.Keeping.{runs_on, keeps_twice}
use Rattle.machine.proofs.taking.take_all.Goals as goal

pub take_from-requires-clause-runs : goal.take_from-requires-clause-runs
take_from-requires-clause-runs g c =
    runs_on {C = g.row.C.Denot} {A = g.row.A.Denot} {L = g.row.L.Denot} g.L.Log.KEEPS_EVENTS
    (setting_in g.C.Instructions.program g.C.Instructions.width c.args.shape.now) c.args.mesh.now c.args.runner.now c.loop-from.runner
    c.requires.runs c.loop-from.invariant.keeps

pub returns-in-Some-clause-keeps : goal.returns-in-Some-clause-keeps
returns-in-Some-clause-keeps g c =
    keeps_twice {C = g.row.C.Denot} {A = g.row.A.Denot} {L = g.row.L.Denot} g.L.Log.KEEPS_EVENTS
    (setting_in g.C.Instructions.program g.C.Instructions.width c.args.shape.now) c.args.mesh.now c.args.runner.now c.loop-from.runner
    c.take_from.new.runner c.loop-from.invariant.keeps c.take_from.ensures.keeps

pub loop-from-preserved : goal.loop-from-preserved
loop-from-preserved g c =
    let i = c.loop-from.invariant in
    let e = c.take_from.ensures in record {
      stays = (e.stays.0 ∙ i.stays.0, e.stays.1 ∙ i.stays.1, e.stays.2 ∙ i.stays.2);
      keeps = keeps_twice {C = g.row.C.Denot} {A = g.row.A.Denot} {L = g.row.L.Denot} g.L.Log.KEEPS_EVENTS
          (setting_in g.C.Instructions.program g.C.Instructions.width c.args.shape.now) c.args.mesh.now c.args.runner.now c.loop-from.runner
          c.take_from.new.runner i.keeps e.keeps;
      clear = c.in_default.ensures.clear;
    }
