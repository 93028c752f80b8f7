use Rattle.std.proofs.Common.{◌∙◌}
use Rattle.schedule.specs.State.{setting_in}
use Rattle.machine.proofs.Keeping.{runs_on, keeps_twice}
use Rattle.machine.proofs.bundling.offer_all.Goals as goal

pub offer_to-requires-clause-runs : goal.offer_to-requires-clause-runs
offer_to-requires-clause-runs g c =
    runs_on {C = g.row.C.Denot} {A = g.row.A.Denot} {L = g.row.L.Denot} g.L.Log.KEEPS_EVENTS
    (setting_in g.C.Instructions.program g.C.Instructions.width c.args.shape.now) c.args.mesh.now c.args.runner.now c.loop-to.runner
    c.requires.runs c.loop-to.invariant.keeps

pub returns-in_err-offer_to-clause-keeps : goal.returns-in_err-offer_to-clause-keeps
returns-in_err-offer_to-clause-keeps g c =
    keeps_twice {C = g.row.C.Denot} {A = g.row.A.Denot} {L = g.row.L.Denot} g.L.Log.KEEPS_EVENTS
    (setting_in g.C.Instructions.program g.C.Instructions.width c.args.shape.now) c.args.mesh.now c.args.runner.now c.loop-to.runner
    c.offer_to.new.runner c.loop-to.invariant.keeps c.offer_to.ensures.keeps

pub loop-to-preserved : goal.loop-to-preserved
loop-to-preserved g c =
    let i = c.loop-to.invariant in
    let e = c.offer_to.ensures in record {
      stays = (e.stays.0 ∙ i.stays.0, e.stays.1 ∙ i.stays.1, e.stays.2 ∙ i.stays.2);
      keeps = keeps_twice {C = g.row.C.Denot} {A = g.row.A.Denot} {L = g.row.L.Denot} g.L.Log.KEEPS_EVENTS
          (setting_in g.C.Instructions.program g.C.Instructions.width c.args.shape.now) c.args.mesh.now c.args.runner.now c.loop-to.runner
          c.offer_to.new.runner i.keeps e.keeps;
      clear = e.clear;
      lane = e.lane ∙ i.lane;
    }
