use Rattle.schedule.specs.State.{setting_in}
use Rattle.machine.proofs.Keeping.{runs_on, keeps_twice}
use Rattle.machine.proofs.turns.pass_on.Goals as goal

pub offer_all-requires-clause-runs : goal.offer_all-requires-clause-runs
offer_all-requires-clause-runs g c = runs_on {C = g.row.C.Denot} {A = g.row.A.Denot} {L = g.row.L.Denot} g.L.Log.KEEPS_EVENTS
    (setting_in g.C.Instructions.program g.C.Instructions.width c.args.shape.now) c.args.mesh.now c.args.runner.now c.fill_bundles.new.runner
    c.requires.runs c.fill_bundles.ensures.keeps

pub returns-clause-keeps : goal.returns-clause-keeps
returns-clause-keeps g c = keeps_twice {C = g.row.C.Denot} {A = g.row.A.Denot} {L = g.row.L.Denot} g.L.Log.KEEPS_EVENTS
    (setting_in g.C.Instructions.program g.C.Instructions.width c.args.shape.now) c.args.mesh.now c.args.runner.now c.fill_bundles.new.runner
    c.offer_all.new.runner c.fill_bundles.ensures.keeps c.offer_all.ensures.keeps
