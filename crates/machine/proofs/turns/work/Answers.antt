use Rattle.schedule.specs.State.{setting_in}
use Rattle.machine.proofs.Keeping.{runs_on, keeps_on}
use Rattle.machine.proofs.turns.work.Goals as goal

pub make_block-requires-clause-runs : goal.make_block-requires-clause-runs
make_block-requires-clause-runs g c = runs_on {C = g.row.C.Denot} {A = g.row.A.Denot} {L = g.row.L.Denot} g.L.Log.KEEPS_EVENTS
    (setting_in g.C.Instructions.program g.C.Instructions.width c.args.shape.now) c.args.mesh.now c.args.runner.now c.take.new.runner c.requires.runs
    c.take.ensures.keeps

pub returns-in-None-clause-keeps : goal.returns-in-None-clause-keeps
returns-in-None-clause-keeps g c = keeps_on {C = g.row.C.Denot} {A = g.row.A.Denot} {L = g.row.L.Denot} g.L.Log.KEEPS_EVENTS
    (setting_in g.C.Instructions.program g.C.Instructions.width c.args.shape.now) c.args.mesh.now c.make_block.result c.args.runner.now
    c.take.new.runner c.make_block.new.runner c.take.ensures.keeps c.make_block.ensures.keeps
