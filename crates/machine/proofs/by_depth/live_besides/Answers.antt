use Rattle.schedule.specs.State.{setting_in}
use Rattle.machine.proofs.Keeping.{keeps_counted}
use Rattle.machine.proofs.by_depth.live_besides.Goals as goal

pub returns-clause-keeps : goal.returns-clause-keeps
returns-clause-keeps g c =
    keeps_counted {C = g.row.C.Denot} {A = g.row.A.Denot} {L = g.row.L.Denot} g.L.Log.KEEPS_EVENTS
    (setting_in g.C.Instructions.program g.C.Instructions.width c.args.shape.now) c.args.mesh.now c.args.runner.now c.live-live.new.seat c.live-live.result
    c.live-live.ensures.counts
