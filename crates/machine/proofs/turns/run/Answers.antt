use Rattle.schedule.specs.State.{setting_in}
use Rattle.machine.proofs.Keeping.{ended}
use Rattle.machine.proofs.turns.run.Goals as goal

pub returns : goal.returns
returns g c =
    let l = c.leave-runner.ensures in
    let s = c.call_stop.ensures in
    ended {C = g.row.C.Denot} {A = g.row.A.Denot} {L = g.row.L.Denot} c.args.order g.L.Log.KEEPS_EVENTS (setting_in g.C.Instructions.program g.C.Instructions.width
    c.args.shape.now) c.args.mesh.now g.G.Gate.may_stop c.args.runner.now c.leave-runner.new.runner c.call_stop.new.runner c.leave-runner.result
    l.stays l.keeps l.departure s.stays s.keeps s.lane s.last.0 s.last.1 (λ w. s.clear (l.clear w))
