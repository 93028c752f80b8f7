use Rattle.schedule.specs.State.{setting_in}
use Rattle.schedule.specs.Setting.{Setting}
use Rattle.schedule.proofs.Memory.{ok_then}
use Rattle.machine.specs.Runners.{Keeps}
use Rattle.machine.proofs.Keeping.{keeps_twice, keeps_counting}
use Rattle.machine.proofs.blocks.make_block_by_age.Goals as goal

pub returns-clause-keeps : goal.returns-clause-keeps
returns-clause-keeps g c =
    let s : Setting = setting_in g.C.Instructions.program g.C.Instructions.width c.args.shape.now in
    let old = c.args.runner.now in
    let new = c.make_events.new.runner in
    ok_then c.make_events.result (Keeps {C = g.row.C.Denot} {A = g.row.A.Denot} {L = g.row.L.Denot} g.L.Log.KEEPS_EVENTS s c.args.mesh.now
    (record old { blocks = _ }) new) (Keeps {C = g.row.C.Denot} {A = g.row.A.Denot} {L = g.row.L.Denot} g.L.Log.KEEPS_EVENTS s c.args.mesh.now old new)
    (λ k. keeps_twice {C = g.row.C.Denot} {A = g.row.A.Denot} {L = g.row.L.Denot} g.L.Log.KEEPS_EVENTS s c.args.mesh.now old
    (record old { blocks = _ }) new (keeps_counting {C = g.row.C.Denot} {A = g.row.A.Denot} {L = g.row.L.Denot} g.L.Log.KEEPS_EVENTS s
    c.args.mesh.now old _) k) c.make_events.ensures.keeps
