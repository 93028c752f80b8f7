use Rattle.std.proofs.Common.{refl}
use Rattle.schedule.specs.State.{setting_in}
use Rattle.mesh.specs.declared.view.Deed.TheVariants.{SawStop}
use Rattle.machine.proofs.Accounts.{saw_stop}
use Rattle.machine.proofs.Keeping.{keeps_twice, keeps_noting, keeps_counted}
use Rattle.machine.proofs.turns.look.Goals as goal

pub returns-then-stopped-ne0-clause-keeps : goal.returns-then-stopped-ne0-clause-keeps
returns-then-stopped-ne0-clause-keeps g c = keeps_noting {C = g.row.C.Denot} {A = g.row.A.Denot} {L = g.row.L.Denot} g.L.Log.KEEPS_EVENTS
    (setting_in g.C.Instructions.program g.C.Instructions.width c.args.shape.now) c.args.mesh.now c.args.runner.now c.stopped.new.seat
    (SawStop c.stopped.result) (saw_stop c.stopped.result) refl c.stopped.ensures.found

pub returns-then-live-eq0-clause-keeps : goal.returns-then-live-eq0-clause-keeps
returns-then-live-eq0-clause-keeps g c =
    keeps_twice {C = g.row.C.Denot} {A = g.row.A.Denot} {L = g.row.L.Denot} g.L.Log.KEEPS_EVENTS
    (setting_in g.C.Instructions.program g.C.Instructions.width c.args.shape.now) c.args.mesh.now c.args.runner.now
    (record c.args.runner.now { seat = c.stopped.new.seat }) _ (keeps_noting {C = g.row.C.Denot} {A = g.row.A.Denot} {L = g.row.L.Denot}
    g.L.Log.KEEPS_EVENTS (setting_in g.C.Instructions.program g.C.Instructions.width c.args.shape.now) c.args.mesh.now c.args.runner.now
    c.stopped.new.seat (SawStop c.stopped.result) (saw_stop c.stopped.result) refl c.stopped.ensures.found)
    (keeps_counted {C = g.row.C.Denot} {A = g.row.A.Denot} {L = g.row.L.Denot} g.L.Log.KEEPS_EVENTS
    (setting_in g.C.Instructions.program g.C.Instructions.width c.args.shape.now) c.args.mesh.now
    (record c.args.runner.now { seat = c.stopped.new.seat }) c.live.new.seat c.live.result c.live.ensures.counts)

pub returns-else-live-eq0-clause-keeps : goal.returns-else-live-eq0-clause-keeps
returns-else-live-eq0-clause-keeps g c =
    keeps_twice {C = g.row.C.Denot} {A = g.row.A.Denot} {L = g.row.L.Denot} g.L.Log.KEEPS_EVENTS
    (setting_in g.C.Instructions.program g.C.Instructions.width c.args.shape.now) c.args.mesh.now c.args.runner.now
    (record c.args.runner.now { seat = c.stopped.new.seat }) _ (keeps_noting {C = g.row.C.Denot} {A = g.row.A.Denot} {L = g.row.L.Denot}
    g.L.Log.KEEPS_EVENTS (setting_in g.C.Instructions.program g.C.Instructions.width c.args.shape.now) c.args.mesh.now c.args.runner.now
    c.stopped.new.seat (SawStop c.stopped.result) (saw_stop c.stopped.result) refl c.stopped.ensures.found)
    (keeps_counted {C = g.row.C.Denot} {A = g.row.A.Denot} {L = g.row.L.Denot} g.L.Log.KEEPS_EVENTS
    (setting_in g.C.Instructions.program g.C.Instructions.width c.args.shape.now) c.args.mesh.now
    (record c.args.runner.now { seat = c.stopped.new.seat }) c.live.new.seat c.live.result c.live.ensures.counts)

pub returns-else-len-eq0-clause-keeps : goal.returns-else-len-eq0-clause-keeps
returns-else-len-eq0-clause-keeps g c = keeps_noting {C = g.row.C.Denot} {A = g.row.A.Denot} {L = g.row.L.Denot} g.L.Log.KEEPS_EVENTS
    (setting_in g.C.Instructions.program g.C.Instructions.width c.args.shape.now) c.args.mesh.now c.args.runner.now c.stopped.new.seat
    (SawStop c.stopped.result) (saw_stop c.stopped.result) refl c.stopped.ensures.found
