use Rattle.std.proofs.Common.{refl}
use Rattle.schedule.specs.State.{setting_in}
use Rattle.mesh.specs.declared.view.Deed.TheVariants.{Stopped}
use Rattle.machine.proofs.Accounts.{tried_stop}
use Rattle.machine.proofs.Keeping.{keeps_noting}
use Rattle.machine.proofs.turns.call_stop.Goals as goal

pub returns-in-Lost-clause-keeps : goal.returns-in-Lost-clause-keeps
returns-in-Lost-clause-keeps g c =
    let f = c.stop-set.ensures.found in
    keeps_noting {C = g.row.C.Denot} {A = g.row.A.Denot} {L = g.row.L.Denot} g.L.Log.KEEPS_EVENTS
    (setting_in g.C.Instructions.program g.C.Instructions.width c.args.shape.now) c.args.mesh.now c.args.runner.now c.stop-set.new.seat
    (Stopped 1 f.0) (tried_stop 1 f.0) refl f.1
