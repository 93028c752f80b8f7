use Rattle.std.proofs.Common.{◌≡◌, None, sym, subst}
use Rattle.element.specs.Holding.{Holding}
use Rattle.schedule.specs.State.{setting_in}
use Rattle.machine.specs.ByDepth.{HasNoReason}
use Rattle.machine.proofs.Keeping.{runs_on, keeps_twice}
use Rattle.machine.proofs.turns.make_turn.Goals as goal

pub pass_on-requires-clause-runs : goal.pass_on-requires-clause-runs
pass_on-requires-clause-runs g c = runs_on {C = g.row.C.Denot} {A = g.row.A.Denot} {L = g.row.L.Denot} g.L.Log.KEEPS_EVENTS
    (setting_in g.C.Instructions.program g.C.Instructions.width c.args.shape.now) c.args.mesh.now c.args.runner.now c.work.new.runner c.requires.runs
    c.in_ok-halt.ensures.keeps

pub look-requires-clause-runs : goal.look-requires-clause-runs
look-requires-clause-runs g c =
    runs_on {C = g.row.C.Denot} {A = g.row.A.Denot} {L = g.row.L.Denot} g.L.Log.KEEPS_EVENTS
    (setting_in g.C.Instructions.program g.C.Instructions.width c.args.shape.now) c.args.mesh.now c.args.runner.now c.pass_on.new.runner c.requires.runs
    (keeps_twice {C = g.row.C.Denot} {A = g.row.A.Denot} {L = g.row.L.Denot} g.L.Log.KEEPS_EVENTS
    (setting_in g.C.Instructions.program g.C.Instructions.width c.args.shape.now) c.args.mesh.now c.args.runner.now c.work.new.runner
    c.pass_on.new.runner c.in_ok-halt.ensures.keeps c.pass_on.ensures.keeps)

pub returns-in-Ok-clause-keeps : goal.returns-in-Ok-clause-keeps
returns-in-Ok-clause-keeps g c =
    keeps_twice {C = g.row.C.Denot} {A = g.row.A.Denot} {L = g.row.L.Denot} g.L.Log.KEEPS_EVENTS
    (setting_in g.C.Instructions.program g.C.Instructions.width c.args.shape.now) c.args.mesh.now c.args.runner.now c.pass_on.new.runner c.look.new.runner
    (keeps_twice {C = g.row.C.Denot} {A = g.row.A.Denot} {L = g.row.L.Denot} g.L.Log.KEEPS_EVENTS
    (setting_in g.C.Instructions.program g.C.Instructions.width c.args.shape.now) c.args.mesh.now c.args.runner.now c.work.new.runner
    c.pass_on.new.runner c.in_ok-halt.ensures.keeps c.pass_on.ensures.keeps)
    c.look.ensures.keeps

pub returns-in-Err-clause-keeps : goal.returns-in-Err-clause-keeps
returns-in-Err-clause-keeps g c = keeps_twice {C = g.row.C.Denot} {A = g.row.A.Denot} {L = g.row.L.Denot} g.L.Log.KEEPS_EVENTS
    (setting_in g.C.Instructions.program g.C.Instructions.width c.args.shape.now) c.args.mesh.now c.args.runner.now c.work.new.runner
    c.pass_on.new.runner c.in_ok-halt.ensures.keeps c.pass_on.ensures.keeps

pub look-requires-clause-whole : goal.look-requires-clause-whole
look-requires-clause-whole g c =
    let none : c.in_ok-halt.field-0 ≡ None = cc in
    subst (λ (h : Holding). HasNoReason c.args.order (setting_in g.C.Instructions.program g.C.Instructions.width c.args.shape.now) h) (sym c.pass_on.ensures.lane)
    (c.in_ok-halt.ensures.whole none)
