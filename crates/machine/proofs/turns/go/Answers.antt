use Rattle.std.proofs.Common.{◌≡◌, ◌∙◌, Some, None}
use Rattle.machine.specs.declared.runner.Departure.{Departure}
use Rattle.schedule.specs.State.{setting_in}
use Rattle.machine.proofs.Keeping.{runs_on, keeps_twice}
use Rattle.machine.proofs.turns.go.Goals as goal

pub turn-requires-clause-runs : goal.turn-requires-clause-runs
turn-requires-clause-runs g c = runs_on {C = g.row.C.Denot} {A = g.row.A.Denot} {L = g.row.L.Denot} g.L.Log.KEEPS_EVENTS
    (setting_in g.C.Instructions.program g.C.Instructions.width c.args.shape.now) c.args.mesh.now c.args.runner.now c.turns.runner c.requires.runs
    c.turns.invariant.keeps

pub returns-in-Some-2-clause-keeps : goal.returns-in-Some-2-clause-keeps
returns-in-Some-2-clause-keeps g c = keeps_twice {C = g.row.C.Denot} {A = g.row.A.Denot} {L = g.row.L.Denot} g.L.Log.KEEPS_EVENTS
    (setting_in g.C.Instructions.program g.C.Instructions.width c.args.shape.now) c.args.mesh.now c.args.runner.now c.turns.runner c.turn.new.runner
    c.turns.invariant.keeps c.in_ok-departure.ensures.keeps

pub turns-preserved : goal.turns-preserved
turns-preserved g c =
    let i = c.turns.invariant in
    let e = c.in_ok-departure.ensures in
    let none : c.in_ok-departure.field-0 ≡ None = cc in
    record {
      stays = (e.stays.0 ∙ i.stays.0, e.stays.1 ∙ i.stays.1, e.stays.2 ∙ i.stays.2);
      keeps = keeps_twice {C = g.row.C.Denot} {A = g.row.A.Denot} {L = g.row.L.Denot} g.L.Log.KEEPS_EVENTS
          (setting_in g.C.Instructions.program g.C.Instructions.width c.args.shape.now) c.args.mesh.now c.args.runner.now c.turns.runner
          c.turn.new.runner i.keeps e.keeps;
      clear = e.clear none;
    }

pub returns-in-Some-2-clause-clear : goal.returns-in-Some-2-clause-clear
returns-in-Some-2-clause-clear g c = λ waits.
    let some : c.in_ok-departure.field-0 ≡ Some Departure.Waited = cc in
    c.in_ok-departure.ensures.waits some
