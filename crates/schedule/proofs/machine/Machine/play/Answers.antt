use Rattle.std.proofs.Common.{◌≡◌, sym, subst, ℤ, List, ◌++◌, true}
use Rattle.semantics.specs.Machine.{Events}
use Rattle.schedule.specs.State.{state_of}
use Rattle.schedule.specs.Steps.{logged}
use Rattle.schedule.specs.Runs.{SoFar, Plays, Began, BeganIfNoted}
use Rattle.schedule.specs.Setting.{Setting}
use Rattle.schedule.proofs.Playing.{setting_plays}
use Rattle.schedule.proofs.Reports.{clash_cell}
use Rattle.schedule.proofs.Ending.{began_plays, began_if_noted, halts_as}
use Rattle.schedule.proofs.machine.Machine.play.Goals as goal

pub returns-clause-plays : goal.returns-clause-plays
returns-clause-plays g c =
    let old = state_of g.C.Instructions.program g.C.Instructions.width c.self.inside.elements in
    let new = state_of g.C.Instructions.program g.C.Instructions.width c.play.new.self in
    let after = c.play.new.log.events.items in
    let e = c.play.ensures.exact in
    subst (λ (k : SoFar). (made : Events) × Plays true c.args.picks.now k.state new c.play.result made
    × (after ≡ logged g.L.Log.KEEPS_EVENTS k.events made) × ((inputs : List ℤ) (before : Events) → Began inputs k.state before
    → Began inputs new (before ++ made))) c.self.view_is
    (e.0, e.1, e.2, λ inputs before. began_plays inputs true c.args.picks.now old new c.play.result before e.0 e.1)

pub returns-clause-began : goal.returns-clause-began
returns-clause-began g c = λ inputs began.
    let old = state_of g.C.Instructions.program g.C.Instructions.width c.self.inside.elements in
    let new = state_of g.C.Instructions.program g.C.Instructions.width c.play.new.self in
    let before = c.self.inside.log.events.items in
    let e = c.play.ensures.exact in
    let inside = subst (λ (k : SoFar). BeganIfNoted g.L.Log.KEEPS_EVENTS inputs k) (sym c.self.view_is) began in
    began_if_noted g.L.Log.KEEPS_EVENTS inputs old new before c.play.new.log.events.items e.0 e.2 (began_plays inputs true c.args.picks.now old new
    c.play.result before e.0 e.1) inside

pub returns-clause-halts : goal.returns-clause-halts
returns-clause-halts g c =
    let e = c.play.ensures.exact in
    halts_as true c.args.picks.now (state_of g.C.Instructions.program g.C.Instructions.width c.self.inside.elements)
    (state_of g.C.Instructions.program g.C.Instructions.width c.play.new.self) c.play.result e.0 e.1

pub returns-clause-setting : goal.returns-clause-setting
returns-clause-setting g c =
    let old = state_of g.C.Instructions.program g.C.Instructions.width c.self.inside.elements in
    let new = state_of g.C.Instructions.program g.C.Instructions.width c.play.new.self in
    let e = c.play.ensures.exact in
    let z : Setting = new.setting in
    subst (λ (k : SoFar). z ≡ k.state.setting) c.self.view_is (setting_plays true c.args.picks.now old new c.play.result e.0 e.1)

pub returns-clause-cell : goal.returns-clause-cell
returns-clause-cell g c =
    let old = state_of g.C.Instructions.program g.C.Instructions.width c.self.inside.elements in
    let new = state_of g.C.Instructions.program g.C.Instructions.width c.play.new.self in
    let e = c.play.ensures.exact in
    clash_cell new true c.play.result c.play.ensures.well.sound (halts_as true c.args.picks.now old new c.play.result e.0 e.1)
