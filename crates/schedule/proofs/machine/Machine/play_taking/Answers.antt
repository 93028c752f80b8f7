use Rattle.std.proofs.Common.{◌≡◌, sym, subst, ℤ, List, ◌++◌, false}
use Rattle.semantics.specs.Machine.{Events}
use Rattle.schedule.specs.State.{state_of}
use Rattle.schedule.specs.Steps.{logged}
use Rattle.schedule.specs.Runs.{SoFar, Began, BeganIfNoted}
use Rattle.schedule.specs.Setting.{Setting}
use Rattle.schedule.specs.Turns.{PlaysTaking}
use Rattle.schedule.proofs.Playing.{setting_plays}
use Rattle.schedule.proofs.Reports.{clash_cell}
use Rattle.schedule.proofs.Ending.{began_plays, began_if_noted, halts_as}
use Rattle.schedule.proofs.Turning.{plays_taking}
use Rattle.schedule.proofs.machine.Machine.play_taking.Goals as goal

pub returns-clause-plays : goal.returns-clause-plays
returns-clause-plays g c =
    let old = state_of g.C.Instructions.program g.C.Instructions.width c.self.inside.elements in
    let new = state_of g.C.Instructions.program g.C.Instructions.width c.play_taking.new.self in
    let after = c.play_taking.new.log.events.items in
    let e = c.play_taking.ensures.exact in
    let picks = plays_taking c.args.take old new c.play_taking.result e.0 e.1 in
    subst (λ (k : SoFar). (made : Events) × PlaysTaking c.args.take k.state new c.play_taking.result made
    × (after ≡ logged g.L.Log.KEEPS_EVENTS k.events made) × ((inputs : List ℤ) (before : Events) → Began inputs k.state before
    → Began inputs new (before ++ made))) c.self.view_is
    (e.0, e.1, e.2, λ inputs before. began_plays inputs false picks.0 old new c.play_taking.result before e.0 picks.1)

pub returns-clause-began : goal.returns-clause-began
returns-clause-began g c = λ inputs began.
    let old = state_of g.C.Instructions.program g.C.Instructions.width c.self.inside.elements in
    let new = state_of g.C.Instructions.program g.C.Instructions.width c.play_taking.new.self in
    let before = c.self.inside.log.events.items in
    let e = c.play_taking.ensures.exact in
    let picks = plays_taking c.args.take old new c.play_taking.result e.0 e.1 in
    let inside = subst (λ (k : SoFar). BeganIfNoted g.L.Log.KEEPS_EVENTS inputs k) (sym c.self.view_is) began in
    began_if_noted g.L.Log.KEEPS_EVENTS inputs old new before c.play_taking.new.log.events.items e.0 e.2
    (began_plays inputs false picks.0 old new c.play_taking.result before e.0 picks.1) inside

pub returns-clause-halts : goal.returns-clause-halts
returns-clause-halts g c =
    let old = state_of g.C.Instructions.program g.C.Instructions.width c.self.inside.elements in
    let new = state_of g.C.Instructions.program g.C.Instructions.width c.play_taking.new.self in
    let e = c.play_taking.ensures.exact in
    let picks = plays_taking c.args.take old new c.play_taking.result e.0 e.1 in
    halts_as false picks.0 old new c.play_taking.result e.0 picks.1

pub returns-clause-setting : goal.returns-clause-setting
returns-clause-setting g c =
    let old = state_of g.C.Instructions.program g.C.Instructions.width c.self.inside.elements in
    let new = state_of g.C.Instructions.program g.C.Instructions.width c.play_taking.new.self in
    let e = c.play_taking.ensures.exact in
    let picks = plays_taking c.args.take old new c.play_taking.result e.0 e.1 in
    let z : Setting = new.setting in
    subst (λ (k : SoFar). z ≡ k.state.setting) c.self.view_is (setting_plays false picks.0 old new c.play_taking.result e.0 picks.1)

pub returns-clause-cell : goal.returns-clause-cell
returns-clause-cell g c =
    let old = state_of g.C.Instructions.program g.C.Instructions.width c.self.inside.elements in
    let new = state_of g.C.Instructions.program g.C.Instructions.width c.play_taking.new.self in
    let e = c.play_taking.ensures.exact in
    let picks = plays_taking c.args.take old new c.play_taking.result e.0 e.1 in
    clash_cell new false c.play_taking.result c.play_taking.ensures.well.sound (halts_as false picks.0 old new c.play_taking.result e.0 picks.1)
