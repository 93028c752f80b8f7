use Rattle.std.proofs.Common.{◌≡◌, sym, subst, ℤ, List, ◌++◌}
use Rattle.semantics.specs.Machine.{Events}
use Rattle.schedule.specs.State.{state_of}
use Rattle.schedule.specs.Steps.{Steps, logged}
use Rattle.schedule.specs.Runs.{SoFar, Began, BeganIfNoted}
use Rattle.schedule.specs.Setting.{Setting}
use Rattle.schedule.proofs.Playing.{setting_stays}
use Rattle.schedule.proofs.Ending.{began_step, began_if_noted}
use Rattle.schedule.proofs.machine.Machine.step.Goals as goal

pub returns-clause-steps : goal.returns-clause-steps
returns-clause-steps g c =
    let old = state_of g.C.Instructions.program g.C.Instructions.width c.self.inside.elements in
    let new = state_of g.C.Instructions.program g.C.Instructions.width c.step.new.self in
    let after = c.step.new.log.events.items in
    let e = c.step.ensures.exact in
    subst (λ (k : SoFar). (made : Events) × Steps k.state c.args.element c.args.pick c.step.result new made
    × (after ≡ logged g.L.Log.KEEPS_EVENTS k.events made) × ((inputs : List ℤ) (before : Events) → Began inputs k.state before
    → Began inputs new (before ++ made))) c.self.view_is
    (e.0, e.1, e.2, λ inputs before. began_step inputs old new c.args.element c.args.pick c.step.result before e.0 e.1)

pub returns-clause-began : goal.returns-clause-began
returns-clause-began g c = λ inputs began.
    let old = state_of g.C.Instructions.program g.C.Instructions.width c.self.inside.elements in
    let new = state_of g.C.Instructions.program g.C.Instructions.width c.step.new.self in
    let before = c.self.inside.log.events.items in
    let e = c.step.ensures.exact in
    let inside = subst (λ (k : SoFar). BeganIfNoted g.L.Log.KEEPS_EVENTS inputs k) (sym c.self.view_is) began in
    began_if_noted g.L.Log.KEEPS_EVENTS inputs old new before c.step.new.log.events.items e.0 e.2
    (began_step inputs old new c.args.element c.args.pick c.step.result before e.0 e.1) inside

pub returns-clause-setting : goal.returns-clause-setting
returns-clause-setting g c =
    let old = state_of g.C.Instructions.program g.C.Instructions.width c.self.inside.elements in
    let new = state_of g.C.Instructions.program g.C.Instructions.width c.step.new.self in
    let e = c.step.ensures.exact in
    let z : Setting = new.setting in
    subst (λ (k : SoFar). z ≡ k.state.setting) c.self.view_is (setting_stays old new c.args.element c.args.pick c.step.result e.0 e.1)
