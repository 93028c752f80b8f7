use Rattle.std.proofs.Common.{◌≡◌, ◌∙◌, sym, ap, subst, [], List}
use Rattle.element.specs.Holding.{Holding}
use Rattle.schedule.specs.Setting.{Setting}
use Rattle.schedule.specs.State.{State, IsSoundState, state_of}
use Rattle.schedule.specs.Runs.{SoFar}
use Rattle.schedule.proofs.Memory.{when_ok, none_arriving}
use Rattle.schedule.proofs.machine.Machine.into_lanes.Goals as goal

pub returns-clause-apart : goal.returns-clause-apart
returns-clause-apart g c =
    let m = c.settle.new.self in
    let good = sym c.is_err.ensures.value ∙ c.if-is_err.false in
    let none = when_ok c.settle.result (m.sent.items ≡ []) good c.settle.ensures.sent in
    let first = when_ok c.settle.result (m.arrived ≡ 0) good c.settle.ensures.arrived in
    let lanes = none_arriving m.lanes.items m.sent.items m.arrived none first in
    let z : Setting = (state_of g.C.Instructions.program g.C.Instructions.width m).setting in
    let at = ap (λ (l : List Holding). let s : State = record { setting = z; lanes = l } in s) (sym lanes) in
    let same = ap (λ (s : State). let k : SoFar = record { state = s; events = c.self.inside.log.events.items } in k) (at ∙ c.settle.ensures.same) in
    (same ∙ c.self.view_is, subst (λ (s : State). IsSoundState s) (sym at) c.settle.ensures.well.sound)
