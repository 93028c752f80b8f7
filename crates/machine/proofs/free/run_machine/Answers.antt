use Rattle.std.proofs.Common.{◌≡◌, ◌≢◌, sym, subst, ℤ, [], List, map, false}
use Rattle.semantics.specs.declared.report.End.{End}
use Rattle.semantics.specs.Machine.{Events}
use Rattle.element.specs.Holding.{Holding, held_of}
use Rattle.schedule.specs.Setting.{Setting, size}
use Rattle.schedule.specs.State.{State, setting_in}
use Rattle.schedule.specs.Runs.{SoFar, Began}
use Rattle.schedule.specs.Unlisted.{with_events}
use Rattle.schedule.proofs.Tokens.{delivered_none}
use Rattle.rounds.specs.Rounds.{ShowsOn}
use Rattle.rounds.proofs.Closing.{none_sound, shows_any}
use Rattle.machine.specs.Ends.{EndsOn}
use Rattle.machine.proofs.Freed.{ends_in_memory}
use Rattle.machine.proofs.free.run_machine.Goals as goal

pub run_apart-requires-clause-sound : goal.run_apart-requires-clause-sound
run_apart-requires-clause-sound g c κs within =
    let s : Setting = setting_in g.C.Instructions.program g.C.Instructions.width c.in-Ok.setup.shape in
    none_sound s (map held_of c.in-Ok.lanes.items) c.in-Ok.ensures.apart.1

pub returns-in-Ok-clause-unlisted : goal.returns-in-Ok-clause-unlisted
returns-in-Ok-clause-unlisted g c =
    subst (λ (k : SoFar). g.L.Log.KEEPS_EVENTS ≡ false → k.events ≡ [] → (c.run_apart.result).events ≡ []) c.in-Ok.ensures.apart.0 c.run_apart.ensures.unlisted

pub returns-in-Ok-clause-shows : goal.returns-in-Ok-clause-shows
returns-in-Ok-clause-shows g c =
    let s : Setting = setting_in g.C.Instructions.program g.C.Instructions.width c.in-Ok.setup.shape in
    let raw : List Holding = map held_of c.in-Ok.lanes.items in
    let r = c.run_apart.result in
    subst (λ (k : SoFar). (inputs : List ℤ) (events : Events) → Began inputs k.state events → ShowsOn g.L.Log.KEEPS_EVENTS k.state.setting.program
    (size k.state.setting) inputs k.state.setting.steps g.G.Gate.may_stop k.events events r) c.in-Ok.ensures.apart.0
    (λ inputs events b. c.run_apart.ensures.shows inputs events
    (subst (λ (l : List Holding). Began inputs (let x : State = record { setting = s; lanes = l } in x) events) (sym (delivered_none raw)) b))

pub returns-in-Ok-clause-ends : goal.returns-in-Ok-clause-ends
returns-in-Ok-clause-ends g c =
    let s : Setting = setting_in g.C.Instructions.program g.C.Instructions.width c.in-Ok.setup.shape in
    let raw : List Holding = map held_of c.in-Ok.lanes.items in
    let r = c.run_apart.result in
    subst (λ (k : SoFar). (inputs : List ℤ) (events : Events) → Began inputs k.state events → r.end ≢ End.Memory
    → EndsOn c.args.take g.L.Log.KEEPS_EVENTS k.state.setting inputs g.G.Gate.may_stop k.events events r) c.in-Ok.ensures.apart.0
    (λ inputs events b. c.run_apart.ensures.ends inputs events
    (subst (λ (l : List Holding). Began inputs (let x : State = record { setting = s; lanes = l } in x) events) (sym (delivered_none raw)) b))

pub returns-in-Err-clause-unlisted : goal.returns-in-Err-clause-unlisted
returns-in-Err-clause-unlisted g c =
    subst (λ (k : SoFar). g.L.Log.KEEPS_EVENTS ≡ false → k.events ≡ [] → (c.report.result).events ≡ []) c.in-Err.ensures.apart
    (λ off none. (c.report.ensures.quietly none []).0)

pub returns-in-Err-clause-shows : goal.returns-in-Err-clause-shows
returns-in-Err-clause-shows g c =
    let r = c.report.result in
    let may = g.G.Gate.may_stop in
    subst (λ (k : SoFar). (inputs : List ℤ) (events : Events) → Began inputs k.state events → ShowsOn g.L.Log.KEEPS_EVENTS k.state.setting.program
    (size k.state.setting) inputs k.state.setting.steps may k.events events r) c.in-Err.ensures.apart
    (λ inputs events b.
    let z = c.in-Err.machine.state.setting in
    let but = c.report.ensures.any inputs false events b tt in
    (but.0, shows_any z.program (size z) inputs z.steps false may (with_events r but.0) but.1, λ yes e. but.2 e))

pub returns-in-Err-clause-ends : goal.returns-in-Err-clause-ends
returns-in-Err-clause-ends g c = λ inputs events b some. absurd (some (ends_in_memory c.in-Err.machine c.report.result c.report.ensures.reported))
