use Rattle.std.proofs.Common.{◌≡◌, sym, ◌∙◌, ap, subst, ℤ, [], List, map, false}
use Rattle.semantics.specs.Machine.{Events}
use Rattle.semantics.specs.Report.{Report}
use Rattle.element.specs.Holding.{Holding, held_of}
use Rattle.schedule.specs.Setting.{Setting, size}
use Rattle.schedule.specs.State.{State, setting_in}
use Rattle.schedule.specs.declared.halt.Halt.{Halt}
use Rattle.schedule.specs.Runs.{SoFar, Began}
use Rattle.schedule.specs.Reported.{IsReportOf}
use Rattle.schedule.specs.Unlisted.{with_events}
use Rattle.schedule.proofs.Tokens.{delivered_none}
use Rattle.rounds.specs.Counted.{ReportsTaking}
use Rattle.rounds.specs.Rounds.{ShowsOn}
use Rattle.rounds.proofs.Counting.{reports_none}
use Rattle.rounds.proofs.Closing.{none_sound, shows_any}
use Rattle.rounds.proofs.rounds.run_machine.Goals as goal

pub run_apart-requires-clause-sound : goal.run_apart-requires-clause-sound
run_apart-requires-clause-sound g c κs within =
    let s : Setting = setting_in g.C.Instructions.program g.C.Instructions.width c.in-Ok.setup.shape in
    none_sound s (map held_of c.in-Ok.lanes.items) c.in-Ok.ensures.apart.1

pub returns-in-Ok : goal.returns-in-Ok
returns-in-Ok g c =
    let s : Setting = setting_in g.C.Instructions.program g.C.Instructions.width c.in-Ok.setup.shape in
    let raw : List Holding = map held_of c.in-Ok.lanes.items in
    let on = g.L.Log.KEEPS_EVENTS in
    let may = g.G.Gate.may_stop in
    let r = c.run_apart.result.report in
    let n = c.run_apart.result.rounds in
    record {
      unlisted = subst (λ (k : SoFar). on ≡ false → k.events ≡ [] → r.events ≡ []) c.in-Ok.ensures.apart.0 c.run_apart.ensures.unlisted;
      shows = subst (λ (k : SoFar). (inputs : List ℤ) (events : Events) → Began inputs k.state events
          → ShowsOn on k.state.setting.program (size k.state.setting) inputs k.state.setting.steps may k.events events r) c.in-Ok.ensures.apart.0
          (λ inputs events b. c.run_apart.ensures.shows inputs events
          (subst (λ (l : List Holding). Began inputs (let x : State = record { setting = s; lanes = l } in x) events) (sym (delivered_none raw)) b));
      truth = subst (λ (k : SoFar). ReportsTaking c.args.way.take on may k n r) c.in-Ok.ensures.apart.0 c.run_apart.ensures.truth;
    }

pub returns-in-Err : goal.returns-in-Err
returns-in-Err g c =
    let on = g.L.Log.KEEPS_EVENTS in
    let may = g.G.Gate.may_stop in
    let reported = c.report.result in
    let r = c.unmade.result.report in
    let same = sym c.unmade.ensures.report in
    record {
      unlisted = subst (λ (k : SoFar). on ≡ false → k.events ≡ [] → r.events ≡ []) c.in-Err.ensures.apart
          (λ off none. ap (λ (x : Report). x.events) c.unmade.ensures.report ∙ (c.report.ensures.quietly none []).0);
      shows = subst (λ (k : SoFar). (inputs : List ℤ) (events : Events) → Began inputs k.state events
          → ShowsOn on k.state.setting.program (size k.state.setting) inputs k.state.setting.steps may k.events events r) c.in-Err.ensures.apart
          (λ inputs events b.
          let z = c.in-Err.machine.state.setting in
          let but = c.report.ensures.any inputs false events b tt in
          subst (λ (x : Report). ShowsOn on z.program (size z) inputs z.steps may c.in-Err.machine.events events x) same
          (but.0, shows_any z.program (size z) inputs z.steps false may (with_events reported but.0) but.1, λ yes e. but.2 e));
      truth = subst (λ (k : SoFar). ReportsTaking c.args.way.take on may k c.unmade.result.rounds r) c.in-Err.ensures.apart
          (reports_none c.args.way.take on may c.in-Err.machine c.unmade.result.rounds r c.unmade.ensures.rounds
          (subst (λ (x : Report). IsReportOf c.in-Err.machine Halt.Memory x) same c.report.ensures.reported));
    }
