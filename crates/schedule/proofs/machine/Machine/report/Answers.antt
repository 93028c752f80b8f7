use Rattle.std.proofs.Common.{◌≡◌, refl, sym, subst, [], ℤ, List, Bool, false}
use Rattle.semantics.specs.Machine.{Events}
use Rattle.schedule.specs.Shown.{ShowsInOrder}
use Rattle.schedule.specs.Setting.{size}
use Rattle.schedule.specs.State.{state_of}
use Rattle.schedule.specs.Runs.{SoFar, Began, HaltsAs, NamesCell}
use Rattle.schedule.specs.Reported.{IsReportOf}
use Rattle.schedule.specs.Unlisted.{with_events, ShowsBut, Quietly, ReportsSoFar, so_far_with}
use Rattle.schedule.proofs.Reports.{reported_of, shows_reported, reports_quietly}
use Rattle.schedule.proofs.machine.Machine.report.Goals as goal

pub report_of-requires-clause-cell : goal.report_of-requires-clause-cell
report_of-requires-clause-cell g c = subst (λ (k : SoFar). NamesCell k.state.setting.program c.args.halt) (sym c.self.view_is) c.requires

pub returns-clause-reported : goal.returns-clause-reported
returns-clause-reported g c =
    let m = c.self.inside.elements in
    subst (λ (k : SoFar). IsReportOf k c.args.halt c.report_of.result) c.self.view_is (reported_of g.C.Instructions.program g.C.Instructions.width m
    c.self.inside.log.events.items c.args.halt c.report_of.result c.report_of.ensures)

pub returns-clause-shows : goal.returns-clause-shows
returns-clause-shows g c = λ inputs by_list began halts.
    let m = c.self.inside.elements in
    let s = state_of g.C.Instructions.program g.C.Instructions.width m in
    let evs = c.self.inside.log.events.items in
    let r = c.report_of.result in
    let b : Began inputs s evs = subst (λ (k : SoFar). Began inputs k.state k.events) (sym c.self.view_is) began in
    let h : HaltsAs s by_list c.args.halt = subst (λ (k : SoFar). HaltsAs k.state by_list c.args.halt) (sym c.self.view_is) halts in
    let found = shows_reported g.C.Instructions.program g.C.Instructions.width m evs c.args.halt r c.self.invariant c.report_of.ensures inputs
    by_list evs b h in
    let shown : ShowsInOrder s.setting.program (size s.setting) inputs s.setting.steps by_list false r =
    subst (λ (l : Events). ShowsInOrder s.setting.program (size s.setting) inputs s.setting.steps by_list false (with_events r l))
    (sym (found.2 refl)) found.1 in
    subst (λ (k : SoFar). ShowsInOrder k.state.setting.program (size k.state.setting) inputs k.state.setting.steps by_list false r) c.self.view_is shown

pub returns-clause-any : goal.returns-clause-any
returns-clause-any g c =
    let m = c.self.inside.elements in
    let evs = c.self.inside.log.events.items in
    let r = c.report_of.result in
    subst (λ (k : SoFar). (inputs : List ℤ) (by_list : Bool) (events : Events) → Began inputs k.state events → HaltsAs k.state by_list c.args.halt
    → ShowsBut k.state.setting.program (size k.state.setting) inputs k.state.setting.steps by_list false k.events events r) c.self.view_is
    (shows_reported g.C.Instructions.program g.C.Instructions.width m evs c.args.halt r c.self.invariant c.report_of.ensures)

pub returns-clause-quietly : goal.returns-clause-quietly
returns-clause-quietly g c =
    let m = c.self.inside.elements in
    let evs = c.self.inside.log.events.items in
    let r = c.report_of.result in
    subst (λ (k : SoFar). k.events ≡ [] → (events : Events) → Quietly (ReportsSoFar (so_far_with k.state events) c.args.halt) r) c.self.view_is
    (reports_quietly g.C.Instructions.program g.C.Instructions.width m evs c.args.halt r c.self.invariant c.report_of.ensures)
