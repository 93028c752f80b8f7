-- A machine that was played by the picks of an order makes the report of that order.
use Rattle.std.proofs.Common.{◌≡◌, ℕ, ℤ, List, inl, inr, true, false, sym, ap, subst}
use Rattle.semantics.specs.Graph.{Graph}
use Rattle.semantics.specs.Machine.{Events}
use Rattle.semantics.specs.Program.{Program}
use Rattle.semantics.specs.Report.{Report}
use Rattle.schedule.specs.Shown.{ShowsInOrder}
use Rattle.semantics.specs.declared.report.End.{End}
use Rattle.schedule.specs.declared.config.Config.{Config}
use Rattle.schedule.specs.declared.halt.Halt.{Halt}
use Rattle.schedule.specs.Setting.{Setting, size}
use Rattle.schedule.specs.Runs.{SoFar, Began, EndsAs, HaltsAs}
use Rattle.schedule.specs.Reported.{IsReportOf}
use Rattle.schedule.proofs.Ending.{began_plays, halts_as}
use Rattle.schedule.proofs.Playing.{setting_plays}
use Rattle.driver.specs.Headline.{ReportsTruthByList}
use Rattle.driver.specs.Objects.{StartsObject}
use Rattle.driver.specs.Refused.{IsCompiled}
use Rattle.driver.proofs.ObjectRuns.{shows_object, runs_by_list}
use Rattle.driver.proofs.Truth.{reports_by_list}
use Rattle.commands.specs.Agreed.{IsOrder}
use Rattle.commands.specs.Ordered.{first_number, picks_from}
use Rattle.commands.specs.Played.{PlaysDrawn}

-- a run ends for lack of steps only where its halt says so
ends_cut : (p : Program) (r : Report) (halt : Halt) → EndsAs p r halt → r.end ≡ End.Steps → halt ≡ Halt.Steps
ends_cut p r Halt.NoToken (inl h) e = let is = h.0 in cc
ends_cut p r Halt.NoToken (inr h) e = let is = h.0 in cc
ends_cut p r (Halt.Clash cell) h e = let is = h.2 in cc
ends_cut p r Halt.Steps h e = cc
ends_cut p r (Halt.Stuck rule) h e = cc
ends_cut p r Halt.Memory h e = cc
ends_cut p r Halt.Stop h e = cc

reported_cut : (k : SoFar) (halt : Halt) (r : Report) → IsReportOf k halt r → r.end ≡ End.Steps → halt ≡ Halt.Steps
reported_cut k halt r (inl refused) e = let is = ap (λ (x : Report). x.end) refused in cc
reported_cut k halt r (inr reported) e = ends_cut k.state.setting.program r halt reported.1 e

pub order_of : (text : List ℕ) (g : Graph) (bytes : List ℕ) (inputs : List ℤ) (c : Config) (seed order first : ℕ) (old new : SoFar) (halt : Halt) (r : Report)
    → IsCompiled text g bytes → StartsObject bytes inputs c old → first ≡ first_number seed order → PlaysDrawn c.elements first old new halt
    → IsReportOf new halt r
    → ((ins : List ℤ) → Began ins new.state new.events → HaltsAs new.state true halt → ShowsInOrder new.state.setting.program (size new.state.setting)
    ins new.state.setting.steps true false r)
    → IsOrder text inputs c seed order g r
order_of text g bytes inputs c seed order first old new halt r compiled starts is drawn reported shows =
    let picks : List (ℕ × ℕ) = picks_from c.elements drawn.count first in
    let began = λ (ins : List ℤ) (b : Began ins old.state old.events).
    subst (λ (l : Events). Began ins new.state l) (sym drawn.events) (began_plays ins true picks old.state new.state halt old.events drawn.made
    drawn.plays b) in
    let halts = halts_as true picks old.state new.state halt drawn.made drawn.plays in
    let shown = shows_object bytes inputs c old starts true false r
    (λ ins b. subst (λ (z : Setting). ShowsInOrder z.program (size z) ins z.steps true false r) (setting_plays true picks old.state new.state halt
    drawn.made drawn.plays) (shows ins (began ins b) halts)) in
    let list = runs_by_list bytes inputs c old starts picks r (new, halt, drawn.made, drawn.plays, drawn.events, reported) in
    record {
      count = drawn.count;
      truth = subst (λ (n : ℕ). ReportsTruthByList text g inputs c (picks_from c.elements drawn.count n) r) is
          (reports_by_list text g bytes inputs c picks r compiled shown list);
      enough = λ e. drawn.enough (reported_cut new halt r reported e);
    }
