-- A report at rest with no deferred reader reports the values of the graph's ports.
use Rattle.std.proofs.Common.{◌≡◌, ℕ, Bool, ℤ, List, sym, ◌∙◌}
use Rattle.semantics.specs.declared.report.End.TheVariants.{Rest}
use Rattle.semantics.specs.Graph.{Graph, flow_of}
use Rattle.semantics.specs.Machine.{Size}
use Rattle.semantics.specs.Report.{Report}
use Rattle.schedule.specs.declared.config.Config.{Config}
use Rattle.schedule.specs.Unlisted.{with_events}
use Rattle.driver.specs.declared.order.Order.{Order}
use Rattle.law_confluence.proofs.Equations.{runs_at_rest}
use Rattle.law_confluence.proofs.EquationsNoneWaits.{none_waits}
use Rattle.driver.specs.Headline.{ReportsOf, ReportsTruthIn, ReportsQuietly}
use Rattle.driver.specs.Values.{ReportsValues}

pub reports_values : (text : List ℕ) (g : Graph) (inputs : List ℤ) (z : Size) (steps : ℕ) (by_list may_stop : Bool) (r : Report)
    → ReportsOf text g inputs z steps by_list may_stop r → r.end ≡ Rest → r.deferred ≡ 0 → ReportsValues (flow_of g) inputs r
reports_values text g inputs z steps by_list may_stop r t rest none =
    let o = t.truth.rest rest in
    record {
      run = o.reached.run;
      state = o.state;
      is_run = o.reached.is_run;
      shown = o.shown;
      settled = runs_at_rest g inputs t.well_formed t.inputs_fit o.reached.run o.state o.reached.is_run o.at_rest
          (λ x. o.no_clash o.state x o.reached) (none_waits (flow_of g) o.state.tokens (sym o.deferred ∙ none));
    }

pub modes_have : (order : Order) (text : List ℕ) (g : Graph) (inputs : List ℤ) (c : Config) (may_stop : Bool) (r : Report)
    → ReportsTruthIn order text g inputs c may_stop r → r.end ≡ Rest → r.deferred ≡ 0 → ReportsValues (flow_of g) inputs r
modes_have (Order.InTurn take) text g inputs c may_stop r t = reports_values text g inputs _ _ _ _ r t.0
modes_have (Order.InRounds take) text g inputs c may_stop r t = reports_values text g inputs _ _ _ _ r t
modes_have (Order.Free take) text g inputs c may_stop r t = reports_values text g inputs _ _ _ _ r t

-- the events of a report have no part in it
pub quiet_reports : (order : Order) (text : List ℕ) (g : Graph) (inputs : List ℤ) (c : Config) (may_stop : Bool) (r : Report)
    → ReportsQuietly order text g inputs c may_stop r → r.end ≡ Rest → r.deferred ≡ 0 → ReportsValues (flow_of g) inputs r
quiet_reports order text g inputs c may_stop r t rest none =
    let v = modes_have order text g inputs c may_stop (with_events r t.2.1) t.2.2 rest none in
    record { run = v.run; state = v.state; is_run = v.is_run; shown = record { outputs = v.shown.outputs; cells = v.shown.cells }; settled = v.settled }
