-- What a report says of the values of a graph's ports, for users of the compiler as a library: no token is named.
use Rattle.std.specs.Prelude.{◌≡◌, ℕ, Bool, ℤ, List}
use Rattle.semantics.specs.declared.report.End.TheVariants.{Rest}
use Rattle.semantics.specs.Graph.{Graph, Flow, flow_of}
use Rattle.semantics.specs.Meaning.{State, Activity, Run, start}
use Rattle.semantics.specs.Machine.{Size}
use Rattle.semantics.specs.Report.{Report}
use Rattle.schedule.specs.declared.config.Config.{Config}
use Rattle.driver.specs.declared.order.Order.{Order}
use Rattle.law_confluence.specs.EquationsSettled.{Settled}
use Rattle.driver.specs.Headline.{ShowsMemory, ReportsOf, ReportsTruthIn, ReportsQuietly}

-- The report's outputs and cells are those of a run of the meaning whose values satisfy the equations of the nodes.
pub record ReportsValues (fl : Flow) (inputs : List ℤ) (r : Report) : Type 0 where
  pub run : List Activity
  pub state : State
  pub is_run : Run fl (start inputs) run state
  pub shown : ShowsMemory r state.memory
  pub settled : Settled fl inputs run state is_run

-- This is so where the headline holds of a report that ends at rest, with no deferred reader: of a run in any order,
abbrev pub ReportsHaveValues : Type 0
ReportsHaveValues = (text : List ℕ) (g : Graph) (inputs : List ℤ) (z : Size) (steps : ℕ) (by_list may_stop : Bool) (r : Report)
    → ReportsOf text g inputs z steps by_list may_stop r → r.end ≡ Rest → r.deferred ≡ 0 → ReportsValues (flow_of g) inputs r

-- in each order,
abbrev pub ModesHaveValues : Type 0
ModesHaveValues = (order : Order) (text : List ℕ) (g : Graph) (inputs : List ℤ) (c : Config) (may_stop : Bool) (r : Report)
    → ReportsTruthIn order text g inputs c may_stop r → r.end ≡ Rest → r.deferred ≡ 0 → ReportsValues (flow_of g) inputs r

-- and where the report lists no events.
abbrev pub QuietReportsHaveValues : Type 0
QuietReportsHaveValues = (order : Order) (text : List ℕ) (g : Graph) (inputs : List ℤ) (c : Config) (may_stop : Bool) (r : Report)
    → ReportsQuietly order text g inputs c may_stop r → r.end ≡ Rest → r.deferred ≡ 0 → ReportsValues (flow_of g) inputs r
