-- THE HEADLINE: what a report promises about a text's graph.
use Rattle.std.specs.Prelude.{◌≡◌, ◌↔◌, ℕ, ◌+◌, ◌*◌, ◌<◌, ◌≤◌, Bool, true, false, ℤ, List, length, sum, Option, Some, slice_get, Contains}
use Rattle.tags.specs.declared.value.Value.{Value}
use Rattle.semantics.specs.declared.report.End.TheVariants.{Rest, Clash, Stuck}
use Rattle.semantics.specs.Graph.{Graph, Flow, flow_of, first_cell}
use Rattle.semantics.specs.Text.{IsText}
use Rattle.semantics.specs.WellFormed.{WellFormed}
use Rattle.semantics.specs.Meaning as Meaning
use Rattle.semantics.specs.Meaning.{State, Reached, Leads, AtRest, Clashes, Context, Activity, Stood, fetch_count}
use Rattle.semantics.specs.Program.{Program, Code}
use Rattle.semantics.specs.Cause.{AllDue}
use Rattle.semantics.specs.Machine.{Size}
use Rattle.semantics.specs.Faithful.{Faithful, IsSecondStore, inputs_of, largest}
use Rattle.semantics.specs.Report.{Report, Shows, sum_below}
use Rattle.schedule.specs.declared.config.Config.{Config}
use Rattle.schedule.specs.declared.take.Take.{Take}
use Rattle.schedule.specs.Starts.{IsGood}
use Rattle.schedule.specs.Unlisted.{Quietly}
use Rattle.driver.specs.declared.order.Order.{Order}
use Rattle.driver.specs.Compiled.{IsCodeFor}
use Rattle.driver.specs.Orders.{size_of, RunsByTurns, RunsByList}

-- The report has exactly the outputs and the full cells of a memory of the meaning.
pub record ShowsMemory (r : Report) (m : Meaning.Memory) : Type 0 where
  pub outputs : (j : ℕ) (v : Option Value) → slice_get r.outputs j ≡ Some v → v ≡ m.outputs j
  pub cells : (x : ℕ) (v : Value) → Contains r.cells (x, v) ↔ (m.cells x ≡ Some v)

-- how many fetches wait for a cell that nothing has filled
abbrev pub waiting_fetches : Flow → State → ℕ
waiting_fetches fl s = sum_below (sum fl.arrays) (λ x. fetch_count fl x s.tokens)

-- The report shows the only outcome of the meaning: a state at rest to which every other run of the meaning can be continued, while no run meets a
-- second store. Its deferred readers are the fetches that wait in that state, and where none waits no frame is out.
pub record IsOutcome (fl : Flow) (inputs : List ℤ) (r : Report) : Type 0 where
  pub state : State
  pub reached : Reached fl inputs state
  pub shown : ShowsMemory r state.memory
  pub at_rest : AtRest fl state
  pub leads : (other : State) → Reached fl inputs other → Leads fl other state
  pub no_clash : (other : State) (x : ℕ) → Reached fl inputs other → Clashes fl other x → ⊥
  pub deferred : r.deferred ≡ waiting_fetches fl state
  pub frames : r.deferred ≡ 0 → r.frames_out ≡ 0

-- The events are bounded by the meaning: it has a run that calls for these invocations besides main, all different, and the report's events are at
-- most 6 for each of them and main and each instruction of the largest code block, its end included.
pub record IsBoundedByMeaning (fl : Flow) (inputs : List ℤ) (p : Program) (r : Report) : Type 0 where
  pub run : List Activity
  pub state : State
  pub is_run : Meaning.Run fl (Meaning.start inputs) run state
  pub shown : ShowsMemory r state.memory
  pub contexts : List Context
  pub called_for : AllDue fl run (Stood fl (Meaning.start inputs) run state is_run) contexts
  pub events : length r.events ≤ 6 * (largest p.blocks + 1) * (1 + length contexts)

-- What the report of a run of faithful code says of the meaning.
pub record ReportsMeaning (fl : Flow) (inputs : List ℤ) (p : Program) (r : Report) : Type 0 where
  pub faithful : Faithful fl p
  -- whatever its end, its outputs and cells are those of a state that the meaning reaches
  pub reached : (s : State) × Reached fl inputs s × ShowsMemory r s.memory
  -- at rest, with no request waiting, they are those of the meaning's only outcome
  pub rest : r.end ≡ Rest → IsOutcome fl inputs r
  -- a second store is reported only where the meaning has one, whatever the order
  pub second_store : (a i : ℕ) → r.end ≡ Clash a i → IsSecondStore fl inputs (first_cell fl a + i)
  -- no token meets a case that its rule excludes
  pub matching : (n : ℕ) → r.end ≡ Stuck n → ⊥
  -- and the run is no longer than the meaning's invocations allow
  pub bounded : IsBoundedByMeaning fl inputs p r

-- The report is of a run of the compiler's code for the graph that the text has, and it reports on the meaning. `by_list`: the order of the run was
-- a list. `may_stop`: a gate may have stopped it.
pub record ReportsOf (text : List ℕ) (g : Graph) (inputs : List ℤ) (z : Size) (steps : ℕ) (by_list may_stop : Bool) (r : Report) : Type 0 where
  pub is_text : IsText text g
  pub well_formed : WellFormed g
  pub inputs_fit : length inputs ≡ inputs_of (flow_of g)
  pub code : Code
  pub made : IsCodeFor g code
  pub shows : Shows code.program z inputs steps by_list may_stop r
  pub truth : ReportsMeaning (flow_of g) inputs code.program r

-- THE HEADLINE, of a run in which the elements take turns, each with its oldest token, or so that few frames are needed
abbrev pub ReportsTruth : Take → List ℕ → Graph → List ℤ → Config → Report → Type 0
ReportsTruth take text g inputs c r = (truth : ReportsOf text g inputs (size_of c) c.steps false false r) × RunsByTurns take truth.code.program c inputs r

-- and of a run in the order of a list of elements and picks
abbrev pub ReportsTruthByList : List ℕ → Graph → List ℤ → Config → List (ℕ × ℕ) → Report → Type 0
ReportsTruthByList text g inputs c picks r = (truth : ReportsOf text g inputs (size_of c) c.steps true false r) × RunsByList picks truth.code.program c inputs r

-- and of a run whose elements are threads, in rounds or free, and ask a gate: the order of their steps is any
abbrev pub ReportsTruthInThreads : List ℕ → Graph → List ℤ → Config → Bool → Report → Type 0
ReportsTruthInThreads text g inputs c may_stop r = ReportsOf text g inputs (size_of c) c.steps false may_stop r

-- in each order
abbrev pub ReportsTruthIn : Order → List ℕ → Graph → List ℤ → Config → Bool → Report → Type 0
ReportsTruthIn (Order.InTurn take) text g inputs c may_stop r = ReportsTruth take text g inputs c r
ReportsTruthIn (Order.InRounds take) text g inputs c may_stop r = ReportsTruthInThreads text g inputs c may_stop r
ReportsTruthIn (Order.Free take) text g inputs c may_stop r = ReportsTruthInThreads text g inputs c may_stop r

-- only threads ask the gate
abbrev pub stops_in : Order → Bool → Bool
stops_in (Order.InTurn take) may_stop = false
stops_in (Order.InRounds take) may_stop = may_stop
stops_in (Order.Free take) may_stop = may_stop

-- RUNS OF ANY LENGTH, whose report lists no events: with those of some run it says what a report that lists them says in this order.
abbrev pub ReportsQuietly : Order → List ℕ → Graph → List ℤ → Config → Bool → Report → Type 0
ReportsQuietly order text g inputs c may_stop r = IsGood c × (0 < c.frames) × Quietly (ReportsTruthIn order text g inputs c may_stop) r
