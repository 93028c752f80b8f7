-- A program that reads each cell behind its store: its report ends at rest and has what its evaluation computes.
use Rattle.std.proofs.Common.{◌≡◌, ℕ, Bool, false, ℤ, List, [], ◌∷◌, map, Some, Contains, ◌↔◌, sym, ◌∙◌, subst}
use Rattle.tags.specs.declared.value.Value.{Value}
use Rattle.semantics.specs.declared.report.End.TheVariants.{Rest}
use Rattle.semantics.specs.Graph.{Graph, Flow, flow_of}
use Rattle.semantics.specs.Meaning as Meaning
use Rattle.semantics.specs.Meaning.{State, Activity, Run, AtRest}
use Rattle.semantics.specs.Machine.{Size}
use Rattle.semantics.specs.Report.{Report}
use Rattle.semantics.specs.Text.{text_of}
use Rattle.schedule.specs.declared.config.Config.{Config}
use Rattle.schedule.specs.Unlisted.{with_events}
use Rattle.driver.specs.declared.order.Order.{Order}
use Rattle.source.specs.Tree.{Program}
use Rattle.source.specs.Lowered.{origin_of}
use Rattle.source.specs.Theorem.{RestsWell, Computes}
use Rattle.source.specs.Tokens.{program_of}
use Rattle.lowered_text.specs.Lowers.{Lowers}
use Rattle.law_compiler.specs.Objects.{plan_of}
use Rattle.law_completion.specs.Total.{IsNotCut, Completes}
use Rattle.law_loops_complete.specs.LoopsComplete.{HasSpace}
use Rattle.law_ordered_runs.specs.InOrderCompletes.{EvaluatesInOrder, ProgramsComeToRest, calls_and_turns}
use Rattle.driver.specs.Headline.{ReportsOf, ReportsTruthIn, ReportsQuietly}
use Rattle.driver.specs.Orders.{size_of}
use Rattle.driver.proofs.Completed.{kept_order_suffices_quietly}
use Rattle.programs.specs.InOrder.{OrderedProgramsComplete}
use Rattle.programs.proofs.Completed.{quiet_fit}
use Rattle.programs.proofs.Shown.{lowered_text, evaluation_shown}

-- a state at rest leads to itself alone
same_rest : (fl : Flow) (s t : State) → AtRest fl s → (run : List Activity) → Run fl s run t → s.memory ≡ t.memory
same_rest fl s t rests [] r = r.1
same_rest fl s t rests (a ∷ run) r = absurd (rests a r.0 r.1)

-- The report shows what the program computes over the memory in which its meaning rests.
module _ (text : List ℕ) (p : Program) (g : Graph) (h : Lowers text p g) (inputs : List ℤ) (m : Meaning.Memory) (k : Computes p (origin_of p) inputs m)
    (s : State) (rests : RestsWell (flow_of g) inputs s) (same : s.memory ≡ m) where
  abbrev Shown : Report → Type 0
  Shown r = (r.outputs ≡ map (λ v. Some v) k.outputs) × ((x : ℕ) (v : Value) → Contains r.cells (x, v) ↔ Contains k.stores (x, v))

  report_shown : (z : Size) (steps : ℕ) (by_list may_stop : Bool) (r : Report) → ReportsOf (text_of g) g inputs z steps by_list may_stop r → r.end ≡ Rest
      → r.deferred ≡ 0 → Shown r
  report_shown z steps by_list may_stop r t rest none =
      let o = t.truth.rest rest in
      let leads = o.leads s rests.reached in
      let its : o.state.memory ≡ m = sym (same_rest (flow_of g) s o.state rests.at_rest leads.0 leads.1) ∙ same in
      subst
      (λ (m : Meaning.Memory). (k : Computes p (origin_of p) inputs m)
      → (r.outputs ≡ map (λ v. Some v) k.outputs) × ((x : ℕ) (v : Value) → Contains r.cells (x, v) ↔ Contains k.stores (x, v))) its
      (λ k. evaluation_shown text p g h inputs z steps by_list may_stop r t o none k) k

  pub mode_shown : (order : Order) (c : Config) (may_stop : Bool) (r : Report) → ReportsTruthIn order (text_of g) g inputs c may_stop r → r.end ≡ Rest
      → r.deferred ≡ 0 → Shown r
  mode_shown (Order.InTurn take) c may_stop r t = report_shown _ _ _ _ r t.0
  mode_shown (Order.InRounds take) c may_stop r t = report_shown _ _ _ _ r t
  mode_shown (Order.Free take) c may_stop r t = report_shown _ _ _ _ r t

-- A report of the program's graph that was not cut off, by whatever means it was made
pub quiet_arrives : ProgramsComeToRest → (text : List ℕ) (p : Program) (g : Graph) → Lowers text p g → (order : Order) (inputs : List ℤ) (c : Config)
    (may_stop : Bool) (r : Report) → ReportsQuietly order (text_of g) g inputs c may_stop r → (k : EvaluatesInOrder p (origin_of p) inputs)
    → HasSpace (plan_of g).program (size_of c) c.steps (calls_and_turns k) → IsNotCut false r
    → Completes r × (r.outputs ≡ map (λ v. Some v) k.computes.outputs) × ((x : ℕ) (v : Value) → Contains r.cells (x, v) ↔ Contains k.computes.stores (x, v))
quiet_arrives come text p g lowers order inputs c may_stop r truth k space uncut =
    let low = lowered_text text p g lowers in
    let fits = quiet_fit order (text_of g) g inputs c may_stop r truth in
    let at = come (program_of text) p g (origin_of p) low lowers.well_formed inputs fits k in
    let v = kept_order_suffices_quietly order (text_of g) g inputs c may_stop r truth _ _
    (record { state = at.state; rests = at.rests; calls = at.calls }) at.within space uncut in
    let shown = mode_shown text p g lowers inputs k.memory k.computes at.state at.rests at.memory order c may_stop (with_events r truth.2.1) truth.2.2 v.rest
    v.none_waits in
    (v, shown.0, shown.1)

pub ordered_programs_complete : ProgramsComeToRest → OrderedProgramsComplete
ordered_programs_complete come order text inputs c may_stop r report k space uncut =
    let v = quiet_arrives come text report.program report.graph report.lowers order inputs c may_stop r report.truth k space uncut in
    (v.0, report.shows v.0.rest v.0.none_waits, v.1, v.2)
