-- A report of the text of a lowered program's graph shows the program.
use Rattle.std.proofs.Common.{◌≡◌, ℕ, Bool, ℤ, List, length, map, Option, Some, Ok, Contains, ◌↔◌, refl, sym, ap, ◌∙◌}
use Rattle.std.specs.Prelude.{slice_get}
use Rattle.tags.specs.declared.value.Value.{Value}
use Rattle.semantics.specs.declared.report.End.TheVariants.{Rest}
use Rattle.semantics.specs.Graph.{Graph, Flow, flow_of}
use Rattle.semantics.specs.Machine.{Size}
use Rattle.semantics.specs.Report.{Report}
use Rattle.semantics.specs.Text.{text_of}
use Rattle.schedule.specs.declared.config.Config.{Config}
use Rattle.schedule.specs.Unlisted.{with_events}
use Rattle.driver.specs.declared.order.Order.{Order}
use Rattle.law_confluence.proofs.EquationsNoneWaits.{none_waits}
use Rattle.source.specs.Tokens.{program_of}
use Rattle.source.specs.Tree.{Program}
use Rattle.source.specs.Lowered.{origin_of}
use Rattle.source.specs.Theorem.{RestsWell, Computes}
use Rattle.law_language.specs.MeansTheorem.{IsLoweredText}
use Rattle.law_language.proofs.MeansTheorem.{texts_keep_meaning}
use Rattle.lowered_text.specs.Lowers.{Lowers}
use Rattle.driver.specs.Compiled.{flow_outputs, outputs_in}
use Rattle.driver.specs.Headline.{IsOutcome, ReportsOf, ReportsTruthIn, ReportsQuietly}
use Rattle.programs.specs.Promise.{ShowsProgram}
use Rattle.programs.proofs.Outputs.{main_block, is_main, has_outputs, all_some}

-- the program with its tokens, its graph, and the origins that lowering gives
pub lowered_text : (text : List ℕ) (p : Program) (g : Graph) → Lowers text p g → IsLoweredText (program_of text) p g (origin_of p)
lowered_text text p g h =
    let good = h.lowered.good in
    record {
      tokens = good.program.tokens;
      read = good.program.lexed;
      spelled = good.program.parses.spelled;
      lowered = record {
        good = record { fits = good.program.parses.fits; end = length (program_of text); checked = good.checked };
        graph = h.lowered.lowered;
        origins = λ at. refl;
      };
    }

-- at rest, with no fetch waiting
pub outcome_rests : (fl : Flow) (inputs : List ℤ) (r : Report) (o : IsOutcome fl inputs r) → r.deferred ≡ 0 → RestsWell fl inputs o.state
outcome_rests fl inputs r o none = record {
  reached = o.reached;
  at_rest = o.at_rest;
  no_clash = λ x. o.no_clash o.state x o.reached;
  none_waits = sym o.deferred ∙ none;
}

-- The report has the outputs and the stores of an evaluation over the memory of its outcome.
pub evaluation_shown : (text : List ℕ) (p : Program) (g : Graph) → Lowers text p g
    → (inputs : List ℤ) (z : Size) (steps : ℕ) (by_list may_stop : Bool) (r : Report) (t : ReportsOf (text_of g) g inputs z steps by_list may_stop r)
    → (o : IsOutcome (flow_of g) inputs r) → r.deferred ≡ 0 → (k : Computes p (origin_of p) inputs o.state.memory)
    → (r.outputs ≡ map (λ v. Some v) k.outputs) × ((x : ℕ) (v : Value) → Contains r.cells (x, v) ↔ Contains k.stores (x, v))
evaluation_shown text p g h inputs z steps by_list may_stop r t o none k =
    let low = lowered_text text p g h in
    let rests = outcome_rests (flow_of g) inputs r o none in
    let idle = none_waits (flow_of g) o.state.tokens rests.none_waits in
    let its = is_main (program_of text) p g (origin_of p) low t.well_formed inputs t.inputs_fit o.reached.run o.state o.reached.is_run o.at_rest
    rests.no_clash idle
    o.state.memory.cells _ k.outputs k.stores k.main in
    let many = has_outputs (program_of text) p g (origin_of p) low t.well_formed inputs t.inputs_fit o.reached.run o.state o.reached.is_run o.at_rest
    rests.no_clash idle
    o.state.memory.cells _ k.outputs k.stores k.main in
    let count : length r.outputs ≡ length k.outputs = t.shows.picture.output_count ∙ t.made.outputs ∙ ap outputs_in its ∙ many in (
      all_some r.outputs k.outputs count (λ j v e. o.shown.outputs j v e ∙ k.shown j),
      λ x v. ((λ e. (k.filled x v).1 ((o.shown.cells x v).0 e)), (λ e. (o.shown.cells x v).1 ((k.filled x v).0 e))),
    )

pub report_shows : (text : List ℕ) (p : Program) (g : Graph) → Lowers text p g
    → (inputs : List ℤ) (z : Size) (steps : ℕ) (by_list may_stop : Bool) (r : Report)
    → ReportsOf (text_of g) g inputs z steps by_list may_stop r → r.end ≡ Rest → r.deferred ≡ 0 → ShowsProgram p inputs r
report_shows text p g h inputs z steps by_list may_stop r t rest none =
    let low = lowered_text text p g h in
    let o = t.truth.rest rest in
    let k : Computes p (origin_of p) inputs o.state.memory = texts_keep_meaning (program_of text) p g (origin_of p) low t.well_formed inputs
    t.inputs_fit o.state (outcome_rests (flow_of g) inputs r o none) in
    let shown = evaluation_shown text p g h inputs z steps by_list may_stop r t o none k in
    record { memory = o.state.memory; computes = k; outputs = shown.0; cells = shown.1 }

pub mode_shows : (text : List ℕ) (p : Program) (g : Graph) → Lowers text p g
    → (order : Order) (inputs : List ℤ) (c : Config) (may_stop : Bool) (r : Report)
    → ReportsTruthIn order (text_of g) g inputs c may_stop r → r.end ≡ Rest → r.deferred ≡ 0 → ShowsProgram p inputs r
mode_shows text p g h (Order.InTurn take) inputs c may_stop r t = report_shows text p g h inputs _ _ _ _ r t.0
mode_shows text p g h (Order.InRounds take) inputs c may_stop r t = report_shows text p g h inputs _ _ _ _ r t
mode_shows text p g h (Order.Free take) inputs c may_stop r t = report_shows text p g h inputs _ _ _ _ r t

-- the events of a report have no part in it
pub quiet_shows : (text : List ℕ) (p : Program) (g : Graph) → Lowers text p g
    → (order : Order) (inputs : List ℤ) (c : Config) (may_stop : Bool) (r : Report)
    → ReportsQuietly order (text_of g) g inputs c may_stop r → r.end ≡ Rest → r.deferred ≡ 0 → ShowsProgram p inputs r
quiet_shows text p g h order inputs c may_stop r t rest none =
    let v = mode_shows text p g h order inputs c may_stop (with_events r t.2.1) t.2.2 rest none in
    record { memory = v.memory; computes = v.computes; outputs = v.outputs; cells = v.cells }
