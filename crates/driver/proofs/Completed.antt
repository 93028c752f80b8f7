-- A report of a run over a machine that is large enough ends at rest with no deferred reader.
use Rattle.std.proofs.Common.{sym, subst, ℕ, Bool, false, true≢false, ℤ, List}
use Rattle.std.specs.Prelude.{◌≢◌}
use Rattle.semantics.specs.declared.report.End.{End}
use Rattle.semantics.specs.declared.report.End.TheVariants.{Stop}
use Rattle.semantics.specs.Graph.{Graph, flow_of}
use Rattle.semantics.specs.Machine.{Size}
use Rattle.semantics.specs.Program.{Program}
use Rattle.semantics.specs.Report.{Report, HasEnd, Shows}
use Rattle.schedule.specs.declared.config.Config.{Config}
use Rattle.schedule.specs.Unlisted.{with_events}
use Rattle.driver.specs.declared.order.Order.{Order}
use Rattle.law_compiler.specs.Objects.{plan_of}
use Rattle.law_completion.specs.Total.{IsNotCut, Completes}
use Rattle.law_completion.specs.TotalGraph.{NeedsAtMost, IsLargeEnough}
use Rattle.law_compiled_code_completes.proofs.Compiled.{compiled_code_completes}
use Rattle.law_loops_complete.specs.LoopsComplete.{NoneOutgrows, HasSpace}
use Rattle.law_loops_complete.specs.Within.{SomeKeepsWithin}
use Rattle.law_loop_credits.proofs.Waits.{compiled_loops_complete, compiled_within_completes}
use Rattle.driver.specs.Orders.{size_of}
use Rattle.driver.specs.Headline.{ReportsOf, ReportsTruthIn, ReportsQuietly}

pub report_completes : (text : List ℕ) (g : Graph) (inputs : List ℤ) (z : Size) (steps : ℕ) (by_list may_stop : Bool) (r : Report)
    → ReportsOf text g inputs z steps by_list may_stop r → (d t : ℕ) → NeedsAtMost g inputs d t → IsLargeEnough g (plan_of g).program z steps d t
    → IsNotCut by_list r → Completes r
report_completes text g inputs z steps by_list may_stop r h d t needs large uncut =
    compiled_code_completes g h.made.slots h.made.version h.is_text.1 h.well_formed h.made.assigned.good h.made.version_is inputs h.inputs_fit d t needs z steps
    large by_list may_stop r (subst (λ (p : Program). Shows p z inputs steps by_list may_stop r) h.made.program h.shows) uncut

pub mode_completes : (order : Order) (text : List ℕ) (g : Graph) (inputs : List ℤ) (c : Config) (may_stop : Bool) (r : Report)
    → ReportsTruthIn order text g inputs c may_stop r → (d t : ℕ) → NeedsAtMost g inputs d t
    → IsLargeEnough g (plan_of g).program (size_of c) c.steps d t → IsNotCut false r → Completes r
mode_completes (Order.InTurn take) text g inputs c may_stop r h = report_completes text g inputs (size_of c) c.steps false false r h.0
mode_completes (Order.InRounds take) text g inputs c may_stop r h = report_completes text g inputs (size_of c) c.steps false may_stop r h
mode_completes (Order.Free take) text g inputs c may_stop r h = report_completes text g inputs (size_of c) c.steps false may_stop r h

-- the events of a report have no part in it
pub quiet_completes : (order : Order) (text : List ℕ) (g : Graph) (inputs : List ℤ) (c : Config) (may_stop : Bool) (r : Report)
    → ReportsQuietly order text g inputs c may_stop r → (d t : ℕ) → NeedsAtMost g inputs d t
    → IsLargeEnough g (plan_of g).program (size_of c) c.steps d t → IsNotCut false r → Completes r
quiet_completes order text g inputs c may_stop r h d t needs large uncut =
    let v = mode_completes order text g inputs c may_stop (with_events r h.2.1) h.2.2 d t needs large
    record { memory = uncut.memory; gate = uncut.gate; list = uncut.list } in
    record { rest = v.rest; none_waits = v.none_waits }

-- where no loop outgrows its bound
pub own_bounds_suffice : (text : List ℕ) (g : Graph) (inputs : List ℤ) (z : Size) (steps : ℕ) (by_list may_stop : Bool) (r : Report)
    → ReportsOf text g inputs z steps by_list may_stop r → (d t : ℕ) → NeedsAtMost g inputs d t → NoneOutgrows (flow_of g) inputs
    → HasSpace (plan_of g).program z steps d → IsNotCut by_list r → Completes r
own_bounds_suffice text g inputs z steps by_list may_stop r h d t needs none space uncut =
    compiled_loops_complete g h.made.slots h.made.version h.is_text.1 h.well_formed h.made.assigned.good h.made.version_is inputs h.inputs_fit d t needs none z
    steps space by_list may_stop r (subst (λ (p : Program). Shows p z inputs steps by_list may_stop r) h.made.program h.shows) uncut

pub own_bounds_suffice_in : (order : Order) (text : List ℕ) (g : Graph) (inputs : List ℤ) (c : Config) (may_stop : Bool) (r : Report)
    → ReportsTruthIn order text g inputs c may_stop r → (d t : ℕ) → NeedsAtMost g inputs d t → NoneOutgrows (flow_of g) inputs
    → HasSpace (plan_of g).program (size_of c) c.steps d → IsNotCut false r → Completes r
own_bounds_suffice_in (Order.InTurn take) text g inputs c may_stop r h = own_bounds_suffice text g inputs (size_of c) c.steps false false r h.0
own_bounds_suffice_in (Order.InRounds take) text g inputs c may_stop r h = own_bounds_suffice text g inputs (size_of c) c.steps false may_stop r h
own_bounds_suffice_in (Order.Free take) text g inputs c may_stop r h = own_bounds_suffice text g inputs (size_of c) c.steps false may_stop r h

pub own_bounds_suffice_quietly : (order : Order) (text : List ℕ) (g : Graph) (inputs : List ℤ) (c : Config) (may_stop : Bool) (r : Report)
    → ReportsQuietly order text g inputs c may_stop r → (d t : ℕ) → NeedsAtMost g inputs d t → NoneOutgrows (flow_of g) inputs
    → HasSpace (plan_of g).program (size_of c) c.steps d → IsNotCut false r → Completes r
own_bounds_suffice_quietly order text g inputs c may_stop r h d t needs none space uncut =
    let v = own_bounds_suffice_in order text g inputs c may_stop (with_events r h.2.1) h.2.2 d t needs none space
    record { memory = uncut.memory; gate = uncut.gate; list = uncut.list } in
    record { rest = v.rest; none_waits = v.none_waits }

-- where some run of the meaning keeps within
pub kept_order_suffices : (text : List ℕ) (g : Graph) (inputs : List ℤ) (z : Size) (steps : ℕ) (by_list may_stop : Bool) (r : Report)
    → ReportsOf text g inputs z steps by_list may_stop r → (d t : ℕ) → NeedsAtMost g inputs d t → SomeKeepsWithin (flow_of g) inputs
    → HasSpace (plan_of g).program z steps d → IsNotCut by_list r → Completes r
kept_order_suffices text g inputs z steps by_list may_stop r h d t needs within space uncut =
    compiled_within_completes g h.made.slots h.made.version h.is_text.1 h.well_formed h.made.assigned.good h.made.version_is inputs h.inputs_fit d t needs within z
    steps space by_list may_stop r (subst (λ (p : Program). Shows p z inputs steps by_list may_stop r) h.made.program h.shows) uncut

pub kept_order_suffices_in : (order : Order) (text : List ℕ) (g : Graph) (inputs : List ℤ) (c : Config) (may_stop : Bool) (r : Report)
    → ReportsTruthIn order text g inputs c may_stop r → (d t : ℕ) → NeedsAtMost g inputs d t → SomeKeepsWithin (flow_of g) inputs
    → HasSpace (plan_of g).program (size_of c) c.steps d → IsNotCut false r → Completes r
kept_order_suffices_in (Order.InTurn take) text g inputs c may_stop r h = kept_order_suffices text g inputs (size_of c) c.steps false false r h.0
kept_order_suffices_in (Order.InRounds take) text g inputs c may_stop r h = kept_order_suffices text g inputs (size_of c) c.steps false may_stop r h
kept_order_suffices_in (Order.Free take) text g inputs c may_stop r h = kept_order_suffices text g inputs (size_of c) c.steps false may_stop r h

pub kept_order_suffices_quietly : (order : Order) (text : List ℕ) (g : Graph) (inputs : List ℤ) (c : Config) (may_stop : Bool) (r : Report)
    → ReportsQuietly order text g inputs c may_stop r → (d t : ℕ) → NeedsAtMost g inputs d t → SomeKeepsWithin (flow_of g) inputs
    → HasSpace (plan_of g).program (size_of c) c.steps d → IsNotCut false r → Completes r
kept_order_suffices_quietly order text g inputs c may_stop r h d t needs within space uncut =
    let v = kept_order_suffices_in order text g inputs c may_stop (with_events r h.2.1) h.2.2 d t needs within space
    record { memory = uncut.memory; gate = uncut.gate; list = uncut.list } in
    record { rest = v.rest; none_waits = v.none_waits }

-- where no gate may stop it, none did
pub never_stopped : (order : Order) (text : List ℕ) (g : Graph) (inputs : List ℤ) (c : Config) (r : Report)
    → ReportsQuietly order text g inputs c false r → r.end ≢ Stop
never_stopped order text g inputs c r h stop = go order h.2.2
  where
    no_stop : (p : Program) (z : Size) (steps : ℕ) (by_list : Bool) → Shows p z inputs steps by_list false (with_events r h.2.1) → ⊥
    no_stop p z steps by_list shows =
        true≢false (sym (subst (λ (e : End). HasEnd p z steps by_list false h.2.1 shows.last e) stop shows.ends))

    go : (order : Order) → ReportsTruthIn order text g inputs c false (with_events r h.2.1) → ⊥
    go (Order.InTurn take) truth = no_stop truth.0.code.program (size_of c) c.steps false truth.0.shows
    go (Order.InRounds take) truth = no_stop truth.code.program (size_of c) c.steps false truth.shows
    go (Order.Free take) truth = no_stop truth.code.program (size_of c) c.steps false truth.shows
