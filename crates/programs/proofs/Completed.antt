-- A program's run over a machine that is large enough shows the program.
use Rattle.std.proofs.Common.{ℕ, Bool, ℤ, List}
use Rattle.semantics.specs.Graph.{Graph}
use Rattle.semantics.specs.Report.{Report}
use Rattle.semantics.specs.Text.{text_of}
use Rattle.schedule.specs.declared.config.Config.{Config}
use Rattle.schedule.specs.Unlisted.{with_events}
use Rattle.driver.specs.declared.order.Order.{Order}
use Rattle.source.specs.Lowered.{origin_of}
use Rattle.source.specs.Tokens.{program_of}
use Rattle.law_confluence.specs.Outcome.{AreInputsOf}
use Rattle.law_program_counts.specs.ProgramCounts.{TextsCallForCounted}
use Rattle.driver.specs.Headline.{ReportsTruthIn, ReportsQuietly}
use Rattle.driver.proofs.Completed.{quiet_completes, own_bounds_suffice_quietly, kept_order_suffices_quietly}
use Rattle.programs.specs.Laws.{ProgramsComplete, CountedProgramsComplete, OwnBoundsSufficeProgram, KeptOrderSufficesProgram}
use Rattle.programs.proofs.Shown.{lowered_text}

pub programs_complete : ProgramsComplete
programs_complete order text inputs c may_stop r report d t needs large uncut =
    let v = quiet_completes order (text_of report.graph) report.graph inputs c may_stop r report.truth d t needs large uncut in
    (v, report.shows v.rest v.none_waits)

fit : (order : Order) (text : List ℕ) (g : Graph) (inputs : List ℤ) (c : Config) (may_stop : Bool) (r : Report)
    → ReportsTruthIn order text g inputs c may_stop r → AreInputsOf g inputs
fit (Order.InTurn take) text g inputs c may_stop r h = h.0.inputs_fit
fit (Order.InRounds take) text g inputs c may_stop r h = h.inputs_fit
fit (Order.Free take) text g inputs c may_stop r h = h.inputs_fit

pub quiet_fit : (order : Order) (text : List ℕ) (g : Graph) (inputs : List ℤ) (c : Config) (may_stop : Bool) (r : Report)
    → ReportsQuietly order text g inputs c may_stop r → AreInputsOf g inputs
quiet_fit order text g inputs c may_stop r h = fit order text g inputs c may_stop (with_events r h.2.1) h.2.2

-- the meaning of its graph calls for just the calls and the iterations of the evaluation
pub counted_programs_complete : TextsCallForCounted → CountedProgramsComplete
counted_programs_complete counted order text inputs c may_stop r report s rests k large uncut =
    let low = lowered_text text report.program report.graph report.lowers in
    let fits = quiet_fit order (text_of report.graph) report.graph inputs c may_stop r report.truth in
    let calls = counted (program_of text) report.program report.graph (origin_of report.program) low report.lowers.well_formed inputs fits s rests k in
    programs_complete order text inputs c may_stop r report _ _ (record { state = s; rests = rests; calls = calls.at_most }) large uncut

-- and each loop needs credits for its own iterations alone
pub own_bounds_suffice : TextsCallForCounted → OwnBoundsSufficeProgram
own_bounds_suffice counted order text inputs c may_stop r report s rests k none space uncut =
    let low = lowered_text text report.program report.graph report.lowers in
    let fits = quiet_fit order (text_of report.graph) report.graph inputs c may_stop r report.truth in
    let calls = counted (program_of text) report.program report.graph (origin_of report.program) low report.lowers.well_formed inputs fits s rests k in
    let v = own_bounds_suffice_quietly order (text_of report.graph) report.graph inputs c may_stop r report.truth _ _
    (record { state = s; rests = rests; calls = calls.at_most }) none space uncut in
    (v, report.shows v.rest v.none_waits)

-- and it is enough that some run of the meaning keeps within
pub kept_order_suffices : TextsCallForCounted → KeptOrderSufficesProgram
kept_order_suffices counted order text inputs c may_stop r report s rests k within space uncut =
    let low = lowered_text text report.program report.graph report.lowers in
    let fits = quiet_fit order (text_of report.graph) report.graph inputs c may_stop r report.truth in
    let calls = counted (program_of text) report.program report.graph (origin_of report.program) low report.lowers.well_formed inputs fits s rests k in
    let v = kept_order_suffices_quietly order (text_of report.graph) report.graph inputs c may_stop r report.truth _ _
    (record { state = s; rests = rests; calls = calls.at_most }) within space uncut in
    (v, report.shows v.rest v.none_waits)
