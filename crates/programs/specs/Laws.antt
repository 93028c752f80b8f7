-- WHAT FOLLOWS FOR WHO TAKES THE STEPS ALONE: lowers a program, and runs the text of the graph in any way.
use Rattle.std.specs.Prelude.{◌≡◌, ℕ, ◌+◌, Bool, false, ℤ, List}
use Rattle.semantics.specs.declared.report.End.TheVariants.{Rest}
use Rattle.semantics.specs.Graph.{Graph, flow_of}
use Rattle.semantics.specs.Meaning.{State}
use Rattle.semantics.specs.Machine.{Size}
use Rattle.semantics.specs.Report.{Report}
use Rattle.semantics.specs.Text.{HasText, text_of}
use Rattle.schedule.specs.declared.config.Config.{Config}
use Rattle.driver.specs.declared.order.Order.{Order}
use Rattle.source.specs.Tree.{Program}
use Rattle.source.specs.Lowered.{origin_of}
use Rattle.source.specs.Theorem.{RestsWell, Computes}
use Rattle.lowered_text.specs.Lowers.{Lowers}
use Rattle.law_compiler.specs.Objects.{plan_of}
use Rattle.law_completion.specs.Total.{IsNotCut, Completes}
use Rattle.law_completion.specs.TotalGraph.{NeedsAtMost, IsLargeEnough}
use Rattle.law_completion.specs.TotalProgram.{Count, count_of}
use Rattle.law_loops_complete.specs.LoopsComplete.{NoneOutgrows, HasSpace}
use Rattle.law_loops_complete.specs.Within.{SomeKeepsWithin}
use Rattle.driver.specs.declared.fault.Fault.{Fault}
use Rattle.driver.specs.Orders.{size_of}
use Rattle.driver.specs.Headline.{ReportsOf, ReportsTruthIn, ReportsQuietly}
use Rattle.driver.specs.Refused.{IsRefused}
use Rattle.programs.specs.Promise.{ShowsProgram, ReportsProgram}
use Rattle.programs.specs.Refused.{IsNotRun}

-- A report of which the headline holds, of the text of a lowered program's graph, shows the program where it ends at rest with no
-- deferred reader: of a run in any order,
abbrev pub ReportsShowPrograms : Type 0
ReportsShowPrograms = (text : List ℕ) (p : Program) (g : Graph) → Lowers text p g
    → (inputs : List ℤ) (z : Size) (steps : ℕ) (by_list may_stop : Bool) (r : Report)
    → ReportsOf (text_of g) g inputs z steps by_list may_stop r → r.end ≡ Rest → r.deferred ≡ 0 → ShowsProgram p inputs r

-- in each order,
abbrev pub ModesShowPrograms : Type 0
ModesShowPrograms = (text : List ℕ) (p : Program) (g : Graph) → Lowers text p g
    → (order : Order) (inputs : List ℤ) (c : Config) (may_stop : Bool) (r : Report)
    → ReportsTruthIn order (text_of g) g inputs c may_stop r → r.end ≡ Rest → r.deferred ≡ 0 → ShowsProgram p inputs r

-- and where the report lists no events.
abbrev pub QuietReportsShowPrograms : Type 0
QuietReportsShowPrograms = (text : List ℕ) (p : Program) (g : Graph) → Lowers text p g
    → (order : Order) (inputs : List ℤ) (c : Config) (may_stop : Bool) (r : Report)
    → ReportsQuietly order (text_of g) g inputs c may_stop r → r.end ≡ Rest → r.deferred ≡ 0 → ShowsProgram p inputs r

-- What refuses a run of the graph, which has a text, refuses a run of that text.
abbrev pub RefusalsAreTheTexts : Type 0
RefusalsAreTheTexts = (text : List ℕ) (p : Program) (g : Graph) → Lowers text p g → HasText g
    → (inputs : List ℤ) (c : Config) (f : Fault) → IsNotRun g inputs c f → IsRefused (text_of g) inputs c f

-- WHICH PROGRAMS' RUNS COMPLETE. Where the machine is large enough for what the meaning of the program's graph calls for, the report of a run that was
-- not cut off ends at rest with no deferred reader, and so shows the program.
abbrev pub ProgramsComplete : Type 0
ProgramsComplete = (order : Order) (text : List ℕ) (inputs : List ℤ) (c : Config) (may_stop : Bool) (r : Report)
    → (report : ReportsProgram order text inputs c may_stop r) → (d t : ℕ) → NeedsAtMost report.graph inputs d t
    → IsLargeEnough report.graph (plan_of report.graph).program (size_of c) c.steps d t → IsNotCut false r
    → Completes r × ShowsProgram report.program inputs r

-- What the machine needs is counted in the program's own evaluation, which knows no graph. Where the meaning of its graph rests well the program has an
-- evaluation over its memory; and where the machine has a frame for main, for each call and for each iteration of it, and steps and credits for these,
-- the report shows the program.
abbrev pub CountedProgramsComplete : Type 0
CountedProgramsComplete = (order : Order) (text : List ℕ) (inputs : List ℤ) (c : Config) (may_stop : Bool) (r : Report)
    → (report : ReportsProgram order text inputs c may_stop r) → (s : State) → RestsWell (flow_of report.graph) inputs s
    → (k : Computes report.program (origin_of report.program) inputs s.memory)
    → IsLargeEnough report.graph (plan_of report.graph).program (size_of c) c.steps
    ((count_of report.program (origin_of report.program) inputs s.memory k).calls
    + (count_of report.program (origin_of report.program) inputs s.memory k).turns)
    (count_of report.program (origin_of report.program) inputs s.memory k).turns
    → IsNotCut false r → Completes r × ShowsProgram report.program inputs r

-- LOOP BY LOOP. The same, where no loop of the program's graph outgrows its bound: where each bound is at least the iterations of its own loop, in one
-- invocation. The frames and the steps are counted in the program's own evaluation.
abbrev pub OwnBoundsSufficeProgram : Type 0
OwnBoundsSufficeProgram = (order : Order) (text : List ℕ) (inputs : List ℤ) (c : Config) (may_stop : Bool) (r : Report)
    → (report : ReportsProgram order text inputs c may_stop r) → (s : State) → RestsWell (flow_of report.graph) inputs s
    → (k : Computes report.program (origin_of report.program) inputs s.memory) → NoneOutgrows (flow_of report.graph) inputs
    → HasSpace (plan_of report.graph).program (size_of c) c.steps
    ((count_of report.program (origin_of report.program) inputs s.memory k).calls
    + (count_of report.program (origin_of report.program) inputs s.memory k).turns)
    → IsNotCut false r → Completes r × ShowsProgram report.program inputs r

-- WHICH ORDERS. The same, where some run of the meaning of the program's graph to its end keeps each loop within its bound.
abbrev pub KeptOrderSufficesProgram : Type 0
KeptOrderSufficesProgram = (order : Order) (text : List ℕ) (inputs : List ℤ) (c : Config) (may_stop : Bool) (r : Report)
    → (report : ReportsProgram order text inputs c may_stop r) → (s : State) → RestsWell (flow_of report.graph) inputs s
    → (k : Computes report.program (origin_of report.program) inputs s.memory) → SomeKeepsWithin (flow_of report.graph) inputs
    → HasSpace (plan_of report.graph).program (size_of c) c.steps
    ((count_of report.program (origin_of report.program) inputs s.memory k).calls
    + (count_of report.program (origin_of report.program) inputs s.memory k).turns)
    → IsNotCut false r → Completes r × ShowsProgram report.program inputs r
