-- WHICH RUNS COMPLETE: those of a machine that is large enough for what the graph's meaning calls for. The machine needs a frame for main and for each
-- invocation that the meaning calls for, a limit above the most events that these can make, and loops whose bounds are at least their iterations.
use Rattle.std.specs.Prelude.{ℕ, Bool, false, ℤ, List}
use Rattle.semantics.specs.Graph.{Graph, flow_of}
use Rattle.semantics.specs.Machine.{Size}
use Rattle.semantics.specs.Report.{Report}
use Rattle.schedule.specs.declared.config.Config.{Config}
use Rattle.driver.specs.declared.order.Order.{Order}
use Rattle.law_compiler.specs.Objects.{plan_of}
use Rattle.law_completion.specs.Total.{IsNotCut, Completes}
use Rattle.law_completion.specs.TotalGraph.{NeedsAtMost, IsLargeEnough}
use Rattle.law_loops_complete.specs.LoopsComplete.{NoneOutgrows, HasSpace}
use Rattle.law_loops_complete.specs.Within.{SomeKeepsWithin}
use Rattle.driver.specs.Orders.{size_of}
use Rattle.driver.specs.Headline.{ReportsOf, ReportsTruthIn, ReportsQuietly}

-- A report of which the headline holds, of a run in any order, ends at rest with no deferred reader, if the meaning needs no more than the machine has,
-- and the run was not cut off.
abbrev pub ReportsComplete : Type 0
ReportsComplete = (text : List ℕ) (g : Graph) (inputs : List ℤ) (z : Size) (steps : ℕ) (by_list may_stop : Bool) (r : Report)
    → ReportsOf text g inputs z steps by_list may_stop r → (d t : ℕ) → NeedsAtMost g inputs d t → IsLargeEnough g (plan_of g).program z steps d t
    → IsNotCut by_list r → Completes r

-- So it is in each order,
abbrev pub ModesComplete : Type 0
ModesComplete = (order : Order) (text : List ℕ) (g : Graph) (inputs : List ℤ) (c : Config) (may_stop : Bool) (r : Report)
    → ReportsTruthIn order text g inputs c may_stop r → (d t : ℕ) → NeedsAtMost g inputs d t
    → IsLargeEnough g (plan_of g).program (size_of c) c.steps d t → IsNotCut false r → Completes r

-- and where the report lists no events.
abbrev pub QuietReportsComplete : Type 0
QuietReportsComplete = (order : Order) (text : List ℕ) (g : Graph) (inputs : List ℤ) (c : Config) (may_stop : Bool) (r : Report)
    → ReportsQuietly order text g inputs c may_stop r → (d t : ℕ) → NeedsAtMost g inputs d t
    → IsLargeEnough g (plan_of g).program (size_of c) c.steps d t → IsNotCut false r → Completes r

-- LOOP BY LOOP. It is enough that no loop outgrows its bound: that each bound is at least the iterations of its own loop, in one invocation. So it is for a
-- report of a run in any order,
abbrev pub OwnBoundsSuffice : Type 0
OwnBoundsSuffice = (text : List ℕ) (g : Graph) (inputs : List ℤ) (z : Size) (steps : ℕ) (by_list may_stop : Bool) (r : Report)
    → ReportsOf text g inputs z steps by_list may_stop r → (d t : ℕ) → NeedsAtMost g inputs d t → NoneOutgrows (flow_of g) inputs
    → HasSpace (plan_of g).program z steps d → IsNotCut by_list r → Completes r

-- in each order,
abbrev pub OwnBoundsSufficeIn : Type 0
OwnBoundsSufficeIn = (order : Order) (text : List ℕ) (g : Graph) (inputs : List ℤ) (c : Config) (may_stop : Bool) (r : Report)
    → ReportsTruthIn order text g inputs c may_stop r → (d t : ℕ) → NeedsAtMost g inputs d t → NoneOutgrows (flow_of g) inputs
    → HasSpace (plan_of g).program (size_of c) c.steps d → IsNotCut false r → Completes r

-- and where the report lists no events.
abbrev pub OwnBoundsSufficeQuietly : Type 0
OwnBoundsSufficeQuietly = (order : Order) (text : List ℕ) (g : Graph) (inputs : List ℤ) (c : Config) (may_stop : Bool) (r : Report)
    → ReportsQuietly order text g inputs c may_stop r → (d t : ℕ) → NeedsAtMost g inputs d t → NoneOutgrows (flow_of g) inputs
    → HasSpace (plan_of g).program (size_of c) c.steps d → IsNotCut false r → Completes r

-- WHICH ORDERS. It is enough that some run of the meaning to its end keeps each loop within its bound. So it is for a report of a run in any order,
abbrev pub KeptOrderSuffices : Type 0
KeptOrderSuffices = (text : List ℕ) (g : Graph) (inputs : List ℤ) (z : Size) (steps : ℕ) (by_list may_stop : Bool) (r : Report)
    → ReportsOf text g inputs z steps by_list may_stop r → (d t : ℕ) → NeedsAtMost g inputs d t → SomeKeepsWithin (flow_of g) inputs
    → HasSpace (plan_of g).program z steps d → IsNotCut by_list r → Completes r

-- in each order,
abbrev pub KeptOrderSufficesIn : Type 0
KeptOrderSufficesIn = (order : Order) (text : List ℕ) (g : Graph) (inputs : List ℤ) (c : Config) (may_stop : Bool) (r : Report)
    → ReportsTruthIn order text g inputs c may_stop r → (d t : ℕ) → NeedsAtMost g inputs d t → SomeKeepsWithin (flow_of g) inputs
    → HasSpace (plan_of g).program (size_of c) c.steps d → IsNotCut false r → Completes r

-- and where the report lists no events.
abbrev pub KeptOrderSufficesQuietly : Type 0
KeptOrderSufficesQuietly = (order : Order) (text : List ℕ) (g : Graph) (inputs : List ℤ) (c : Config) (may_stop : Bool) (r : Report)
    → ReportsQuietly order text g inputs c may_stop r → (d t : ℕ) → NeedsAtMost g inputs d t → SomeKeepsWithin (flow_of g) inputs
    → HasSpace (plan_of g).program (size_of c) c.steps d → IsNotCut false r → Completes r
