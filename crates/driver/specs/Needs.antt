-- WHAT A MACHINE NEEDS so that each run of a graph on these inputs completes, in every order: counted in one run of the meaning.
use Rattle.std.specs.Prelude.{◌≡◌, ◌≢◌, ℕ, ◌+◌, ◌*◌, ◌^◌, ◌<◌, ◌≤◌, ◌⊎◌, Bool, false, ℤ, List, [], length}
use Rattle.semantics.specs.Faithful.{largest}
use Rattle.semantics.specs.Graph.{Graph, flow_of}
use Rattle.semantics.specs.Machine.{Size}
use Rattle.semantics.specs.Report.{Report}
use Rattle.schedule.specs.declared.config.Config.{Config}
use Rattle.driver.specs.declared.order.Order.{Order}
use Rattle.law_compiler.specs.Objects.{plan_of}
use Rattle.law_completion.specs.Total.{LoopsHave, IsNotCut, Completes}
use Rattle.oracle.specs.Calling.{CallsFor, Rests}
use Rattle.oracle.specs.Lines.{inputs_at}
use Rattle.oracle.specs.Running.{Plain, main_place}
use Rattle.driver.specs.Orders.{size_of}
use Rattle.driver.specs.Headline.{ReportsOf, ReportsTruthIn, ReportsQuietly}
use Rattle.driver.specs.declared.needs.EnoughFrames.{EnoughFrames}

-- more than all events of the graph's code, if the meaning calls for that many invocations beside main
abbrev pub least_steps : ℕ → ℕ → ℕ
least_steps instructions called = 6 * (instructions + 1) * (1 + called) + 1

-- One run of the meaning, of at most `activities` activities, comes to rest with no fetch waiting. A frame for main and one for each invocation that it
-- calls for, of which these are iterations; and the least limit above the most events that these can make.
pub record AreNeedsOf (g : Graph) (inputs : List ℤ) (activities frames steps iterations : ℕ) : Type 0 where
  pub called : ℕ
  pub calls : CallsFor g inputs activities called iterations
  pub frames_are : frames ≡ 1 + called
  pub steps_are : steps ≡ least_steps (largest (plan_of g).program.blocks) called

-- Why they are not told: the inputs are not main's, the run of the meaning does not come to rest with no fetch waiting, or the steps are no number of 128 bits.
abbrev pub AreUntold : Graph → List ℤ → ℕ → Type 0
AreUntold g inputs activities = (length inputs ≢ inputs_at g (main_place g)) ⊎ ((s : Plain) → Rests g inputs activities s → s.deferred ≢ [])
    ⊎ ((called : ℕ) × (iterations : ℕ) × CallsFor g inputs activities called iterations
    × (2 ^ 128 ≤ least_steps (largest (plan_of g).program.blocks) called))

-- The machine has them, and each loop's bound is at least the iterations of all loops.
pub record HasNeeds (g : Graph) (z : Size) (limit frames steps iterations : ℕ) : Type 0 where
  pub frames_fit : frames ≤ z.elements * z.frames
  pub steps_fit : steps ≤ limit
  pub bounds : LoopsHave (flow_of g) iterations

-- Then each report of which the headline holds, that was not cut off, ends at rest with no deferred reader, in every order,
abbrev pub NeedsSuffice : Type 0
NeedsSuffice = (text : List ℕ) (g : Graph) (inputs : List ℤ) (z : Size) (limit : ℕ) (by_list may_stop : Bool) (r : Report)
    → ReportsOf text g inputs z limit by_list may_stop r → (activities frames steps iterations : ℕ) → AreNeedsOf g inputs activities frames steps iterations
    → HasNeeds g z limit frames steps iterations → IsNotCut by_list r → Completes r

-- in each order,
abbrev pub NeedsSufficeInModes : Type 0
NeedsSufficeInModes = (order : Order) (text : List ℕ) (g : Graph) (inputs : List ℤ) (c : Config) (may_stop : Bool) (r : Report)
    → ReportsTruthIn order text g inputs c may_stop r → (activities frames steps iterations : ℕ) → AreNeedsOf g inputs activities frames steps iterations
    → HasNeeds g (size_of c) c.steps frames steps iterations → IsNotCut false r → Completes r

-- and where the report lists no events.
abbrev pub NeedsSufficeQuietly : Type 0
NeedsSufficeQuietly = (order : Order) (text : List ℕ) (g : Graph) (inputs : List ℤ) (c : Config) (may_stop : Bool) (r : Report)
    → ReportsQuietly order text g inputs c may_stop r → (activities frames steps iterations : ℕ) → AreNeedsOf g inputs activities frames steps iterations
    → HasNeeds g (size_of c) c.steps frames steps iterations → IsNotCut false r → Completes r

-- FRAMES FOR EACH ELEMENT: the least number with which the elements have so many together.
pub record IsLeastEach (elements frames each : ℕ) : Type 0 where
  pub enough : frames ≤ elements * each
  pub least : (fewer : ℕ) → frames ≤ elements * fewer → each ≤ fewer

-- An element has at most 1024. Of so many frames together:
abbrev pub AreFramesFor : ℕ → ℕ → EnoughFrames → Type 0
AreFramesFor elements frames (EnoughFrames.Each n) = IsLeastEach elements frames n × (n ≤ 1024)
AreFramesFor elements frames (EnoughFrames.TooMany all) = (all ≡ frames) × (elements * 1024 < frames)
AreFramesFor elements frames EnoughFrames.Untold = ⊥

-- ENOUGH FRAMES, as one run of the meaning, of at most `activities` activities, tells: for main and for each invocation that it calls for. It tells none
-- where it does not come to rest with no fetch waiting.
abbrev pub AreEnough : Graph → List ℤ → ℕ → ℕ → EnoughFrames → Type 0
AreEnough g inputs activities elements EnoughFrames.Untold = (s : Plain) → Rests g inputs activities s → s.deferred ≢ []
AreEnough g inputs activities elements frames =
    (called : ℕ) × (iterations : ℕ) × CallsFor g inputs activities called iterations × AreFramesFor elements (1 + called) frames

-- With enough frames no request for a frame waits when a run ends, in whatever order: each report of which the headline holds has none,
abbrev pub FramesAreNotWanted : Type 0
FramesAreNotWanted = (text : List ℕ) (g : Graph) (inputs : List ℤ) (z : Size) (limit : ℕ) (by_list may_stop : Bool) (r : Report)
    → ReportsOf text g inputs z limit by_list may_stop r → (activities called iterations : ℕ) → CallsFor g inputs activities called iterations
    → 1 + called ≤ z.elements * z.frames → r.waiting_frames ≡ 0

-- in each order,
abbrev pub FramesAreNotWantedInModes : Type 0
FramesAreNotWantedInModes = (order : Order) (text : List ℕ) (g : Graph) (inputs : List ℤ) (c : Config) (may_stop : Bool) (r : Report)
    → ReportsTruthIn order text g inputs c may_stop r → (activities called iterations : ℕ) → CallsFor g inputs activities called iterations
    → 1 + called ≤ c.elements * c.frames → r.waiting_frames ≡ 0

-- and where the report lists no events.
abbrev pub FramesAreNotWantedQuietly : Type 0
FramesAreNotWantedQuietly = (order : Order) (text : List ℕ) (g : Graph) (inputs : List ℤ) (c : Config) (may_stop : Bool) (r : Report)
    → ReportsQuietly order text g inputs c may_stop r → (activities called iterations : ℕ) → CallsFor g inputs activities called iterations
    → 1 + called ≤ c.elements * c.frames → r.waiting_frames ≡ 0
