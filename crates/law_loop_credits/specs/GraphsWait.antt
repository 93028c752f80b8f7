-- Of the code of graphs: where an iteration waits for a credit, a loop has outgrown its bound.
use Rattle.std.specs.Prelude.{◌≡◌, ℕ, Bool, ℤ, List}
use Rattle.semantics.specs.declared.version.Version.{Version}
use Rattle.semantics.specs.Versions.{version_number}
use Rattle.semantics.specs.Graph.{Graph, flow_of}
use Rattle.semantics.specs.Text.{HasText}
use Rattle.semantics.specs.WellFormed.{WellFormed}
use Rattle.semantics.specs.Machine.{Size}
use Rattle.semantics.specs.Report.{Report, Shows}
use Rattle.semantics.specs.Sharing.{Good}
use Rattle.select.specs.Emitted.{code_of}
use Rattle.law_compiler.specs.Objects.{plan_of}
use Rattle.law_confluence.specs.Outcome.{AreInputsOf}
use Rattle.law_completion.specs.Total.{IsNotCut, Completes}
use Rattle.law_completion.specs.TotalGraph.{NeedsAtMost}
use Rattle.law_loops_complete.specs.Loops.{WaitsForMore}
use Rattle.law_loops_complete.specs.LoopsComplete.{NoneOutgrows, HasSpace}
use Rattle.law_loops_complete.specs.Within.{SomeKeepsWithin, StarvesOutside}

-- THE LAW. The compiler's code for a well-formed graph within the limits of a text
abbrev pub GraphsWaitForMore : Type 0
GraphsWaitForMore = (g : Graph) (slots : List (List ℕ)) (version : Version) → HasText g → WellFormed g → Good (plan_of g) slots
    → version_number version ≡ g.version → WaitsForMore (flow_of g) (code_of version (plan_of g) slots)

-- So it completes where no loop outgrows its bound, with room for all that the meaning calls for. The instructions that count are those of the plan: the
-- code has as many in each block.
abbrev pub CompiledLoopsComplete : Type 0
CompiledLoopsComplete = (g : Graph) (slots : List (List ℕ)) (version : Version) → HasText g → WellFormed g → Good (plan_of g) slots
    → version_number version ≡ g.version
    → (inputs : List ℤ) → AreInputsOf g inputs → (d t : ℕ) → NeedsAtMost g inputs d t → NoneOutgrows (flow_of g) inputs
    → (z : Size) (most : ℕ) → HasSpace (plan_of g).program z most d
    → (by_list may_stop : Bool) (r : Report) → Shows (code_of version (plan_of g) slots) z inputs most by_list may_stop r → IsNotCut by_list r → Completes r

-- THE LAW OF ORDERS. It starves for credits alone only where no run of the meaning keeps each loop within its bound.
abbrev pub GraphsStarveOutside : Type 0
GraphsStarveOutside = (g : Graph) (slots : List (List ℕ)) (version : Version) → HasText g → WellFormed g → Good (plan_of g) slots
    → version_number version ≡ g.version → StarvesOutside (flow_of g) (code_of version (plan_of g) slots)

-- So it completes, in every order, where one does, with room for all that the meaning calls for.
abbrev pub CompiledWithinCompletes : Type 0
CompiledWithinCompletes = (g : Graph) (slots : List (List ℕ)) (version : Version) → HasText g → WellFormed g → Good (plan_of g) slots
    → version_number version ≡ g.version
    → (inputs : List ℤ) → AreInputsOf g inputs → (d t : ℕ) → NeedsAtMost g inputs d t → SomeKeepsWithin (flow_of g) inputs
    → (z : Size) (most : ℕ) → HasSpace (plan_of g).program z most d
    → (by_list may_stop : Bool) (r : Report) → Shows (code_of version (plan_of g) slots) z inputs most by_list may_stop r → IsNotCut by_list r → Completes r

-- OPEN: the converse, that where a run of the code completes some run of the meaning keeps within. It is stated here and NOT PROVED, and nothing uses it.
abbrev pub CompletedRunsKeepWithin : Type 0
CompletedRunsKeepWithin = (g : Graph) (slots : List (List ℕ)) (version : Version) → HasText g → WellFormed g → Good (plan_of g) slots
    → version_number version ≡ g.version → (inputs : List ℤ) → AreInputsOf g inputs → (z : Size) (most : ℕ) (by_list may_stop : Bool) (r : Report)
    → Shows (code_of version (plan_of g) slots) z inputs most by_list may_stop r → Completes r → SomeKeepsWithin (flow_of g) inputs
