-- The compiler's code is true code of its graph, so it completes wherever the machine is large enough.
use Rattle.std.specs.Prelude.{◌≡◌, ℕ, Bool, ℤ, List}
use Rattle.semantics.specs.declared.version.Version.{Version}
use Rattle.semantics.specs.Versions.{version_number}
use Rattle.semantics.specs.Graph.{Graph, flow_of}
use Rattle.semantics.specs.Text.{HasText}
use Rattle.semantics.specs.WellFormed.{WellFormed}
use Rattle.semantics.specs.Machine.{Size}
use Rattle.semantics.specs.Report.{Report, Shows}
use Rattle.semantics.specs.Sharing.{Good}
use Rattle.select.specs.Emitted.{code_of}
use Rattle.law_confluence.specs.Outcome.{AreInputsOf}
use Rattle.law_compiler.specs.Objects.{plan_of}
use Rattle.law_compiler.specs.Graphs.{KeepsPromises}
use Rattle.law_completion.specs.Total.{IsTrueCode, IsNotCut, Completes}
use Rattle.law_completion.specs.TotalGraph.{NeedsAtMost, IsLargeEnough}

-- What keeps the compiler's promises is true code,
abbrev pub PromisesMakeTrue : Type 0
PromisesMakeTrue = (g : Graph) (slots : List (List ℕ)) (version : Version) → HasText g → WellFormed g → Good (plan_of g) slots
    → version_number version ≡ g.version → KeepsPromises g slots version → IsTrueCode (flow_of g) (plan_of g) (code_of version (plan_of g) slots)

-- and the code of each graph keeps them.
abbrev pub CompiledCodeIsTrue : Type 0
CompiledCodeIsTrue = (g : Graph) (slots : List (List ℕ)) (version : Version) → HasText g → WellFormed g → Good (plan_of g) slots
    → version_number version ≡ g.version → IsTrueCode (flow_of g) (plan_of g) (code_of version (plan_of g) slots)

-- So, whatever the order, it completes wherever the machine has enough for what the meaning needs. The instructions that count are those of the plan:
-- the code has as many in each block.
abbrev pub CompiledCodeCompletes : Type 0
CompiledCodeCompletes = (g : Graph) (slots : List (List ℕ)) (version : Version) → HasText g → WellFormed g → Good (plan_of g) slots
    → version_number version ≡ g.version → (inputs : List ℤ) → AreInputsOf g inputs → (d t : ℕ) → NeedsAtMost g inputs d t
    → (z : Size) (most : ℕ) → IsLargeEnough g (plan_of g).program z most d t → (by_list may_stop : Bool) (r : Report)
    → Shows (code_of version (plan_of g) slots) z inputs most by_list may_stop r → IsNotCut by_list r → Completes r
