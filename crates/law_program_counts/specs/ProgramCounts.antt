-- HOW LARGE A MACHINE A PROGRAM NEEDS, counted in the program's own evaluation, which knows no graph: by its calls and by the iterations of its loops.
use Rattle.std.specs.Prelude.{◌≡◌, ℕ, ◌+◌, Bool, ℤ, List, length, count_by}
use Rattle.tags.specs.declared.value.Origin.{Origin}
use Rattle.semantics.specs.Graph.{Graph, Flow, flow_of}
use Rattle.semantics.specs.WellFormed.{WellFormed}
use Rattle.semantics.specs.Meaning.{Context, State, Activity, Run, Stood, start}
use Rattle.semantics.specs.Cause.{AllDue, is_turn}
use Rattle.semantics.specs.Machine.{Size}
use Rattle.semantics.specs.Report.{Report, Shows}
use Rattle.semantics.specs.Program as Code
use Rattle.semantics.specs.Plan.{Plan}
use Rattle.source.specs.Tree.{Program}
use Rattle.source.specs.Theorem.{RestsWell, Computes}
use Rattle.law_confluence.specs.Outcome.{AreInputsOf}
use Rattle.law_completion.specs.Total.{CallsForAtMost, IsTrueCode, IsNotCut, Completes}
use Rattle.law_completion.specs.TotalGraph.{IsLargeEnough}
use Rattle.law_completion.specs.TotalProgram.{count_of}
use Rattle.law_language.specs.MeansTheorem.{IsLoweredApart, IsLoweredText}

-- The meaning calls for just d invocations beside main, of which t are iterations of loops: no run for more, and each run to s for as many.
pub record CallsForJust (fl : Flow) (inputs : List ℤ) (s : State) (d t : ℕ) : Type 0 where
  pub at_most : CallsForAtMost fl inputs d t
  pub just : (run : List Activity) (r : Run fl (start inputs) run s)
      → (cs : List Context) × AllDue fl run (Stood fl (start inputs) run s r) cs × (length cs ≡ d) × (count_by is_turn cs ≡ t)

-- THE MEANING OF ITS GRAPH calls for just as many invocations as the evaluation has calls and iterations; for any relation of programs, graphs, and
-- origins of tokens in place of the lowering. That a meaning that rests well has such an evaluation is `MeansTheSame`.
abbrev pub CallForCounted : (Program → Graph → (ℕ → Origin) → Type 0) → Type 0
CallForCounted IsLowering = (p : Program) (g : Graph) (origin : ℕ → Origin) → IsLowering p g origin → WellFormed g
    → (inputs : List ℤ) → AreInputsOf g inputs → (s : State) → RestsWell (flow_of g) inputs s → (k : Computes p origin inputs s.memory)
    → CallsForJust (flow_of g) inputs s ((count_of p origin inputs s.memory k).calls + (count_of p origin inputs s.memory k).turns)
    (count_of p origin inputs s.memory k).turns

-- SO IT COMPLETES, in every order, on each machine that has a frame for main, for each call and for each iteration, and steps and credits for these.
abbrev pub CompleteCounted : (Program → Graph → (ℕ → Origin) → Type 0) → Type 0
CompleteCounted IsLowering = (p : Program) (g : Graph) (origin : ℕ → Origin) → IsLowering p g origin → WellFormed g
    → (plan : Plan) (code : Code.Program) → IsTrueCode (flow_of g) plan code
    → (inputs : List ℤ) → AreInputsOf g inputs → (s : State) → RestsWell (flow_of g) inputs s → (k : Computes p origin inputs s.memory)
    → (z : Size) (most : ℕ)
    → IsLargeEnough g code z most ((count_of p origin inputs s.memory k).calls + (count_of p origin inputs s.memory k).turns)
    (count_of p origin inputs s.memory k).turns
    → (by_list may_stop : Bool) (r : Report) → Shows code z inputs most by_list may_stop r → IsNotCut by_list r → Completes r

-- of programs no two of whose tokens have one place
abbrev pub ProgramsCallForCounted : Type 0
ProgramsCallForCounted = CallForCounted IsLoweredApart

abbrev pub ProgramsCompleteCounted : Type 0
ProgramsCompleteCounted = CompleteCounted IsLoweredApart

-- and so of each text's
abbrev pub TextsCallForCounted : Type 0
TextsCallForCounted = (text : List ℕ) → CallForCounted (IsLoweredText text)

abbrev pub TextsCompleteCounted : Type 0
TextsCompleteCounted = (text : List ℕ) → CompleteCounted (IsLoweredText text)
