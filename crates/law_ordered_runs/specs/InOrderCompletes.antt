-- A PROGRAM THAT READS EACH CELL BEHIND ITS STORE COMPLETES: what its own evaluation tells, which knows no graph, no frame and no order.
use Rattle.std.specs.Prelude.{◌≡◌, ℕ, ◌+◌, Bool, ℤ, List}
use Rattle.tags.specs.declared.value.Origin.{Origin}
use Rattle.semantics.specs.Graph.{Graph, flow_of}
use Rattle.semantics.specs.WellFormed.{WellFormed}
use Rattle.semantics.specs.Meaning as Meaning
use Rattle.semantics.specs.Machine.{Size}
use Rattle.semantics.specs.Faithful.{Faithful}
use Rattle.semantics.specs.Report.{Report, Shows}
use Rattle.semantics.specs.Program as Code
use Rattle.semantics.specs.Plan.{Plan}
use Rattle.source.specs.Tree.{Program}
use Rattle.source.specs.Theorem.{Computes, RestsWell}
use Rattle.law_confluence.specs.Outcome.{AreInputsOf}
use Rattle.law_completion.specs.Total.{CallsForAtMost, IsTrueCode, IsNotCut, Completes}
use Rattle.law_completion.specs.TotalGraph.{IsLargeEnough}
use Rattle.law_completion.specs.TotalProgram.{count_of}
use Rattle.law_loops_complete.specs.LoopsComplete.{HasSpace}
use Rattle.law_loops_complete.specs.Within.{SomeKeepsWithin, StarvesOutside}
use Rattle.law_language.specs.MeansTheorem.{IsLoweredText}
use Rattle.law_ordered_runs.specs.InOrder.{ReadsBehindStores, body_touches}

-- THE PROGRAM HAS AN EVALUATION on these inputs, over some memory, that reads each cell behind the store that fills it.
pub record EvaluatesInOrder (p : Program) (origin : ℕ → Origin) (inputs : List ℤ) : Type 0 where
  pub memory : Meaning.Memory
  pub computes : Computes p origin inputs memory
  pub behind : ReadsBehindStores (body_touches computes.main.runs)

-- its iterations of loops, one that only tests counted, too; and its calls and its iterations
abbrev pub turns_in : {p : Program} {origin : ℕ → Origin} {inputs : List ℤ} → EvaluatesInOrder p origin inputs → ℕ
turns_in {p = p} {origin = origin} {inputs = inputs} k = (count_of p origin inputs k.memory k.computes).turns

abbrev pub calls_and_turns : {p : Program} {origin : ℕ → Origin} {inputs : List ℤ} → EvaluatesInOrder p origin inputs → ℕ
calls_and_turns {p = p} {origin = origin} {inputs = inputs} k =
    (count_of p origin inputs k.memory k.computes).calls + (count_of p origin inputs k.memory k.computes).turns

-- WHAT THE MEANING OF ITS GRAPH DOES. It comes to rest, with no second store and with no fetch waiting, over that memory. No run of it, in whatever order,
-- calls for more invocations beside main than the evaluation has calls and iterations, nor for more iterations. And some run keeps each loop within its
-- bound, whatever the bounds.
pub record ComesToRest (g : Graph) (inputs : List ℤ) (m : Meaning.Memory) (d t : ℕ) : Type 0 where
  pub state : Meaning.State
  pub rests : RestsWell (flow_of g) inputs state
  pub memory : state.memory ≡ m
  pub calls : CallsForAtMost (flow_of g) inputs d t
  pub within : SomeKeepsWithin (flow_of g) inputs

abbrev pub ProgramsComeToRest : Type 0
ProgramsComeToRest = (text : List ℕ) (p : Program) (g : Graph) (origin : ℕ → Origin) → IsLoweredText text p g origin → WellFormed g
    → (inputs : List ℤ) → AreInputsOf g inputs → (k : EvaluatesInOrder p origin inputs)
    → ComesToRest g inputs k.memory (calls_and_turns k) (turns_in k)

-- SO IT COMPLETES, in every order: true code, on a machine with a frame for main, for each call and for each iteration, with steps for these, and with loops
-- whose bounds are at least all iterations;
abbrev pub ProgramsInOrderComplete : Type 0
ProgramsInOrderComplete = (text : List ℕ) (p : Program) (g : Graph) (origin : ℕ → Origin) → IsLoweredText text p g origin → WellFormed g
    → (plan : Plan) (code : Code.Program) → IsTrueCode (flow_of g) plan code
    → (inputs : List ℤ) → AreInputsOf g inputs → (k : EvaluatesInOrder p origin inputs)
    → (z : Size) (most : ℕ) → IsLargeEnough g code z most (calls_and_turns k) (turns_in k)
    → (by_list may_stop : Bool) (r : Report) → Shows code z inputs most by_list may_stop r → IsNotCut by_list r → Completes r

-- and whatever the bounds of its loops, faithful code that starves for credits alone only where no run of the meaning keeps within. The compiler's code is
-- such code (`law_loop_credits`).
abbrev pub ProgramsInOrderCompleteWithin : Type 0
ProgramsInOrderCompleteWithin = (text : List ℕ) (p : Program) (g : Graph) (origin : ℕ → Origin) → IsLoweredText text p g origin → WellFormed g
    → (code : Code.Program) → Faithful (flow_of g) code → StarvesOutside (flow_of g) code
    → (inputs : List ℤ) → AreInputsOf g inputs → (k : EvaluatesInOrder p origin inputs)
    → (z : Size) (most : ℕ) → HasSpace code z most (calls_and_turns k)
    → (by_list may_stop : Bool) (r : Report) → Shows code z inputs most by_list may_stop r → IsNotCut by_list r → Completes r
