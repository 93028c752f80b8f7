-- TOTAL CORRECTNESS of the code of graphs: on a machine that is large enough, each run comes to rest with what the graph means.
use Rattle.std.specs.Prelude.{◌≡◌, ℕ, ◌-◌, ◌<◌, Bool, ℤ, List, [], ◌∷◌, length, count_by, Contains, ◌⊎◌}
use Rattle.tags.specs.declared.value.Value.{Value}
use Rattle.semantics.specs.Cause.{is_turn}
use Rattle.semantics.specs.Graph.{Graph, flow_of}
use Rattle.semantics.specs.WellFormed.{WellFormed}
use Rattle.semantics.specs.Meaning.{Context, Main, State, Activity, Fires, Run, start}
use Rattle.semantics.specs.Program.{Program}
use Rattle.semantics.specs.Machine.{Size}
use Rattle.semantics.specs.Report.{Report, Shows}
use Rattle.semantics.specs.Plan.{Plan}
use Rattle.source.specs.Theorem.{RestsWell}
use Rattle.law_confluence.specs.Outcome.{AreInputsOf}
use Rattle.law_completion.specs.Total.{CallsForAtMost, HasFrames, HasSteps, LoopsHave, IsTrueCode, IsNotCut, Completes}

-- WHAT THE MEANING NEEDS. It comes to rest with no fetch waiting, and calls for at most d invocations beside main, of which at most t are iterations.
pub record NeedsAtMost (g : Graph) (inputs : List ℤ) (d t : ℕ) : Type 0 where
  pub state : State
  pub rests : RestsWell (flow_of g) inputs state
  pub calls : CallsForAtMost (flow_of g) inputs d t

-- One run of the meaning tells: each invocation has an activity.
abbrev pub OneRunTells : Type 0
OneRunTells = (g : Graph) (inputs : List ℤ) → WellFormed g → AreInputsOf g inputs → (s : State) → RestsWell (flow_of g) inputs s
    → (run : List Activity) → Run (flow_of g) (start inputs) run s → NeedsAtMost g inputs (length run - 1) (length run - 1)

-- More sharply: it calls for no other invocations than those in which, in that run, the first input passes.
abbrev pub OneRunCounts : Type 0
OneRunCounts = (g : Graph) (inputs : List ℤ) → WellFormed g → AreInputsOf g inputs → (s : State) → RestsWell (flow_of g) inputs s
    → (run : List Activity) → Run (flow_of g) (start inputs) run s → (cs : List Context)
    → ((c : Context) (v : Value) → Contains run (Fires c 0 (v ∷ [])) → (c ≡ Main) ⊎ Contains cs c) → NeedsAtMost g inputs (length cs) (count_by is_turn cs)

-- WHAT THE MACHINE HAS: a frame for main and for each invocation, more steps than all its events, and credits for all iterations.
pub record IsLargeEnough (g : Graph) (p : Program) (z : Size) (most d t : ℕ) : Type 0 where
  pub some_element : 0 < z.elements
  pub some_frame : 0 < z.frames
  pub frames : HasFrames z d
  pub steps : HasSteps p most d
  pub credits : LoopsHave (flow_of g) t

-- THE THEOREM. Whatever the order, true code of the graph completes.
abbrev pub TotalGraph : Type 0
TotalGraph = (g : Graph) (p : Plan) (q : Program) → WellFormed g → IsTrueCode (flow_of g) p q
    → (inputs : List ℤ) → AreInputsOf g inputs → (d t : ℕ) → NeedsAtMost g inputs d t → (z : Size) (most : ℕ) → IsLargeEnough g q z most d t
    → (by_list may_stop : Bool) (r : Report) → Shows q z inputs most by_list may_stop r → IsNotCut by_list r → Completes r
