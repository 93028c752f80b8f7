-- TOTAL CORRECTNESS, loop by loop: a machine needs no more credits for a loop than the loop has iterations of its own.
use Rattle.std.specs.Prelude.{◌≡◌, ℕ, ◌<◌, Bool, ℤ, List, [], ◌∷◌, Some, Contains}
use Rattle.tags.specs.declared.value.Value.{Value}
use Rattle.semantics.specs.declared.graph.Kind.TheVariants.{Loop}
use Rattle.semantics.specs.Graph.{Graph, Flow, Node, flow_of}
use Rattle.semantics.specs.WellFormed.{WellFormed}
use Rattle.semantics.specs.Meaning.{Context, Turned, State, Activity, Fires, Run, start, node_of}
use Rattle.semantics.specs.Program.{Program}
use Rattle.semantics.specs.Machine.{Size}
use Rattle.semantics.specs.Faithful.{Faithful}
use Rattle.semantics.specs.Report.{Report, Shows}
use Rattle.source.specs.Theorem.{RestsWell}
use Rattle.law_confluence.specs.Outcome.{AreInputsOf}
use Rattle.law_completion.specs.Total.{HasFrames, HasSteps, IsNotCut, Completes}
use Rattle.law_completion.specs.TotalGraph.{NeedsAtMost}
use Rattle.law_loops_complete.specs.Loops.{Outgrows, WaitsForMore}

-- Whatever the order, no run of the meaning calls for more iterations of a loop, in one invocation, than the loop's bound.
abbrev pub NoneOutgrows : Flow → List ℤ → Type 0
NoneOutgrows fl inputs = (k : ℕ) → Outgrows fl inputs k → ⊥

-- One run of the meaning to its end tells: in it, of no loop with bound k, the first input of iteration k passes. Iterations are numbered from 0.
abbrev pub OneRunBounds : Type 0
OneRunBounds = (g : Graph) (inputs : List ℤ) → WellFormed g → AreInputsOf g inputs → (s : State) → RestsWell (flow_of g) inputs s
    → (run : List Activity) → Run (flow_of g) (start inputs) run s
    → ((c : Context) (n k f : ℕ) (line : Node ℕ) (v : Value) → node_of (flow_of g) c n ≡ Some line → line.kind ≡ Loop f k
    → Contains run (Fires (Turned c n k) 0 (v ∷ [])) → ⊥) → NoneOutgrows (flow_of g) inputs

-- A machine with frames for main and for each of d invocations, and with more steps than all its events
pub record HasSpace (p : Program) (z : Size) (most d : ℕ) : Type 0 where
  pub some_element : 0 < z.elements
  pub some_frame : 0 < z.frames
  pub frames : HasFrames z d
  pub steps : HasSteps p most d

-- THE THEOREM. Whatever the order, faithful code that waits for credits only where a loop outgrows its bound completes where none does.
abbrev pub LoopsComplete : Type 0
LoopsComplete = (g : Graph) (q : Program) → WellFormed g → Faithful (flow_of g) q → WaitsForMore (flow_of g) q
    → (inputs : List ℤ) → AreInputsOf g inputs → (d t : ℕ) → NeedsAtMost g inputs d t → NoneOutgrows (flow_of g) inputs
    → (z : Size) (most : ℕ) → HasSpace q z most d
    → (by_list may_stop : Bool) (r : Report) → Shows q z inputs most by_list may_stop r → IsNotCut by_list r → Completes r
