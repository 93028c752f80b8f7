-- Loops that outgrow their bounds, and code that waits for credits only where one does.
use Rattle.std.specs.Prelude.{◌≡◌, ℕ, ℤ, List, Some}
use Rattle.tags.specs.declared.token.Cont.{Cont}
use Rattle.tags.specs.declared.slot.SlotState.TheVariants.{Waiter}
use Rattle.semantics.specs.declared.graph.Kind.TheVariants.{Loop}
use Rattle.semantics.specs.Graph.{Flow, Node}
use Rattle.semantics.specs.Meaning.{Context, Turned, State, Activity, Run, Stood, Due, start, node_of}
use Rattle.semantics.specs.Program.{Program}
use Rattle.semantics.specs.Machine.{Machine, Size, Events}
use Rattle.semantics.specs.Faithful.{IsRun}

-- A run of the meaning calls for iteration k of a loop with bound k. Iterations are numbered from 0, so it calls for more iterations than the bound,
-- in one invocation.
pub record Outgrows (fl : Flow) (inputs : List ℤ) (k : ℕ) : Type 0 where
  pub run : List Activity
  pub state : State
  pub is_run : Run fl (start inputs) run state
  pub context : Context
  pub node : ℕ
  pub line : Node ℕ
  pub callee : ℕ
  pub there : node_of fl context node ≡ Some line
  pub loops : line.kind ≡ Loop callee k
  pub due : Due fl run (Stood fl (start inputs) run state is_run) (Turned context node k)

abbrev pub SomeOutgrows : Flow → List ℤ → Type 0
SomeOutgrows fl inputs = (k : ℕ) × Outgrows fl inputs k

-- In each run of the code: where an iteration waits for a credit, a loop has outgrown its bound.
abbrev pub WaitsForMore : Flow → Program → Type 0
WaitsForMore fl q = (inputs : List ℤ) (z : Size) (events : Events) (m : Machine) (f s : ℕ) (c : Cont) → IsRun fl q inputs z events m
    → m.store.slots f s ≡ Waiter c → SomeOutgrows fl inputs
