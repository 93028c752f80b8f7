-- HOW A RUN OF THE MEANING IS MADE, activity by activity, and when it is over.
use Rattle.std.specs.Prelude.{◌≡◌, ◌⊎◌, ⊤, ℤ, List, None, Some, Contains}
use Rattle.tags.specs.declared.value.Value.{Value}
use Rattle.semantics.specs.Graph.{Graph, flow_of}
use Rattle.semantics.specs.WellFormed.{WellFormed}
use Rattle.semantics.specs.Meaning.{Tagged, Memory, State, Activity, taken, Deed, Says, Reads, Fills, Puts, deed, Step, Run, Stood, start}
use Rattle.source.specs.Theorem.{RestsWell}
use Rattle.law_confluence.specs.Outcome.{AreInputsOf}

-- what the memory has to have for a deed: a fetch reads a full cell, a store fills an empty one
abbrev pub Allows : Memory → Deed → Type 0
Allows m (Says x) = ⊤
Allows m (Reads c n x) = (v : Value) × (m.cells x ≡ Some v)
Allows m (Fills c n x v) = m.cells x ≡ None
Allows m (Puts j v) = ⊤

-- An activity all of whose tokens have been present has happened, or can happen now, where the memory allows it.
abbrev pub RunsGoOn : Type 0
RunsGoOn = (g : Graph) (inputs : List ℤ) → WellFormed g → AreInputsOf g inputs
    → (run : List Activity) (s : State) (r : Run (flow_of g) (start inputs) run s)
    → (a : Activity) (d : Deed) → deed (flow_of g) a ≡ Some d → ((t : Tagged) → Contains (taken a) t → Stood (flow_of g) (start inputs) run s r t)
    → Allows s.memory d → Contains run a ⊎ ((t : State) × Step (flow_of g) a s t)

-- A run in which each activity has happened all of whose tokens have been present has come to rest, without a second store and without a waiting fetch.
abbrev pub ClosedRunsRest : Type 0
ClosedRunsRest = (g : Graph) (inputs : List ℤ) → WellFormed g → AreInputsOf g inputs
    → (run : List Activity) (s : State) (r : Run (flow_of g) (start inputs) run s)
    → ((a : Activity) (d : Deed) → deed (flow_of g) a ≡ Some d
    → ((t : Tagged) → Contains (taken a) t → Stood (flow_of g) (start inputs) run s r t) → Contains run a)
    → RestsWell (flow_of g) inputs s
