-- What holds of the meaning of a well-formed graph, whatever the order of its activities.
use Rattle.std.specs.Prelude.{◌≡◌, ℕ, ◌≤◌, ℤ, List, ◌++◌, length, Some, slice_get, flat_map}
use Rattle.tags.specs.declared.value.Value.{Value}
use Rattle.semantics.specs.Graph.{Graph, Flow, flow_of}
use Rattle.semantics.specs.WellFormed.{WellFormed}
use Rattle.semantics.specs.Meaning.{Tagged, State, Activity, taken, Same, Run, Reached, Leads, AtRest, Clashes, start}
use Rattle.semantics.specs.Faithful.{inputs_of}

-- as many inputs as main has
abbrev pub AreInputsOf : Graph → List ℤ → Type 0
AreInputsOf g inputs = length inputs ≡ inputs_of (flow_of g)

-- TAGS. Two tokens have the same tag: they are at one port of one node or result, in one invocation.
abbrev pub SameTag : Tagged → Tagged → Type 0
SameTag t u = (t.context ≡ u.context) × (t.statement ≡ u.statement) × (t.port ≡ u.port)

abbrev pub TagsDiffer : List Tagged → Type 0
TagsDiffer ts = (i j : ℕ) (t u : Tagged) → slice_get ts i ≡ Some t → slice_get ts j ≡ Some u → SameTag t u → i ≡ j

-- all tokens of a run: those that its activities take, and those that it leaves
abbrev pub tokens_of_run : List Activity → State → List Tagged
tokens_of_run run s = flat_map taken run ++ s.tokens

-- Along each run, no two tokens have the same tag.
abbrev pub UniqueTags : Type 0
UniqueTags = (g : Graph) (inputs : List ℤ) → WellFormed g → AreInputsOf g inputs
    → (run : List Activity) (s : State) → Run (flow_of g) (start inputs) run s → TagsDiffer (tokens_of_run run s)

-- OUTCOME. No store meets a full cell.
abbrev pub NoClash : Flow → State → Type 0
NoClash fl s = (x : ℕ) → Clashes fl s x → ⊥

-- Every reached state leads on to s, and s has the cells and outputs that it has. No reached state clashes, every reached state
-- at rest is s, no run is longer than one to s, and all runs to s are equally long.
pub record IsOnlyOutcome (fl : Flow) (inputs : List ℤ) (s : State) : Type 0 where
  pub leads : (other : State) → Reached fl inputs other → Leads fl other s
  pub cells : (other : State) (x : ℕ) (v : Value) → Reached fl inputs other → other.memory.cells x ≡ Some v → s.memory.cells x ≡ Some v
  pub outputs : (other : State) (j : ℕ) (v : Value) → Reached fl inputs other → other.memory.outputs j ≡ Some v → s.memory.outputs j ≡ Some v
  pub no_clash : (other : State) (x : ℕ) → Reached fl inputs other → Clashes fl other x → ⊥
  pub one_end : (other : State) → Reached fl inputs other → AtRest fl other → Same other s
  pub no_longer : (other : State) (q r : List Activity) → Run fl (start inputs) q other → Run fl (start inputs) r s → length q ≤ length r
  pub same_length : (q r : List Activity) → Run fl (start inputs) q s → Run fl (start inputs) r s → length q ≡ length r

-- If one run comes to rest without a clash, that is the only outcome.
abbrev pub OneOutcome : Type 0
OneOutcome = (g : Graph) (inputs : List ℤ) → WellFormed g → AreInputsOf g inputs
    → (s : State) → Reached (flow_of g) inputs s → AtRest (flow_of g) s → NoClash (flow_of g) s → IsOnlyOutcome (flow_of g) inputs s

-- If one run meets a second store to a cell, no run comes to rest without one.
abbrev pub SecondStoreAlways : Type 0
SecondStoreAlways = (g : Graph) (inputs : List ℤ) → WellFormed g → AreInputsOf g inputs
    → (s other : State) (x : ℕ) → Reached (flow_of g) inputs s → Clashes (flow_of g) s x
    → Reached (flow_of g) inputs other → AtRest (flow_of g) other → NoClash (flow_of g) other → ⊥
