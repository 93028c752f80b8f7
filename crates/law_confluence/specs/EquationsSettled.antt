-- What holds of each run of a well-formed graph that came to rest without a second store and without a waiting fetch.
use Rattle.std.specs.Prelude.{◌≡◌, ℕ, ◌<◌, ℤ, List, [], ◌∷◌, Some, slice_get, Contains}
use Rattle.tags.specs.declared.value.Value.{Value}
use Rattle.semantics.specs.declared.graph.Kind.TheVariants.{Cond}
use Rattle.semantics.specs.Graph.{Node, Graph, Flow, flow_of}
use Rattle.semantics.specs.WellFormed.{WellFormed}
use Rattle.semantics.specs.Meaning.{Context, Main, AtNode, Operand, tagged, State, Activity, Fires, Run, Stood, AtRest, start, node_of, fetch_count}
use Rattle.law_confluence.specs.Outcome.{AreInputsOf, NoClash}
use Rattle.law_confluence.specs.EquationsHave.{Gives, Stored, stores_of, ports_at}
use Rattle.law_confluence.specs.Equations.{IsDue, TakenAt, Argument, Result, Equation}

-- what a conditional took is the value of its source, and nothing else
pub record Decides (fl : Flow) (inputs : List ℤ) (run : List Activity) (s : State) (r : Run fl (start inputs) run s) (c : Context) (k : ℕ) : Type 0 where
  pub value : Value
  pub argument : Argument fl inputs run s r c k 0 value
  pub stood : Stood fl (start inputs) run s r (tagged c (AtNode k) (Operand 0) value)
  pub only : (w : Value) → Stood fl (start inputs) run s r (tagged c (AtNode k) (Operand 0) w) → w ≡ value

-- `c` is an invocation, `n` a node of its block and `p` an output port of that
pub record Settled (fl : Flow) (inputs : List ℤ) (run : List Activity) (s : State) (r : Run fl (start inputs) run s) : Type 0 where
  -- each port of each node that is taken in an invocation that is due has a value
  pub given : (c : Context) (n p : ℕ) → IsDue fl inputs run s r c → TakenAt fl inputs run s r c n → p < ports_at fl c n
      → (v : Value) × Gives fl run s.memory c n p v
  -- and no port has two
  pub one_value : (c : Context) (n p : ℕ) (v w : Value) → Gives fl run s.memory c n p v → Gives fl run s.memory c n p w → v ≡ w
  -- the values satisfy the equations of the nodes
  pub equations : (c : Context) (n p : ℕ) (v : Value) → Gives fl run s.memory c n p v → Equation fl inputs run s r c n p v
  -- and the sides of the conditionals are those of their values
  pub decided : (c : Context) (k : ℕ) (line : Node ℕ) → IsDue fl inputs run s r c → TakenAt fl inputs run s r c k
      → node_of fl c k ≡ Some line → line.kind ≡ Cond → Decides fl inputs run s r c k
  -- nothing else has a value
  pub silent_invocations : (c : Context) (n p : ℕ) (v : Value) → Gives fl run s.memory c n p v → IsDue fl inputs run s r c
  pub silent_arms : (c : Context) (n p : ℕ) (v : Value) → Gives fl run s.memory c n p v → TakenAt fl inputs run s r c n
  pub silent_ports : (c : Context) (n p : ℕ) (v : Value) → Gives fl run s.memory c n p v → p < ports_at fl c n
  -- each invocation that is due has an activity in the run: so there are no more of them than activities
  pub active : (c : Context) → IsDue fl inputs run s r c → (v : Value) × Contains run (Fires c 0 (v ∷ []))
  -- the cells are those that the stores filled: no cell is filled twice, and no node of an invocation stores twice
  pub cells_stored : (x : ℕ) (v : Value) → s.memory.cells x ≡ Some v → (w : Stored) × Contains (stores_of fl run) w × (w.cell ≡ x) × (w.value ≡ v)
  pub stored_cells : (w : Stored) → Contains (stores_of fl run) w → s.memory.cells w.cell ≡ Some w.value
  pub stored_once : (i j : ℕ) (u w : Stored) → slice_get (stores_of fl run) i ≡ Some u → slice_get (stores_of fl run) j ≡ Some w → u.cell ≡ w.cell → i ≡ j
  pub node_stores_once : (i j : ℕ) (u w : Stored) → slice_get (stores_of fl run) i ≡ Some u → slice_get (stores_of fl run) j ≡ Some w
      → u.context ≡ w.context → u.node ≡ w.node → i ≡ j
  -- the outputs are the results of main
  pub outputs_results : (j : ℕ) (v : Value) → s.memory.outputs j ≡ Some v → Result fl inputs run s r Main j v
  pub results_outputs : (j : ℕ) (v : Value) → Result fl inputs run s r Main j v → s.memory.outputs j ≡ Some v
  -- no token is left
  pub no_tokens : s.tokens ≡ []

abbrev pub NoneWaits : Flow → State → Type 0
NoneWaits fl s = (x : ℕ) → fetch_count fl x s.tokens ≡ 0

-- Once a run of a well-formed graph is at rest, with no second store and no waiting fetch, its values satisfy the equations.
abbrev pub RunsAtRestSatisfyEquations : Type 0
RunsAtRestSatisfyEquations = (g : Graph) (inputs : List ℤ) → WellFormed g → AreInputsOf g inputs
    → (run : List Activity) (s : State) (r : Run (flow_of g) (start inputs) run s)
    → AtRest (flow_of g) s → NoClash (flow_of g) s → NoneWaits (flow_of g) s → Settled (flow_of g) inputs run s r
