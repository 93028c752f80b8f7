-- The invocations that the meaning calls for, where a run of it came to rest with no fetch waiting.
use Rattle.std.specs.Prelude.{◌≡◌, ℕ, ◌-◌, ◌^◌, ◌<◌, ◌≤◌, ◌⊎◌, Bool, true, false, ℤ, List, [], ◌∷◌, length, count_by, Some, Contains}
use Rattle.tags.specs.declared.value.Value.{Value}
use Rattle.semantics.specs.Graph.{Graph, flow_of}
use Rattle.semantics.specs.Text.{HasText}
use Rattle.semantics.specs.WellFormed.{WellFormed}
use Rattle.semantics.specs.Cause.{AllDue, is_turn}
use Rattle.semantics.specs.Meaning.{Context, Main, State, Activity, Fires, Run, Stood, AtRest, start}
use Rattle.law_confluence.specs.Outcome.{NoClash}
use Rattle.law_confluence.specs.EquationsSettled.{NoneWaits}
use Rattle.oracle.specs.declared.invocations.Made.{Made}
use Rattle.oracle.specs.declared.invocations.Made.TheVariants.{Turned}
use Rattle.oracle.specs.declared.invocations.Invocation.{Invocation}
use Rattle.oracle.specs.declared.report.MeanEnd.TheVariants.{Rest}
use Rattle.oracle.specs.Lines.{inputs_at}
use Rattle.oracle.specs.Running.{Plain, main_place, start_of}
use Rattle.oracle.specs.Rows.{rows_of, run_among}

abbrev pub is_iteration : Made → Bool
is_iteration (Turned c n i) = true
is_iteration made = false

-- how many of the invocations are iterations of loops
abbrev pub iterations_in : List Invocation → ℕ
iterations_in xs = count_by (λ (x : Invocation). is_iteration x.made) xs

-- The run of at most that many activities came to rest, with this state in the end.
abbrev pub Rests : Graph → List ℤ → ℕ → Plain → Type 0
Rests g inputs steps s = run_among g steps (start_of g inputs) (rows_of []) ≡ Some (Rest, s)

-- A run of the meaning of at most `steps` activities comes to rest without a second store and with no fetch waiting. It calls for that many
-- invocations beside main, of which that many are iterations of loops: they differ, and they are those in which the first input passes.
pub record CallsFor (g : Graph) (inputs : List ℤ) (steps invocations iterations : ℕ) : Type 0 where
  pub run : List Activity
  pub state : State
  pub is_run : Run (flow_of g) (start inputs) run state
  pub few : length run ≤ steps
  pub at_rest : AtRest (flow_of g) state
  pub no_clash : NoClash (flow_of g) state
  pub none_waits : NoneWaits (flow_of g) state
  pub called : List Context
  pub are_due : AllDue (flow_of g) run (Stood (flow_of g) (start inputs) run state is_run) called
  pub passed : (c : Context) → Contains called c → (v : Value) × Contains run (Fires c 0 (v ∷ []))
  pub all : (c : Context) (v : Value) → Contains run (Fires c 0 (v ∷ [])) → (c ≡ Main) ⊎ Contains called c
  pub invocation_count : length called ≡ invocations
  pub iteration_count : count_by is_turn called ≡ iterations

-- The numbered run tells them: one invocation beside main for each number but the first.
abbrev pub CallsAreTold : Type 0
CallsAreTold = (g : Graph) (inputs : List ℤ) (steps : ℕ) → HasText g → WellFormed g → length inputs ≡ inputs_at g (main_place g) → steps < 2 ^ 64
    → (s : Plain) → Rests g inputs steps s → s.deferred ≡ [] → CallsFor g inputs steps (length s.invocations - 1) (iterations_in s.invocations)
