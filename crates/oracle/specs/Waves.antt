-- The waves of the greedy schedule: the meaning with unlimited processors. All activities that are enabled at the beginning of
-- a wave happen in it, and no other does. How many activities there are is the work, and how many waves is the span.
use Rattle.std.specs.Prelude.{◌≡◌, ℕ, ◌+◌, ◌<◌, ◌≤◌, ℤ, List, [], ◌∷◌, ◌++◌, length, Some, slice_get, flat_map, IsPermutation, Contains}
use Rattle.semantics.specs.Graph.{Graph, Flow, flow_of, array_len}
use Rattle.semantics.specs.WellFormed.{WellFormed}
use Rattle.semantics.specs.Meaning.{Tagged, State, Activity, taken, Step, Same, Run, Leads, AtRest, Clashes, start}
use Rattle.law_confluence.specs.Outcome.{NoClash, AreInputsOf}
use Rattle.oracle.specs.declared.report.MeanEnd.{MeanEnd}
use Rattle.oracle.specs.declared.report.MeanEnd.TheVariants.{Rest, Clash, Steps}
use Rattle.oracle.specs.Reporting.{cell_at, IsOutcome}

-- The activities are exactly those that are enabled in the state, each once. A fetch is enabled only where its cell is full in
-- that state, and a store only where it is empty.
pub record AreEnabled (fl : Flow) (s : State) (acts : List Activity) : Type 0 where
  -- all tokens that they take are there at once: none is taken by two
  pub rest : List Tagged
  pub takes : IsPermutation s.tokens (flat_map taken acts ++ rest)
  pub each : (k : ℕ) (a : Activity) → slice_get acts k ≡ Some a → (t : State) × Step fl a s t
  pub all : (a : Activity) (t : State) → Step fl a s t → Contains acts a
  pub once : (j k : ℕ) (a : Activity) → slice_get acts j ≡ Some a → slice_get acts k ≡ Some a → j ≡ k

-- A wave: all that is enabled in old, done one after the other, leads to new. What the activities make is not used in it.
pub record IsWave (fl : Flow) (old : State) (acts : List Activity) (new : State) : Type 0 where
  pub enabled : AreEnabled fl old acts
  pub run : Run fl old acts new

-- waves one after the other, each of at least one activity, with these numbers of activities
abbrev pub AreWaves : Flow → State → List ℕ → State → Type 0
AreWaves fl old [] new = Same old new
AreWaves fl old (n ∷ later) new = (acts : List Activity) × (mid : State) × IsWave fl old acts mid × (length acts ≡ n) × (0 < n) × AreWaves fl mid later new

-- how many activities there are in all
abbrev pub work : List ℕ → ℕ
work [] = 0
work (n ∷ later) = n + work later

-- Why there is no further wave. At a clash some of the activities that are enabled in the state, or none of them, lead to a store
-- at a full cell: the cell was full before the wave, or two stores to it are enabled at once.
abbrev pub IsLastWave : Graph → ℕ → List ℕ → State → MeanEnd → Type 0
IsLastWave g steps counts s Rest = AtRest (flow_of g) s × NoClash (flow_of g) s
IsLastWave g steps counts s (Clash a i) = (i < array_len (flow_of g) a) × ((t : State) × Leads (flow_of g) s t × Clashes (flow_of g) t (cell_at g a i))
IsLastWave g steps counts s Steps = (acts : List Activity) × AreEnabled (flow_of g) s acts × (steps < work counts + length acts)

-- The waves from the start, with these numbers of activities, of which there are at most `steps` in all.
pub record AreWavesOf (g : Graph) (inputs : List ℤ) (steps : ℕ) (end : MeanEnd) (counts : List ℕ) : Type 0 where
  pub state : State
  pub waves : AreWaves (flow_of g) (start inputs) counts state
  pub few : work counts ≤ steps
  pub ended : IsLastWave g steps counts state end
  -- what the end says of every other run: after a rest all runs reach it, after a clash none reaches rest without one
  pub outcome : IsOutcome g inputs state end

-- The work does not depend on the order: each run of the meaning to rest has as many activities as there are in the waves. And there
-- are no more waves than activities.
abbrev pub WorkIsOne : Type 0
WorkIsOne = (g : Graph) (inputs : List ℤ) (steps : ℕ) (counts : List ℕ) → WellFormed g → AreInputsOf g inputs → AreWavesOf g inputs steps Rest counts
    → (run : List Activity) (s : State) → Run (flow_of g) (start inputs) run s → AtRest (flow_of g) s → length run ≡ work counts

abbrev pub SpanIsLow : Type 0
SpanIsLow = (g : Graph) (inputs : List ℤ) (steps : ℕ) (end : MeanEnd) (counts : List ℕ) → AreWavesOf g inputs steps end counts → length counts ≤ work counts
