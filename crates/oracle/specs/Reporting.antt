-- What a report says of the meaning: a state that a run of the meaning reaches, and how that run ended.
use Rattle.std.specs.Prelude.{◌≡◌, ⊤, ℕ, ◌+◌, ◌^◌, ◌<◌, ◌≤◌, ◌⊎◌, ℤ, List, length, Option, Some, slice_get}
use Rattle.tags.specs.declared.value.Value.{Value}
use Rattle.semantics.specs.Graph.{Graph, flow_of, first_cell, array_len}
use Rattle.semantics.specs.Text.{HasText}
use Rattle.semantics.specs.WellFormed.{WellFormed}
use Rattle.semantics.specs.Meaning.{State, Activity, Step, Run, Reached, AtRest, Clashes, start}
use Rattle.law_confluence.specs.Outcome.{NoClash, IsOnlyOutcome}
use Rattle.oracle.specs.declared.report.MeanEnd.{MeanEnd}
use Rattle.oracle.specs.declared.report.MeanEnd.TheVariants.{Rest, Clash, Steps}
use Rattle.oracle.specs.declared.report.Full.{Full}
use Rattle.oracle.specs.Lines.{inputs_at, outputs_at}
use Rattle.oracle.specs.Acting.{held_in}
use Rattle.oracle.specs.Running.{main_place, run_result}

-- the number of the cell at an index of an array
abbrev pub cell_at : Graph → ℕ → ℕ → ℕ
cell_at g a i = first_cell (flow_of g) a + i

-- The list has the full cells of a memory, and no other cell.
pub record AreFull (g : Graph) (cells : ℕ → Option Value) (cells_in_order : List Full) : Type 0 where
  -- an entry is a cell of that array, which holds that value
  pub each : (k : ℕ) (f : Full) → slice_get cells_in_order k ≡ Some f → (f.index < array_len (flow_of g) f.array)
      × (cells (cell_at g f.array f.index) ≡ Some f.value)
  -- each full cell has an entry
  pub all : (x : ℕ) (v : Value) → cells x ≡ Some v → (k : ℕ) × (f : Full) × (slice_get cells_in_order k ≡ Some f) × (x ≡ cell_at g f.array f.index)
      × (f.value ≡ v)
  -- in order of arrays and indexes, so each once
  pub ascend : (j k : ℕ) (f h : Full) → slice_get cells_in_order j ≡ Some f → slice_get cells_in_order k ≡ Some h → j < k
      → (f.array < h.array) ⊎ ((f.array ≡ h.array) × (f.index < h.index))

-- why a run ended in the state
abbrev pub IsEnd : Graph → ℕ → List Activity → State → MeanEnd → Type 0
IsEnd g steps run s Rest = AtRest (flow_of g) s × NoClash (flow_of g) s
IsEnd g steps run s (Clash a i) = (i < array_len (flow_of g) a) × Clashes (flow_of g) s (cell_at g a i)
IsEnd g steps run s Steps = (length run ≡ steps) × ((a : Activity) × (t : State) × Step (flow_of g) a s t)

-- what the end says of every other run of the meaning: all runs reach a rest without a clash, or none does
abbrev pub IsOutcome : Graph → List ℤ → State → MeanEnd → Type 0
IsOutcome g inputs s Rest = IsOnlyOutcome (flow_of g) inputs s
IsOutcome g inputs s (Clash a i) = (other : State) → Reached (flow_of g) inputs other → AtRest (flow_of g) other → NoClash (flow_of g) other → ⊥
IsOutcome g inputs s Steps = ⊤

-- A report is true: a run of the meaning of at most `steps` activities reaches a state with these outputs and full cells,
-- and the end is as it says.
pub record IsMeant (g : Graph) (inputs : List ℤ) (steps : ℕ) (end : MeanEnd) (outputs : List (Option Value)) (cells_in_order : List Full) : Type 0 where
  pub run : List Activity
  pub state : State
  pub is_run : Run (flow_of g) (start inputs) run state
  pub few : length run ≤ steps
  -- one for each output of main, and no other output is filled
  pub output_count : length outputs ≡ outputs_at g (main_place g)
  pub shown : (j : ℕ) → state.memory.outputs j ≡ held_in outputs j
  pub cells : AreFull g state.memory.cells cells_in_order
  pub ended : IsEnd g steps run state end
  pub outcome : IsOutcome g inputs state end

-- The run of a well-formed graph always has one of these ends: joined tokens have a deed, and no turn has a number of
-- 2^64 or more.
abbrev pub RunsEnd : Type 0
RunsEnd = (g : Graph) (inputs : List ℤ) (steps : ℕ) → HasText g → WellFormed g → length inputs ≡ inputs_at g (main_place g) → steps < 2 ^ 64
    → (r : MeanEnd × List (Option Value) × List Full) × (run_result g inputs steps ≡ Some r)

-- Whatever it reports is true.
abbrev pub ReportsAreTrue : Type 0
ReportsAreTrue = (g : Graph) (inputs : List ℤ) (steps : ℕ) (end : MeanEnd) (outputs : List (Option Value)) (cells_in_order : List Full) → HasText g
    → WellFormed g → length inputs ≡ inputs_at g (main_place g) → steps < 2 ^ 64
    → run_result g inputs steps ≡ Some (end, outputs, cells_in_order) → IsMeant g inputs steps end outputs cells_in_order
