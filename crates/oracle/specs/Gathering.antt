-- The waves as they are run: all tokens that were there before a wave are looked at, and then all that act do so.
use Rattle.std.specs.Prelude.{ℕ, zero, suc, ◌-◌, ℤ, List, [], ◌∷◌, ◌++◌, length, Option, Some, None, nat_lt, if◌then◌else◌}
use Rattle.tags.specs.declared.value.Value.{Value}
use Rattle.semantics.specs.Graph.{Graph}
use Rattle.oracle.specs.declared.invocations.Invocation.{Invocation}
use Rattle.oracle.specs.Deeds.{Deed}
use Rattle.oracle.specs.declared.state.Gate.TheVariants.{Free, Defers, Clashes}
use Rattle.oracle.specs.declared.tokens.Token.{Token}
use Rattle.oracle.specs.declared.report.MeanEnd.{MeanEnd}
use Rattle.oracle.specs.declared.report.MeanEnd.TheVariants.{Rest, Clash, Steps}
use Rattle.oracle.specs.Acting.{gate_of}
use Rattle.oracle.specs.Running.{Plain, plain, Alone, Joins, Fails, join_of, performed, start_of}
use Rattle.oracle.specs.Rows.{with_row, no_rows}

-- LOOKING. What was found when each fresh token was looked at: the tokens that wait, the deferred ones, and the activities with
-- the values that they took. No activity is done yet, so the cells are those at the beginning of the wave.
pub data Gathered : Type 0 where
  Found : (rows : ℕ → List Token) (deferred : List Token) (acts : List (List Value × Deed)) → Gathered
  Clashed : (end : MeanEnd) → Gathered
  Failed : Gathered

abbrev pub gathered : Graph → List Invocation → List (Option Value) → List Token → (ℕ → List Token) → List Token → List (List Value × Deed) → Gathered
gathered g xs cells [] rows d acts = Found rows d acts
gathered g xs cells (t ∷ ts) rows d acts =
    elim (join_of g xs (rows t.context) t) [
      | Alone ↦ gathered g xs cells ts (with_row rows t.context (rows t.context ++ t ∷ [])) d acts
      | Joins left vs deed ↦ elim (gate_of cells deed) [
        | Free ↦ gathered g xs cells ts (with_row rows t.context left) d (acts ++ (vs, deed) ∷ [])
        | Defers ↦ gathered g xs cells ts (with_row rows t.context left) (d ++ t ∷ []) acts
        | Clashes a i ↦ Clashed (Clash a i)
      ]
      | Fails ↦ Failed
    ]

-- DOING, one after the other. A store to a cell that an earlier one of the wave filled clashes.
pub data Performed : Type 0 where
  Does : (state : Plain) → Performed
  Hits : (end : MeanEnd) → Performed

abbrev pub performed_all : Graph → Plain → List (List Value × Deed) → Performed
performed_all g s [] = Does s
performed_all g s (act ∷ acts) =
    elim (gate_of s.cells act.1) [
      | Free ↦ performed_all g (performed g s act.0 act.1) acts
      | Defers ↦ performed_all g (performed g s act.0 act.1) acts
      | Clashes a i ↦ Hits (Clash a i)
    ]

-- A WAVE of at most a given number of activities
pub data Waved : Type 0 where
  Passes : (state : Plain) (rows : ℕ → List Token) (count : ℕ) → Waved
  Halts : (end : MeanEnd) → Waved
  Breaks : Waved

abbrev pub waved_by : Performed → (ℕ → List Token) → ℕ → Waved
waved_by (Does s) rows n = Passes s rows n
waved_by (Hits e) rows n = Halts e

abbrev pub wave_of_acts : Graph → ℕ → Plain → (ℕ → List Token) → List (List Value × Deed) → Waved
wave_of_acts g left s rows [] = Halts Rest
wave_of_acts g left s rows (act ∷ acts) = if nat_lt left (length (act ∷ acts)) then Halts Steps else waved_by (performed_all g s (act ∷ acts)) rows
    (length (act ∷ acts))

abbrev pub wave_found : Graph → ℕ → Plain → Gathered → Waved
wave_found g left s (Found rows d acts) = wave_of_acts g left (plain s.invocations [] [] d s.cells s.outputs) rows acts
wave_found g left s (Clashed e) = Halts e
wave_found g left s Failed = Breaks

abbrev pub wave_among : Graph → ℕ → Plain → (ℕ → List Token) → Waved
wave_among g left s rows = wave_found g left s (gathered g s.invocations s.cells s.fresh rows s.deferred [])

-- THE WAVES, after those that were counted. Each has an activity, so there are at most as many waves as activities.
abbrev pub waves_among : Graph → ℕ → ℕ → Plain → (ℕ → List Token) → List ℕ → Option (MeanEnd × List ℕ)
waves_among g zero left s rows counts = None
waves_among g (suc most) left s rows counts =
    elim (wave_among g left s rows) [
      | Passes t rs n ↦ waves_among g most (left - n) t rs (counts ++ n ∷ [])
      | Halts e ↦ Some (e, counts)
      | Breaks ↦ None
    ]

abbrev pub wave_counts : Graph → List ℤ → ℕ → Option (MeanEnd × List ℕ)
wave_counts g inputs steps = waves_among g (suc steps) steps (start_of g inputs) no_rows []
