-- The same run with the tokens that wait in rows, one for each invocation.
use Rattle.std.specs.Prelude.{ℕ, zero, suc, ◌==◌, List, [], ◌∷◌, ◌++◌, Option, Some, None, if◌then◌else◌}
use Rattle.tags.specs.declared.value.Value.{Value}
use Rattle.semantics.specs.Graph.{Graph}
use Rattle.oracle.specs.declared.invocations.Invocation.{Invocation}
use Rattle.oracle.specs.Deeds.{Deed}
use Rattle.oracle.specs.declared.state.Gate.TheVariants.{Free, Defers, Clashes}
use Rattle.oracle.specs.declared.tokens.Token.{Token}
use Rattle.oracle.specs.declared.report.MeanEnd.{MeanEnd}
use Rattle.oracle.specs.declared.report.MeanEnd.TheVariants.{Rest, Clash, Steps}
use Rattle.oracle.specs.Acting.{gate_of}
use Rattle.oracle.specs.Running.{Plain, plain, Alone, Joins, Fails, join_of, performed}

-- the row of each invocation: there are none beyond the last
abbrev pub rows_of : List (List Token) → ℕ → List Token
rows_of [] c = []
rows_of (r ∷ rs) zero = r
rows_of (r ∷ rs) (suc c) = rows_of rs c

abbrev pub with_row : (ℕ → List Token) → ℕ → List Token → ℕ → List Token
with_row rows c r d = if d == c then r else rows d

abbrev pub no_rows : ℕ → List Token
no_rows c = []

-- what comes next. The states have no list of tokens that wait: the rows are given beside them.
pub data Next : Type 0 where
  Goes : (state : Plain) (rows : ℕ → List Token) (values : List Value) (deed : Deed) → Next
  Stays : (state : Plain) (end : MeanEnd) → Next
  Breaks : Next

abbrev pub row_next : Graph → List Invocation → List (Option Value) → List (Option Value) → List Token → (ℕ → List Token) → List Token → Next
row_next g xs cells outputs [] rows d = Stays (plain xs [] [] d cells outputs) Rest
row_next g xs cells outputs (t ∷ ts) rows d =
    elim (join_of g xs (rows t.context) t) [
      | Alone ↦ row_next g xs cells outputs ts (with_row rows t.context (rows t.context ++ t ∷ [])) d
      | Joins left vs deed ↦ elim (gate_of cells deed) [
        | Free ↦ Goes (plain xs ts [] d cells outputs) (with_row rows t.context left) vs deed
        | Defers ↦ row_next g xs cells outputs ts (with_row rows t.context left) (d ++ t ∷ [])
        | Clashes a i ↦ Stays (plain xs ts [] d cells outputs) (Clash a i)
      ]
      | Fails ↦ Breaks
    ]

abbrev pub next_among : Graph → Plain → (ℕ → List Token) → Next
next_among g s rows = row_next g s.invocations s.cells s.outputs s.fresh rows s.deferred

-- a run of at most a given number of activities
abbrev pub run_among : Graph → ℕ → Plain → (ℕ → List Token) → Option (MeanEnd × Plain)
run_among g zero s rows = elim (next_among g s rows) [ Goes t rs vs d ↦ Some (Steps, t) | Stays t e ↦ Some (e, t) | Breaks ↦ None ]
run_among g (suc k) s rows = elim (next_among g s rows) [ Goes t rs vs d ↦ run_among g k (performed g t vs d) rs | Stays t e ↦ Some (e, t) | Breaks ↦ None ]
