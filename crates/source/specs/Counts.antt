-- How many values an expression gives: as many as the rules count.
use Rattle.std.specs.Prelude.{◌≡◌, ℕ, List, length, Ok}
use Rattle.tags.specs.declared.value.Value.{Value}
use Rattle.source.specs.Tree.{Name, Expr, Program}
use Rattle.source.specs.Fits.{Fits, FitsProgram}
use Rattle.source.specs.Rules.{written_or_one, values, checked}
use Rattle.source.specs.Evaluates.{World, Env, Stores, Evaluates, RunsMain}

-- a program that fits and breaks no rule, wherever its text ends
pub record IsGood (p : Program) : Type 0 where
  pub fits : FitsProgram p
  pub end : ℕ
  pub checked : checked end p ≡ Ok tt

-- An expression of a good program gives as many values as the rules count, under whatever names.
abbrev pub CountsHold : Type 0
CountsHold = (w : World) (env : Env) (scope : List Name) (e : Expr) (n : ℕ) (vs : List Value) (ss : Stores) → IsGood w.program → Fits e
    → values w.program scope e ≡ Ok n → Evaluates w env e vs ss → length vs ≡ n

-- and its outputs are as many as `main` says
abbrev pub MainCounts : Type 0
MainCounts = (w : World) (arguments vs : List Value) (ss : Stores) → IsGood w.program → (r : RunsMain w arguments vs ss) → length vs ≡ written_or_one
    r.main.results
