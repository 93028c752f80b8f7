-- WHAT IS KNOWN OF A PART BEFORE IT IS LOWERED: the outside names of each arm and of each turn, and the place of the `if` or
-- `loop`. In words the place of an `if` is after its arms. The plans are in the order in which they are asked for: that of
-- a loop at its word `Loop`, those of the arms of an `if` at `Then` and `Else`, that of the arm of a loop with its test first at
-- `While`.
use Rattle.std.specs.Prelude.{ℕ, List, [], ◌∷◌, ◌++◌, flat_map}
use Rattle.source.specs.Tree.{Name, Expr, Number, Named, Bracket, Prefix, Infix, Fetch, Store, Call, If, Loop, Exprs, One, More, Body, Let, Do}
use Rattle.source.specs.Tree.{Give, Chain, Turn, Before, After, Item, Cells, Defines, Program}
use Rattle.source.specs.Outside.{outside_body, outside_turn}

pub record Plan : Type 0 where
  pub at : ℕ
  pub names : List Name

abbrev pub plan : ℕ → List Name → Plan
plan at names = record { at = at; names = names }

abbrev mutual
  pub plans : Expr → List Plan
  plans (Number at n) = []
  plans (Named at x) = []
  plans (Bracket e) = plans e
  plans (Prefix at op e) = plans e
  plans (Infix at s l r) = plans l ++ plans r
  plans (Fetch at a e) = plans e
  plans (Store at a e d) = plans e ++ plans d
  plans (Call at strict f es) = list_plans es
  plans (If at p l r) = plans p ++ plan at (outside_body l) ∷ body_plans l ++ plan at (outside_body r) ∷ body_plans r
  plans (Loop at bound firsts turn) = plan at (outside_turn turn) ∷ list_plans firsts ++ turn_plans at turn

  pub list_plans : Exprs → List Plan
  list_plans (One e) = plans e
  list_plans (More e es) = plans e ++ list_plans es

  pub body_plans : Body → List Plan
  body_plans (Let at targets es rest) = list_plans es ++ body_plans rest
  body_plans (Do es rest) = list_plans es ++ body_plans rest
  body_plans (Give es) = list_plans es
  body_plans (Chain e) = plans e

  pub turn_plans : ℕ → Turn → List Plan
  turn_plans at (Before xs p body) = plans p ++ plan at (outside_body body) ∷ body_plans body
  turn_plans at (After xs body p) = body_plans body ++ plans p

abbrev pub item_plans : Item → List Plan
item_plans (Cells x len) = []
item_plans (Defines f) = body_plans f.body

abbrev pub program_plans : Program → List Plan
program_plans items = flat_map item_plans items
