-- THE NAMES OF VALUES that a turn takes from outside.
use Rattle.std.specs.Prelude.{List, [], ◌∷◌, ◌++◌}
use Rattle.source.specs.Tree.{Name}
use Rattle.source.specs.Outside.{without, once, bare, bound_by}
use Rattle.surface.specs.Tree.{Expr, Number, Named, Bracket, Prefix, Infix, And, Or, Not, Fetch, Store, Call, If, Loop, For}
use Rattle.surface.specs.Tree.{Exprs, One, More, Body, Let, Do, When, Give, Chain, Tests, Last, Else, Turn, Before, After, Carried, Nothing, With}
use Rattle.surface.specs.Tree.{carried_names}

-- All uses of names that a part does not bind itself, in order of the text. Those of constants and of arrays are among them:
-- who asks for values leaves them out.
abbrev mutual
  pub uses : Expr → List Name
  uses (Number at n) = []
  uses (Named at x) = x ∷ []
  uses (Bracket e) = uses e
  uses (Prefix at op e) = uses e
  uses (Infix at s l r) = uses l ++ uses r
  uses (And at l r) = uses l ++ uses r
  uses (Or at l r) = uses l ++ uses r
  uses (Not at e) = uses e
  uses (Fetch at a es) = list_uses es
  uses (Store at a es d) = list_uses es ++ uses d
  uses (Call at strict f es) = list_uses es
  uses (If at p l r) = uses p ++ body_uses l ++ body_uses r
  uses (Loop at bound firsts turn) = list_uses firsts ++ turn_uses turn
  uses (For at bound i a b carried body) = uses a ++ uses b ++ carried_uses carried ++ without (i.name ∷ bare (carried_names carried)) (body_uses body)

  pub list_uses : Exprs → List Name
  list_uses (One e) = uses e
  list_uses (More e es) = uses e ++ list_uses es

  pub body_uses : Body → List Name
  body_uses (Let at targets es rest) = list_uses es ++ without (bound_by targets) (body_uses rest)
  body_uses (Do es rest) = list_uses es ++ body_uses rest
  body_uses (When tests rest) = tests_uses tests ++ body_uses rest
  body_uses (Give es) = list_uses es
  body_uses (Chain e) = uses e

  pub tests_uses : Tests → List Name
  tests_uses (Last at p arm) = uses p ++ body_uses arm
  tests_uses (Else at p arm others) = uses p ++ body_uses arm ++ tests_uses others

  pub turn_uses : Turn → List Name
  turn_uses (Before xs p body) = without (bare xs) (uses p ++ body_uses body)
  turn_uses (After xs body p) = without (bare xs) (body_uses body ++ uses p)

  pub carried_uses : Carried → List Name
  carried_uses Nothing = []
  carried_uses (With xs firsts) = list_uses firsts

-- each once, where `others` are those of constants and arrays
abbrev pub outside_turn : List Name → Turn → List Name
outside_turn others turn = once (without others (turn_uses turn))

-- of the turn of a `for` with these names
abbrev pub outside_for : List Name → List Name → Body → List Name
outside_for others bound body = once (without others (without bound (body_uses body)))
