-- THE NAMES THAT A PART TAKES FROM OUTSIDE.
use Rattle.std.specs.Prelude.{not, Bool, List, [], ◌∷◌, ◌++◌, map, filter}
use Rattle.std.specs.List.{list_any}
use Rattle.semantics.specs.Graph.{same_name}
use Rattle.source.specs.Tree.{Name, NameAt, Target, Bind, Drop, Expr, Number, Named, Bracket, Prefix, Infix, Fetch, Store, Call, If, Loop, Exprs}
use Rattle.source.specs.Tree.{One, More, Body, Let, Do, Give, Chain, Turn, Before, After}

abbrev pub is_in : Name → List Name → Bool
is_in x xs = list_any (same_name x) xs

-- those that are none of these
abbrev pub without : List Name → List Name → List Name
without bound xs = filter (λ x. not (is_in x bound)) xs

-- each once, where it is first
abbrev pub once : List Name → List Name
once [] = []
once (x ∷ xs) = x ∷ filter (λ y. not (same_name x y)) (once xs)

abbrev pub bare : List NameAt → List Name
bare xs = map (λ (x : NameAt). x.name) xs

-- the names that targets bind
abbrev pub bound_by : List Target → List Name
bound_by [] = []
bound_by (Bind x ∷ targets) = x.name ∷ bound_by targets
bound_by (Drop ∷ targets) = bound_by targets

-- all uses of names that a part does not bind itself, in order of the text
abbrev mutual
  pub uses : Expr → List Name
  uses (Number at n) = []
  uses (Named at x) = x ∷ []
  uses (Bracket e) = uses e
  uses (Prefix at op e) = uses e
  uses (Infix at s l r) = uses l ++ uses r
  uses (Fetch at a e) = uses e
  uses (Store at a e d) = uses e ++ uses d
  uses (Call at strict f es) = list_uses es
  uses (If at p l r) = uses p ++ body_uses l ++ body_uses r
  uses (Loop at bound firsts turn) = list_uses firsts ++ turn_uses turn

  pub list_uses : Exprs → List Name
  list_uses (One e) = uses e
  list_uses (More e es) = uses e ++ list_uses es

  pub body_uses : Body → List Name
  body_uses (Let at targets es rest) = list_uses es ++ without (bound_by targets) (body_uses rest)
  body_uses (Do es rest) = list_uses es ++ body_uses rest
  body_uses (Give es) = list_uses es
  body_uses (Chain e) = uses e

  pub turn_uses : Turn → List Name
  turn_uses (Before xs p body) = without (bare xs) (uses p ++ body_uses body)
  turn_uses (After xs body p) = without (bare xs) (body_uses body ++ uses p)

-- the outside names, in order of their first uses
abbrev pub outside_body : Body → List Name
outside_body body = once (body_uses body)

abbrev pub outside_turn : Turn → List Name
outside_turn turn = once (turn_uses turn)
