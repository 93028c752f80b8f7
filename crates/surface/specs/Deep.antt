-- HOW DEEP THE CORE IS: the place of the first part with which more than 200 would be open at once, as `Fits.depth` of the core
-- counts them. `d` are open around the part.
use Rattle.std.specs.Prelude.{ℕ, ◌+◌, ◌==◌, [], ◌∷◌, Option, None, Some, if◌then◌else◌}
use Rattle.operators.specs.declared.Unary.{Unary}
use Rattle.operators.specs.declared.Unary.TheVariants.{Neg}
use Rattle.source.specs.Tree.{Expr, Number, Named, Bracket, Prefix, Infix, Fetch, Store, Call, If, Loop, Exprs, One, More, Body, Let, Do, Give, Chain}
use Rattle.source.specs.Tree.{Turn, Before, After, Item, Cells, Defines, Program}
use Rattle.source.specs.Rules.{place_of}

abbrev pub or_then : Option ℕ → Option ℕ → Option ℕ
or_then (Some at) later = Some at
or_then None later = later

-- one more is open
abbrev pub opened : ℕ → ℕ → Option ℕ → Option ℕ
opened at d inner = if d == 200 then Some at else inner

abbrev pub prefix_opened : Unary → Expr → ℕ → Option ℕ → Option ℕ
prefix_opened Neg (Number at n) d inner = None
prefix_opened op e d inner = opened (place_of e) d inner

abbrev mutual
  pub too_deep : ℕ → Expr → Option ℕ
  too_deep d (Number at n) = None
  too_deep d (Named at x) = None
  too_deep d (Bracket e) = opened (place_of e) d (too_deep (d + 1) e)
  too_deep d (Prefix at op e) = prefix_opened op e d (too_deep (d + 1) e)
  too_deep d (Infix at s l r) = or_then (too_deep d l) (too_deep d r)
  too_deep d (Fetch at a e) = opened (place_of e) d (too_deep (d + 1) e)
  too_deep d (Store at a e x) = or_then (opened (place_of e) d (too_deep (d + 1) e)) (opened (place_of x) d (too_deep (d + 1) x))
  too_deep d (Call at strict f es) = list_too_deep d es
  too_deep d (If at p l r) = opened at d (or_then (opened (place_of p) (d + 1) (too_deep (d + 2) p)) (or_then (body_too_deep (d + 1) l) (body_too_deep (d +
      1) r)))
  too_deep d (Loop at bound firsts turn) = or_then (list_too_deep d firsts) (turn_too_deep d turn)

  pub list_too_deep : ℕ → Exprs → Option ℕ
  list_too_deep d (One e) = opened (place_of e) d (too_deep (d + 1) e)
  list_too_deep d (More e es) = or_then (opened (place_of e) d (too_deep (d + 1) e)) (list_too_deep d es)

  pub body_too_deep : ℕ → Body → Option ℕ
  body_too_deep d (Let at targets es rest) = or_then (list_too_deep d es) (body_too_deep d rest)
  body_too_deep d (Do es rest) = or_then (list_too_deep d es) (body_too_deep d rest)
  body_too_deep d (Give es) = list_too_deep d es
  body_too_deep d (Chain e) = too_deep d e

  pub turn_too_deep : ℕ → Turn → Option ℕ
  turn_too_deep d (Before xs p body) = or_then (opened (place_of p) d (too_deep (d + 1) p)) (body_too_deep d body)
  turn_too_deep d (After xs body p) = or_then (body_too_deep d body) (opened (place_of p) d (too_deep (d + 1) p))

abbrev pub item_too_deep : Item → Option ℕ
item_too_deep (Cells x len) = None
item_too_deep (Defines f) = body_too_deep 0 f.body

abbrev pub program_too_deep : Program → Option ℕ
program_too_deep [] = None
program_too_deep (i ∷ items) = or_then (item_too_deep i) (program_too_deep items)
