-- HOW MANY VALUES A PART HAS, whether or not it keeps the rules; and the parts in which each operand has one value, and each
-- name of a loop a first value. Only these are lowered.
use Rattle.std.specs.Prelude.{◌≡◌, ℕ, ◌+◌, List, [], ◌∷◌, length, ⊤}
use Rattle.source.specs.Tree.{Expr, Number, Named, Bracket, Prefix, Infix, Fetch, Store, Call, If, Loop, Exprs, One, More, Body, Let, Do, Give}
use Rattle.source.specs.Tree.{Chain, Turn, Before, After, Item, Cells, Defines, Program, names_of}
use Rattle.source.specs.Rules.{function_in}
use Rattle.source.specs.Fits.{count}
use Rattle.source.specs.Lowered.{results_of}

abbrev mutual
  pub many : Program → Expr → ℕ
  many p (Number at n) = 1
  many p (Named at x) = 1
  many p (Bracket e) = many p e
  many p (Prefix at op e) = 1
  many p (Infix at s l r) = 1
  many p (Fetch at a e) = 1
  many p (Store at a e d) = 1
  many p (Call at strict f es) = results_of (function_in p f)
  many p (If at q l r) = body_many p l
  many p (Loop at bound firsts turn) = length (names_of turn)

  pub list_many : Program → Exprs → ℕ
  list_many p (One e) = many p e
  list_many p (More e es) = many p e + list_many p es

  pub body_many : Program → Body → ℕ
  body_many p (Let at targets es rest) = body_many p rest
  body_many p (Do es rest) = body_many p rest
  body_many p (Give es) = list_many p es
  body_many p (Chain e) = many p e

abbrev mutual
  pub Counted : Program → Expr → Type 0
  Counted p (Number at n) = ⊤
  Counted p (Named at x) = ⊤
  Counted p (Bracket e) = Counted p e
  Counted p (Prefix at op e) = Counted p e × (many p e ≡ 1)
  Counted p (Infix at s l r) = Counted p l × (many p l ≡ 1) × Counted p r × (many p r ≡ 1)
  Counted p (Fetch at a e) = Counted p e × (many p e ≡ 1)
  Counted p (Store at a e d) = Counted p e × (many p e ≡ 1) × Counted p d × (many p d ≡ 1)
  Counted p (Call at strict f es) = ListCounted p es
  Counted p (If at q l r) = Counted p q × (many p q ≡ 1) × BodyCounted p l × BodyCounted p r × (body_many p l ≡ body_many p r)
  Counted p (Loop at bound firsts turn) = ListCounted p firsts × (count firsts ≡ length (names_of turn)) × TurnCounted p turn

  pub ListCounted : Program → Exprs → Type 0
  ListCounted p (One e) = Counted p e
  ListCounted p (More e es) = Counted p e × ListCounted p es

  pub BodyCounted : Program → Body → Type 0
  BodyCounted p (Let at targets es rest) = ListCounted p es × BodyCounted p rest
  BodyCounted p (Do es rest) = ListCounted p es × BodyCounted p rest
  BodyCounted p (Give es) = ListCounted p es
  BodyCounted p (Chain e) = Counted p e

  pub TurnCounted : Program → Turn → Type 0
  TurnCounted p (Before xs q body) = Counted p q × (many p q ≡ 1) × BodyCounted p body
  TurnCounted p (After xs body q) = Counted p q × (many p q ≡ 1) × BodyCounted p body

abbrev pub ItemsCounted : Program → List Item → Type 0
ItemsCounted p [] = ⊤
ItemsCounted p (Cells x len ∷ items) = ItemsCounted p items
ItemsCounted p (Defines f ∷ items) = BodyCounted p f.body × ItemsCounted p items
