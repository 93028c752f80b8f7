-- WHICH TREES FIT THE GRAMMAR, and how deep a tree is. What is not here is as in the core.
--
--     program := { item }
--     item    := "array" NAME "[" exprs "]" ";"   |   "const" NAME "=" expr ";"
--              | "fn" NAME "(" param { "," param } ")" [ "->" count ] block
--     param   := NAME [ "[" { "," } "]" ]
--     count   := NUMBER | NAME
--     block   := "{" body
--     body    := "let" target { "," target } "=" exprs ";" body   |   exprs ";" body   |   when ";" body   |   exprs "}"
--     when    := "if" expr block [ "else" when ]
--     expr    := disj | NAME "[" exprs "]" ":=" expr
--     disj    := conj { "or" conj }      conj := neg { "and" neg }      neg := "not" neg | flag
--     flag, or, xor, and, shift, sum, term, unary       as in the core
--     primary := NUMBER | NAME | NAME "(" exprs ")" | "strict" NAME "(" exprs ")" | NAME "[" exprs "]" | "(" expr ")" | if | loop | for
--     loop    := "loop" count "(" vars ")" ( "while" expr block | block "while" "(" expr ")" )
--     for     := "for" [ count ] NAME "in" expr ".." expr [ "with" vars ] block
--     vars    := NAME "=" expr { "," NAME "=" expr }
use Rattle.std.specs.Prelude.{◌≡◌, ℕ, suc, ◌+◌, ◌^◌, ◌<◌, ◌≤◌, ◌⊎◌, max, Bool, true, false, IsTrue, [], ◌∷◌, length, Option, None, Some, ⊤}
use Rattle.operators.specs.declared.Unary.{Unary}
use Rattle.operators.specs.declared.Unary.TheVariants.{Neg}
use Rattle.source.specs.declared.word.InfixSign.{InfixSign}
use Rattle.source.specs.Fits as core
use Rattle.source.specs.Fits.{Small}
use Rattle.surface.specs.Tree.{Count, Written, Constant, Expr, Number, Named, Bracket, Prefix, Infix, And, Or, Not, Fetch, Store, Call, If, Loop, For}
use Rattle.surface.specs.Tree.{Exprs, One, More, Body, Let, Do, When, Give, Chain, Tests, Last, Else, Turn, Before, After, Carried, Nothing, With}
use Rattle.surface.specs.Tree.{Item, Cells, Const, Defines, Program, names_of}

-- LEVELS. Three more than in the core:
--     expr 0   disj 1   conj 2   neg 3   flag 4   or 5   xor 6   and 7   shift 8   sum 9   term 10   unary 11   primary 12
abbrev pub sign_level : InfixSign → ℕ
sign_level s = 3 + core.sign_level s

-- Operators of one level go to the left, but comparisons do not chain.
abbrev pub left_level : InfixSign → ℕ
left_level s = 3 + core.left_level s

abbrev pub level : Expr → ℕ
level (Number at n) = 12
level (Named at x) = 12
level (Bracket e) = 12
level (Prefix at op e) = 11
level (Infix at s l r) = sign_level s
level (And at l r) = 2
level (Or at l r) = 1
level (Not at e) = 3
level (Fetch at a es) = 12
level (Store at a es d) = 0
level (Call at strict f es) = 12
level (If at p l r) = 12
level (Loop at bound firsts turn) = 12
level (For at bound i a b carried body) = 12

abbrev pub IsLeast : Unary → Expr → Type 0
IsLeast Neg (Number at n) = n ≡ 2 ^ 63
IsLeast op e = ⊥

abbrev pub is_if : Expr → Bool
is_if (If at p l r) = true
is_if e = false

abbrev pub count : Exprs → ℕ
count (One e) = 1
count (More e es) = suc (count es)

abbrev pub IsSmall : Count → Type 0
IsSmall (Written at n) = Small n
IsSmall (Constant at x) = ⊤

abbrev pub IsSmallIfWritten : Option Count → Type 0
IsSmallIfWritten None = ⊤
IsSmallIfWritten (Some n) = IsSmall n

abbrev mutual
  pub Fits : Expr → Type 0
  Fits (Number at n) = Small n
  Fits (Named at x) = ⊤
  Fits (Bracket e) = Fits e
  Fits (Prefix at op e) = (11 ≤ level e) × (Fits e ⊎ IsLeast op e)
  Fits (Infix at s l r) = Fits l × (left_level s ≤ level l) × Fits r × (sign_level s < level r)
  Fits (And at l r) = Fits l × (2 ≤ level l) × Fits r × (2 < level r)
  Fits (Or at l r) = Fits l × (1 ≤ level l) × Fits r × (1 < level r)
  Fits (Not at e) = Fits e × (3 ≤ level e)
  Fits (Fetch at a es) = FitsAll es
  Fits (Store at a es d) = FitsAll es × Fits d
  Fits (Call at strict f es) = FitsAll es
  Fits (If at p l r) = Fits p × FitsBody false l × FitsBody true r
  -- a first value for each name
  Fits (Loop at bound firsts turn) = IsSmall bound × FitsAll firsts × (count firsts ≡ length (names_of turn)) × FitsTurn turn
  Fits (For at bound i a b carried body) = IsSmallIfWritten bound × Fits a × Fits b × FitsCarried carried × FitsBody false body

  pub FitsAll : Exprs → Type 0
  FitsAll (One e) = Fits e
  FitsAll (More e es) = Fits e × FitsAll es

  -- The flag says whether the body is after an `else`: only there an `if` may be all of it, and then has no braces.
  pub FitsBody : Bool → Body → Type 0
  FitsBody behind_else (Let at targets es rest) = (0 < length targets) × FitsAll es × FitsBody false rest
  FitsBody behind_else (Do es rest) = FitsAll es × FitsBody false rest
  FitsBody behind_else (When tests rest) = FitsTests tests × FitsBody false rest
  FitsBody behind_else (Give es) = FitsAll es
  FitsBody behind_else (Chain e) = IsTrue behind_else × IsTrue (is_if e) × Fits e

  pub FitsTests : Tests → Type 0
  FitsTests (Last at p arm) = Fits p × FitsBody false arm
  FitsTests (Else at p arm others) = Fits p × FitsBody false arm × FitsTests others

  pub FitsTurn : Turn → Type 0
  FitsTurn (Before xs p body) = Fits p × FitsBody false body
  FitsTurn (After xs body p) = FitsBody false body × Fits p

  pub FitsCarried : Carried → Type 0
  FitsCarried Nothing = ⊤
  FitsCarried (With xs firsts) = FitsAll firsts × (count firsts ≡ length xs)

abbrev pub FitsItem : Item → Type 0
FitsItem (Cells x es) = FitsAll es
FitsItem (Const x e) = Fits e
FitsItem (Defines f) = (0 < length f.params) × IsSmallIfWritten f.results × FitsBody false f.body

abbrev pub FitsProgram : Program → Type 0
FitsProgram [] = ⊤
FitsProgram (i ∷ items) = FitsItem i × FitsProgram items

-- DEPTH: how many are open at once of these: each `expr` of the grammar, from its first token to its last; the operand of
-- each `-`, `~` and `not`, but of no `-` directly before a number; each `if`. A statement without a last `else` is as open as
-- the `expr` that it could yet become. `depth` leaves out the `expr` that the expression is.
abbrev pub prefix_depth : Unary → Expr → ℕ → ℕ
prefix_depth Neg (Number at n) d = 0
prefix_depth op e d = suc d

abbrev mutual
  pub depth : Expr → ℕ
  depth (Number at n) = 0
  depth (Named at x) = 0
  depth (Bracket e) = suc (depth e)
  depth (Prefix at op e) = prefix_depth op e (depth e)
  depth (Infix at s l r) = max (depth l) (depth r)
  depth (And at l r) = max (depth l) (depth r)
  depth (Or at l r) = max (depth l) (depth r)
  depth (Not at e) = suc (depth e)
  depth (Fetch at a es) = list_depth es
  depth (Store at a es d) = max (list_depth es) (suc (depth d))
  depth (Call at strict f es) = list_depth es
  depth (If at p l r) = suc (max (suc (depth p)) (max (body_depth l) (body_depth r)))
  depth (Loop at bound firsts turn) = max (list_depth firsts) (turn_depth turn)
  depth (For at bound i a b carried body) = max (suc (depth a)) (max (suc (depth b)) (max (carried_depth carried) (body_depth body)))

  pub list_depth : Exprs → ℕ
  list_depth (One e) = suc (depth e)
  list_depth (More e es) = max (suc (depth e)) (list_depth es)

  pub body_depth : Body → ℕ
  body_depth (Let at targets es rest) = max (list_depth es) (body_depth rest)
  body_depth (Do es rest) = max (list_depth es) (body_depth rest)
  body_depth (When tests rest) = max (suc (tests_depth tests)) (body_depth rest)
  body_depth (Give es) = list_depth es
  body_depth (Chain e) = depth e

  pub tests_depth : Tests → ℕ
  tests_depth (Last at p arm) = suc (max (suc (depth p)) (body_depth arm))
  tests_depth (Else at p arm others) = suc (max (suc (depth p)) (max (body_depth arm) (tests_depth others)))

  pub turn_depth : Turn → ℕ
  turn_depth (Before xs p body) = max (suc (depth p)) (body_depth body)
  turn_depth (After xs body p) = max (body_depth body) (suc (depth p))

  pub carried_depth : Carried → ℕ
  carried_depth Nothing = 0
  carried_depth (With xs firsts) = list_depth firsts

abbrev pub item_depth : Item → ℕ
item_depth (Cells x es) = list_depth es
item_depth (Const x e) = suc (depth e)
item_depth (Defines f) = body_depth f.body

abbrev pub program_depth : Program → ℕ
program_depth [] = 0
program_depth (i ∷ items) = max (item_depth i) (program_depth items)
