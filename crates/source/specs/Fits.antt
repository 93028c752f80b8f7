-- WHICH TREES FIT THE GRAMMAR, and how deep a tree is.
--
--     program := { item }
--     item    := "array" NAME "[" NUMBER "]" ";"
--              | "fn" NAME "(" NAME { "," NAME } ")" [ "->" NUMBER ] block
--     block   := "{" body
--     body    := "let" target { "," target } "=" exprs ";" body   |   exprs ";" body   |   exprs "}"
--     target  := NAME | "_"
--     exprs   := expr { "," expr }
--     expr    := flag | NAME "[" expr "]" ":=" expr
--     flag    := or [ ( "==" | "!=" | "<" | "<=" | ">" | ">=" ) or ]
--     or      := xor { "|" xor }      xor := and { "^" and }      and := shift { "&" shift }
--     shift   := sum { ( "<<" | ">>" ) sum }
--     sum     := term { ( "+" | "-" ) term }      term := unary { ( "*" | "/" | "%" ) unary }
--     unary   := ( "-" | "~" ) unary | primary
--     primary := NUMBER | NAME | NAME "(" exprs ")" | "strict" NAME "(" exprs ")" | NAME "[" expr "]" | "(" expr ")" | if | loop
--     if      := "if" expr block "else" ( block | if )
--     loop    := "loop" NUMBER "(" NAME "=" expr { "," NAME "=" expr } ")" ( "while" expr block | block "while" "(" expr ")" )
use Rattle.std.specs.Prelude.{◌≡◌, ℕ, suc, ◌^◌, ◌<◌, ◌≤◌, ◌⊎◌, max, Bool, true, false, IsTrue, [], ◌∷◌, length, Option, None, Some, ⊤}
use Rattle.operators.specs.declared.Unary.{Unary}
use Rattle.operators.specs.declared.Unary.TheVariants.{Neg}
use Rattle.operators.specs.declared.Binary.TheVariants.{Add, Sub, Mul, Div, Rem, And, Or, Xor, Shl, Shr, Eq, Ne, Lt, Le}
use Rattle.source.specs.declared.word.InfixSign.{InfixSign}
use Rattle.source.specs.declared.word.InfixSign.TheVariants.{Direct, Greater, AtLeast}
use Rattle.source.specs.Tree.{NumberAt, Expr, Number, Named, Bracket, Prefix, Infix, Fetch, Store, Call, If, Loop, Exprs, One, More, Body, Let, Do}
use Rattle.source.specs.Tree.{Give, Chain, Turn, Before, After, Item, Cells, Defines, Program, names_of}

-- LEVELS. The level of a rule of the grammar: what binds tighter has a higher one.
--     expr 0   flag 1   or 2   xor 3   and 4   shift 5   sum 6   term 7   unary 8   primary 9
abbrev pub sign_level : InfixSign → ℕ
sign_level (Direct Add) = 6
sign_level (Direct Sub) = 6
sign_level (Direct Mul) = 7
sign_level (Direct Div) = 7
sign_level (Direct Rem) = 7
sign_level (Direct And) = 4
sign_level (Direct Or) = 2
sign_level (Direct Xor) = 3
sign_level (Direct Shl) = 5
sign_level (Direct Shr) = 5
sign_level (Direct Eq) = 1
sign_level (Direct Ne) = 1
sign_level (Direct Lt) = 1
sign_level (Direct Le) = 1
sign_level Greater = 1
sign_level AtLeast = 1

-- Operators of one level go to the left, but comparisons do not chain.
abbrev pub left_level : InfixSign → ℕ
left_level s = max 2 (sign_level s)

abbrev pub level : Expr → ℕ
level (Number at n) = 9
level (Named at x) = 9
level (Bracket e) = 9
level (Prefix at op e) = 8
level (Infix at s l r) = sign_level s
level (Fetch at a e) = 9
level (Store at a e d) = 0
level (Call at strict f es) = 9
level (If at p l r) = 9
level (Loop at bound firsts turn) = 9

-- NUMBERS are below 2 ^ 63, except 2 ^ 63 itself directly under `-`.
abbrev pub Small : ℕ → Type 0
Small n = n < 2 ^ 63

abbrev pub IsLeast : Unary → Expr → Type 0
IsLeast Neg (Number at n) = n ≡ 2 ^ 63
IsLeast op e = ⊥

abbrev pub is_if : Expr → Bool
is_if (If at p l r) = true
is_if e = false

abbrev pub count : Exprs → ℕ
count (One e) = 1
count (More e es) = suc (count es)

abbrev mutual
  pub Fits : Expr → Type 0
  Fits (Number at n) = Small n
  Fits (Named at x) = ⊤
  Fits (Bracket e) = Fits e
  Fits (Prefix at op e) = (8 ≤ level e) × (Fits e ⊎ IsLeast op e)
  Fits (Infix at s l r) = Fits l × (left_level s ≤ level l) × Fits r × (sign_level s < level r)
  Fits (Fetch at a e) = Fits e
  Fits (Store at a e d) = Fits e × Fits d
  Fits (Call at strict f es) = FitsAll es
  Fits (If at p l r) = Fits p × FitsBody false l × FitsBody true r
  -- a first value for each name
  Fits (Loop at bound firsts turn) = Small bound.number × FitsAll firsts × (count firsts ≡ length (names_of turn)) × FitsTurn turn

  pub FitsAll : Exprs → Type 0
  FitsAll (One e) = Fits e
  FitsAll (More e es) = Fits e × FitsAll es

  -- The flag says whether the body is after an `else`: only there an `if` may be all of it, and then has no braces.
  pub FitsBody : Bool → Body → Type 0
  FitsBody behind_else (Let at targets es rest) = (0 < length targets) × FitsAll es × FitsBody false rest
  FitsBody behind_else (Do es rest) = FitsAll es × FitsBody false rest
  FitsBody behind_else (Give es) = FitsAll es
  FitsBody behind_else (Chain e) = IsTrue behind_else × IsTrue (is_if e) × Fits e

  pub FitsTurn : Turn → Type 0
  FitsTurn (Before xs p body) = Fits p × FitsBody false body
  FitsTurn (After xs body p) = FitsBody false body × Fits p

abbrev pub IsSmall : Option NumberAt → Type 0
IsSmall None = ⊤
IsSmall (Some n) = Small n.number

abbrev pub FitsItem : Item → Type 0
FitsItem (Cells x len) = Small len.number
FitsItem (Defines f) = (0 < length f.params) × IsSmall f.results × FitsBody false f.body

abbrev pub FitsProgram : Program → Type 0
FitsProgram [] = ⊤
FitsProgram (i ∷ items) = FitsItem i × FitsProgram items

-- DEPTH: how many are open at once of these: each `expr` of the grammar, from its first token to its last; the operand of
-- each `-` and `~`, but of no `-` directly before a number; each `if`. `depth` leaves out the `expr` that the expression is.
abbrev pub prefix_depth : Unary → Expr → ℕ → ℕ
prefix_depth Neg (Number at n) d = 0
prefix_depth op e d = suc d

abbrev mutual
  pub depth : Expr → ℕ
  depth (Number at n) = 0
  depth (Named at x) = 0
  depth (Bracket e) = suc (depth e)
  depth (Prefix at op e) = prefix_depth op e (depth e)
  depth (Infix at s l r) = max (depth l) (depth r)
  depth (Fetch at a e) = suc (depth e)
  depth (Store at a e d) = suc (max (depth e) (depth d))
  depth (Call at strict f es) = list_depth es
  depth (If at p l r) = suc (max (suc (depth p)) (max (body_depth l) (body_depth r)))
  depth (Loop at bound firsts turn) = max (list_depth firsts) (turn_depth turn)

  pub list_depth : Exprs → ℕ
  list_depth (One e) = suc (depth e)
  list_depth (More e es) = max (suc (depth e)) (list_depth es)

  pub body_depth : Body → ℕ
  body_depth (Let at targets es rest) = max (list_depth es) (body_depth rest)
  body_depth (Do es rest) = max (list_depth es) (body_depth rest)
  body_depth (Give es) = list_depth es
  body_depth (Chain e) = depth e

  pub turn_depth : Turn → ℕ
  turn_depth (Before xs p body) = max (suc (depth p)) (body_depth body)
  turn_depth (After xs body p) = max (body_depth body) (suc (depth p))

abbrev pub item_depth : Item → ℕ
item_depth (Cells x len) = 0
item_depth (Defines f) = body_depth f.body

abbrev pub program_depth : Program → ℕ
program_depth [] = 0
program_depth (i ∷ items) = max (item_depth i) (program_depth items)
