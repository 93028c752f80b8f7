-- THE TOKENS OF A TREE. A name in a tree has its bytes there, so what a token of a text says is seen with the bytes of its
-- name. Words and signs of the core are as there.
use Rattle.std.specs.Prelude.{◌≡◌, ℕ, zero, suc, ◌++◌, Bool, true, false, List, [], ◌∷◌, map, flat_map, take, drop, replicate, Option, None, Some, ⊤}
use Rattle.source.specs.declared.token.Keyword.{Keyword as CoreKeyword}
use Rattle.source.specs.declared.token.Keyword.TheVariants as core_word
use Rattle.source.specs.declared.token.Sign.{Sign as CoreSign}
use Rattle.source.specs.declared.token.Sign.TheVariants as core_sign
use Rattle.source.specs.Tree.{Name, NameAt, Target, Bind, Drop}
use Rattle.source.specs.Spelled as core
use Rattle.source.specs.Spelled.{prefix_sign, infix_sign, others}
use Rattle.surface.specs.declared.token.Keyword.{Keyword}
use Rattle.surface.specs.declared.token.Keyword.TheVariants as word
use Rattle.surface.specs.declared.token.Sign.{Sign}
use Rattle.surface.specs.declared.token.Sign.TheVariants as sign
use Rattle.surface.specs.declared.token.TokenKind.{TokenKind}
use Rattle.surface.specs.declared.token.TokenKind.TheVariants as token
use Rattle.surface.specs.declared.token.Token.{Token}
use Rattle.surface.specs.Tree.{Count, Written, Constant, Expr, Number, Named, Bracket, Prefix, Infix, And, Or, Not, Fetch, Store, Call, If, Loop, For}
use Rattle.surface.specs.Tree.{Exprs, One, More, Body, Let, Do, When, Give, Chain, Tests, Last, Else, Turn, Before, After, Carried, Nothing, With}
use Rattle.surface.specs.Tree.{Param, Item, Cells, Const, Defines, Program, names_of}

-- what a token says
pub data Lexeme : Type 0 where
  TheWord : (keyword : Keyword) → Lexeme
  TheSign : (sign : Sign) → Lexeme
  TheNumber : (number : ℕ) → Lexeme
  TheName : (name : Name) → Lexeme

abbrev pub lexeme_at : List ℕ → ℕ → TokenKind → Lexeme
lexeme_at text at (token.Word k) = TheWord k
lexeme_at text at (token.Mark s) = TheSign s
lexeme_at text at (token.Number n) = TheNumber n
lexeme_at text at (token.Name len) = TheName (take len (drop at text))

-- what a token of this text says
abbrev pub lexeme : List ℕ → Token → Lexeme
lexeme text t = lexeme_at text t.at t.kind

-- a token of a tree: what it says, and its place, where the tree has that
pub record Spelling : Type 0 where
  pub place : Option ℕ
  pub lexeme : Lexeme

abbrev pub the_word : Keyword → Spelling
the_word k = record { place = None; lexeme = TheWord k }

abbrev pub the_sign : Sign → Spelling
the_sign s = record { place = None; lexeme = TheSign s }

abbrev pub word_at : ℕ → Keyword → Spelling
word_at at k = record { place = Some at; lexeme = TheWord k }

abbrev pub sign_at : ℕ → Sign → Spelling
sign_at at s = record { place = Some at; lexeme = TheSign s }

abbrev pub number_at : ℕ → ℕ → Spelling
number_at at n = record { place = Some at; lexeme = TheNumber n }

abbrev pub name_at : ℕ → Name → Spelling
name_at at x = record { place = Some at; lexeme = TheName x }

-- those of the core
abbrev pub a_word : CoreKeyword → Spelling
a_word k = the_word (word.Core k)

abbrev pub a_sign : CoreSign → Spelling
a_sign s = the_sign (sign.Core s)

abbrev pub strict_tokens : Bool → List Spelling
strict_tokens true = a_word core_word.Strict ∷ []
strict_tokens false = []

abbrev pub target_token : Target → Spelling
target_token (Bind x) = name_at x.at x.name
target_token Drop = a_sign core_sign.Underscore

-- commas between them
abbrev pub comma_and : List Spelling → List Spelling
comma_and ts = a_sign core_sign.Comma ∷ ts

abbrev pub with_commas : List Spelling → List Spelling
with_commas [] = []
with_commas (t ∷ []) = t ∷ []
with_commas (t ∷ u ∷ ts) = t ∷ comma_and (with_commas (u ∷ ts))

abbrev pub name_token : NameAt → Spelling
name_token x = name_at x.at x.name

abbrev pub count_token : Count → Spelling
count_token (Written at n) = number_at at n
count_token (Constant at x) = name_at at x

abbrev pub count_tokens : Option Count → List Spelling
count_tokens None = []
count_tokens (Some n) = count_token n ∷ []

-- a name of a loop before its first value
abbrev pub start_tokens : List NameAt → List Spelling
start_tokens [] = []
start_tokens (x ∷ xs) = name_token x ∷ a_sign core_sign.Equals ∷ []

abbrev pub is_chain : Body → Bool
is_chain (Let at targets es rest) = false
is_chain (Do es rest) = false
is_chain (When tests rest) = false
is_chain (Give es) = false
is_chain (Chain e) = true

-- braces around a body, but not around the `if` after an `else`
abbrev pub braced : Bool → List Spelling → List Spelling
braced true ts = ts
braced false ts = a_sign core_sign.OpenBrace ∷ ts

-- From left to right, each token once.
abbrev mutual
  pub tokens : Expr → List Spelling
  tokens (Number at n) = number_at at n ∷ []
  tokens (Named at x) = name_at at x ∷ []
  tokens (Bracket e) = a_sign core_sign.OpenParen ∷ tokens e ++ a_sign core_sign.CloseParen ∷ []
  tokens (Prefix at op e) = sign_at at (sign.Core (prefix_sign op)) ∷ tokens e
  tokens (Infix at s l r) = tokens l ++ sign_at at (sign.Core (infix_sign s)) ∷ tokens r
  tokens (And at l r) = tokens l ++ word_at at word.And ∷ tokens r
  tokens (Or at l r) = tokens l ++ word_at at word.Or ∷ tokens r
  tokens (Not at e) = word_at at word.Not ∷ tokens e
  tokens (Fetch at a es) = name_at at a ∷ a_sign core_sign.OpenBracket ∷ list_tokens es ++ a_sign core_sign.CloseBracket ∷ []
  tokens (Store at a es d) = name_at at a ∷ a_sign core_sign.OpenBracket ∷ list_tokens es ++ a_sign core_sign.CloseBracket ∷
      a_sign core_sign.Becomes ∷ tokens d
  tokens (Call at strict f es) = strict_tokens strict ++ name_at at f ∷ a_sign core_sign.OpenParen ∷ list_tokens es ++ a_sign core_sign.CloseParen ∷ []
  tokens (If at p l r) = word_at at (word.Core core_word.If) ∷ tokens p ++ a_sign core_sign.OpenBrace ∷ body_tokens l ++ a_word core_word.Else ∷
      braced (is_chain r) (body_tokens r)
  tokens (Loop at bound firsts turn) = word_at at (word.Core core_word.Loop) ∷ count_token bound ∷ a_sign core_sign.OpenParen ∷
      first_tokens (names_of turn) firsts ++ a_sign core_sign.CloseParen ∷ turn_tokens turn
  tokens (For at bound i a b carried body) = word_at at word.For ∷ count_tokens bound ++ name_token i ∷ the_word word.In ∷ tokens a ++
      the_sign sign.Range ∷ tokens b ++ carried_tokens carried ++ a_sign core_sign.OpenBrace ∷ body_tokens body

  pub list_tokens : Exprs → List Spelling
  list_tokens (One e) = tokens e
  list_tokens (More e es) = tokens e ++ comma_and (list_tokens es)

  -- a loop's names with their first values
  pub first_tokens : List NameAt → Exprs → List Spelling
  first_tokens xs (One e) = start_tokens xs ++ tokens e
  first_tokens xs (More e es) = start_tokens xs ++ tokens e ++ comma_and (first_tokens (others xs) es)

  -- what follows a body's brace, up to the brace that closes it
  pub body_tokens : Body → List Spelling
  body_tokens (Let at targets es rest) = word_at at (word.Core core_word.Let) ∷ with_commas (map target_token targets) ++ a_sign core_sign.Equals ∷
      list_tokens es ++ a_sign core_sign.Semicolon ∷ body_tokens rest
  body_tokens (Do es rest) = list_tokens es ++ a_sign core_sign.Semicolon ∷ body_tokens rest
  body_tokens (When tests rest) = tests_tokens tests ++ a_sign core_sign.Semicolon ∷ body_tokens rest
  body_tokens (Give es) = list_tokens es ++ a_sign core_sign.CloseBrace ∷ []
  body_tokens (Chain e) = tokens e

  pub tests_tokens : Tests → List Spelling
  tests_tokens (Last at p arm) = word_at at (word.Core core_word.If) ∷ tokens p ++ a_sign core_sign.OpenBrace ∷ body_tokens arm
  tests_tokens (Else at p arm more) = word_at at (word.Core core_word.If) ∷ tokens p ++ a_sign core_sign.OpenBrace ∷ body_tokens arm ++
      a_word core_word.Else ∷ tests_tokens more

  pub turn_tokens : Turn → List Spelling
  turn_tokens (Before xs p body) = a_word core_word.While ∷ tokens p ++ a_sign core_sign.OpenBrace ∷ body_tokens body
  turn_tokens (After xs body p) = a_sign core_sign.OpenBrace ∷ body_tokens body ++ a_word core_word.While ∷ a_sign core_sign.OpenParen ∷ tokens p ++
      a_sign core_sign.CloseParen ∷ []

  pub carried_tokens : Carried → List Spelling
  carried_tokens Nothing = []
  carried_tokens (With xs firsts) = the_word word.With ∷ first_tokens xs firsts

-- the brackets of a parameter that stands for an array: a comma between two dimensions
abbrev pub rank_tokens : ℕ → List Spelling
rank_tokens zero = []
rank_tokens (suc n) = a_sign core_sign.OpenBracket ∷ replicate n (a_sign core_sign.Comma) ++ a_sign core_sign.CloseBracket ∷ []

abbrev pub param_tokens : Param → List Spelling
param_tokens p = name_token p.name ∷ rank_tokens p.rank

abbrev pub params_tokens : List Param → List Spelling
params_tokens [] = []
params_tokens (p ∷ []) = param_tokens p
params_tokens (p ∷ q ∷ ps) = param_tokens p ++ comma_and (params_tokens (q ∷ ps))

abbrev pub result_tokens : Option Count → List Spelling
result_tokens None = []
result_tokens (Some n) = a_sign core_sign.Arrow ∷ count_token n ∷ []

abbrev pub item_tokens : Item → List Spelling
item_tokens (Cells x es) = a_word core_word.Array ∷ name_token x ∷ a_sign core_sign.OpenBracket ∷ list_tokens es ++ a_sign core_sign.CloseBracket ∷
    a_sign core_sign.Semicolon ∷ []
item_tokens (Const x e) = the_word word.Const ∷ name_token x ∷ a_sign core_sign.Equals ∷ tokens e ++ a_sign core_sign.Semicolon ∷ []
item_tokens (Defines f) = a_word core_word.Fn ∷ name_token f.name ∷ a_sign core_sign.OpenParen ∷ params_tokens f.params ++ a_sign core_sign.CloseParen ∷
    result_tokens f.results
    ++ sign_at f.body_at (sign.Core core_sign.OpenBrace) ∷ body_tokens f.body

abbrev pub program_tokens : Program → List Spelling
program_tokens items = flat_map item_tokens items

-- WHETHER A TEXT'S TOKENS ARE A TREE'S: they say the same, one by one, and are where the tree says.
abbrev pub IsSpelled : List ℕ → Spelling → Token → Type 0
IsSpelled text s t = (lexeme text t ≡ s.lexeme) × core.IsPlace s.place t.at

abbrev pub AreSpelled : List ℕ → List Spelling → List Token → Type 0
AreSpelled text [] [] = ⊤
AreSpelled text [] (t ∷ ts) = ⊥
AreSpelled text (s ∷ ss) [] = ⊥
AreSpelled text (s ∷ ss) (t ∷ ts) = IsSpelled text s t × AreSpelled text ss ts
