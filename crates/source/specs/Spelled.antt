-- THE TOKENS OF A TREE. A name in a tree has its bytes there, so what a token of a text says is seen with the
-- bytes of its name.
use Rattle.std.specs.Prelude.{◌≡◌, ℕ, ◌++◌, Bool, true, false, List, [], ◌∷◌, map, flat_map, take, drop, Option, None, Some, ⊤}
use Rattle.operators.specs.declared.Unary.{Unary}
use Rattle.operators.specs.declared.Unary.TheVariants.{Neg, Not}
use Rattle.operators.specs.declared.Binary.TheVariants.{Add, Sub, Mul, Div, Rem, And, Or, Xor, Shl, Shr, Eq, Ne, Lt, Le}
use Rattle.source.specs.declared.word.InfixSign.{InfixSign}
use Rattle.source.specs.declared.word.InfixSign.TheVariants.{Direct, Greater, AtLeast}
use Rattle.source.specs.declared.token.Keyword.{Keyword}
use Rattle.source.specs.declared.token.Keyword.TheVariants as word
use Rattle.source.specs.declared.token.Sign.{Sign}
use Rattle.source.specs.declared.token.Sign.TheVariants as sign
use Rattle.source.specs.declared.token.TokenKind.{TokenKind}
use Rattle.source.specs.declared.token.TokenKind.TheVariants as token
use Rattle.source.specs.declared.token.Token.{Token}
use Rattle.source.specs.Tree.{Name, NameAt, NumberAt, Target, Bind, Drop, Expr, Number, Named, Bracket, Prefix, Infix, Fetch, Store, Call, If, Loop}
use Rattle.source.specs.Tree.{Exprs, One, More, Body, Let, Do, Give, Chain, Turn, Before, After, Item, Cells, Defines, Program, names_of}

-- what a token says
pub data Lexeme : Type 0 where
  TheWord : (keyword : Keyword) → Lexeme
  TheSign : (sign : Sign) → Lexeme
  TheNumber : (number : ℕ) → Lexeme
  TheName : (name : Name) → Lexeme

abbrev pub lexeme_at : List ℕ → ℕ → TokenKind → Lexeme
lexeme_at text at (token.Word k) = TheWord k
lexeme_at text at (token.Mark s) = TheSign s
lexeme_at text at (token.Number n) = TheNumber n
lexeme_at text at (token.Name len) = TheName (take len (drop at text))

-- what a token of this text says
abbrev pub lexeme : List ℕ → Token → Lexeme
lexeme text t = lexeme_at text t.at t.kind

-- a token of a tree: what it says, and its place, where the tree has that
pub record Spelling : Type 0 where
  pub place : Option ℕ
  pub lexeme : Lexeme

abbrev pub the_word : Keyword → Spelling
the_word k = record { place = None; lexeme = TheWord k }

abbrev pub the_sign : Sign → Spelling
the_sign s = record { place = None; lexeme = TheSign s }

abbrev pub word_at : ℕ → Keyword → Spelling
word_at at k = record { place = Some at; lexeme = TheWord k }

abbrev pub sign_at : ℕ → Sign → Spelling
sign_at at s = record { place = Some at; lexeme = TheSign s }

abbrev pub number_at : ℕ → ℕ → Spelling
number_at at n = record { place = Some at; lexeme = TheNumber n }

abbrev pub name_at : ℕ → Name → Spelling
name_at at x = record { place = Some at; lexeme = TheName x }

abbrev pub prefix_sign : Unary → Sign
prefix_sign Neg = sign.Minus
prefix_sign Not = sign.Tilde

abbrev pub infix_sign : InfixSign → Sign
infix_sign (Direct Add) = sign.Plus
infix_sign (Direct Sub) = sign.Minus
infix_sign (Direct Mul) = sign.Star
infix_sign (Direct Div) = sign.Slash
infix_sign (Direct Rem) = sign.Percent
infix_sign (Direct And) = sign.Ampersand
infix_sign (Direct Or) = sign.Bar
infix_sign (Direct Xor) = sign.Caret
infix_sign (Direct Shl) = sign.ShiftLeft
infix_sign (Direct Shr) = sign.ShiftRight
infix_sign (Direct Eq) = sign.EqualTo
infix_sign (Direct Ne) = sign.NotEqualTo
infix_sign (Direct Lt) = sign.Less
infix_sign (Direct Le) = sign.AtMost
infix_sign Greater = sign.Greater
infix_sign AtLeast = sign.AtLeast

-- `strict` before a name
abbrev pub strict_tokens : Bool → List Spelling
strict_tokens true = the_word word.Strict ∷ []
strict_tokens false = []

abbrev pub target_token : Target → Spelling
target_token (Bind x) = name_at x.at x.name
target_token Drop = the_sign sign.Underscore

-- commas between them
abbrev pub comma_and : List Spelling → List Spelling
comma_and ts = the_sign sign.Comma ∷ ts

abbrev pub with_commas : List Spelling → List Spelling
with_commas [] = []
with_commas (t ∷ []) = t ∷ []
with_commas (t ∷ u ∷ ts) = t ∷ comma_and (with_commas (u ∷ ts))

abbrev pub name_token : NameAt → Spelling
name_token x = name_at x.at x.name

-- a name of a loop before its first value
abbrev pub start_tokens : List NameAt → List Spelling
start_tokens [] = []
start_tokens (x ∷ xs) = name_token x ∷ the_sign sign.Equals ∷ []

abbrev pub others : List NameAt → List NameAt
others [] = []
others (x ∷ xs) = xs

abbrev pub is_chain : Body → Bool
is_chain (Let at targets es rest) = false
is_chain (Do es rest) = false
is_chain (Give es) = false
is_chain (Chain e) = true

-- braces around a body, but not around the `if` after an `else`
abbrev pub braced : Bool → List Spelling → List Spelling
braced true ts = ts
braced false ts = the_sign sign.OpenBrace ∷ ts

-- From left to right, each token once.
abbrev mutual
  pub tokens : Expr → List Spelling
  tokens (Number at n) = number_at at n ∷ []
  tokens (Named at x) = name_at at x ∷ []
  tokens (Bracket e) = the_sign sign.OpenParen ∷ tokens e ++ the_sign sign.CloseParen ∷ []
  tokens (Prefix at op e) = sign_at at (prefix_sign op) ∷ tokens e
  tokens (Infix at s l r) = tokens l ++ sign_at at (infix_sign s) ∷ tokens r
  tokens (Fetch at a e) = name_at at a ∷ the_sign sign.OpenBracket ∷ tokens e ++ the_sign sign.CloseBracket ∷ []
  tokens (Store at a e d) = name_at at a ∷ the_sign sign.OpenBracket ∷ tokens e ++ the_sign sign.CloseBracket ∷ the_sign sign.Becomes ∷ tokens d
  tokens (Call at strict f es) = strict_tokens strict ++ name_at at f ∷ the_sign sign.OpenParen ∷ list_tokens es ++ the_sign sign.CloseParen ∷ []
  tokens (If at p l r) = word_at at word.If ∷ tokens p ++ the_sign sign.OpenBrace ∷ body_tokens l ++ the_word word.Else ∷ braced (is_chain r) (body_tokens r)
  tokens (Loop at bound firsts turn) = word_at at word.Loop ∷ number_at bound.at bound.number ∷ the_sign sign.OpenParen
      ∷ first_tokens (names_of turn) firsts ++ the_sign sign.CloseParen ∷ turn_tokens turn

  pub list_tokens : Exprs → List Spelling
  list_tokens (One e) = tokens e
  list_tokens (More e es) = tokens e ++ comma_and (list_tokens es)

  -- a loop's names with their first values
  pub first_tokens : List NameAt → Exprs → List Spelling
  first_tokens xs (One e) = start_tokens xs ++ tokens e
  first_tokens xs (More e es) = start_tokens xs ++ tokens e ++ comma_and (first_tokens (others xs) es)

  -- what follows a body's brace, up to the brace that closes it
  pub body_tokens : Body → List Spelling
  body_tokens (Let at targets es rest) = word_at at word.Let ∷ with_commas (map target_token targets) ++ the_sign sign.Equals ∷ list_tokens es ++ the_sign
      sign.Semicolon ∷ body_tokens rest
  body_tokens (Do es rest) = list_tokens es ++ the_sign sign.Semicolon ∷ body_tokens rest
  body_tokens (Give es) = list_tokens es ++ the_sign sign.CloseBrace ∷ []
  body_tokens (Chain e) = tokens e

  pub turn_tokens : Turn → List Spelling
  turn_tokens (Before xs p body) = the_word word.While ∷ tokens p ++ the_sign sign.OpenBrace ∷ body_tokens body
  turn_tokens (After xs body p) = the_sign sign.OpenBrace ∷ body_tokens body ++ the_word word.While ∷ the_sign sign.OpenParen ∷ tokens p ++ the_sign
      sign.CloseParen ∷ []

abbrev pub result_tokens : Option NumberAt → List Spelling
result_tokens None = []
result_tokens (Some n) = the_sign sign.Arrow ∷ number_at n.at n.number ∷ []

abbrev pub item_tokens : Item → List Spelling
item_tokens (Cells x len) = the_word word.Array ∷ name_token x ∷ the_sign sign.OpenBracket ∷ number_at len.at len.number ∷ the_sign sign.CloseBracket ∷
    the_sign sign.Semicolon ∷ []
item_tokens (Defines f) = the_word word.Fn ∷ name_token f.name ∷ the_sign sign.OpenParen ∷ with_commas (map name_token f.params) ++ the_sign sign.CloseParen ∷
    result_tokens f.results
    ++ sign_at f.body_at sign.OpenBrace ∷ body_tokens f.body

abbrev pub program_tokens : Program → List Spelling
program_tokens items = flat_map item_tokens items

-- WHETHER A TEXT'S TOKENS ARE A TREE'S: they say the same, one by one, and are where the tree says.
abbrev pub IsPlace : Option ℕ → ℕ → Type 0
IsPlace None at = ⊤
IsPlace (Some place) at = place ≡ at

abbrev pub IsSpelled : List ℕ → Spelling → Token → Type 0
IsSpelled text s t = (lexeme text t ≡ s.lexeme) × IsPlace s.place t.at

abbrev pub AreSpelled : List ℕ → List Spelling → List Token → Type 0
AreSpelled text [] [] = ⊤
AreSpelled text [] (t ∷ ts) = ⊥
AreSpelled text (s ∷ ss) [] = ⊥
AreSpelled text (s ∷ ss) (t ∷ ts) = IsSpelled text s t × AreSpelled text ss ts
