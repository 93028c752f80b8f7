-- THE WORDS OF A TREE: the tree in postfix order, as in the core. A parser appends each word where the tokens before it, and
-- one more, settle it. So a statement that will have no last `else` begins as any `if`.
use Rattle.std.specs.Prelude.{◌≡◌, ℕ, zero, suc, ◌<◌, ◌++◌, List, [], ◌∷◌, map, flat_map, length, All, Option, None, Some}
use Rattle.source.specs.declared.word.Word.{Word as CoreWord}
use Rattle.source.specs.declared.word.Word.TheVariants as core_word
use Rattle.source.specs.Tree.{Name, NameAt, Target, Bind, Drop}
use Rattle.source.specs.Spelled.{others}
use Rattle.source.specs.Tokens.{IsSpelledName}
use Rattle.source.specs.Words as core
use Rattle.source.specs.Words.{name_of}
use Rattle.surface.specs.declared.word.Word.{Word}
use Rattle.surface.specs.declared.word.Word.TheVariants as word
use Rattle.surface.specs.Tree.{Count, Written, Constant, Expr, Number, Named, Bracket, Prefix, Infix, And, Or, Not, Fetch, Store, Call, If, Loop, For}
use Rattle.surface.specs.Tree.{Exprs, One, More, Body, Let, Do, When, Give, Chain, Tests, Last, Else, Turn, Before, After, Carried, Nothing, With}
use Rattle.surface.specs.Tree.{Param, Item, Cells, Const, Defines, Program, names_of}
use Rattle.surface.specs.Fits.{FitsProgram}

abbrev pub Words : Type 0
Words = List (Word Name)

-- a word of the core
abbrev pub of_core : CoreWord Name → Word Name
of_core w = word.Core w

abbrev pub target_word : Target → Word Name
target_word (Bind x) = of_core (core_word.Bind x.at x.name)
target_word Drop = of_core core_word.Drop

-- a name of a loop before its first value
abbrev pub start_words : List NameAt → Words
start_words [] = []
start_words (x ∷ xs) = of_core (core_word.Start x.at x.name) ∷ []

abbrev pub bound_word : Count → Word Name
bound_word (Written at n) = of_core (core_word.Bound at n)
bound_word (Constant at x) = word.ConstantBound at x

abbrev pub bound_words : Option Count → Words
bound_words None = []
bound_words (Some k) = bound_word k ∷ []

abbrev pub end_loop : ℕ → Count → Word Name
end_loop at (Written bound_at n) = of_core (core_word.EndLoop at n)
end_loop at (Constant bound_at x) = word.EndConstantLoop at x

abbrev mutual
  pub words : Expr → Words
  words (Number at n) = of_core (core_word.Number at n) ∷ []
  words (Named at x) = of_core (core_word.Name at x) ∷ []
  words (Bracket e) = words e ++ of_core core_word.Bracket ∷ []
  words (Prefix at op e) = words e ++ of_core (core_word.Prefix at op) ∷ []
  words (Infix at s l r) = words l ++ of_core core_word.Left ∷ words r ++ of_core (core_word.Infix at s) ∷ []
  words (And at l r) = words l ++ word.AndThen ∷ words r ++ word.EndAnd at ∷ []
  words (Or at l r) = words l ++ word.OrElse ∷ words r ++ word.EndOr at ∷ []
  words (Not at e) = words e ++ word.Not at ∷ []
  words (Fetch at x es) = of_core (core_word.Cell at x) ∷ index_words es ++ of_core (core_word.Fetch at x) ∷ []
  words (Store at x es d) = of_core (core_word.Cell at x) ∷ index_words es ++ of_core core_word.Index ∷ words d ++ of_core (core_word.Store at x) ∷ []
  words (Call at strict f es) = of_core (core_word.Callee at f) ∷ of_core core_word.List ∷ part_words es ++ of_core (core_word.Call at strict f) ∷ []
  words (If at p l r) = words p ++ of_core core_word.Then ∷ body_words l ++ of_core core_word.Else ∷ body_words r ++ of_core (core_word.EndIf at) ∷ []
  words (Loop at bound firsts turn) = of_core (core_word.Loop at) ∷ bound_word bound ∷ first_words (names_of turn) firsts ++ turn_words turn
      ++ end_loop at bound ∷ []
  words (For at bound i first end carried body) = word.For at ∷ bound_words bound ++ word.Counter i.at i.name ∷ words first ++ word.Range ∷ words end ++
      word.EndRange ∷ carried_words carried ++ word.Turns ∷ body_words body ++ word.EndFor at ∷ []

  -- the words of a list follow the word `List`
  pub part_words : Exprs → Words
  part_words (One e) = words e ++ of_core core_word.Part ∷ []
  part_words (More e es) = words e ++ of_core core_word.Part ∷ part_words es

  pub index_words : Exprs → Words
  index_words (One e) = words e
  index_words (More e es) = words e ++ word.NextIndex ∷ index_words es

  pub first_words : List NameAt → Exprs → Words
  first_words xs (One e) = start_words xs ++ words e ++ of_core core_word.First ∷ []
  first_words xs (More e es) = start_words xs ++ words e ++ of_core core_word.First ∷ first_words (others xs) es

  pub body_words : Body → Words
  body_words (Let at targets es rest) = of_core (core_word.Let at) ∷ map target_word targets ++ of_core core_word.List ∷ part_words es ++ of_core (core_word.EndLet at) ∷
      body_words rest
  body_words (Do es rest) = of_core core_word.List ∷ part_words es ++ of_core core_word.Do ∷ body_words rest
  body_words (When tests rest) = of_core core_word.List ∷ tests_words tests ++ word.When ∷ body_words rest
  body_words (Give es) = of_core core_word.List ∷ part_words es ++ of_core core_word.Give ∷ []
  body_words (Chain e) = words e ++ of_core core_word.Chain ∷ []

  pub tests_words : Tests → Words
  tests_words (Last at p arm) = words p ++ of_core core_word.Then ∷ body_words arm ++ word.EndWhen at ∷ []
  tests_words (Else at p arm more) = words p ++ of_core core_word.Then ∷ body_words arm ++ of_core core_word.Else ∷ tests_words more ++ word.EndWhen at ∷ []

  pub turn_words : Turn → Words
  turn_words (Before xs p body) = of_core core_word.TestFirst ∷ words p ++ of_core core_word.While ∷ body_words body
  turn_words (After xs body p) = of_core core_word.BodyFirst ∷ body_words body ++ of_core core_word.Until ∷ words p

  pub carried_words : Carried → Words
  carried_words Nothing = []
  carried_words (With xs firsts) = first_words xs firsts

abbrev pub result_words : Option Count → Words
result_words None = []
result_words (Some (Written at n)) = of_core (core_word.Results at n) ∷ []
result_words (Some (Constant at x)) = word.ConstantResults at x ∷ []

abbrev pub ranked_word : NameAt → ℕ → Word Name
ranked_word x zero = of_core (core_word.Parameter x.at x.name)
ranked_word x (suc n) = word.ArrayParameter x.at x.name (suc n)

abbrev pub param_word : Param → Word Name
param_word p = ranked_word p.name p.rank

abbrev pub item_words : Item → Words
item_words (Cells x es) = of_core (core_word.Array x.at x.name) ∷ of_core core_word.List ∷ part_words es ++ word.EndArray ∷ []
item_words (Const x e) = word.Constant x.at x.name ∷ words e ++ word.EndConstant ∷ []
item_words (Defines f) = of_core (core_word.Function f.name.at f.name.name) ∷ map param_word f.params ++ result_words f.results
    ++ of_core (core_word.Body f.body_at) ∷ body_words f.body ++ of_core core_word.EndFunction ∷ []

abbrev pub program_words : Program → Words
program_words items = flat_map item_words items

-- IN CODE a word gives a name by its number in a table of names.
abbrev pub named : List Name → Word ℕ → Word Name
named names (word.Core w) = word.Core (core.named names w)
named names word.EndArray = word.EndArray
named names (word.Constant at x) = word.Constant at (name_of names x)
named names word.EndConstant = word.EndConstant
named names (word.ArrayParameter at x rank) = word.ArrayParameter at (name_of names x) rank
named names (word.ConstantResults at x) = word.ConstantResults at (name_of names x)
named names word.AndThen = word.AndThen
named names (word.EndAnd at) = word.EndAnd at
named names word.OrElse = word.OrElse
named names (word.EndOr at) = word.EndOr at
named names (word.Not at) = word.Not at
named names word.NextIndex = word.NextIndex
named names (word.ConstantBound at x) = word.ConstantBound at (name_of names x)
named names (word.EndConstantLoop at x) = word.EndConstantLoop at (name_of names x)
named names (word.For at) = word.For at
named names (word.Counter at x) = word.Counter at (name_of names x)
named names word.Range = word.Range
named names word.EndRange = word.EndRange
named names word.Turns = word.Turns
named names (word.EndFor at) = word.EndFor at
named names (word.EndWhen at) = word.EndWhen at
named names word.When = word.When

-- the numbers of names that a word has
abbrev pub numbers_of : Word ℕ → List ℕ
numbers_of (word.Core w) = core.numbers_of w
numbers_of (word.Constant at x) = x ∷ []
numbers_of (word.ArrayParameter at x rank) = x ∷ []
numbers_of (word.ConstantResults at x) = x ∷ []
numbers_of (word.ConstantBound at x) = x ∷ []
numbers_of (word.EndConstantLoop at x) = x ∷ []
numbers_of (word.Counter at x) = x ∷ []
numbers_of w = []

-- what code has of a program
pub record NamedWords : Type 0 where
  pub names : List Name
  pub words : List (Word ℕ)

-- A table of names, and words with numbers of names in it, are those of a program: no name is twice in the table, and
-- each number is one of it.
pub record AreWords (names : List Name) (ws : List (Word ℕ)) (p : Program) : Type 0 where
  pub words : map (named names) ws ≡ program_words p
  pub known : All (λ w. All (λ n. n < length names) (numbers_of w)) ws
  pub distinct : (i j : ℕ) → i < length names → j < length names → name_of names i ≡ name_of names j → i ≡ j

-- a program of the grammar, whose words these are
pub record IsProgram (names : List Name) (ws : List (Word ℕ)) (p : Program) : Type 0 where
  pub fits : FitsProgram p
  pub words : AreWords names ws p

-- There is one, and its names are as texts have them.
pub record HasTree (names : List Name) (ws : List (Word ℕ)) : Type 0 where
  pub tree : Program
  pub is : IsProgram names ws tree
  pub spelled : All IsSpelledName names
