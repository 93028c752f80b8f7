-- THE WORDS OF A TREE: the tree in postfix order. Where a rule is broken before what follows is looked at, a word says
-- that a part begins or ends there.
use Rattle.std.specs.Prelude.{◌≡◌, ℕ, ◌<◌, ◌++◌, List, [], ◌∷◌, map, flat_map, slice_index_or, length, All, Option, None, Some}
use Rattle.source.specs.declared.word.Word.{Word}
use Rattle.source.specs.declared.word.Word.TheVariants as word
use Rattle.source.specs.Tree.{Name, NameAt, NumberAt, Target, Bind, Drop, Expr, Number, Named, Bracket, Prefix, Infix, Fetch, Store, Call, If, Loop}
use Rattle.source.specs.Tree.{Exprs, One, More, Body, Let, Do, Give, Chain, Turn, Before, After, Item, Cells, Defines, Program, names_of}
use Rattle.source.specs.Spelled.{others}
use Rattle.source.specs.Fits.{FitsProgram}
use Rattle.source.specs.Tokens.{IsSpelledName}

abbrev pub Words : Type 0
Words = List (Word Name)

abbrev pub target_word : Target → Word Name
target_word (Bind x) = word.Bind x.at x.name
target_word Drop = word.Drop

-- a name of a loop before its first value
abbrev pub start_words : List NameAt → Words
start_words [] = []
start_words (x ∷ xs) = word.Start x.at x.name ∷ []

abbrev mutual
  pub words : Expr → Words
  words (Number at n) = word.Number at n ∷ []
  words (Named at x) = word.Name at x ∷ []
  words (Bracket e) = words e ++ word.Bracket ∷ []
  words (Prefix at op e) = words e ++ word.Prefix at op ∷ []
  words (Infix at s l r) = words l ++ word.Left ∷ words r ++ word.Infix at s ∷ []
  words (Fetch at a e) = word.Cell at a ∷ words e ++ word.Fetch at a ∷ []
  words (Store at a e d) = word.Cell at a ∷ words e ++ word.Index ∷ words d ++ word.Store at a ∷ []
  words (Call at strict f es) = word.Callee at f ∷ word.List ∷ part_words es ++ word.Call at strict f ∷ []
  words (If at p l r) = words p ++ word.Then ∷ body_words l ++ word.Else ∷ body_words r ++ word.EndIf at ∷ []
  words (Loop at bound firsts turn) = word.Loop at ∷ word.Bound bound.at bound.number ∷ first_words (names_of turn) firsts ++ turn_words turn
      ++ word.EndLoop at bound.number ∷ []

  -- the words of a list follow the word `List`
  pub part_words : Exprs → Words
  part_words (One e) = words e ++ word.Part ∷ []
  part_words (More e es) = words e ++ word.Part ∷ part_words es

  pub first_words : List NameAt → Exprs → Words
  first_words xs (One e) = start_words xs ++ words e ++ word.First ∷ []
  first_words xs (More e es) = start_words xs ++ words e ++ word.First ∷ first_words (others xs) es

  pub body_words : Body → Words
  body_words (Let at targets es rest) = word.Let at ∷ map target_word targets ++ word.List ∷ part_words es ++ word.EndLet at ∷ body_words rest
  body_words (Do es rest) = word.List ∷ part_words es ++ word.Do ∷ body_words rest
  body_words (Give es) = word.List ∷ part_words es ++ word.Give ∷ []
  body_words (Chain e) = words e ++ word.Chain ∷ []

  pub turn_words : Turn → Words
  turn_words (Before xs p body) = word.TestFirst ∷ words p ++ word.While ∷ body_words body
  turn_words (After xs body p) = word.BodyFirst ∷ body_words body ++ word.Until ∷ words p

abbrev pub result_words : Option NumberAt → Words
result_words None = []
result_words (Some n) = word.Results n.at n.number ∷ []

abbrev pub item_words : Item → Words
item_words (Cells x len) = word.Array x.at x.name ∷ word.Length len.at len.number ∷ []
item_words (Defines f) = word.Function f.name.at f.name.name ∷ map (λ (x : NameAt). word.Parameter x.at x.name) f.params ++ result_words f.results
    ++ word.Body f.body_at ∷ body_words f.body ++ word.EndFunction ∷ []

abbrev pub program_words : Program → Words
program_words items = flat_map item_words items

-- IN CODE a word gives a name by its number in a table of names.
abbrev pub name_of : List Name → ℕ → Name
name_of names n = slice_index_or names n []

abbrev pub named : List Name → Word ℕ → Word Name
named names (word.Array at x) = word.Array at (name_of names x)
named names (word.Length at n) = word.Length at n
named names (word.Function at x) = word.Function at (name_of names x)
named names (word.Parameter at x) = word.Parameter at (name_of names x)
named names (word.Results at n) = word.Results at n
named names (word.Body at) = word.Body at
named names word.EndFunction = word.EndFunction
named names (word.Number at n) = word.Number at n
named names (word.Name at x) = word.Name at (name_of names x)
named names word.Bracket = word.Bracket
named names (word.Prefix at op) = word.Prefix at op
named names word.Left = word.Left
named names (word.Infix at s) = word.Infix at s
named names (word.Cell at x) = word.Cell at (name_of names x)
named names (word.Fetch at x) = word.Fetch at (name_of names x)
named names word.Index = word.Index
named names (word.Store at x) = word.Store at (name_of names x)
named names (word.Callee at x) = word.Callee at (name_of names x)
named names (word.Call at strict x) = word.Call at strict (name_of names x)
named names word.Then = word.Then
named names word.Else = word.Else
named names (word.EndIf at) = word.EndIf at
named names (word.Loop at) = word.Loop at
named names (word.Bound at n) = word.Bound at n
named names (word.Start at x) = word.Start at (name_of names x)
named names word.First = word.First
named names word.TestFirst = word.TestFirst
named names word.While = word.While
named names word.BodyFirst = word.BodyFirst
named names word.Until = word.Until
named names (word.EndLoop at n) = word.EndLoop at n
named names word.List = word.List
named names word.Part = word.Part
named names (word.Let at) = word.Let at
named names (word.Bind at x) = word.Bind at (name_of names x)
named names word.Drop = word.Drop
named names (word.EndLet at) = word.EndLet at
named names word.Do = word.Do
named names word.Give = word.Give
named names word.Chain = word.Chain

-- the numbers of names that a word has
abbrev pub numbers_of : Word ℕ → List ℕ
numbers_of (word.Array at x) = x ∷ []
numbers_of (word.Function at x) = x ∷ []
numbers_of (word.Parameter at x) = x ∷ []
numbers_of (word.Name at x) = x ∷ []
numbers_of (word.Cell at x) = x ∷ []
numbers_of (word.Fetch at x) = x ∷ []
numbers_of (word.Store at x) = x ∷ []
numbers_of (word.Callee at x) = x ∷ []
numbers_of (word.Call at strict x) = x ∷ []
numbers_of (word.Start at x) = x ∷ []
numbers_of (word.Bind at x) = x ∷ []
numbers_of w = []

-- what code has of a program
pub record NamedWords : Type 0 where
  pub names : List Name
  pub words : List (Word ℕ)

-- A table of names, and words with numbers of names in it, are those of a program: no name is twice in the table, and
-- each number is one of it.
pub record AreWords (names : List Name) (ws : List (Word ℕ)) (p : Program) : Type 0 where
  pub words : map (named names) ws ≡ program_words p
  pub known : All (λ w. All (λ n. n < length names) (numbers_of w)) ws
  pub distinct : (i j : ℕ) → i < length names → j < length names → name_of names i ≡ name_of names j → i ≡ j

-- a program of the grammar, whose words these are
pub record IsProgram (names : List Name) (ws : List (Word ℕ)) (p : Program) : Type 0 where
  pub fits : FitsProgram p
  pub words : AreWords names ws p

-- There is one, and its names are as texts have them.
pub record HasTree (names : List Name) (ws : List (Word ℕ)) : Type 0 where
  pub tree : Program
  pub is : IsProgram names ws tree
  pub spelled : All IsSpelledName names
