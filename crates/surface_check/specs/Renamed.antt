-- Words with other names in place of each, and names by their numbers.
use Rattle.std.specs.Prelude.{ℕ, ◌==◌, Bool, List}
use Rattle.source.specs.declared.word.Word.{Word as CoreWord}
use Rattle.source.specs.declared.word.Word.TheVariants as core_word
use Rattle.semantics.specs.Graph.{same_name}
use Rattle.source.specs.Tree.{Name}
use Rattle.source.specs.Words.{name_of}
use Rattle.source.specs.Rules.{main_name}
use Rattle.surface.specs.declared.word.Word.{Word}
use Rattle.surface.specs.declared.word.Word.TheVariants as word
use Rattle.surface.specs.Known.{built_in}
use Rattle.surface_check.specs.Heads.{Names}

abbrev pub core_renamed : {N M : Type 0} → (N → M) → CoreWord N → CoreWord M
core_renamed f (core_word.Array at x) = core_word.Array at (f x)
core_renamed f (core_word.Length at n) = core_word.Length at n
core_renamed f (core_word.Function at x) = core_word.Function at (f x)
core_renamed f (core_word.Parameter at x) = core_word.Parameter at (f x)
core_renamed f (core_word.Results at n) = core_word.Results at n
core_renamed f (core_word.Body at) = core_word.Body at
core_renamed f core_word.EndFunction = core_word.EndFunction
core_renamed f (core_word.Number at n) = core_word.Number at n
core_renamed f (core_word.Name at x) = core_word.Name at (f x)
core_renamed f core_word.Bracket = core_word.Bracket
core_renamed f (core_word.Prefix at op) = core_word.Prefix at op
core_renamed f core_word.Left = core_word.Left
core_renamed f (core_word.Infix at s) = core_word.Infix at s
core_renamed f (core_word.Cell at x) = core_word.Cell at (f x)
core_renamed f (core_word.Fetch at x) = core_word.Fetch at (f x)
core_renamed f core_word.Index = core_word.Index
core_renamed f (core_word.Store at x) = core_word.Store at (f x)
core_renamed f (core_word.Callee at x) = core_word.Callee at (f x)
core_renamed f (core_word.Call at strict x) = core_word.Call at strict (f x)
core_renamed f core_word.Then = core_word.Then
core_renamed f core_word.Else = core_word.Else
core_renamed f (core_word.EndIf at) = core_word.EndIf at
core_renamed f (core_word.Loop at) = core_word.Loop at
core_renamed f (core_word.Bound at n) = core_word.Bound at n
core_renamed f (core_word.Start at x) = core_word.Start at (f x)
core_renamed f core_word.First = core_word.First
core_renamed f core_word.TestFirst = core_word.TestFirst
core_renamed f core_word.While = core_word.While
core_renamed f core_word.BodyFirst = core_word.BodyFirst
core_renamed f core_word.Until = core_word.Until
core_renamed f (core_word.EndLoop at n) = core_word.EndLoop at n
core_renamed f core_word.List = core_word.List
core_renamed f core_word.Part = core_word.Part
core_renamed f (core_word.Let at) = core_word.Let at
core_renamed f (core_word.Bind at x) = core_word.Bind at (f x)
core_renamed f core_word.Drop = core_word.Drop
core_renamed f (core_word.EndLet at) = core_word.EndLet at
core_renamed f core_word.Do = core_word.Do
core_renamed f core_word.Give = core_word.Give
core_renamed f core_word.Chain = core_word.Chain

abbrev pub renamed : {N M : Type 0} → (N → M) → Word N → Word M
renamed f (word.Core w) = word.Core (core_renamed f w)
renamed f word.EndArray = word.EndArray
renamed f (word.Constant at x) = word.Constant at (f x)
renamed f word.EndConstant = word.EndConstant
renamed f (word.ArrayParameter at x rank) = word.ArrayParameter at (f x) rank
renamed f (word.ConstantResults at x) = word.ConstantResults at (f x)
renamed f word.AndThen = word.AndThen
renamed f (word.EndAnd at) = word.EndAnd at
renamed f word.OrElse = word.OrElse
renamed f (word.EndOr at) = word.EndOr at
renamed f (word.Not at) = word.Not at
renamed f word.NextIndex = word.NextIndex
renamed f (word.ConstantBound at x) = word.ConstantBound at (f x)
renamed f (word.EndConstantLoop at x) = word.EndConstantLoop at (f x)
renamed f (word.For at) = word.For at
renamed f (word.Counter at x) = word.Counter at (f x)
renamed f word.Range = word.Range
renamed f word.EndRange = word.EndRange
renamed f word.Turns = word.Turns
renamed f (word.EndFor at) = word.EndFor at
renamed f (word.EndWhen at) = word.EndWhen at
renamed f word.When = word.When

-- names by their numbers in a table of names
abbrev pub by_number : ℕ → ℕ → Bool
by_number i j = i == j

abbrev pub numbers_in : List Name → Names ℕ
numbers_in names = record { same = by_number; is_main = λ n. same_name (name_of names n) main_name; built_in = λ n. built_in (name_of names n) }
