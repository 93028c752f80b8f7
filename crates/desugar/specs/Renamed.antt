-- Words of the core with other names in place of each.
use Rattle.source.specs.declared.word.Word.{Word as CoreWord}
use Rattle.source.specs.declared.word.Word.TheVariants as core

abbrev pub core_renamed : {N M : Type 0} → (N → M) → CoreWord N → CoreWord M
core_renamed f (core.Array at x) = core.Array at (f x)
core_renamed f (core.Length at n) = core.Length at n
core_renamed f (core.Function at x) = core.Function at (f x)
core_renamed f (core.Parameter at x) = core.Parameter at (f x)
core_renamed f (core.Results at n) = core.Results at n
core_renamed f (core.Body at) = core.Body at
core_renamed f core.EndFunction = core.EndFunction
core_renamed f (core.Number at n) = core.Number at n
core_renamed f (core.Name at x) = core.Name at (f x)
core_renamed f core.Bracket = core.Bracket
core_renamed f (core.Prefix at op) = core.Prefix at op
core_renamed f core.Left = core.Left
core_renamed f (core.Infix at s) = core.Infix at s
core_renamed f (core.Cell at x) = core.Cell at (f x)
core_renamed f (core.Fetch at x) = core.Fetch at (f x)
core_renamed f core.Index = core.Index
core_renamed f (core.Store at x) = core.Store at (f x)
core_renamed f (core.Callee at x) = core.Callee at (f x)
core_renamed f (core.Call at strict x) = core.Call at strict (f x)
core_renamed f core.Then = core.Then
core_renamed f core.Else = core.Else
core_renamed f (core.EndIf at) = core.EndIf at
core_renamed f (core.Loop at) = core.Loop at
core_renamed f (core.Bound at n) = core.Bound at n
core_renamed f (core.Start at x) = core.Start at (f x)
core_renamed f core.First = core.First
core_renamed f core.TestFirst = core.TestFirst
core_renamed f core.While = core.While
core_renamed f core.BodyFirst = core.BodyFirst
core_renamed f core.Until = core.Until
core_renamed f (core.EndLoop at n) = core.EndLoop at n
core_renamed f core.List = core.List
core_renamed f core.Part = core.Part
core_renamed f (core.Let at) = core.Let at
core_renamed f (core.Bind at x) = core.Bind at (f x)
core_renamed f core.Drop = core.Drop
core_renamed f (core.EndLet at) = core.EndLet at
core_renamed f core.Do = core.Do
core_renamed f core.Give = core.Give
core_renamed f core.Chain = core.Chain
