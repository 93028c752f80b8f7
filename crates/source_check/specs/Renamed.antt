-- Words and states with other names in place of each.
use Rattle.std.specs.Prelude.{map}
use Rattle.source.specs.declared.word.Word.{Word}
use Rattle.source.specs.declared.word.Word.TheVariants as word
use Rattle.source_check.specs.Steps.{State}

abbrev pub renamed : {N M : Type 0} → (N → M) → Word N → Word M
renamed f (word.Array at x) = word.Array at (f x)
renamed f (word.Length at n) = word.Length at n
renamed f (word.Function at x) = word.Function at (f x)
renamed f (word.Parameter at x) = word.Parameter at (f x)
renamed f (word.Results at n) = word.Results at n
renamed f (word.Body at) = word.Body at
renamed f word.EndFunction = word.EndFunction
renamed f (word.Number at n) = word.Number at n
renamed f (word.Name at x) = word.Name at (f x)
renamed f word.Bracket = word.Bracket
renamed f (word.Prefix at op) = word.Prefix at op
renamed f word.Left = word.Left
renamed f (word.Infix at s) = word.Infix at s
renamed f (word.Cell at x) = word.Cell at (f x)
renamed f (word.Fetch at x) = word.Fetch at (f x)
renamed f word.Index = word.Index
renamed f (word.Store at x) = word.Store at (f x)
renamed f (word.Callee at x) = word.Callee at (f x)
renamed f (word.Call at strict x) = word.Call at strict (f x)
renamed f word.Then = word.Then
renamed f word.Else = word.Else
renamed f (word.EndIf at) = word.EndIf at
renamed f (word.Loop at) = word.Loop at
renamed f (word.Bound at n) = word.Bound at n
renamed f (word.Start at x) = word.Start at (f x)
renamed f word.First = word.First
renamed f word.TestFirst = word.TestFirst
renamed f word.While = word.While
renamed f word.BodyFirst = word.BodyFirst
renamed f word.Until = word.Until
renamed f (word.EndLoop at n) = word.EndLoop at n
renamed f word.List = word.List
renamed f word.Part = word.Part
renamed f (word.Let at) = word.Let at
renamed f (word.Bind at x) = word.Bind at (f x)
renamed f word.Drop = word.Drop
renamed f (word.EndLet at) = word.EndLet at
renamed f word.Do = word.Do
renamed f word.Give = word.Give
renamed f word.Chain = word.Chain

abbrev pub moved : {N M : Type 0} → (N → M) → State N → State M
moved f s = record { scope = map f s.scope; pending = map f s.pending; used = map f s.used; turn = s.turn; frames = s.frames; last = s.last }
