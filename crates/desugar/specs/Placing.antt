-- PLACES OF THEIR OWN, WORD BY WORD. The words of a core program are gone over once, with the number of words before each, and the
-- numbers of those words that open what a later word ends. So each gets the place that it has in a placed program.
use Rattle.std.specs.Prelude.{ℕ, ◌+◌, List, [], ◌∷◌}
use Rattle.source.specs.declared.word.Word.{Word}
use Rattle.source.specs.declared.word.Word.TheVariants as word

-- Whose number the place of a word is: its own, or that of the word that opened what it ends.
pub data Role : Type 0 where
  Stands : Role
  Opens : Role
  Ends : Role

abbrev pub role : {N : Type 0} → Word N → Role
role (word.Cell at x) = Opens
role (word.Fetch at x) = Ends
role (word.Store at x) = Ends
role (word.Callee at x) = Opens
role (word.Call at strict x) = Ends
role (word.Loop at) = Opens
role (word.EndLoop at n) = Ends
role (word.Let at) = Opens
role (word.EndLet at) = Ends
role w = Stands

-- what is open, the innermost first
abbrev pub innermost : List ℕ → ℕ
innermost [] = 0
innermost (n ∷ outer) = n

abbrev pub closed : List ℕ → List ℕ
closed [] = []
closed (n ∷ outer) = outer

abbrev pub place_for : Role → ℕ → List ℕ → ℕ
place_for Stands n outer = n
place_for Opens n outer = n
place_for Ends n outer = innermost outer

abbrev pub opened_after : Role → ℕ → List ℕ → List ℕ
opened_after Stands n outer = outer
opened_after Opens n outer = n ∷ outer
opened_after Ends n outer = closed outer

-- a word at a place, if it has one
abbrev pub moved_to : {N : Type 0} → ℕ → Word N → Word N
moved_to n (word.Array at x) = word.Array n x
moved_to n (word.Length at k) = word.Length n k
moved_to n (word.Function at x) = word.Function n x
moved_to n (word.Parameter at x) = word.Parameter n x
moved_to n (word.Results at k) = word.Results n k
moved_to n (word.Body at) = word.Body n
moved_to n word.EndFunction = word.EndFunction
moved_to n (word.Number at k) = word.Number n k
moved_to n (word.Name at x) = word.Name n x
moved_to n word.Bracket = word.Bracket
moved_to n (word.Prefix at op) = word.Prefix n op
moved_to n word.Left = word.Left
moved_to n (word.Infix at s) = word.Infix n s
moved_to n (word.Cell at x) = word.Cell n x
moved_to n (word.Fetch at x) = word.Fetch n x
moved_to n word.Index = word.Index
moved_to n (word.Store at x) = word.Store n x
moved_to n (word.Callee at x) = word.Callee n x
moved_to n (word.Call at strict x) = word.Call n strict x
moved_to n word.Then = word.Then
moved_to n word.Else = word.Else
moved_to n (word.EndIf at) = word.EndIf n
moved_to n (word.Loop at) = word.Loop n
moved_to n (word.Bound at k) = word.Bound n k
moved_to n (word.Start at x) = word.Start n x
moved_to n word.First = word.First
moved_to n word.TestFirst = word.TestFirst
moved_to n word.While = word.While
moved_to n word.BodyFirst = word.BodyFirst
moved_to n word.Until = word.Until
moved_to n (word.EndLoop at k) = word.EndLoop n k
moved_to n word.List = word.List
moved_to n word.Part = word.Part
moved_to n (word.Let at) = word.Let n
moved_to n (word.Bind at x) = word.Bind n x
moved_to n word.Drop = word.Drop
moved_to n (word.EndLet at) = word.EndLet n
moved_to n word.Do = word.Do
moved_to n word.Give = word.Give
moved_to n word.Chain = word.Chain

abbrev pub placed_word : {N : Type 0} → ℕ → List ℕ → Word N → Word N
placed_word n outer w = moved_to (place_for (role w) n outer) w

-- words before the first of which there are so many
abbrev pub placed_words : {N : Type 0} → ℕ → List ℕ → List (Word N) → List (Word N)
placed_words n outer [] = []
placed_words n outer (w ∷ ws) = placed_word n outer w ∷ placed_words (n + 1) (opened_after (role w) n outer) ws

-- THE PLACE that a word has; 0 where it has none
abbrev pub place_at : {N : Type 0} → Word N → ℕ
place_at (word.Array at x) = at
place_at (word.Length at n) = at
place_at (word.Function at x) = at
place_at (word.Parameter at x) = at
place_at (word.Results at n) = at
place_at (word.Body at) = at
place_at (word.Number at n) = at
place_at (word.Name at x) = at
place_at (word.Prefix at op) = at
place_at (word.Infix at s) = at
place_at (word.Cell at x) = at
place_at (word.Fetch at x) = at
place_at (word.Store at x) = at
place_at (word.Callee at x) = at
place_at (word.Call at strict x) = at
place_at (word.EndIf at) = at
place_at (word.Loop at) = at
place_at (word.Bound at n) = at
place_at (word.Start at x) = at
place_at (word.EndLoop at n) = at
place_at (word.Let at) = at
place_at (word.Bind at x) = at
place_at (word.EndLet at) = at
place_at w = 0
