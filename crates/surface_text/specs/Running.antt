-- A PARSER'S STATE, with numbers for names: its stack, the top last, and the words so far.
use Rattle.std.specs.Prelude.{◌≡◌, ◌⊎◌, ℕ, Bool, true, false, List, [], ◌∷◌, map, Option, None, Some, Result, Ok, Err}
use Rattle.source.specs.declared.fault.FaultKind.{FaultKind as CoreFaultKind}
use Rattle.source.specs.declared.fault.FaultKind.TheVariants.{Memory, Unexpected}
use Rattle.source.specs.Tree.{Name}
use Rattle.surface.specs.declared.fault.Fault.{Fault}
use Rattle.surface.specs.declared.fault.FaultKind.TheVariants.{Core}
use Rattle.surface.specs.declared.word.Word.{Word}
use Rattle.surface.specs.Spelled.{Lexeme}
use Rattle.surface.specs.Words.{Words, named}
use Rattle.law_surface_text.specs.declared.symbol.Symbol.{Symbol}
use Rattle.law_surface_text.specs.declared.symbol.Symbol.TheVariants.{StepEnd, Further}
use Rattle.law_surface_text.specs.Automaton.{Outcome, Moved, moved_after, advance_by, advance, blamed, finish, finished, words_after}
use Rattle.law_surface_text.specs.Named.{named_stack}
use Rattle.surface_text.specs.declared.parser.Acted.{Acted}
use Rattle.surface_text.specs.declared.parser.Acted.TheVariants.{Taken, Passed, Lacked}

abbrev pub words_named : List Name → List (Word ℕ) → Words
words_named names words = map (named names) words

abbrev pub state : List Name → List (Symbol ℕ) → List (Word ℕ) → Moved
state names stack words = record { appended = words_named names words; stack = named_stack names stack }

-- what is put on a stack for what follows the first value of a step, the top last
abbrev pub below_of : Option ℕ → List (Symbol ℕ)
below_of None = []
below_of (Some depth) = StepEnd depth ∷ Further depth ∷ []

-- the state after a token, or why it does not go on; what was above the stack may be an `if` that ended without its `else`
abbrev pub onward : Bool → ℕ → Lexeme → Moved → Result Moved CoreFaultKind
onward lacks at l m = moved_after m.appended (advance 200 m.stack lacks at l)

-- the same, where a symbol that was above that state's stack does this with the token
abbrev pub reacted : ℕ → Lexeme → Moved → Outcome → Result Moved CoreFaultKind
reacted at l m outcome = moved_after m.appended (advance_by 200 outcome m.stack (λ lacks. advance 200 m.stack lacks at l))

-- and where it did so
abbrev pub after_act : Acted → ℕ → Lexeme → Moved → Result Moved CoreFaultKind
after_act Taken at l m = Ok m
after_act Passed at l m = onward false at l m
after_act Lacked at l m = onward true at l m

-- the words, where no token is left
abbrev pub ending : ℕ → Moved → Result Words Fault
ending end m = words_after m.appended (finished end (finish m.stack))

-- the kind of the fault that is the result, or a refused growth
abbrev pub IsKind : {T : Type 0} → CoreFaultKind → Result T CoreFaultKind → Type 0
IsKind kind r = (kind ≡ Memory) ⊎ (r ≡ Err kind)

-- a kind, but another one where it is that of a token that is not expected
abbrev pub kind_or : CoreFaultKind → CoreFaultKind → CoreFaultKind
kind_or Unexpected other = other
kind_or kind other = kind

-- the kind with which a token is reported, or a refused growth
abbrev pub IsBlamed : List Name → List (Symbol ℕ) → Lexeme → CoreFaultKind → Result Moved CoreFaultKind → Type 0
IsBlamed names stack l kind r = (kind ≡ Memory) ⊎ ((raw : CoreFaultKind) × (r ≡ Err raw) × (kind ≡ blamed 200 (named_stack names stack) l raw))

-- the fault that is the result, or a refused growth
abbrev pub IsFault : {T : Type 0} → Fault → Result T Fault → Type 0
IsFault fault r = (fault.kind ≡ Core Memory) ⊎ (r ≡ Err fault)
