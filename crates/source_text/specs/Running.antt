-- A PARSER'S STATE, with numbers for names: its stack, the top last, and the words so far.
use Rattle.std.specs.Prelude.{◌≡◌, ◌⊎◌, ℕ, List, map, Result, Err}
use Rattle.source.specs.declared.fault.Fault.{Fault}
use Rattle.source.specs.declared.fault.FaultKind.{FaultKind}
use Rattle.source.specs.declared.fault.FaultKind.TheVariants.{Memory}
use Rattle.source.specs.declared.word.Word.{Word}
use Rattle.source.specs.Tree.{Name}
use Rattle.source.specs.Spelled.{Lexeme}
use Rattle.source.specs.Words.{Words, named}
use Rattle.law_language.specs.declared.symbol.Symbol.{Symbol}
use Rattle.law_language.specs.GrammarAutomaton.{Outcome, Moved, moved_after, advance_by, advance, finish, finished, words_after}
use Rattle.law_language.specs.GrammarNamed.{named_stack}

abbrev pub words_named : List Name → List (Word ℕ) → Words
words_named names words = map (named names) words

abbrev pub state : List Name → List (Symbol ℕ) → List (Word ℕ) → Moved
state names stack words = record { appended = words_named names words; stack = named_stack names stack }

-- the state after a token, or why it does not go on
abbrev pub onward : ℕ → Lexeme → Moved → Result Moved FaultKind
onward at l m = moved_after m.appended (advance 200 m.stack at l)

-- the same, where a symbol that was above that state's stack does this with the token
abbrev pub reacted : ℕ → Lexeme → Moved → Outcome → Result Moved FaultKind
reacted at l m outcome = moved_after m.appended (advance_by outcome m.stack (advance 200 m.stack at l))

-- the words, where no token is left
abbrev pub ending : ℕ → Moved → Result Words Fault
ending end m = words_after m.appended (finished end (finish m.stack))

-- the kind of the fault that is the result, or a refused growth
abbrev pub IsKind : {T : Type 0} → FaultKind → Result T FaultKind → Type 0
IsKind kind r = (kind ≡ Memory) ⊎ (r ≡ Err kind)

-- the fault that is the result, or a refused growth
abbrev pub IsFault : {T : Type 0} → Fault → Result T Fault → Type 0
IsFault fault r = (fault.kind ≡ Memory) ⊎ (r ≡ Err fault)
