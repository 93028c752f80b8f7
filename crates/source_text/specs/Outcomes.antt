-- What code says of a symbol and a token, in the words of the automaton. Code gives a name by its number in a table.
use Rattle.std.specs.Prelude.{◌≡◌, ℕ, ◌<◌, ◌≤◌, List, [], ◌∷◌, map, take, All, Option, None, Some, ⊤}
use Rattle.source.specs.declared.fault.FaultKind.{FaultKind}
use Rattle.source.specs.declared.word.Word.{Word}
use Rattle.source.specs.Tree.{Name}
use Rattle.source.specs.Spelled as spelled
use Rattle.source.specs.Words.{name_of, named}
use Rattle.law_language.specs.declared.symbol.Symbol.{Symbol}
use Rattle.law_language.specs.declared.symbol.Symbol.TheVariants.{Steps, Targets, LetEnd, StepEnd, Operand, Negated, After, AfterName, AfterIndex}
use Rattle.law_language.specs.declared.symbol.Symbol.TheVariants.{Callee, CallEnd, Otherwise, Bound, Start, Starts, Turn}
use Rattle.law_language.specs.GrammarAutomaton as automaton
use Rattle.law_language.specs.GrammarNamed.{named_symbol}
use Rattle.source_text.specs.declared.lexeme.Lexeme.{Lexeme}
use Rattle.source_text.specs.declared.lexeme.Lexeme.TheVariants as code
use Rattle.source_text.specs.declared.outcome.Few.{Few}
use Rattle.source_text.specs.declared.outcome.Pushes.{Pushes}
use Rattle.source_text.specs.declared.outcome.Outcome.{Outcome}
use Rattle.source_text.specs.declared.outcome.Outcome.TheVariants as done
use Rattle.source_text.specs.declared.reaction.Reaction.{Reaction}

abbrev pub lexeme_named : List Name → Lexeme → spelled.Lexeme
lexeme_named names (code.Word keyword) = spelled.TheWord keyword
lexeme_named names (code.Mark sign) = spelled.TheSign sign
lexeme_named names (code.Number number) = spelled.TheNumber number
lexeme_named names (code.Name name) = spelled.TheName (name_of names name)

-- WHAT A SYMBOL DOES, with numbers for names
pub data Doing : Type 0 where
  Takes : (appended : List (Word ℕ)) (symbols : List (Symbol ℕ)) → Doing
  Passes : Doing
  Refuses : (kind : FaultKind) → Doing

abbrev pub few : {T : Type 0} {N : ℕ} → Few T N → List T
few items = take items.len items.items

abbrev pub shown : Outcome → Pushes → Doing
shown done.Takes pushes = Takes (few pushes.words) (few pushes.symbols)
shown done.Passes pushes = Passes
shown (done.Refuses kind) pushes = Refuses kind

abbrev pub doing_named : List Name → Doing → automaton.Outcome
doing_named names (Takes words symbols) = automaton.Takes (map (named names) words) (map (named_symbol names) symbols)
doing_named names Passes = automaton.Passes []
doing_named names (Refuses kind) = automaton.Refuses kind

-- what it does is this, whatever the names are
abbrev pub Does : Outcome → Pushes → (List Name → automaton.Outcome) → Type 0
Does outcome pushes meant = (names : List Name) → doing_named names (shown outcome pushes) ≡ meant names

-- DEPTH. Where a symbol puts one that is deeper, there is room.
abbrev pub IsShallow : Symbol ℕ → Type 0
IsShallow (Steps depth) = depth < 200
IsShallow (Targets at depth) = depth < 200
IsShallow (LetEnd at depth) = depth < 200
IsShallow (StepEnd depth) = depth < 200
IsShallow (Operand level depth) = depth ≤ 200
IsShallow (Negated depth) = depth ≤ 200
IsShallow (After level left depth) = depth ≤ 200
IsShallow (AfterName at name level depth) = depth ≤ 200
IsShallow (AfterIndex at array level depth) = depth < 200
IsShallow (Callee depth) = depth < 200
IsShallow (CallEnd at strict function depth) = depth < 200
IsShallow (Otherwise depth) = depth < 200
IsShallow (Bound at depth) = depth < 200
IsShallow (Start depth) = depth < 200
IsShallow (Starts depth) = depth < 200
IsShallow (Turn depth) = depth < 200
IsShallow symbol = ⊤

abbrev pub AreShallow : Outcome → Pushes → Type 0
AreShallow done.Takes pushes = All IsShallow (few pushes.symbols)
AreShallow done.Passes pushes = ⊤
AreShallow (done.Refuses kind) pushes = ⊤

-- A REACTION. A word may be put before the others, and a symbol below those that are pushed.
abbrev pub behind : List Name → Option (Word ℕ) → automaton.Outcome → automaton.Outcome
behind names None outcome = outcome
behind names (Some word) outcome = automaton.appending (named names word ∷ []) outcome

abbrev pub atop : List Name → Option (Symbol ℕ) → automaton.Outcome → automaton.Outcome
atop names None outcome = outcome
atop names (Some symbol) outcome = automaton.above (named_symbol names symbol ∷ []) outcome

abbrev pub reaction_named : List Name → Reaction → Pushes → automaton.Outcome
reaction_named names reaction pushes = behind names reaction.before (atop names reaction.below (doing_named names (shown reaction.outcome pushes)))

abbrev pub Reacts : Reaction → Pushes → (List Name → automaton.Outcome) → Type 0
Reacts reaction pushes meant = (names : List Name) → reaction_named names reaction pushes ≡ meant names

abbrev pub IsShallowBelow : Option (Symbol ℕ) → Type 0
IsShallowBelow None = ⊤
IsShallowBelow (Some symbol) = IsShallow symbol

abbrev pub AreAllShallow : Reaction → Pushes → Type 0
AreAllShallow reaction pushes = AreShallow reaction.outcome pushes × IsShallowBelow reaction.below
