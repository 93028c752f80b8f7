-- What code says of a symbol and a token, in the words of the automaton. Code gives a name by its number in a table.
use Rattle.std.specs.Prelude.{◌≡◌, ℕ, ◌<◌, ◌≤◌, List, [], ◌∷◌, map, take, All, Option, None, Some, ⊤}
use Rattle.source.specs.Tree.{Name}
use Rattle.source.specs.Words.{name_of}
use Rattle.surface.specs.declared.word.Word.{Word}
use Rattle.surface.specs.Spelled as spelled
use Rattle.surface.specs.Words.{named}
use Rattle.law_surface_text.specs.declared.symbol.Symbol.{Symbol}
use Rattle.law_surface_text.specs.declared.symbol.Symbol.TheVariants.{Steps, ArmEnd, StepOtherwise, StepEnd, Operand, Negated, After, AfterName, AfterIndexes}
use Rattle.law_surface_text.specs.declared.symbol.Symbol.TheVariants.{Callee, Further, Indexes, Otherwise, Bound, Starts, Turn, ForBound, AfterForName}
use Rattle.law_surface_text.specs.declared.symbol.Symbol.TheVariants.{Range, Carried}
use Rattle.law_surface_text.specs.Automaton as automaton
use Rattle.law_surface_text.specs.Named.{named_symbol}
use Rattle.surface_text.specs.declared.lexeme.Lexeme.{Lexeme}
use Rattle.surface_text.specs.declared.lexeme.Lexeme.TheVariants as code
use Rattle.surface_text.specs.declared.outcome.Few.{Few}
use Rattle.surface_text.specs.declared.outcome.Pushes.{Pushes}
use Rattle.surface_text.specs.declared.outcome.Outcome.{Outcome}
use Rattle.surface_text.specs.declared.outcome.Outcome.TheVariants as done
use Rattle.surface_text.specs.declared.reaction.Reaction.{Reaction}

abbrev pub lexeme_named : List Name → Lexeme → spelled.Lexeme
lexeme_named names (code.Word keyword) = spelled.TheWord keyword
lexeme_named names (code.Mark sign) = spelled.TheSign sign
lexeme_named names (code.Number number) = spelled.TheNumber number
lexeme_named names (code.Name name) = spelled.TheName (name_of names name)

-- WHAT A SYMBOL DOES, with numbers for names
pub data Doing : Type 0 where
  Takes : (needed : ℕ) (appended : List (Word ℕ)) (symbols : List (Symbol ℕ)) → Doing
  Passes : (appended : List (Word ℕ)) → Doing
  Lacks : (appended : List (Word ℕ)) → Doing
  Refuses : Doing

abbrev pub few : {T : Type 0} {N : ℕ} → Few T N → List T
few items = take items.len items.items

abbrev pub shown : Outcome → Pushes → Doing
shown (done.Takes needed) pushes = Takes needed (few pushes.words) (few pushes.symbols)
shown done.Passes pushes = Passes (few pushes.words)
shown done.Lacks pushes = Lacks (few pushes.words)
shown done.Refuses pushes = Refuses

abbrev pub doing_named : List Name → Doing → automaton.Outcome
doing_named names (Takes needed words symbols) = automaton.Takes needed (map (named names) words) (map (named_symbol names) symbols)
doing_named names (Passes words) = automaton.Passes (map (named names) words)
doing_named names (Lacks words) = automaton.Lacks (map (named names) words)
doing_named names Refuses = automaton.Refuses

-- what it does is this, whatever the names are
abbrev pub Does : Outcome → Pushes → (List Name → automaton.Outcome) → Type 0
Does outcome pushes meant = (names : List Name) → doing_named names (shown outcome pushes) ≡ meant names

-- DEPTH. Where a symbol puts one that is deeper, there is room.
abbrev pub IsShallow : Symbol ℕ → Type 0
IsShallow (Steps depth) = depth < 200
IsShallow (ArmEnd at depth) = depth < 199
IsShallow (StepOtherwise at depth) = depth < 199
IsShallow (StepEnd depth) = depth < 200
IsShallow (Operand level depth) = depth ≤ 200
IsShallow (Negated depth) = depth ≤ 200
IsShallow (After level left depth) = depth ≤ 200
IsShallow (AfterName at name level depth) = depth ≤ 200
IsShallow (AfterIndexes at array level depth) = depth < 200
IsShallow (Callee depth) = depth < 200
IsShallow (Further depth) = depth < 200
IsShallow (Indexes depth) = depth < 200
IsShallow (Otherwise depth) = depth < 200
IsShallow (Bound at depth) = depth < 200
IsShallow (Starts depth) = depth < 200
IsShallow (Turn depth) = depth < 200
IsShallow (ForBound depth) = depth < 200
IsShallow (AfterForName at name depth) = depth < 200
IsShallow (Range depth) = depth < 200
IsShallow (Carried depth) = depth < 200
IsShallow symbol = ⊤

-- so it is of what a step pushes, where enough may be open for it
abbrev pub AreShallow : Outcome → Pushes → Type 0
AreShallow (done.Takes needed) pushes = needed ≤ 200 → All IsShallow (few pushes.symbols)
AreShallow done.Passes pushes = ⊤
AreShallow done.Lacks pushes = ⊤
AreShallow done.Refuses pushes = ⊤

-- A REACTION. A word may be put before the others, and below the symbols that are pushed those of a step's values.
abbrev pub behind : List Name → Option (Word ℕ) → automaton.Outcome → automaton.Outcome
behind names None outcome = outcome
behind names (Some word) outcome = automaton.appending (named names word ∷ []) outcome

abbrev pub atop : Option ℕ → automaton.Outcome → automaton.Outcome
atop None outcome = outcome
atop (Some depth) outcome = automaton.above (Further depth ∷ StepEnd depth ∷ []) outcome

abbrev pub reaction_named : List Name → Reaction → Pushes → automaton.Outcome
reaction_named names reaction pushes = behind names reaction.before (atop reaction.below (doing_named names (shown reaction.outcome pushes)))

abbrev pub Reacts : Reaction → Pushes → (List Name → automaton.Outcome) → Type 0
Reacts reaction pushes meant = (names : List Name) → reaction_named names reaction pushes ≡ meant names

abbrev pub IsShallowBelow : Option ℕ → Type 0
IsShallowBelow None = ⊤
IsShallowBelow (Some depth) = depth < 200

abbrev pub AreAllShallow : Reaction → Pushes → Type 0
AreAllShallow reaction pushes = AreShallow reaction.outcome pushes × IsShallowBelow reaction.below
