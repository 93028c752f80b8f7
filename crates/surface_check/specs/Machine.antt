-- THE STEPS AS CODE HAS THEM: names are numbers in a table, items are those of the table of what is known.
use Rattle.std.specs.Prelude.{◌≡◌, ℕ, ◌+◌, ◌==◌, ◌||◌, Bool, false, List, [], ◌∷◌, drop, is_some, Result, Err, ⊤, IsOk, ◌⊎◌, MatchResult}
use Rattle.source.specs.declared.fault.FaultKind.TheVariants.{Arity}
use Rattle.source.specs.declared.word.Word.{Word as CoreWord}
use Rattle.source.specs.declared.word.Word.TheVariants as core_word
use Rattle.surface.specs.declared.fault.Fault.{Fault}
use Rattle.surface.specs.declared.word.Word.{Word}
use Rattle.surface.specs.declared.word.Word.TheVariants as word
use Rattle.surface.specs.First.{◌>>=◌, must_be}
use Rattle.surface_check.specs.declared.frame.Last.{Last}
use Rattle.surface_check.specs.declared.opened.Argument.{Argument}
use Rattle.surface_check.specs.declared.machine.Mode.{Mode}
use Rattle.surface_check.specs.declared.machine.Mode.TheVariants as mode
use Rattle.surface_check.specs.Evaluates.{Evaluation, strict_ahead}
use Rattle.surface_check.specs.Renamed.{numbers_in}
use Rattle.surface_check.specs.Steps.{Items, Open, State, Plain, Passing, Measuring, Skipping, NamePart, lookup_by, single}
use Rattle.surface_check.specs.Table.{TableView, item_in, out_of_memory}

abbrev pub items_in : TableView → Items ℕ
items_in t = record { item = item_in t.entries; ranks = t.ranks }

-- whether a name stands for no value, where these are the parameters that stand for arrays
abbrev pub is_hidden : TableView → List (ℕ × ℕ) → ℕ → Bool
is_hidden t arrays x = is_some (item_in t.entries x) || is_some (lookup_by (numbers_in []) arrays x)

abbrev pub argument_in : Argument → NamePart ℕ
argument_in a = record { at = a.at; name = a.name }

-- the last index ends
abbrev pub last_index : Last ℕ → ℕ → ℕ → ℕ → Result ⊤ Fault
last_index last at rank count = do
  one ← single last
  must_be (count + 1 == rank) Arity at

-- what is open at a word
pub record MachineView : Type 0 where
  pub opened : Open ℕ
  pub evaluator : Evaluation
  pub mode : Mode

abbrev pub state_by : Open ℕ → Evaluation → Mode → State ℕ
state_by s c mode.Plain = Plain s
state_by s c (mode.Passing start) = Passing s start
state_by s c (mode.Measuring at rank) = Measuring s at rank c
state_by s c mode.Skipping = Skipping s

abbrev pub state_in : MachineView → State ℕ
state_in v = state_by v.opened v.evaluator v.mode

-- All words are gone over with no fault; else the first one is returned, or a growth was refused.
abbrev pub Ends : {X : Type 0} → Result ⊤ Fault → Result X Fault → Type 0
Ends result wanted = MatchResult result (λ u. IsOk wanted) (λ f. (f ≡ out_of_memory) ⊎ (wanted ≡ Err f))

-- STRICT CALLS
-- which of the calls are strict that end in these words and begin before them, in order of their ends
abbrev pub core_closing : CoreWord ℕ → List Bool → List Bool
core_closing (core_word.Callee at f) later = drop 1 later
core_closing (core_word.Call at strict f) later = strict ∷ later
core_closing w later = later

abbrev pub word_closing : Word ℕ → List Bool → List Bool
word_closing (word.Core w) later = core_closing w later
word_closing w later = later

abbrev pub closing : List (Word ℕ) → List Bool
closing [] = []
closing (w ∷ ws) = word_closing w (closing ws)

-- of each word, whether the call is strict whose function's name is just before the words after it
abbrev pub ahead : List (Word ℕ) → List Bool
ahead [] = []
ahead (w ∷ ws) = strict_ahead ws 0 ∷ ahead ws

-- what is next of each, where nothing is left of none
abbrev pub first_or_false : List Bool → Bool
first_or_false [] = false
first_or_false (b ∷ bs) = b
