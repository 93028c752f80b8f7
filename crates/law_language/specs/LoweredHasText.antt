-- A lowered program's graph has a text: it has the form and keeps the limits of texts.
use Rattle.std.specs.Prelude.{◌≡◌, ℕ, List, All, Ok}
use Rattle.semantics.specs.Graph.{Graph}
use Rattle.semantics.specs.Text.{HasText}
use Rattle.source.specs.declared.word.Word.{Word}
use Rattle.source.specs.Tree.{Name, Program}
use Rattle.source.specs.Tokens.{IsSpelledName}
use Rattle.source.specs.Rules.{item_names}
use Rattle.source.specs.Words.{AreWords}
use Rattle.source.specs.Counts.{IsGood}
use Rattle.source.specs.Lowered.{lowered}
use Rattle.source.specs.Theorem.{NoDoubles}

-- The names of arrays and functions are as texts have them. Graphs have no others, except those of the blocks of loops.
abbrev pub HasSpelledNames : Program → Type 0
HasSpelledNames p = All IsSpelledName (item_names p)

abbrev pub LoweringHasText : Type 0
LoweringHasText = (p : Program) (g : Graph) → IsGood p → HasSpelledNames p → lowered p ≡ Ok g → HasText g

-- This holds for each program in code, whose table has only such names.
abbrev pub NamesAreSpelled : Type 0
NamesAreSpelled = (names : List Name) (ws : List (Word ℕ)) (p : Program) → AreWords names ws p → All IsSpelledName names → HasSpelledNames p

-- and then no name has `__` in it
abbrev pub SpelledNamesAreSingle : Type 0
SpelledNamesAreSingle = (p : Program) → HasSpelledNames p → NoDoubles p
