-- IN CODE words give names by their numbers: what a check of such words answers is what the rules say of the program.
use Rattle.std.specs.Prelude.{◌≡◌, ℕ, List}
use Rattle.source.specs.Tree.{Name}
use Rattle.source_check.specs.Numbers.{IsMain}
use Rattle.surface.specs.declared.word.Word.{Word}
use Rattle.surface.specs.Tree.{Program}
use Rattle.surface.specs.Fits.{FitsProgram}
use Rattle.surface.specs.Words.{AreWords}
use Rattle.surface.specs.Rules.{checked}
use Rattle.surface_check.specs.Checks.{words_checked}
use Rattle.surface_check.specs.Renamed.{numbers_in}

-- `main` is the number of the name `main`, or the first one that is no name's.
abbrev pub NumbersAreChecked : Type 0
NumbersAreChecked = (names : List Name) (ws : List (Word ℕ)) (p : Program) (main end : ℕ) → AreWords names ws p → FitsProgram p → IsMain names main
    → words_checked (numbers_in names) main end ws ≡ checked end p
