-- WHAT WAS CHECKED.
use Rattle.std.specs.Prelude.{◌≡◌, ℕ, List, Ok}
use Rattle.source.specs.declared.word.Word.{Word}
use Rattle.source.specs.Tree.{Name, Program}
use Rattle.source.specs.Words.{IsProgram}
use Rattle.source.specs.Rules.{checked}

-- the program whose words these are keeps the static rules, wherever its text ends
pub record IsChecked (names : List Name) (ws : List (Word ℕ)) : Type 0 where
  pub checked : (p : Program) (end : ℕ) → IsProgram names ws p → checked end p ≡ Ok tt
