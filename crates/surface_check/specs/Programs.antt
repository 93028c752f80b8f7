-- WHAT A CHECK OF A PROGRAM SAYS, by its words, wherever the name `main` stands in the table of names.
use Rattle.std.specs.Prelude.{◌≡◌, ℕ, List, Ok, Err}
use Rattle.source.specs.Tree.{Name}
use Rattle.source_check.specs.Numbers.{IsMain}
use Rattle.surface.specs.declared.fault.Fault.{Fault}
use Rattle.surface.specs.declared.word.Word.{Word}
use Rattle.surface_check.specs.Checks.{words_checked}
use Rattle.surface_check.specs.Renamed.{numbers_in}

-- no fault is found, wherever the text ends
pub record AreKept (names : List Name) (ws : List (Word ℕ)) : Type 0 where
  pub kept : (main end : ℕ) → IsMain names main → words_checked (numbers_in names) main end ws ≡ Ok tt

-- this fault is found first, where the text ends there
pub record AreBroken (names : List Name) (ws : List (Word ℕ)) (end : ℕ) (fault : Fault) : Type 0 where
  pub broken : (main : ℕ) → IsMain names main → words_checked (numbers_in names) main end ws ≡ Err fault
