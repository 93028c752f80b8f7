-- WHAT THE PLACING OF WORDS MAKES: the words of the placed program, and its table of places.
use Rattle.std.specs.Prelude.{◌≡◌, ℕ, List, [], map}
use Rattle.source.specs.declared.word.Word.{Word}
use Rattle.source.specs.Tree.{Name, Program}
use Rattle.source.specs.Words.{program_words, AreWords}
use Rattle.surface.specs.Placed.{placed, place_table}
use Rattle.desugar.specs.Placing.{placed_words, place_at}

-- with names
abbrev pub WordsArePlaced : Type 0
WordsArePlaced = (q : Program) → placed_words 0 [] (program_words q) ≡ program_words (placed q)

-- With numbers for names: words of a program, placed, are those of the placed program, under the same table of names; and their places
-- before that are its table.
abbrev pub NumbersArePlaced : Type 0
NumbersArePlaced = (names : List Name) (ws : List (Word ℕ)) (q : Program) → AreWords names ws q → AreWords names (placed_words 0 [] ws) (placed q)

abbrev pub PlacesAreTabled : Type 0
PlacesAreTabled = (names : List Name) (ws : List (Word ℕ)) (q : Program) → AreWords names ws q → map place_at ws ≡ place_table q
