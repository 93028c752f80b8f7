-- How a text falls into lines, and a line into words.
use Rattle.std.specs.Prelude.{ℕ, Bool, true, false, List, [], ◌∷◌, map}
use Rattle.graph_file.specs.Lines.{parts}

abbrev pub Word : Type 0
Word = List ℕ

-- all parts except those that have no byte
unfoldable pub kept : List (List ℕ) → List Word
kept [] = []
kept ([] ∷ ps) = kept ps
kept ((b ∷ bs) ∷ ps) = (b ∷ bs) ∷ kept ps

-- the first part, which is always there
abbrev pub front : List (List ℕ) → List ℕ
front [] = []
front (p ∷ ps) = p

-- The words of a line are separated by one or more spaces. What follows a `;` is ignored.
unfoldable pub words_of : List ℕ → List Word
words_of line = kept (parts 32 (front (parts 59 line)))

-- whether the line has words
abbrev pub has_words : List Word → Bool
has_words [] = false
has_words (w ∷ ws) = true

-- the lines that have words
unfoldable pub filled : List (List Word) → List (List Word)
filled [] = []
filled ([] ∷ ls) = filled ls
filled ((w ∷ ws) ∷ ls) = (w ∷ ws) ∷ filled ls

-- what a text says: of each line that has words, the words
abbrev pub lines_in : List ℕ → List (List Word)
lines_in text = filled (map words_of (parts 10 text))
