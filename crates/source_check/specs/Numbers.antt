-- WORDS IN CODE give names by numbers.
use Rattle.std.specs.Prelude.{◌≡◌, ℕ, ◌<◌, ◌⊎◌, List, length}
use Rattle.source.specs.Tree.{Name}
use Rattle.source.specs.Words.{name_of}
use Rattle.source.specs.Rules.{main_name}

-- The number of the name `main`, or the first one that is no name's.
abbrev pub IsMain : List Name → ℕ → Type 0
IsMain names m = ((m < length names) × (name_of names m ≡ main_name)) ⊎ ((m ≡ length names) × ((n : ℕ) → n < length names → name_of names n ≡ main_name → ⊥))
