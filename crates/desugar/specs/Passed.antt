-- THE TWO PASSES in code: what holds of the flags that are found so far, and words side by side with their flags.
use Rattle.std.specs.Prelude.{◌≡◌, ℕ, ◌≤◌, Bool, List, [], ◌∷◌, length, drop, reverse}
use Rattle.surface.specs.declared.word.Word.{Word}
use Rattle.desugar.specs.Flags.{Look, flagged}
use Rattle.desugar.specs.Open.{by_number, before_at, flags_of}

-- the flags of the words from `index` on, the last one first, and what is open before them
pub record AreFlags (ws : List (Word ℕ)) (index : ℕ) (flags : List Bool) (look : Look ℕ) : Type 0 where
  pub in_range : index ≤ length ws
  pub flags_are : reverse flags ≡ flags_of (before_at ws index) (drop index ws)
  pub look_is : look ≡ (flagged by_number (before_at ws index) (drop index ws)).look

abbrev pub paired : List (Word ℕ) → List Bool → List (Word ℕ × Bool)
paired [] flags = []
paired (w ∷ ws) [] = []
paired (w ∷ ws) (f ∷ flags) = (w, f) ∷ paired ws flags
