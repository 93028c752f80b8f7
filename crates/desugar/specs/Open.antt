-- WHAT IS OPEN FROM THE END, in code: the names that one `for` carries are counted, and stand before those that the `for`s around it
-- carry.
use Rattle.std.specs.Prelude.{ℕ, zero, suc, ◌==◌, slice_get, Bool, List, [], ◌∷◌, take, drop, map, Option, None}
use Rattle.surface.specs.declared.word.Word.{Word}
use Rattle.desugar.specs.declared.flagging.Part.{Part}
use Rattle.desugar.specs.declared.flagging.Part.TheVariants as part
use Rattle.desugar.specs.Flags.{Opened, Operand, Arm, InLoop, Carries, Lengths, Arguments, flagged}

abbrev pub opened : List ℕ → List Part → List (Opened ℕ)
opened names [] = []
opened names (part.Operand truth ∷ parts) = Operand truth ∷ opened names parts
opened names (part.Arm is_when ∷ parts) = Arm is_when ∷ opened names parts
opened names (part.InLoop ∷ parts) = InLoop ∷ opened names parts
opened names (part.Carries count ∷ parts) = Carries (take count names) ∷ opened (drop count names) parts
opened names (part.Lengths ∷ parts) = Lengths ∷ opened names parts
opened names (part.Arguments ∷ parts) = Arguments ∷ opened names parts

abbrev pub by_number : ℕ → ℕ → Bool
by_number i j = i == j

-- the flag of each word
abbrev pub flags_of : Option (Word ℕ) → List (Word ℕ) → List Bool
flags_of last ws = map (λ (p : Word ℕ × Bool). p.1) (flagged by_number last ws).words

-- the word before that of this index
abbrev pub before_at : List (Word ℕ) → ℕ → Option (Word ℕ)
before_at ws zero = None
before_at ws (suc n) = slice_get ws n
