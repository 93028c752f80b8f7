-- How a text falls into lines, and a line into fields.
use Rattle.std.specs.Prelude.{ℕ, ◌==◌, ◌&&◌, not, nat_le, Bool, true, false, List, [], ◌∷◌, Option, None, Some, if◌then◌else◌}
use Rattle.std.specs.List.{slice_split}

-- the parts of some bytes between those of one value: one part more than there are such bytes
abbrev pub parts : ℕ → List ℕ → List (List ℕ)
parts c bytes = slice_split (λ b. b == c) bytes

-- the same, where nothing may be left
abbrev pub parts_left : ℕ → Option (List ℕ) → List (List ℕ)
parts_left c None = []
parts_left c (Some bytes) = parts c bytes

-- the bytes that a line may have
abbrev pub is_printed : ℕ → Bool
is_printed b = nat_le 32 b && nat_le b 126

-- Fields are separated by exactly one space: each has a byte. `fresh` says that no byte of the present field was met yet.
unfoldable pub is_well_spaced : Bool → List ℕ → Bool
is_well_spaced fresh [] = not fresh
is_well_spaced fresh (b ∷ bytes) = is_printed b && (if b == 32 then not fresh && is_well_spaced true bytes else is_well_spaced false bytes)
