-- Where the instructions of a block are when the copies of each are directly after it, or after its row.
use Rattle.std.specs.Prelude.{ℕ, ◌+◌, Bool, List, ◌∷◌, drop, slice_index_or, if◌then◌else◌, []}
use Rattle.semantics.specs.Program.{Instr}
use Rattle.semantics.specs.Plan.{Plan}
use Rattle.fanout.specs.Sides.{copies}
use Rattle.fanout.specs.Rows.{is_tied, run, tied_in}

-- `tied`: which instructions the next one has to follow. `places`: where each instruction is. `bases`: where the first
-- copy of each is, or would be.
pub record Layout : Type 0 where
  pub tied : List Bool
  pub places : List ℕ
  pub bases : List ℕ

-- the number of copies of an instruction whose destinations are in two sides
abbrev pub size : Instr → ℕ
size i = copies i.firsts + copies i.seconds

-- From the n-th instruction on, where `before` copies are before its row, and `copied` copies belong to what is before it.
abbrev pub places_from : List Bool → ℕ → ℕ → ℕ → List Instr → List ℕ
places_from ts n before copied [] = []
places_from ts n before copied (i ∷ is) = (n + before) ∷ places_from ts (n + 1) (if is_tied ts n then before else copied + size i) (copied + size i) is

abbrev pub bases_from : List Bool → ℕ → ℕ → List Instr → List ℕ
bases_from ts n copied [] = []
bases_from ts n copied (i ∷ is) = (n + run (drop n ts) + copied) ∷ bases_from ts (n + 1) (copied + size i) is

abbrev pub layout_with : List Bool → List Instr → Layout
layout_with ts is = record { tied = ts; places = places_from ts 0 0 0 is; bases = bases_from ts 0 0 is }

abbrev pub layout_in : Plan → ℕ → List Instr → Layout
layout_in p inputs is = layout_with (tied_in p inputs is) is

-- the place of an instruction; a place after the block stays
abbrev pub place_of : Layout → ℕ → ℕ
place_of l n = slice_index_or l.places n n

abbrev pub base_of : Layout → ℕ → ℕ
base_of l n = slice_index_or l.bases n n
