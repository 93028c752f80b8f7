-- Trees of copies. The copies of one side are numbered level by level, and are in this order: copy j leads to the
-- children 2 j + 1 and 2 j + 2. A child is the copy of that number, as long as there is one; the children after these are
-- the destinations in their order.
use Rattle.std.specs.Prelude.{ℕ, zero, suc, ◌+◌, ◌-◌, ◌*◌, List, ◌∷◌, ◌++◌, map, length, Option, Some, None, nat_lt, slice_get, if◌then◌else◌, []}
use Rattle.tags.specs.declared.value.Origin.TheVariants.{Untold}
use Rattle.tags.specs.declared.token.Port.{Port}
use Rattle.tags.specs.declared.token.Port.TheVariants.{Left}
use Rattle.semantics.specs.declared.program.Dest.{Dest}
use Rattle.semantics.specs.declared.program.Op.TheVariants.{Copy}
use Rattle.semantics.specs.Program.{Instr}
use Rattle.fanout.specs.Sides.{copies}
use Rattle.fanout.specs.Places.{Layout, place_of, base_of}

-- a destination, by its place and the place of what names it
abbrev pub dest_at : ℕ → ℕ → Port → Dest
dest_at from to port = record { ahead = to - from; port = port }

-- a destination of the n-th instruction, named by what is at a place
abbrev pub leaf : Layout → ℕ → ℕ → Dest → Dest
leaf l n at d = dest_at at (place_of l (n + d.ahead)) d.port

abbrev pub leaf_or : Layout → ℕ → ℕ → Option Dest → Dest
leaf_or l n at None = dest_at at at Left
leaf_or l n at (Some d) = leaf l n at d

-- child c of copy j, which is at a place
abbrev pub child : Layout → ℕ → ℕ → ℕ → List Dest → ℕ → Dest
child l n at j ds c = if nat_lt c (copies ds) then dest_at j c Left else leaf_or l n at (slice_get ds (c - copies ds))

abbrev pub copy_at : Layout → ℕ → ℕ → ℕ → List Dest → Instr
copy_at l n at j ds = record { op = Copy; origin = Untold; slot = 0; firsts = child l n at j ds (2 * j + 1) ∷ []; seconds = child l n at j ds (2 * j + 2) ∷ [] }

-- the first copies of a side, by their number, of which the first one is at `root`
abbrev pub tree : Layout → ℕ → ℕ → List Dest → ℕ → List Instr
tree l n root ds zero = []
tree l n root ds (suc j) = tree l n root ds j ++ copy_at l n (root + j) j ds ∷ []

-- a side of the n-th instruction, which is at a place
abbrev pub side : Layout → ℕ → ℕ → ℕ → List Dest → List Dest
side l n at root ds = if nat_lt 1 (length ds) then dest_at at root Left ∷ [] else map (leaf l n at) ds

-- the n-th instruction, and its copies
abbrev pub moved : Layout → ℕ → Instr → Instr
moved l n i = record i { firsts = side l n (place_of l n) (base_of l n) i.firsts; seconds = side l n (place_of l n) (base_of l n + copies i.firsts) i.seconds }

abbrev pub copies_of : Layout → ℕ → Instr → List Instr
copies_of l n i = tree l n (base_of l n) i.firsts (copies i.firsts) ++ tree l n (base_of l n + copies i.firsts) i.seconds (copies i.seconds)
