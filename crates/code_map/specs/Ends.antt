-- The regions of the ends of a block, read off its finished code. What an end goes to in the end is a join or the release, and these
-- are behind all instructions that have ends.
use Rattle.std.specs.Prelude.{ℕ, ◌+◌, ◌-◌, Bool, true, false, not, ◌&&◌, List, [], ◌∷◌, ◌++◌, length, nat_lt, slice_index_or, if◌then◌else◌}
use Rattle.semantics.specs.declared.graph.Region.{Region}
use Rattle.semantics.specs.declared.graph.Region.TheVariants.{Arm}
use Rattle.semantics.specs.declared.program.Dest.{Dest}
use Rattle.semantics.specs.declared.program.Mark.{Mark}
use Rattle.semantics.specs.declared.program.Mark.TheVariants.{Unmarked, OfCond, OfFlag}
use Rattle.semantics.specs.Program.{Instr}
use Rattle.schemas.specs.Builds.{region_of}
use Rattle.schemas.specs.Ends.{is_take}

-- all destinations of what is at a place are at a limit or behind it
abbrev pub all_behind : ℕ → ℕ → List Dest → Bool
all_behind limit place [] = true
all_behind limit place (d ∷ ds) = if nat_lt d.ahead (limit - place) then false else all_behind limit place ds

abbrev pub pushed_if : List Region → Bool → Region → List Region
pushed_if ends test region = if test then ends ++ region ∷ [] else ends

abbrev pub noted : List Region → Mark → Region → Instr → ℕ → ℕ → List Region
noted ends (OfCond k) region i n limit =
    pushed_if (pushed_if ends (all_behind limit n i.firsts) (Arm k true)) (all_behind limit n i.seconds) (Arm k false)
noted ends OfFlag region i n limit = ends
noted ends Unmarked region i n limit = pushed_if ends (not (is_take i.op) && all_behind limit n i.firsts) region

abbrev pub mark_at : List Mark → ℕ → Mark
mark_at ms n = slice_index_or ms n Unmarked

-- at the n-th instruction, if it is one of those that have regions
abbrev pub noted_within : List Region → List Mark → List Region → ℕ → Instr → List Region
noted_within ends ms rs n i = if nat_lt n (length rs) then noted ends (mark_at ms n) (region_of rs n) i n (length rs) else ends

-- from the instruction at a place on
abbrev pub ends_from : List Region → List Mark → List Region → ℕ → List Instr → List Region
ends_from ends ms rs n [] = ends
ends_from ends ms rs n (i ∷ is) = ends_from (noted_within ends ms rs n i) ms rs (n + 1) is

abbrev pub ends_of : List Instr → List Mark → List Region → List Region
ends_of is ms rs = ends_from [] ms rs 0 is
