-- Owners, picked by marks: what has a place for its mark takes the owner of that place, and what has no mark the next one of the copies.
use Rattle.std.specs.Prelude.{ℕ, ◌+◌, List, [], ◌∷◌, ◌++◌}
use Rattle.semantics.specs.declared.program.Mark.{Mark}
use Rattle.semantics.specs.declared.program.Mark.TheVariants.{Unmarked, OfCond, OfFlag}
use Rattle.semantics.specs.Program.{Instr}
use Rattle.code_map.specs.declared.owner.Owner.{Owner}
use Rattle.code_map.specs.Carried.{owner_at}

abbrev pub pick : List Owner → List Mark → List Owner → List Owner
pick os [] ys = []
pick os (OfCond k ∷ ms) ys = owner_at os k ∷ pick os ms ys
pick os (OfFlag ∷ ms) [] = owner_at [] 0 ∷ pick os ms []
pick os (OfFlag ∷ ms) (y ∷ ys) = y ∷ pick os ms ys
pick os (Unmarked ∷ ms) [] = owner_at [] 0 ∷ pick os ms []
pick os (Unmarked ∷ ms) (y ∷ ys) = y ∷ pick os ms ys

-- what there is more for each of the instructions from the n-th on
abbrev pub mores : (ℕ → Instr → List Owner) → ℕ → List Instr → List Owner
mores more n [] = []
mores more n (i ∷ is) = more n i ++ mores more (n + 1) is
