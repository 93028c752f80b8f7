-- The two sides of an instruction that is split are all its destinations.
use Rattle.std.proofs.Common.{◌≡◌, List, ◌++◌, refl, append-nil}
use Rattle.std.proofs.lemmas.List.{take-append-drop}
use Rattle.semantics.specs.declared.program.Dest.{Dest}
use Rattle.semantics.specs.Program.{Instr}
use Rattle.fanout.specs.declared.sides.Parting.{Parting}
use Rattle.fanout.specs.declared.sides.Parting.TheVariants.{AsTheyAre, InOne, InHalves}
use Rattle.fanout.specs.Sides.{parted, parting_of, firsts_of, seconds_of}

-- the two sides are all destinations
sides_join : (p : Parting) (ds es : List Dest) → firsts_of p ds es ++ seconds_of p ds es ≡ ds ++ es
sides_join AsTheyAre ds es = refl
sides_join InOne ds es = append-nil (ds ++ es)
sides_join InHalves ds es = take-append-drop _ (ds ++ es)

pub parted_all : (i : Instr) → (parted i).firsts ++ (parted i).seconds ≡ i.firsts ++ i.seconds
parted_all i = sides_join (parting_of i.op) i.firsts i.seconds
