-- The destinations of an instruction in two sides: from each side it sends to one place.
use Rattle.std.specs.Prelude.{ℕ, ◌-◌, ◌/◌, List, ◌++◌, length, take, drop, []}
use Rattle.semantics.specs.declared.program.Dest.{Dest}
use Rattle.semantics.specs.declared.program.Op.{Op}
use Rattle.semantics.specs.declared.program.Op.TheVariants.{Switch, Link, Give, Drain}
use Rattle.semantics.specs.Program.{Instr}
use Rattle.fanout.specs.declared.sides.Parting.{Parting}
use Rattle.fanout.specs.declared.sides.Parting.TheVariants.{AsTheyAre, InOne, InHalves}

-- A switch and a link have two sides of their own; a `give` and a `drain` send to one place; any other to two.
abbrev pub parting_of : Op → Parting
parting_of Switch = AsTheyAre
parting_of (Link b) = AsTheyAre
parting_of (Give k) = InOne
parting_of (Drain k) = InOne
parting_of op = InHalves

-- the first half is the longer one
abbrev pub first_half : List Dest → List Dest
first_half ds = take (length ds - length ds / 2) ds

abbrev pub last_half : List Dest → List Dest
last_half ds = drop (length ds - length ds / 2) ds

abbrev pub firsts_of : Parting → List Dest → List Dest → List Dest
firsts_of AsTheyAre ds es = ds
firsts_of InOne ds es = ds ++ es
firsts_of InHalves ds es = first_half (ds ++ es)

abbrev pub seconds_of : Parting → List Dest → List Dest → List Dest
seconds_of AsTheyAre ds es = es
seconds_of InOne ds es = []
seconds_of InHalves ds es = last_half (ds ++ es)

abbrev pub parted : Instr → Instr
parted i = record i { firsts = firsts_of (parting_of i.op) i.firsts i.seconds; seconds = seconds_of (parting_of i.op) i.firsts i.seconds }

-- how many copies lead from one place to these destinations
abbrev pub copies : List Dest → ℕ
copies ds = length ds - 1
