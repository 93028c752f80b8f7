-- Places of instructions that go through the passes in the place of marks, and what is read off them.
use Rattle.std.specs.Prelude.{ℕ, zero, suc, ◌+◌, ◌-◌, List, [], ◌∷◌, ◌++◌, map, length, replicate, slice_get, slice_index_or, Option, Some, None}
use Rattle.semantics.specs.declared.program.Mark.{Mark}
use Rattle.semantics.specs.declared.program.Mark.TheVariants.{Unmarked, OfCond, OfFlag}
use Rattle.semantics.specs.declared.program.Op.{Op}
use Rattle.semantics.specs.declared.program.Op.TheVariants.{Switch, Link, Give, Drain}
use Rattle.semantics.specs.Program.{Instr, CodeBlock}
use Rattle.semantics.specs.Plan.{Plan}
use Rattle.code.specs.Marks.{marks_in}
use Rattle.code_map.specs.declared.owner.Owner.{Owner}
use Rattle.code_map.specs.Carried.{owner_at}

abbrev pub places : ℕ → List Mark
places zero = []
places (suc n) = places n ++ OfCond n ∷ []

abbrev pub numbers_of : CodeBlock → List Mark
numbers_of c = places (length c.instrs)

-- the plan in which each instruction is marked with its place
abbrev pub numbered : Plan → Plan
numbered p = record { program = p.program; plain = p.plain; marks = map numbers_of p.program.blocks }

abbrev pub owner_by : List Owner → Mark → Owner
owner_by os (OfCond k) = owner_at os k
owner_by os OfFlag = owner_at [] 0
owner_by os Unmarked = owner_at [] 0

-- how many copies narrowing makes of an instruction: on each of its two sides one fewer than there are destinations
abbrev pub copy_count : Op → ℕ → ℕ → ℕ
copy_count Switch firsts seconds = firsts - 1 + (seconds - 1)
copy_count (Link b) firsts seconds = firsts - 1 + (seconds - 1)
copy_count (Give k) firsts seconds = firsts + seconds - 1
copy_count (Drain k) firsts seconds = firsts + seconds - 1
copy_count op firsts seconds = firsts + seconds - 2

abbrev pub all_copied : Instr → Owner → List Owner
all_copied i o = replicate (copy_count i.op (length i.firsts) (length i.seconds)) o

abbrev pub mark_at : List Mark → ℕ → Mark
mark_at ms n = slice_index_or ms n Unmarked

-- the copies of the instructions from the n-th on
abbrev pub copies_from : List Owner → List Mark → ℕ → List Instr → List Owner
copies_from os ms n [] = []
copies_from os ms n (i ∷ is) = all_copied i (owner_by os (mark_at ms n)) ++ copies_from os ms (n + 1) is

-- the owners of instructions with these marks, with the copies from one on
abbrev pub picked : List Owner → List Owner → ℕ → List Mark → List Owner
picked os copies next [] = []
picked os copies next (OfCond k ∷ ms) = owner_at os k ∷ picked os copies next ms
picked os copies next (OfFlag ∷ ms) = owner_at copies next ∷ picked os copies (next + 1) ms
picked os copies next (Unmarked ∷ ms) = owner_at copies next ∷ picked os copies (next + 1) ms

abbrev pub owners_some : Option (List Owner) → List Owner
owners_some None = []
owners_some (Some os) = os

abbrev pub owners_in : List (List Owner) → ℕ → List Owner
owners_in oss n = owners_some (slice_get oss n)

abbrev pub picked_block : List (List Owner) → Plan → Plan → ℕ → CodeBlock → List Owner
picked_block oss folded narrowed n c =
    picked (owners_in oss n) (copies_from (owners_in oss n) (marks_in folded n) 0 c.instrs) 0 (marks_in narrowed n)

-- of the code blocks from the n-th on
abbrev pub picked_blocks : List (List Owner) → Plan → Plan → ℕ → List CodeBlock → List Owner
picked_blocks oss folded narrowed n [] = []
picked_blocks oss folded narrowed n (c ∷ cs) = picked_block oss folded narrowed n c ++ picked_blocks oss folded narrowed (n + 1) cs

abbrev pub joined : List (List Owner) → Plan → Plan → List Owner
joined oss folded narrowed = picked_blocks oss folded narrowed 0 folded.program.blocks
