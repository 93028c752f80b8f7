-- What is claimed of the map of code as text.
use Rattle.std.specs.Prelude.{◌≡◌, ℕ, ◌+◌, ◌<◌, List, length, map, sum, Some, slice_get}
use Rattle.semantics.specs.Program.{CodeBlock, Program, first_of}
use Rattle.code_map.specs.declared.owner.Owner.{Owner}
use Rattle.map_text.specs.MapText.{owners_in}

-- Where there are as many owners as instructions, each instruction has a line, and the owner on it is its own.
abbrev pub EachHasLine : Type 0
EachHasLine = (p : Program) (os : List Owner) (code : ℕ) (b : CodeBlock) → length os ≡ sum (map (λ (c : CodeBlock). length c.instrs) p.blocks)
    → slice_get p.blocks code ≡ Some b
    → (length (owners_in p os code b) ≡ length b.instrs)
    × ((instr : ℕ) → instr < length b.instrs → slice_get (owners_in p os code b) instr ≡ slice_get os (first_of p code + instr))
