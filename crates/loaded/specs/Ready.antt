-- What is looked up of an object that is run: where its blocks begin, where its arrays lie, and how wide a frame is.
use Rattle.std.specs.Prelude.{◌≡◌, ℕ, ◌+◌, max, List, [], ◌∷◌, length, sum, slice_get}
use Rattle.semantics.specs.Program.{CodeBlock, Program, first_of}
use Rattle.semantics.specs.Orderly.{inputs_in}
use Rattle.semantics.specs.Bytes.{IsCode}
use Rattle.object_view.specs.Reading.{Opened}
use Rattle.element.specs.declared.instructions.Array.{Array}

-- the number of each block's first instruction, where the first block has this one
abbrev pub entries_in : ℕ → List CodeBlock → List ℕ
entries_in first [] = []
entries_in first (b ∷ bs) = first ∷ entries_in (first + length b.instrs) bs

-- the place of each array among the cells, where the first array lies here
abbrev pub arrays_in : ℕ → List ℕ → List Array
arrays_in base [] = []
arrays_in base (n ∷ ns) = record { base = base; len = n } ∷ arrays_in (base + n) ns

-- the most slots of any block, and at least 1
abbrev pub widest : List CodeBlock → ℕ
widest [] = 1
widest (b ∷ bs) = max b.slots (widest bs)

-- how many inputs the block has that is run
abbrev pub inputs_of : Program → ℕ
inputs_of p = inputs_in (slice_get p.blocks p.main)

-- these are the tables of an object
pub record IsReady (o : Opened) (entries : List ℕ) (arrays : List Array) (instrs cells slots : ℕ) : Type 0 where
  pub lawful : IsCode o.version o.code
  pub entries_parsed : entries ≡ entries_in 0 o.code.program.blocks
  pub arrays_parsed : arrays ≡ arrays_in 0 o.code.program.arrays
  pub instrs_parsed : instrs ≡ first_of o.code.program (length o.code.program.blocks)
  pub cells_parsed : cells ≡ sum o.code.program.arrays
  pub slots_parsed : slots ≡ widest o.code.program.blocks
