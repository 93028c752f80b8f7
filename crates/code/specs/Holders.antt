-- The holders of a plan's blocks.
use Rattle.std.specs.Prelude.{ℕ, ◌==◌, ◌&&◌, Bool, List, [], ◌∷◌, slice_get, Option, Some, None, if◌then◌else◌}
use Rattle.semantics.specs.declared.program.Op.{Op}
use Rattle.semantics.specs.declared.program.Op.TheVariants.{Open, Take, Give, Drain}
use Rattle.semantics.specs.Program.{Instr, CodeBlock, uses_slot}
use Rattle.semantics.specs.Plan.{Plan}

abbrev pub instrs_of : Option CodeBlock → List Instr
instrs_of None = []
instrs_of (Some c) = c.instrs

-- the instructions of a block; none where there is no such block
abbrev pub instrs_in : Plan → ℕ → List Instr
instrs_in p b = instrs_of (slice_get p.program.blocks b)

abbrev pub slots_of : Option CodeBlock → ℕ
slots_of None = 0
slots_of (Some c) = c.slots

-- how many holders a block has
abbrev pub holders_in : Plan → ℕ → ℕ
holders_in p b = slots_of (slice_get p.program.blocks b)

-- what the holder of an instruction does: a loop opens
abbrev pub holding : Op → Op
holding (Take k) = Open k
holding (Give k) = Open k
holding (Drain k) = Open k
holding op = op

-- an instruction has the holder of that number
abbrev pub is_of : ℕ → Instr → Bool
is_of n i = uses_slot i.op && (i.slot == n)

-- what the holder of a number does, by the first instruction that has it
abbrev pub held_by : List Instr → ℕ → Option Op
held_by [] n = None
held_by (i ∷ is) n = if is_of n i then Some (holding i.op) else held_by is n
