-- When a plan is another plan except for the numbers of its holders.
use Rattle.std.specs.Prelude.{◌≡◌, ℕ, List, length, Some, slice_get}
use Rattle.semantics.specs.Program.{Instr, CodeBlock}
use Rattle.semantics.specs.Rule.{slot_of}
use Rattle.semantics.specs.Plan.{Plan}

-- the instruction j is i, with the new number of its holder
pub record IsRenumbered (hold : ℕ → ℕ) (i j : Instr) : Type 0 where
  pub op : j.op ≡ i.op
  pub origin : j.origin ≡ i.origin
  pub firsts : j.firsts ≡ i.firsts
  pub seconds : j.seconds ≡ i.seconds
  pub slot : (r : ℕ) → slot_of i i.op ≡ Some r → j.slot ≡ hold r

-- an instruction of the block is of that holder
pub record HoldsIn (c : CodeBlock) (r : ℕ) : Type 0 where
  pub place : ℕ
  pub instr : Instr
  pub there : slice_get c.instrs place ≡ Some instr
  pub holds : slot_of instr instr.op ≡ Some r

-- Two holders of the block have two new numbers.
pub record RenumbersBlock (hold : ℕ → ℕ) (c d : CodeBlock) : Type 0 where
  pub inputs : d.inputs ≡ c.inputs
  pub outputs : d.outputs ≡ c.outputs
  pub size : length d.instrs ≡ length c.instrs
  pub instrs : (n : ℕ) (i : Instr) → slice_get c.instrs n ≡ Some i → (j : Instr) × (slice_get d.instrs n ≡ Some j) × IsRenumbered hold i j
  pub apart : (r s : ℕ) → HoldsIn c r → HoldsIn c s → hold r ≡ hold s → r ≡ s

-- `hold b` numbers the holders of block b anew.
pub record RenumbersAll (hold : ℕ → ℕ → ℕ) (cs ds : List CodeBlock) : Type 0 where
  pub count : length ds ≡ length cs
  pub blocks : (b : ℕ) (c : CodeBlock) → slice_get cs b ≡ Some c → (d : CodeBlock) × (slice_get ds b ≡ Some d) × RenumbersBlock (hold b) c d

-- the plan with other blocks
abbrev pub with_blocks : Plan → List CodeBlock → Plan
with_blocks p ds = record { program = record { blocks = ds; arrays = p.program.arrays; main = p.program.main }; plain = p.plain; marks = p.marks }

-- q is p except for these numbers.
pub record Renumbers (p q : Plan) : Type 0 where
  pub hold : ℕ → ℕ → ℕ
  pub same : q ≡ with_blocks p q.program.blocks
  pub blocks : RenumbersAll hold p.program.blocks q.program.blocks
