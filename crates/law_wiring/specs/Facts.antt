-- What the plan of every graph keeps, apart from its destinations: what its instructions name, its holders, its marks.
use Rattle.std.specs.Prelude.{◌≡◌, ◌≢◌, ℕ, ◌+◌, ◌<◌, ◌≤◌, length, sum, Some, slice_get, All, Contains}
use Rattle.semantics.specs.declared.program.Mark.TheVariants.{Unmarked}
use Rattle.semantics.specs.declared.program.Op.TheVariants.{Switch}
use Rattle.semantics.specs.Graph.{Flow, Graph, flow_of}
use Rattle.semantics.specs.Text.{HasText}
use Rattle.semantics.specs.WellFormed.{WellFormed}
use Rattle.semantics.specs.Program.{Instr, CodeBlock, Program}
use Rattle.semantics.specs.Plan.{Plan, OneHolder, IsFirst, mark_at}
use Rattle.semantics.specs.Rule.{slot_of}
use Rattle.semantics.specs.Wired.{IsInstrAt, LoopsAgree}
use Rattle.code.specs.Sound.{NamesRightly, IsPlace}
use Rattle.schemas.specs.Expanded.{expanded}

-- NAMES. What an instruction names is there, and its origin is a node of a graph.
abbrev pub NamesAndArrivesRightly : Program → Instr → Type 0
NamesAndArrivesRightly p i = NamesRightly p i.op × IsPlace i.origin

pub record NamesBlockRightly (p : Program) (c : CodeBlock) : Type 0 where
  pub inputs : (1 ≤ c.inputs) × (c.inputs ≤ 16)
  pub outputs : (1 ≤ c.outputs) × (c.outputs ≤ 16)
  pub size : c.inputs + 1 ≤ length c.instrs
  pub instrs : (n : ℕ) (i : Instr) → IsInstrAt c n i → NamesAndArrivesRightly p i

pub record NamesAllRightly (p : Program) : Type 0 where
  pub some_block : (1 ≤ length p.blocks) × (length p.blocks ≤ 512)
  pub main : p.main < length p.blocks
  pub few_arrays : length p.arrays ≤ 64
  pub arrays : All (λ n. (1 ≤ n) × (n ≤ 65536)) p.arrays
  pub cells : sum p.arrays ≤ 65536
  pub blocks : (b : ℕ) (c : CodeBlock) → slice_get p.blocks b ≡ Some c → NamesBlockRightly p c

-- the program of a graph's plan is within its ranges
abbrev pub PlansNameRightly : Type 0
PlansNameRightly = (g : Graph) → HasText g → WellFormed g → NamesAllRightly (expanded (flow_of g)).program

-- HOLDERS. Two instructions of one holder belong to one loop, an instruction identifies each holder, and they are as many as
-- the block says.
pub record HoldsRightly (c : CodeBlock) : Type 0 where
  pub holders : OneHolder c
  pub below : (i : Instr) (h : ℕ) → Contains c.instrs i → slot_of i i.op ≡ Some h → h < c.slots
  pub used : (h : ℕ) → h < c.slots → (n : ℕ) × (i : Instr) × (slice_get c.instrs n ≡ Some i) × (slot_of i i.op ≡ Some h) × IsFirst i.op
  pub loops : LoopsAgree c

abbrev pub PlansHoldRightly : Type 0
PlansHoldRightly = (fl : Flow) (b : ℕ) (c : CodeBlock) → slice_get (expanded fl).program.blocks b ≡ Some c → HoldsRightly c

-- MARKS. Each switch has a mark, and nothing else has one.
pub record MarksRightly (p : Plan) : Type 0 where
  pub marked : (b n : ℕ) (c : CodeBlock) (i : Instr) → slice_get p.program.blocks b ≡ Some c → slice_get c.instrs n ≡ Some i → i.op ≡ Switch
      → mark_at p b n ≢ Unmarked
  pub switches : (b n : ℕ) (c : CodeBlock) (i : Instr) → slice_get p.program.blocks b ≡ Some c → IsInstrAt c n i → mark_at p b n ≢ Unmarked → i.op ≡ Switch

abbrev pub PlansMarkRightly : Type 0
PlansMarkRightly = (fl : Flow) → MarksRightly (expanded fl)
