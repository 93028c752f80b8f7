-- Which plans with slots have an object, except for the sizes that are refused.
use Rattle.std.specs.Prelude.{◌≡◌, ℕ, ◌+◌, ◌<◌, ◌≤◌, ℤ, List, length, sum, Some, slice_get, All}
use Rattle.semantics.specs.Program.{Instr, CodeBlock, Program, Code}
use Rattle.semantics.specs.Plan.{Plan}
use Rattle.semantics.specs.Rule.{slot_of}
use Rattle.semantics.specs.Bytes.{HasOperand, HasDests, IsDest}
use Rattle.code.specs.Sound.{IsPlace}
use Rattle.select.specs.Emitted.{firsts_of, seconds_of}
use Rattle.semantics.specs.Opcodes.{has_sides}
use Rattle.select.specs.Literals.{literal_of, as_list}

abbrev pub with_table : Program → List ℤ → Code
with_table p ls = record { program = p; literals = ls }

-- The n-th instruction of a block whose holders have these slots: its operand exists, its origin is a node, its holder
-- has a slot, it has at most two destinations and as many as its kind has, and each is a later instruction of the block,
-- a right port one of an instruction with two operands.
pub record IsEmittableInstr (p : Program) (c : CodeBlock) (slots : List ℕ) (n : ℕ) (i : Instr) : Type 0 where
  pub operand : HasOperand (with_table p (as_list (literal_of i.op))) i.op
  pub origin : IsPlace i.origin
  pub holder : (h : ℕ) → slot_of i i.op ≡ Some h → h < length slots
  pub dests : HasDests i.op (firsts_of (has_sides i.op) i.firsts i.seconds) (seconds_of (has_sides i.op) i.firsts i.seconds)
  pub firsts : All (IsDest c n) i.firsts
  pub seconds : All (IsDest c n) i.seconds

pub record IsEmittableBlock (p : Program) (c : CodeBlock) (slots : List ℕ) : Type 0 where
  pub inputs : (1 ≤ c.inputs) × (c.inputs ≤ 16)
  pub outputs : (1 ≤ c.outputs) × (c.outputs ≤ 16)
  pub size : c.inputs + 1 ≤ length c.instrs
  pub low : All (λ s. s < 512) slots
  pub instrs : (n : ℕ) (i : Instr) → slice_get c.instrs n ≡ Some i → IsEmittableInstr p c slots n i

pub record IsEmittable (p : Plan) (slots : List (List ℕ)) : Type 0 where
  pub some_block : (1 ≤ length p.program.blocks) × (length p.program.blocks ≤ 512)
  pub main : p.program.main < length p.program.blocks
  pub few_arrays : length p.program.arrays ≤ 64
  pub arrays : All (λ n. (1 ≤ n) × (n ≤ 65536)) p.program.arrays
  pub cells : sum p.program.arrays ≤ 65536
  pub all : length slots ≡ length p.program.blocks
  pub blocks : (b : ℕ) (c : CodeBlock) (ss : List ℕ) → slice_get p.program.blocks b ≡ Some c → slice_get slots b ≡ Some ss → IsEmittableBlock p.program c ss
