-- Sound plans: those of which, narrowed and with good slots, code can be emitted that has an object.
use Rattle.std.specs.Prelude.{◌≡◌, ℕ, ◌+◌, ◌<◌, ◌≤◌, List, length, sum, Some, ◌⊎◌, ◌++◌, slice_get, All, Contains, ⊤}
use Rattle.tags.specs.declared.value.Origin.{Origin}
use Rattle.tags.specs.declared.value.Origin.TheVariants.{Untold, At}
use Rattle.tags.specs.declared.token.Port.TheVariants.{Left}
use Rattle.semantics.specs.declared.program.Dest.{Dest}
use Rattle.semantics.specs.declared.program.Op.{Op}
use Rattle.semantics.specs.declared.program.Op.TheVariants.{Fetch, Store, Link, Send, Return, Ask, Open, Take, Give, Drain, Release}
use Rattle.semantics.specs.Program.{Instr, CodeBlock, Program}
use Rattle.semantics.specs.Plan.{Plan, HasShape, landing}
use Rattle.semantics.specs.Bytes.{IsDest}
use Rattle.semantics.specs.Wired.{IsInstrAt, IsWired}

-- INSTRUCTIONS. What the operand names exists and is within its range; any literal is allowed.
abbrev pub NamesRightly : Program → Op → Type 0
NamesRightly p (Fetch a) = a < length p.arrays
NamesRightly p (Store a) = a < length p.arrays
NamesRightly p (Link b) = b < length p.blocks
NamesRightly p (Send b e) = (c : CodeBlock) × (slice_get p.blocks b ≡ Some c) × (e ≤ c.inputs)
NamesRightly p (Return o) = o ≤ 255
NamesRightly p (Ask o) = o ≤ 255
NamesRightly p (Release o) = o ≤ 255
NamesRightly p (Open k) = (2 ≤ k) × (k ≤ 64)
NamesRightly p (Take k) = (2 ≤ k) × (k ≤ 64)
NamesRightly p (Give k) = (2 ≤ k) × (k ≤ 64)
NamesRightly p (Drain k) = (2 ≤ k) × (k ≤ 64)
NamesRightly p op = ⊤

-- an origin is a node of a graph
abbrev pub IsPlace : Origin → Type 0
IsPlace Untold = ⊤
IsPlace (At b n) = (b < 256) × (n < 1024)

-- a landing begins at a left port
abbrev pub LandsLeft : Op → List Dest → Type 0
LandsLeft (Link b) ds = All (λ (d : Dest). d.port ≡ Left) ds
LandsLeft op ds = ⊤

pub record IsSoundInstr (p : Program) (i : Instr) : Type 0 where
  pub operand : NamesRightly p i.op
  pub origin : IsPlace i.origin
  pub shape : HasShape i.op (length i.firsts) (length i.seconds)
  pub lands : LandsLeft i.op i.firsts

-- BLOCKS
pub record IsSoundBlock (p : Program) (c : CodeBlock) : Type 0 where
  pub inputs : (1 ≤ c.inputs) × (c.inputs ≤ 16)
  pub outputs : (1 ≤ c.outputs) × (c.outputs ≤ 16)
  pub size : c.inputs + 1 ≤ length c.instrs
  pub instrs : (n : ℕ) (i : Instr) → IsInstrAt c n i → IsSoundInstr p i

pub record IsSoundProgram (p : Program) : Type 0 where
  pub some_block : (1 ≤ length p.blocks) × (length p.blocks ≤ 512)
  pub main : p.main < length p.blocks
  pub few_arrays : length p.arrays ≤ 64
  pub arrays : All (λ n. (1 ≤ n) × (n ≤ 65536)) p.arrays
  pub cells : sum p.arrays ≤ 65536
  pub blocks : (b : ℕ) (c : CodeBlock) → slice_get p.blocks b ≡ Some c → IsSoundBlock p c

-- DESTINATIONS. The instruction at a place of a block names the destination.
pub record NamesDest (p : Plan) (b n : ℕ) (c : CodeBlock) (d : Dest) : Type 0 where
  pub i : Instr
  pub block : slice_get p.program.blocks b ≡ Some c
  pub there : IsInstrAt c n i
  pub named : Contains (i.firsts ++ i.seconds) d

-- The instruction at place n is in the landing of the link at place m, and is not its last one.
pub record IsInLanding (p : Plan) (c : CodeBlock) (m n : ℕ) : Type 0 where
  pub link : Instr
  pub there : IsInstrAt c m link
  pub block : ℕ
  pub links : link.op ≡ Link block
  pub dest : Dest
  pub named : Contains link.firsts dest
  pub from : m + dest.ahead ≤ n
  pub to : n + 1 < m + dest.ahead + landing p block

-- The instruction at that place has to be directly before the next one: they are of one row, the block's entries or a
-- landing.
abbrev pub IsTied : Plan → CodeBlock → ℕ → Type 0
IsTied p c n = (n < c.inputs) ⊎ ((m : ℕ) × IsInLanding p c m n)

-- between the two places something is free of the next one
abbrev pub StandApart : Plan → CodeBlock → ℕ → ℕ → Type 0
StandApart p c n m = (k : ℕ) × (n ≤ k) × (k < m) × (IsTied p c k → ⊥)

-- Each destination is a later instruction of the block, not one of the entries, and a right port one of an instruction
-- with two operands. It leaves the row of the instruction that names it.
pub record IsSoundDest (p : Plan) (c : CodeBlock) (n : ℕ) (d : Dest) : Type 0 where
  pub dest : IsDest c n d
  pub past : c.inputs < n + d.ahead
  pub apart : StandApart p c n (n + d.ahead)

abbrev pub DestsAreSound : Plan → Type 0
DestsAreSound p = (b n : ℕ) (c : CodeBlock) (d : Dest) → NamesDest p b n c d → IsSoundDest p c n d

pub record IsSound (p : Plan) : Type 0 where
  pub program : IsSoundProgram p.program
  pub dests : DestsAreSound p
  pub wired : IsWired p
