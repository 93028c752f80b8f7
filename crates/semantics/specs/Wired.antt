-- The conditions on the arcs, the marks and the loops of a wired plan.
use Rattle.std.specs.Prelude.{◌≡◌, ◌≢◌, ℕ, ◌<◌, Bool, true, false, Some, slice_get, Contains}
use Rattle.tags.specs.declared.token.Port.TheVariants.{Right}
use Rattle.semantics.specs.declared.program.Op.{Op}
use Rattle.semantics.specs.declared.program.Op.TheVariants.{Apply2, Sync, Switch, Store, Send, Return, Ask, Release, Open, Take, Give, Drain}
use Rattle.semantics.specs.Program.{Instr, CodeBlock}
use Rattle.semantics.specs.declared.program.Mark.TheVariants.{Unmarked}
use Rattle.semantics.specs.Plan.{Plan, mark_at, IsPlan}
use Rattle.semantics.specs.Rule.{slot_of}
use Rattle.semantics.specs.Sharing.{Arc, arcs_of}

-- an instruction whose two words meet in a slot
abbrev pub is_dyadic : Op → Bool
is_dyadic (Apply2 op) = true
is_dyadic Sync = true
is_dyadic Switch = true
is_dyadic (Store a) = true
is_dyadic (Send b e) = true
is_dyadic (Return o) = true
is_dyadic (Ask o) = true
is_dyadic (Release o) = true
is_dyadic op = false

-- which of the four instructions of a loop, and the loop's bound
pub data LoopPart : Type 0 where
  Opens : (bound : ℕ) → LoopPart
  Takes : (bound : ℕ) → LoopPart
  Gives : (bound : ℕ) → LoopPart
  Drains : (bound : ℕ) → LoopPart
  NoPart : LoopPart

abbrev pub part_of : Op → LoopPart
part_of (Open k) = Opens k
part_of (Take k) = Takes k
part_of (Give k) = Gives k
part_of (Drain k) = Drains k
part_of op = NoPart

abbrev pub bound_of : LoopPart → ℕ
bound_of (Opens k) = k
bound_of (Takes k) = k
bound_of (Gives k) = k
bound_of (Drains k) = k
bound_of NoPart = 0

-- a place of a block and the instruction there
abbrev pub IsInstrAt : CodeBlock → ℕ → Instr → Type 0
IsInstrAt c n i = slice_get c.instrs n ≡ Some i

-- All of a loop's instructions have its bound, and no two of them are alike.
abbrev pub LoopsAgree : CodeBlock → Type 0
LoopsAgree c = (m n h : ℕ) (i j : Instr) → IsInstrAt c m i → IsInstrAt c n j → slot_of i i.op ≡ Some h → slot_of j j.op ≡ Some h
    → (bound_of (part_of i.op) ≡ bound_of (part_of j.op)) × (part_of i.op ≡ part_of j.op → m ≡ n)

pub record IsWired (p : Plan) : Type 0 where
  pub plan : IsPlan p
  -- an entry gets its token from outside
  pub entries : (b : ℕ) (c : CodeBlock) (x : Arc) → slice_get p.program.blocks b ≡ Some c → Contains (arcs_of p 0 c.instrs) x → c.inputs < x.to.place
  -- a right port is a dyadic instruction's
  pub rights : (b : ℕ) (c : CodeBlock) (x : Arc) → slice_get p.program.blocks b ≡ Some c → Contains (arcs_of p 0 c.instrs) x → x.to.port ≡ Right
      → (i : Instr) × IsInstrAt c x.to.place i × (is_dyadic i.op ≡ true)
  -- nothing but a switch is marked
  pub switches : (b n : ℕ) (c : CodeBlock) (i : Instr) → slice_get p.program.blocks b ≡ Some c → IsInstrAt c n i → mark_at p b n ≢ Unmarked → i.op ≡ Switch
  pub loops : (b : ℕ) (c : CodeBlock) → slice_get p.program.blocks b ≡ Some c → LoopsAgree c
