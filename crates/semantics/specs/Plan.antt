-- A plan: a program in which a slot's number is a holder's number, with what only the compiler knows.
use Rattle.std.specs.Prelude.{◌≡◌, ◌≢◌, ℕ, ◌+◌, ◌<◌, Bool, true, false, List, length, Option, Some, None, nat_lt, slice_get, All, Contains, ◌⊎◌, ◌&&◌, ⊤}
use Rattle.semantics.specs.declared.program.Mark.{Mark}
use Rattle.semantics.specs.declared.program.Mark.TheVariants.{Unmarked}
use Rattle.semantics.specs.declared.program.Op.{Op}
use Rattle.semantics.specs.declared.program.Op.TheVariants.{Switch, Open, Take, Give, Drain, Link, Fetch, Store, Frame, Ask, Release}
use Rattle.semantics.specs.Program.{Instr, CodeBlock, Program}
use Rattle.semantics.specs.Rule.{slot_of}

-- `plain`: the code blocks below it are plain, and the others are loop variants. `marks`: one for each instruction.
pub record Plan : Type 0 where
  pub program : Program
  pub plain : ℕ
  pub marks : List (List Mark)

abbrev pub mark_in : Option (List Mark) → ℕ → Mark
mark_in None n = Unmarked
mark_in (Some ms) n = elim (slice_get ms n) as (λ x. Mark) [ None ↦ Unmarked | Some m ↦ m ]

-- the mark of the n-th instruction of block b
abbrev pub mark_at : Plan → ℕ → ℕ → Mark
mark_at p b n = mark_in (slice_get p.marks b) n

abbrev pub landing_in : Bool → Option CodeBlock → ℕ
landing_in plain None = 0
landing_in true (Some c) = c.outputs + 1
landing_in false (Some c) = c.inputs + 3

-- how many instructions in a row a link to block b has as its landing: the results and the done signal; for a loop the
-- values, give, take and drain
abbrev pub landing : Plan → ℕ → ℕ
landing p b = landing_in (nat_lt b p.plain) (slice_get p.program.blocks b)

-- the instruction at a place of a block
abbrev pub instr_in : Option CodeBlock → ℕ → Option Instr
instr_in None n = None
instr_in (Some c) n = slice_get c.instrs n

abbrev pub is_credit : Op → Bool
is_credit (Open k) = true
is_credit (Take k) = true
is_credit (Give k) = true
is_credit (Drain k) = true
is_credit op = false

-- an instruction that is answered has one first destination and no second one; a link has one landing
abbrev pub HasShape : Op → ℕ → ℕ → Type 0
HasShape (Fetch a) m n = (m ≡ 1) × (n ≡ 0)
HasShape (Store a) m n = (m ≡ 1) × (n ≡ 0)
HasShape Frame m n = (m ≡ 1) × (n ≡ 0)
HasShape (Ask o) m n = (m ≡ 1) × (n ≡ 0)
HasShape (Link b) m n = m ≡ 1
HasShape (Take k) m n = (m ≡ 0) × (n ≡ 0)
HasShape (Release o) m n = (m ≡ 0) × (n ≡ 0)
HasShape op m n = ⊤

abbrev pub is_open : Op → Bool
is_open (Open k) = true
is_open op = false

-- two instructions of one holder are one, or belong to one loop, which has one `open`
abbrev pub OneHolder : CodeBlock → Type 0
OneHolder c = (m n h : ℕ) (i j : Instr) → slice_get c.instrs m ≡ Some i → slice_get c.instrs n ≡ Some j
    → slot_of i i.op ≡ Some h → slot_of j j.op ≡ Some h
    → (m ≡ n) ⊎ ((is_credit i.op ≡ true) × (is_credit j.op ≡ true) × (is_open i.op && is_open j.op ≡ false))

-- the instruction that a holder is identified by: no `take`, `give` or `drain`
abbrev pub IsFirst : Op → Type 0
IsFirst (Take k) = ⊥
IsFirst (Give k) = ⊥
IsFirst (Drain k) = ⊥
IsFirst op = ⊤

-- `slots` of a plan's block is how many holders it has
pub record IsPlanBlock (c : CodeBlock) : Type 0 where
  pub shapes : All (λ (i : Instr). HasShape i.op (length i.firsts) (length i.seconds)) c.instrs
  pub holders : OneHolder c
  pub below : (i : Instr) (h : ℕ) → Contains c.instrs i → slot_of i i.op ≡ Some h → h < c.slots
  pub used : (h : ℕ) → h < c.slots → (n : ℕ) × (i : Instr) × (slice_get c.instrs n ≡ Some i) × (slot_of i i.op ≡ Some h) × IsFirst i.op

-- the marks are those of the switches
pub record IsPlan (p : Plan) : Type 0 where
  pub blocks : All IsPlanBlock p.program.blocks
  pub marked : (b n : ℕ) (c : CodeBlock) (i : Instr) → slice_get p.program.blocks b ≡ Some c → slice_get c.instrs n ≡ Some i → i.op ≡ Switch
      → mark_at p b n ≢ Unmarked
