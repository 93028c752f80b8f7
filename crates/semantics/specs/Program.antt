-- Code for the explicit token store: blocks of instructions. A plan is the same with any number of destinations, and
-- with a slot for each holder.
use Rattle.std.specs.Prelude.{ℕ, ◌-◌, ℤ, List, [], ◌∷◌, map, length, sum, take, Option, None, Bool, true, false, nat_lt, slice_get, if◌then◌else◌}
use Rattle.tags.specs.declared.value.Origin.{Origin}
use Rattle.semantics.specs.declared.program.Dest.{Dest}
use Rattle.semantics.specs.declared.program.Op.{Op}
use Rattle.semantics.specs.declared.program.Op.TheVariants.{Apply2, Sync, Switch, Store, Send, Return, Ask, Release, Open, Take, Give, Drain}

-- `firsts` and `seconds` are the destinations. A switch sends to the first ones where it is true, and else to the
-- second ones; a link has its landing in the first, and signals to the second ones; any other sends to all.
pub record Instr : Type 0 where
  pub op : Op
  pub origin : Origin
  pub slot : ℕ
  pub firsts : List Dest
  pub seconds : List Dest

-- An instruction with this operation uses its slot.
abbrev pub uses_slot : Op → Bool
uses_slot (Apply2 op) = true
uses_slot Sync = true
uses_slot Switch = true
uses_slot (Store a) = true
uses_slot (Send b e) = true
uses_slot (Return o) = true
uses_slot (Ask o) = true
uses_slot (Release o) = true
uses_slot (Open k) = true
uses_slot (Take k) = true
uses_slot (Give k) = true
uses_slot (Drain k) = true
uses_slot op = false

pub record CodeBlock : Type 0 where
  pub inputs : ℕ
  pub outputs : ℕ
  pub slots : ℕ
  pub instrs : List Instr

pub record Program : Type 0 where
  pub blocks : List CodeBlock
  pub arrays : List ℕ
  pub main : ℕ

-- Code is a program with its table of literals: an object may have literals that no instruction uses.
pub record Code : Type 0 where
  pub program : Program
  pub literals : List ℤ

-- An instruction's number counts through all blocks.
abbrev pub first_of : Program → ℕ → ℕ
first_of p b = sum (map (λ (x : CodeBlock). length x.instrs) (take b p.blocks))

abbrev pub instr_from : List CodeBlock → ℕ → Option Instr
instr_from [] ip = None
instr_from (b ∷ blocks) ip = if nat_lt ip (length b.instrs) then slice_get b.instrs ip else instr_from blocks (ip - length b.instrs)

abbrev pub instr_at : Program → ℕ → Option Instr
instr_at p ip = instr_from p.blocks ip
