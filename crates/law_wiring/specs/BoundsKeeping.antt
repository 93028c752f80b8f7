-- Which marks fit an operation, and how holders are numbered.
use Rattle.std.specs.Prelude.{◌≡◌, ℕ, ◌+◌, Bool, true, false, List, ◌∷◌, Some, slice_get, if◌then◌else◌, []}
use Rattle.semantics.specs.declared.program.Mark.{Mark}
use Rattle.semantics.specs.declared.program.Mark.TheVariants.{Unmarked}
use Rattle.semantics.specs.declared.program.Op.{Op}
use Rattle.semantics.specs.declared.program.Op.TheVariants.{Switch}
use Rattle.semantics.specs.Program.{Instr, CodeBlock}
use Rattle.semantics.specs.Plan.{Plan, mark_at}
use Rattle.schemas.specs.Builds.{takes_holder}

abbrev pub is_switch : Op → Bool
is_switch Switch = true
is_switch op = false

-- a switch has a mark, and nothing else has one
abbrev pub Fits : Op → Mark → Type 0
Fits op Unmarked = is_switch op ≡ false
Fits op mark = is_switch op ≡ true

-- the marks of a plan are those of its switches
abbrev pub MarksFit : Plan → Type 0
MarksFit p = (b n : ℕ) (c : CodeBlock) (i : Instr) → slice_get p.program.blocks b ≡ Some c → slice_get c.instrs n ≡ Some i → Fits i.op (mark_at p b n)

-- The instructions with a holder of their own, those at which two words meet and each `open`, are numbered in their order
-- from a first number on; `count` is how many there are in the end.
abbrev pub AreNumbered : ℕ → List Instr → ℕ → Type 0
AreNumbered n [] count = n ≡ count
AreNumbered n (i ∷ is) count = (takes_holder i.op ≡ true → i.slot ≡ n) × AreNumbered (if takes_holder i.op then n + 1 else n) is count

abbrev pub HoldersInOrder : Plan → Type 0
HoldersInOrder p = (b : ℕ) (c : CodeBlock) → slice_get p.program.blocks b ≡ Some c → AreNumbered 0 c.instrs c.slots
