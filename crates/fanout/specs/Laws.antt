-- What a plan keeps when it is narrowed.
use Rattle.std.specs.Prelude.{◌≡◌, ◌≢◌, ℕ, ◌+◌, ◌<◌, ◌≤◌, ◌++◌, Bool, false, List, All, length, Some, slice_get, Contains, ⊤}
use Rattle.tags.specs.declared.token.Port.TheVariants.{Left}
use Rattle.semantics.specs.declared.program.Dest.{Dest}
use Rattle.semantics.specs.Bytes.{HasDests, IsDest}
use Rattle.semantics.specs.declared.program.Op.{Op}
use Rattle.semantics.specs.declared.program.Op.TheVariants.{Link, Switch}
use Rattle.semantics.specs.declared.program.Mark.TheVariants.{Unmarked}
use Rattle.semantics.specs.Program.{Instr, CodeBlock, Program}
use Rattle.semantics.specs.Plan.{Plan, HasShape, mark_at, landing, IsPlan}
use Rattle.semantics.specs.Wired.{IsInstrAt, LoopsAgree, IsWired}
use Rattle.fanout.specs.Sides.{parted}
use Rattle.fanout.specs.Rows.{is_tied}
use Rattle.fanout.specs.Places.{place_of}
use Rattle.fanout.specs.Trees.{moved}
use Rattle.fanout.specs.Narrowed.{narrowed, narrowed_block, layout_of}

-- Nothing but a switch is marked.
abbrev pub MarksSwitches : Plan → Type 0
MarksSwitches p = (b n : ℕ) (c : CodeBlock) (i : Instr) → slice_get p.program.blocks b ≡ Some c → IsInstrAt c n i → mark_at p b n ≢ Unmarked → i.op ≡ Switch

abbrev pub AllLoops : Plan → Type 0
AllLoops p = (b : ℕ) (c : CodeBlock) → slice_get p.program.blocks b ≡ Some c → LoopsAgree c

-- ANY PLAN stays a plan: its shapes, its holders, and its marks at switches and nowhere else.
abbrev pub StaysPlan : Type 0
StaysPlan = (p : Plan) → IsPlan p → IsPlan (narrowed p)

abbrev pub MarksStay : Type 0
MarksStay = (p : Plan) → MarksSwitches p → MarksSwitches (narrowed p)

-- The instructions of a loop stay one of a kind, with one bound.
abbrev pub LoopsStay : Type 0
LoopsStay = (p : Plan) → AllLoops p → AllLoops (narrowed p)

-- WHERE THEY ARE. Each instruction is in its place, with its operation, origin and slot; and a link's landing stays in a
-- row.
abbrev pub InstrsStay : Type 0
InstrsStay = (p : Plan) (c : CodeBlock) (n : ℕ) (i : Instr) → IsInstrAt c n i → IsInstrAt (narrowed_block p c) (place_of (layout_of p c) n)
    (moved (layout_of p c) n (parted i))

abbrev pub LandingsStay : Type 0
LandingsStay = (p : Plan) (n t k : ℕ) (c : CodeBlock) (i j : Instr) (d : Dest) → IsInstrAt c n i → i.op ≡ Link t → Contains i.firsts d
    → k < landing p t → IsInstrAt c (n + d.ahead + k) j
    → place_of (layout_of p c) (n + d.ahead + k) ≡ place_of (layout_of p c) (n + d.ahead) + k

-- ROWS. Between the two places an instruction is free of the next one, so they are not of one row.
abbrev pub AreApart : List Bool → ℕ → ℕ → Type 0
AreApart ts n m = (k : ℕ) × (n ≤ k) × (k < m) × (is_tied ts k ≡ false)

-- The instruction at a place of a block names the destination.
pub record Names (p : Plan) (b n : ℕ) (c : CodeBlock) (d : Dest) : Type 0 where
  pub i : Instr
  pub block : slice_get p.program.blocks b ≡ Some c
  pub there : IsInstrAt c n i
  pub named : Contains (i.firsts ++ i.seconds) d

-- each destination leaves the row of the instruction that names it
abbrev pub LeavesRows : Plan → Type 0
LeavesRows p = (b n : ℕ) (c : CodeBlock) (d : Dest) → Names p b n c d → AreApart (layout_of p c).tied n (n + d.ahead)

-- Each destination is a later instruction of the block, a right port one of an instruction with two operands.
abbrev pub AreDests : Plan → Type 0
AreDests p = (b n : ℕ) (c : CodeBlock) (d : Dest) → Names p b n c d → IsDest c n d

abbrev pub DestsStay : Type 0
DestsStay = (p : Plan) → LeavesRows p → AreDests p → AreDests (narrowed p)

-- WIRED PLANS. The conditions on a plan whose copies are wired as well: a destination is no entry, and the entries exist.
pub record KeepsClear (p : Plan) : Type 0 where
  pub rows : LeavesRows p
  pub dests : AreDests p
  pub entries : (b n : ℕ) (c : CodeBlock) (d : Dest) → Names p b n c d → c.inputs < n + d.ahead
  pub there : (b : ℕ) (c : CodeBlock) → slice_get p.program.blocks b ≡ Some c → c.inputs < length c.instrs

abbrev pub StaysWired : Type 0
StaysWired = (p : Plan) → KeepsClear p → IsWired p → IsWired (narrowed p)

-- FEW DESTINATIONS
-- what holds of each instruction
abbrev pub AllInstrs : (Instr → Type 0) → Program → Type 0
AllInstrs P p = All (λ (c : CodeBlock). All P c.instrs) p.blocks

abbrev pub HasFew : Instr → Type 0
HasFew i = (length i.firsts ≤ 1) × (length i.seconds ≤ 1)

-- An instruction that is answered is answered at one place, and a landing begins at a left port.
abbrev pub LandsLeft : Op → List Dest → Type 0
LandsLeft (Link b) ds = All (λ (d : Dest). d.port ≡ Left) ds
LandsLeft op ds = ⊤

abbrev pub IsShaped : Instr → Type 0
IsShaped i = HasShape i.op (length i.firsts) (length i.seconds) × LandsLeft i.op i.firsts

-- It has as many destinations as its kind has in an object.
abbrev pub HasItsDests : Instr → Type 0
HasItsDests i = HasDests i.op i.firsts i.seconds
