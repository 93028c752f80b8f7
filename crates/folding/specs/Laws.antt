-- What a plan keeps when it is folded.
use Rattle.std.specs.Prelude.{◌≡◌, ◌≢◌, ℕ, ℤ, ◌+◌, ◌<◌, ◌≤◌, ◌⊎◌, Bool, true, false, List, ◌∷◌, Some, length, slice_get, []}
use Rattle.tags.specs.declared.token.Port.{Port}
use Rattle.tags.specs.declared.token.Port.TheVariants.{Left, Right}
use Rattle.operators.specs.declared.Binary.{Binary}
use Rattle.semantics.specs.declared.program.Dest.{Dest}
use Rattle.semantics.specs.declared.program.Op.TheVariants.{Switch, Apply2, Lit, Link}
use Rattle.semantics.specs.declared.program.Mark.TheVariants.{Unmarked}
use Rattle.semantics.specs.Program.{Instr, CodeBlock}
use Rattle.semantics.specs.Wired.{is_dyadic}
use Rattle.semantics.specs.Rule.{slot_of}
use Rattle.semantics.specs.Plan.{Plan, mark_at, OneHolder, IsFirst, landing}
use Rattle.folding.specs.declared.namers.Namer.{Namer}
use Rattle.folding.specs.declared.namers.Namer.TheVariants.{One, Many}
use Rattle.folding.specs.Namers.{namers_of, namer_of}
use Rattle.folding.specs.declared.folds.Fold.TheVariants.{OnRight, LeftLiteral}
use Rattle.folding.specs.Folds.{is_closed}
use Rattle.folding.specs.Places.{layout_of, new_place, gone_at, folds_at}
use Rattle.folding.specs.Moved.{moved, new_dest}
use Rattle.folding.specs.Folded.{folded_block, folded}

-- PLACES. An instruction that is not left out is in its new place,
abbrev pub KeepsInstrs : Type 0
KeepsInstrs = (p : Plan) (c : CodeBlock) (n : ℕ) (i : Instr) → slice_get c.instrs n ≡ Some i → gone_at (layout_of p c) n ≡ false
    → slice_get (folded_block p c).instrs (new_place (layout_of p c) n) ≡ Some (moved (layout_of p c) n i)

-- each instruction of the folded block is such a one,
abbrev pub HasNoOthers : Type 0
HasNoOthers = (p : Plan) (c : CodeBlock) (m : ℕ) (j : Instr) → slice_get (folded_block p c).instrs m ≡ Some j
    → (n : ℕ) × (i : Instr) × (slice_get c.instrs n ≡ Some i) × (gone_at (layout_of p c) n ≡ false) × (new_place (layout_of p c) n ≡ m)
    × (j ≡ moved (layout_of p c) n i)

-- and what was after it is after it: arcs go forward as they did.
abbrev pub KeepsOrder : Type 0
KeepsOrder = (p : Plan) (c : CodeBlock) (m n : ℕ) → m < n → n < length c.instrs → gone_at (layout_of p c) m ≡ false
    → new_place (layout_of p c) m < new_place (layout_of p c) n

-- The entries stay where they are.
abbrev pub KeepsEntries : Type 0
KeepsEntries = (p : Plan) (c : CodeBlock) (n : ℕ) → n ≤ c.inputs → n < length c.instrs → (gone_at (layout_of p c) n ≡ false) × (new_place (layout_of p c) n ≡ n)

-- A landing stays a row.
abbrev pub KeepsLandings : Type 0
KeepsLandings = (p : Plan) (c : CodeBlock) (n v k b : ℕ) (i : Instr) (d : Dest) → slice_get c.instrs n ≡ Some i → i.op ≡ Link b → slice_get i.firsts v
    ≡ Some d → k < landing p b → n + d.ahead + k < length c.instrs
    → (gone_at (layout_of p c) (n + d.ahead + k) ≡ false) × (new_place (layout_of p c) (n + d.ahead + k) ≡ new_place (layout_of p c) (n + d.ahead) + k)

-- NAMERS. A port that is named is named by one list of destinations alone, or by more.
abbrev pub dests_of : Instr → Bool → List Dest
dests_of i true = i.seconds
dests_of i false = i.firsts

abbrev pub NamedBy : ℕ → Bool → Namer → Type 0
NamedBy n s x = (x ≡ One n s) ⊎ (x ≡ Many)

abbrev pub KnowsNamers : Type 0
KnowsNamers = (p : Plan) (c : CodeBlock) (n k : ℕ) (i : Instr) (s : Bool) (d : Dest) → slice_get c.instrs n ≡ Some i → slice_get (dests_of i s) k
    ≡ Some d → n + d.ahead < length c.instrs
    → NamedBy n s (namer_of (namers_of p c) (n + d.ahead) d.port)

-- What names a port by the table does name it.
abbrev pub NamersName : Type 0
NamersName = (p : Plan) (c : CodeBlock) (m : ℕ) (q : Port) (n : ℕ) (s : Bool) → namer_of (namers_of p c) m q ≡ One n s
    → (i : Instr) × (k : ℕ) × (d : Dest) × (slice_get c.instrs n ≡ Some i) × (slice_get (dests_of i s) k ≡ Some d) × (n + d.ahead ≡ m) × (d.port ≡ q)

-- FOLDS. A port whose operand is in the code had it from a `lit` that alone names it. One list of destinations names that
-- `lit`, and it alone names the other port too.
abbrev pub other_port : Port → Port
other_port Left = Right
other_port Right = Left

pub record TakesLiteral (p : Plan) (c : CodeBlock) (n : ℕ) (q : Port) (z : ℤ) : Type 0 where
  pub operator : (i : Instr) × (o : Binary) × (slice_get c.instrs n ≡ Some i) × (i.op ≡ Apply2 o)
  pub lit : ℕ
  -- which destinations of the `lit` name the port
  pub lit_side : Bool
  pub literal : (i : Instr) × (slice_get c.instrs lit ≡ Some i) × (i.op ≡ Lit z)
  pub alone : namer_of (namers_of p c) n q ≡ One lit lit_side
  pub source : ℕ
  pub source_side : Bool
  pub to_lit : namer_of (namers_of p c) lit Left ≡ One source source_side
  pub to_operator : namer_of (namers_of p c) n (other_port q) ≡ One source source_side

abbrev pub FoldsOnRight : Type 0
FoldsOnRight = (p : Plan) (c : CodeBlock) (n : ℕ) (z : ℤ) → folds_at (layout_of p c) n ≡ OnRight z → TakesLiteral p c n Right z

abbrev pub FoldsOnLeft : Type 0
FoldsOnLeft = (p : Plan) (c : CodeBlock) (n : ℕ) (z : ℤ) → folds_at (layout_of p c) n ≡ LeftLiteral z → TakesLiteral p c n Left z

-- What is left out is a `lit` that one list of destinations names, and it sends only to ports whose operands are in the code.
pub record IsDropped (p : Plan) (c : CodeBlock) (n : ℕ) (i : Instr) : Type 0 where
  pub literal : (z : ℤ) × (i.op ≡ Lit z)
  pub source : (m : ℕ) × (s : Bool) × (namer_of (namers_of p c) n Left ≡ One m s)
  -- it sends to one at least
  pub used : (s : Bool) × (d : Dest) × (slice_get (dests_of i s) 0 ≡ Some d)
  pub closed : (s : Bool) (k : ℕ) (d : Dest) → slice_get (dests_of i s) k ≡ Some d → is_closed (folds_at (layout_of p c) (n + d.ahead)) d.port ≡ true

abbrev pub LeavesOut : Type 0
LeavesOut = (p : Plan) (c : CodeBlock) (n : ℕ) (i : Instr) → slice_get c.instrs n ≡ Some i → gone_at (layout_of p c) n ≡ true → IsDropped p c n i

-- SHAPES. Where right ports are those of dyadic instructions, an instruction with one destination keeps it, if it is no `lit`.
abbrev pub SparesLiterals : CodeBlock → Type 0
SparesLiterals c = (n k : ℕ) (i : Instr) (s : Bool) (d : Dest) (j : Instr) → slice_get c.instrs n ≡ Some i → slice_get (dests_of i s) k ≡ Some d
    → slice_get c.instrs (n + d.ahead) ≡ Some j → d.port ≡ Right → is_dyadic j.op ≡ true

abbrev pub KeepsSole : Type 0
KeepsSole = (p : Plan) (c : CodeBlock) → SparesLiterals c → (n : ℕ) (i : Instr) (d : Dest) → slice_get c.instrs n ≡ Some i → i.firsts ≡ d ∷ []
    → ((z : ℤ) → i.op ≡ Lit z → ⊥)
    → (moved (layout_of p c) n i).firsts ≡ new_dest (layout_of p c) n (n + d.ahead) d.port ∷ []

-- MARKS. An instruction that is not left out keeps its mark,
abbrev pub KeepsMarks : Type 0
KeepsMarks = (p : Plan) (b : ℕ) (c : CodeBlock) (n : ℕ) (i : Instr) → slice_get p.program.blocks b ≡ Some c → slice_get c.instrs n ≡ Some i
    → gone_at (layout_of p c) n ≡ false
    → mark_at (folded p) b (new_place (layout_of p c) n) ≡ mark_at p b n

-- so that each switch is marked,
abbrev pub MarksSwitches : Plan → Type 0
MarksSwitches p = (b n : ℕ) (c : CodeBlock) (i : Instr) → slice_get p.program.blocks b ≡ Some c → slice_get c.instrs n ≡ Some i → i.op ≡ Switch
    → mark_at p b n ≢ Unmarked

-- and nothing else is.
abbrev pub MarksNoOthers : Plan → Type 0
MarksNoOthers p = (b n : ℕ) (c : CodeBlock) (i : Instr) → slice_get p.program.blocks b ≡ Some c → slice_get c.instrs n ≡ Some i
    → mark_at p b n ≢ Unmarked → i.op ≡ Switch

abbrev pub StillMarksSwitches : Type 0
StillMarksSwitches = (p : Plan) → MarksSwitches p → MarksSwitches (folded p)

abbrev pub StillMarksNoOthers : Type 0
StillMarksNoOthers = (p : Plan) → MarksNoOthers p → MarksNoOthers (folded p)

-- HOLDERS. Each is still one, and has a number below how many are left.
abbrev pub IsBelow : CodeBlock → Type 0
IsBelow c = (n h : ℕ) (i : Instr) → slice_get c.instrs n ≡ Some i → slot_of i i.op ≡ Some h → h < c.slots

abbrev pub KeepsHolders : Type 0
KeepsHolders = (p : Plan) (c : CodeBlock) → OneHolder c → IsBelow c → OneHolder (folded_block p c)

abbrev pub KeepsBelow : Type 0
KeepsBelow = (p : Plan) (c : CodeBlock) → OneHolder c → IsBelow c → IsBelow (folded_block p c)

-- each number is still that of an instruction that a holder is identified by
abbrev pub IsUsed : CodeBlock → Type 0
IsUsed c = (h : ℕ) → h < c.slots → (n : ℕ) × (i : Instr) × (slice_get c.instrs n ≡ Some i) × (slot_of i i.op ≡ Some h) × IsFirst i.op

abbrev pub KeepsUsed : Type 0
KeepsUsed = (p : Plan) (c : CodeBlock) → IsUsed c → IsUsed (folded_block p c)
