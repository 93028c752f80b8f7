-- Which holders of a plan may lie in one slot.
use Rattle.std.specs.Prelude.{◌≡◌, ◌≢◌, ℕ, zero, suc, ◌+◌, ◌<◌, Bool, true, false, not, ◌⊎◌, List, [], ◌∷◌, ◌++◌, map, length, Option, Some, None}
use Rattle.std.specs.Prelude.{slice_get, slice_index_or, flat_map, Contains, All}
use Rattle.tags.specs.declared.token.Port.{Port}
use Rattle.tags.specs.declared.token.Port.TheVariants.{Left, Right}
use Rattle.semantics.specs.declared.program.Dest.{Dest}
use Rattle.semantics.specs.declared.program.Op.{Op}
use Rattle.semantics.specs.declared.program.Op.TheVariants.{Link, Open, Take, Give, Drain}
use Rattle.semantics.specs.Program.{Instr, CodeBlock}
use Rattle.semantics.specs.Rule.{slot_of}
use Rattle.semantics.specs.declared.program.Mark.{Mark}
use Rattle.semantics.specs.declared.program.Mark.TheVariants.{Unmarked}
use Rattle.semantics.specs.Plan.{Plan, mark_at, landing, instr_in}

-- an input port of a block: an instruction's place in it, and the port
pub record Inlet : Type 0 where
  pub place : ℕ
  pub port : Port

abbrev pub inlet : ℕ → Port → Inlet
inlet n p = record { place = n; port = p }

-- an arc of a block, by a first or a second destination
pub record Arc : Type 0 where
  pub from : ℕ
  pub second : Bool
  pub to : Inlet

abbrev pub arc : ℕ → Bool → Inlet → Arc
arc n s q = record { from = n; second = s; to = q }

abbrev pub arcs_to : ℕ → Bool → List Dest → List Arc
arcs_to n s ds = map (λ (d : Dest). arc n s (inlet (n + d.ahead) d.port)) ds

abbrev pub row : ℕ → ℕ → ℕ → List Arc
row n from zero = []
row n from (suc k) = arc n false (inlet from Left) ∷ row n (from + 1) k

-- a link has an arc to each instruction of its landing
abbrev pub arcs_from : Plan → ℕ → Instr → Op → List Arc
arcs_from p n i (Link b) = flat_map (λ (d : Dest). row n (n + d.ahead) (landing p b)) i.firsts ++ arcs_to n true i.seconds
arcs_from p n i op = arcs_to n false i.firsts ++ arcs_to n true i.seconds

abbrev pub arcs_of : Plan → ℕ → List Instr → List Arc
arcs_of p n [] = []
arcs_of p n (i ∷ is) = arcs_from p n i i.op ++ arcs_of p (n + 1) is

abbrev pub arcs_in : Plan → Option CodeBlock → List Arc
arcs_in p None = []
arcs_in p (Some c) = arcs_of p 0 c.instrs

-- LEAST RELATION. Each arc into the port is one of the chosen arcs, or starts at an instruction with such a port.
mutual
  pub data IsAfter (arcs : List Arc) (chosen : Arc → Type 0) : Inlet → Type 0 where
    is_after : (q : Inlet) (x : Arc) → Contains arcs x → x.to ≡ q
        → ((y : Arc) → Contains arcs y → y.to ≡ q → Leads arcs chosen y) → IsAfter arcs chosen q

  pub data Leads (arcs : List Arc) (chosen : Arc → Type 0) : Arc → Type 0 where
    by_choice : (y : Arc) → chosen y → Leads arcs chosen y
    by_port : (y : Arc) (side : Port) → IsAfter arcs chosen (inlet y.from side) → Leads arcs chosen y

-- an instruction of the holder, at that place
abbrev pub Holds : Option CodeBlock → ℕ → ℕ → Instr → Type 0
Holds c h n i = (instr_in c n ≡ Some i) × (slot_of i i.op ≡ Some h)

abbrev pub ends_with : Op → Bool
ends_with (Open k) = false
ends_with (Take k) = false
ends_with op = true

-- the end arcs of a holder: all its arcs, or for a loop the destination of `give` and of `drain`
abbrev pub IsEnd : Option CodeBlock → ℕ → Arc → Type 0
IsEnd c h x = (i : Instr) × Holds c h x.from i × (ends_with i.op ≡ true)

abbrev pub IsSide : Plan → ℕ → Mark → Bool → Arc → Type 0
IsSide p b m side x = (mark_at p b x.from ≡ m) × (m ≢ Unmarked) × (x.second ≡ not side)

abbrev pub is_port : Op → Port → Bool
is_port (Open k) Left = true
is_port (Open k) Right = false
is_port (Take k) q = false
is_port (Give k) q = false
is_port (Drain k) q = false
is_port op q = true

-- a holder's ports: both of the instruction, or that of `open`
abbrev pub IsHolderPort : Option CodeBlock → ℕ → Inlet → Type 0
IsHolderPort c h q = (i : Instr) × Holds c h q.place i × (is_port i.op q.port ≡ true)

-- all ports of the one holder are after the other
abbrev pub AllAfter : Plan → ℕ → ℕ → ℕ → Type 0
AllAfter p b g h = (q : Inlet) → IsHolderPort (slice_get p.program.blocks b) g q
    → IsAfter (arcs_in p (slice_get p.program.blocks b)) (IsEnd (slice_get p.program.blocks b) h) q

abbrev pub AllOnSide : Plan → ℕ → ℕ → Mark → Bool → Type 0
AllOnSide p b g m side = (q : Inlet) → IsHolderPort (slice_get p.program.blocks b) g q
    → IsAfter (arcs_in p (slice_get p.program.blocks b)) (IsSide p b m side) q

abbrev pub MayShare : Plan → ℕ → ℕ → ℕ → Type 0
MayShare p b g h = ((m : Mark) × (side : Bool) × AllOnSide p b g m side × AllOnSide p b h m (not side))
    ⊎ (AllAfter p b g h ⊎ AllAfter p b h g)

pub record IsGoodBlock (p : Plan) (b : ℕ) (c : CodeBlock) (slots : List ℕ) : Type 0 where
  pub all : length slots ≡ c.slots
  pub below : All (λ s. s < 512) slots
  pub share : (g h s : ℕ) → slice_get slots g ≡ Some s → slice_get slots h ≡ Some s → g ≢ h → MayShare p b g h

pub record Good (p : Plan) (slots : List (List ℕ)) : Type 0 where
  pub all : length slots ≡ length p.program.blocks
  pub blocks : (b : ℕ) (c : CodeBlock) (ss : List ℕ) → slice_get p.program.blocks b ≡ Some c → slice_get slots b ≡ Some ss → IsGoodBlock p b c ss

-- THE CODE OF A PLAN. Each holder is replaced by its slot.
abbrev pub placed_slot : List ℕ → Option ℕ → ℕ
placed_slot ss None = 0
placed_slot ss (Some h) = slice_index_or ss h 0

abbrev pub placed_instrs : List ℕ → List Instr → List Instr
placed_instrs ss is = map (λ (i : Instr). record i { slot = placed_slot ss (slot_of i i.op) }) is
