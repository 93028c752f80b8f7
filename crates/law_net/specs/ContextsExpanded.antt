-- The wires of the plan of a graph: the parts of each code block in their order, and their wires as the code has them. Also
-- the lemmas from which the proof that they are lawful is composed.
use Rattle.std.specs.Prelude.{◌≡◌, ℕ, zero, suc, ◌+◌, ◌-◌, ◌≤◌, Bool, true, false, ◌&&◌, ◌||◌, not, List, [], ◌∷◌, ◌++◌, map, length, Option, Some, None}
use Rattle.std.specs.Prelude.{nat_lt, ◌==◌, if◌then◌else◌, slice_get, slice_index_or, count_by}
use Rattle.semantics.specs.declared.graph.Region.{Region}
use Rattle.semantics.specs.declared.graph.Region.TheVariants.{Root, Arm}
use Rattle.semantics.specs.declared.graph.Kind.{Kind}
use Rattle.semantics.specs.declared.program.Dest.{Dest}
use Rattle.semantics.specs.Graph.{Node, Block, Flow, Graph, flow_of, node_count}
use Rattle.semantics.specs.Text.{HasText}
use Rattle.semantics.specs.WellFormed.{WellFormed}
use Rattle.semantics.specs.Cause.{is_looped}
use Rattle.semantics.specs.Program.{Instr, CodeBlock}
use Rattle.schemas.specs.Scopes.{Scope}
use Rattle.schemas.specs.Triggers.{has_trigger}
use Rattle.schemas.specs.UseCounts.{is_often, uses_at}
use Rattle.schemas.specs.Builds.{Build}
use Rattle.schemas.specs.Tails.{returns, iterate}
use Rattle.schemas.specs.Ends.{ends_of, same_region}
use Rattle.schemas.specs.Blocks.{body, outputs_of, variant_of}
use Rattle.schemas.specs.Variants.{variants_of, some_block_loops}
use Rattle.schemas.specs.Expanded.{scope_of, expanded}
use Rattle.law_net.specs.ContextsParts.{Part, Entry, Line, Answer, Trigger, Gate, Merge, Opener, Framer, Fanned, Linker, Sender, Landing, CallDone, Giver}
use Rattle.law_net.specs.ContextsParts.{Taker, Drainer, LoopDone, Strict, Result, TurnCont, TurnFlag, TurnValue, Asker, NextFramer, NextFanned, NextSender}
use Rattle.law_net.specs.ContextsParts.{LastReturn, DrainReturn, Join, CondEnd, Inlet, inlet, same_part}
use Rattle.law_net.specs.ContextsParts as Parts
use Rattle.law_net.specs.ContextsBlocks.{Side, Wiring, Site, leaves_in}
use Rattle.law_net.specs.Contexts.{Wires}
use Rattle.law_net.specs.ContextsWires.{has_no_wire, IsLaidOut, AreFed, FollowArms, LeadOn, GoesToUses, Runs, plain_site, turn_site}
use Rattle.law_net.specs.ContextsTheorem.{ExpandedIsWired}

-- PARTS IN THEIR ORDER
abbrev pub row : (ℕ → Part) → ℕ → ℕ → List Part
row f from zero = []
row f from (suc n) = f from ∷ row f (from + 1) n

abbrev pub invoked : ℕ → ℕ → ℕ → List Part
invoked n arguments results = Framer n ∷ Fanned n ∷ Linker n ∷ row (Sender n) 0 arguments ++ row (Landing n) 0 results

abbrev pub answered : Scope → ℕ → List Part
answered s n = if is_often (uses_at s.uses n) then Line n ∷ Answer n ∷ [] else Line n ∷ []

abbrev pub kind_parts : Scope → ℕ → ℕ → Kind ℕ → List Part
kind_parts s n m Kind.Cond = if has_trigger s.triggers n then Trigger n ∷ [] else []
kind_parts s n m Kind.Enter = Gate n ∷ []
kind_parts s n m (Kind.Merge k) = Merge n ∷ []
kind_parts s n m (Kind.Fetch a) = answered s n
kind_parts s n m (Kind.Store a) = answered s n
kind_parts s n m (Kind.Call f) = invoked n m (outputs_of s.blocks f) ++ CallDone n ∷ []
kind_parts s n m (Kind.StrictCall f) = row (Strict n) 1 (m - 1) ++ (invoked n m (outputs_of s.blocks f) ++ CallDone n ∷ [])
kind_parts s n m (Kind.Loop f k) = Opener n ∷ invoked n m m ++ (Giver n ∷ Taker n ∷ Drainer n ∷ LoopDone n ∷ [])
kind_parts s n m kind = Line n ∷ []

abbrev pub node_parts : Scope → ℕ → List (Node ℕ) → List Part
node_parts s n [] = []
node_parts s n (node ∷ nodes) = kind_parts s n (length node.sources) node.kind ++ node_parts s (n + 1) nodes

abbrev pub turn_parts : ℕ → List Part
turn_parts n =
    TurnCont ∷ TurnFlag ∷ row TurnValue 1 n ++ (Asker ∷ NextFramer ∷ NextFanned ∷ row NextSender 0 (n + 1) ++ (row LastReturn 0 n ++ DrainReturn ∷ []))

-- the ends, by their regions
abbrev pub ends_in : Region → List Region → ℕ
ends_in r rs = count_by (λ (q : Region). same_region q r) rs

abbrev pub join_parts : Region → List Region → List Part
join_parts r rs = row (Join r) 0 (ends_in r rs - 1)

abbrev pub has_end : ℕ → List Region → Bool
has_end k rs = nat_lt 0 (ends_in (Arm k true) rs + ends_in (Arm k false) rs)

abbrev pub end_parts : ℕ → List Region → List Part
end_parts k rs = join_parts (Arm k true) rs ++ (join_parts (Arm k false) rs ++ (if has_end k rs then CondEnd k ∷ [] else []))

abbrev pub ended : ℕ → Region → List Region → List Region
ended k r rs = if has_end k rs then rs ++ r ∷ [] else rs

pub record Ending : Type 0 where
  pub parts : List Part
  pub regions : List Region

abbrev pub end_node : ℕ → Region → Ending → Kind ℕ → Ending
end_node n r e Kind.Cond = record { parts = e.parts ++ end_parts n e.regions; regions = ended n r e.regions }
end_node n r e kind = e

-- from the last conditional to the first one
abbrev pub ending : ℕ → List (Node ℕ) → Ending → Ending
ending n [] e = e
ending n (node ∷ nodes) e = end_node n node.region (ending (n + 1) nodes e) node.kind

abbrev pub closing_parts : Ending → List Part
closing_parts e = e.parts ++ (join_parts Root e.regions ++ Parts.End ∷ [])

abbrev pub regions_by : {E : Type 0} → List E → (E → Region) → List Region
regions_by es f = map f es

abbrev pub regions_of : Build → List Region
regions_of b = regions_by (ends_of b) (λ e. e.region)

abbrev pub body_parts : Scope → List Part
body_parts s = Entry ∷ row Line 0 s.block.inputs ++ node_parts s s.block.inputs s.block.nodes

abbrev pub plain_parts : Scope → List Part
plain_parts s =
    body_parts s ++ (row Result 0 (length s.block.results)
    ++ closing_parts (ending s.block.inputs s.block.nodes (record { parts = []; regions = regions_of (returns (body s) 0 s.block.results) })))

abbrev pub first_ending : ℕ → List Region → Ending
first_ending k rs = record { parts = end_parts k rs; regions = ended k Root rs }

abbrev pub variant_parts : Scope → ℕ → List Part
variant_parts s code = body_parts s ++ (turn_parts s.block.inputs
    ++ closing_parts (ending s.block.inputs s.block.nodes
    (first_ending (node_count s.block) (regions_of (iterate (body s) code (node_count s.block) s.block.results)))))

-- THE WIRING that the code has
abbrev pub place_from : Part → ℕ → List Part → ℕ
place_from r n [] = n
place_from r n (q ∷ qs) = if same_part r q then n else place_from r (n + 1) qs

abbrev pub has_part : Part → List Part → Bool
has_part r qs = nat_lt 0 (count_by (same_part r) qs)

abbrev pub is_join_of : Region → Part → Bool
is_join_of r (Join q i) = same_region q r
is_join_of r q = false

abbrev pub way_in : Part → Region → ℕ
way_in (Merge n) (Arm k false) = 1
way_in (CondEnd k) (Arm l false) = 1
way_in r q = 0

abbrev pub inlet_by : List Part → Region → ℕ → Dest → Inlet
inlet_by parts r n d = inlet (slice_index_or parts (n + d.ahead) Entry) d.port (way_in (slice_index_or parts (n + d.ahead) Entry) r)

abbrev pub dests_on : Option Instr → Bool → List Dest
dests_on None second = []
dests_on (Some i) true = i.seconds
dests_on (Some i) false = i.firsts

abbrev pub slot_at : Option Instr → ℕ
slot_at None = 0
slot_at (Some i) = i.slot

abbrev pub read_wire : Block ℕ → List Part → List Instr → Side → List Inlet
read_wire b parts is t = if has_no_wire t.part || not (has_part t.part parts) then []
    else map (inlet_by parts (leaves_in b t.part t.second) (place_from t.part 0 parts)) (dests_on (slice_get is (place_from t.part 0 parts)) t.second)

abbrev pub wiring_of : Block ℕ → List Part → List Instr → Wiring
wiring_of b parts is = record {
  answers = λ n. has_part (Answer n) parts;
  triggers = λ k. has_part (Trigger k) parts;
  joins = λ r. count_by (is_join_of r) parts;
  ends = λ k. has_part (CondEnd k) parts;
  place = λ r. place_from r 0 parts;
  slot = λ r. slot_at (slice_get is (place_from r 0 parts));
  wire = read_wire b parts is;
}

abbrev pub instrs_in : Option CodeBlock → List Instr
instrs_in None = []
instrs_in (Some c) = c.instrs

abbrev pub instrs_at : Flow → ℕ → List Instr
instrs_at fl own = instrs_in (slice_get (expanded fl).program.blocks own)

abbrev pub plain_scope : Flow → ℕ → Block ℕ → Scope
plain_scope fl i b = scope_of fl.version fl.blocks (variants_of fl.blocks) i b false

abbrev pub turn_scope : Flow → ℕ → Block ℕ → Scope
turn_scope fl i b = scope_of fl.version fl.blocks (variants_of fl.blocks) i b true

abbrev pub variant_in : Flow → ℕ → ℕ
variant_in fl i = variant_of (variants_of fl.blocks) i

-- the wiring of the variant with that number, of the blocks from one on
abbrev pub turn_wiring : Flow → ℕ → ℕ → List (Block ℕ) → Wiring
turn_wiring fl own i [] = wiring_of (record { inputs = 0; outputs = 0; nodes = []; results = [] }) [] []
turn_wiring fl own i (b ∷ bs) =
    if some_block_loops i fl.blocks && (variant_in fl i == own) then wiring_of b (variant_parts (turn_scope fl i b) own) (instrs_at fl own)
    else turn_wiring fl own (i + 1) bs

abbrev pub wiring_from : Flow → ℕ → Option (Block ℕ) → Wiring
wiring_from fl own None = turn_wiring fl own 0 fl.blocks
wiring_from fl own (Some b) = wiring_of b (plain_parts (plain_scope fl own b)) (instrs_at fl own)

abbrev pub wires_of : Flow → Wires
wires_of fl = record { variant = variant_in fl; wiring = λ own. wiring_from fl own (slice_get fl.blocks own) }

-- S. THE LEMMAS, each of all code blocks of all graphs
pub record SitesKeep (P : Flow → Site → Wiring → CodeBlock → Type 0) : Type 0 where
  pub plain : (g : Graph) → HasText g → WellFormed g → (i : ℕ) (b : Block ℕ) (c : CodeBlock)
      → slice_get (flow_of g).blocks i ≡ Some b
      → slice_get (expanded (flow_of g)).program.blocks i ≡ Some c → P (flow_of g) (plain_site b i) ((wires_of (flow_of g)).wiring i) c
  pub turns : (g : Graph) → HasText g → WellFormed g → (i : ℕ) (b : Block ℕ) (c : CodeBlock)
      → slice_get (flow_of g).blocks i ≡ Some b → is_looped (flow_of g) i ≡ true
      → slice_get (expanded (flow_of g)).program.blocks (variant_in (flow_of g) i) ≡ Some c
      → P (flow_of g) (turn_site b i (variant_in (flow_of g) i)) ((wires_of (flow_of g)).wiring (variant_in (flow_of g) i)) c

-- each code block is there, and the variants are others
pub record CodesAreThere (fl : Flow) : Type 0 where
  pub plain : (i : ℕ) (b : Block ℕ) → slice_get fl.blocks i ≡ Some b → (c : CodeBlock) × (slice_get (expanded fl).program.blocks i ≡ Some c)
  pub turns : (i : ℕ) (b : Block ℕ) → slice_get fl.blocks i ≡ Some b → is_looped fl i ≡ true
      → (c : CodeBlock) × (slice_get (expanded fl).program.blocks (variant_in fl i) ≡ Some c)
  pub others : (i : ℕ) (b : Block ℕ) → slice_get fl.blocks i ≡ Some b → is_looped fl i ≡ true → length fl.blocks ≤ variant_in fl i
  pub differ : (i j : ℕ) → is_looped fl i ≡ true → is_looped fl j ≡ true → variant_in fl i ≡ variant_in fl j → i ≡ j

pub record AllStatic : Type 0 where
  -- lemmas about builds are inner to these
  pub there : (g : Graph) → HasText g → WellFormed g → CodesAreThere (flow_of g)
  pub laid : SitesKeep (λ (fl : Flow) (s : Site) (w : Wiring) (c : CodeBlock). IsLaidOut fl (expanded fl) (variant_in fl) s w c)
  pub fed : SitesKeep (λ (fl : Flow) (s : Site) (w : Wiring) (c : CodeBlock). AreFed fl s w)
  pub uses : SitesKeep (λ (fl : Flow) (s : Site) (w : Wiring) (c : CodeBlock). GoesToUses fl (Runs fl (wires_of fl) s.own) s w)
  pub arms : SitesKeep (λ (fl : Flow) (s : Site) (w : Wiring) (c : CodeBlock). FollowArms fl s w)
  pub leads : SitesKeep (λ (fl : Flow) (s : Site) (w : Wiring) (c : CodeBlock). LeadOn fl s w)

abbrev pub StaticSuffices : Type 0
StaticSuffices = AllStatic → ExpandedIsWired
