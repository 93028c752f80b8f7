-- The parts and the wires of a code block, written down from its block: that of a call, or that of a loop's turn.
use Rattle.std.specs.Prelude.{ℕ, zero, suc, ◌+◌, ◌-◌, Bool, true, false, not, ◌&&◌, List, [], ◌∷◌, ◌++◌, length, Some, None, if◌then◌else◌, slice_get}
use Rattle.tags.specs.declared.token.Port.{Port}
use Rattle.tags.specs.declared.token.Port.TheVariants.{Left, Right}
use Rattle.semantics.specs.declared.graph.Region.{Region}
use Rattle.semantics.specs.declared.graph.Region.TheVariants.{Root, Arm}
use Rattle.semantics.specs.declared.graph.Source.{Source}
use Rattle.semantics.specs.declared.graph.Kind.{Kind}
use Rattle.semantics.specs.Graph.{Node, Block, Flow, node_at, node_count}
use Rattle.schemas.specs.Scopes.{predicate_of}
use Rattle.schemas.specs.Builds as Builds
use Rattle.schemas.specs.Builds.{first_source}
use Rattle.schemas.specs.Ends.{same_region}
use Rattle.schemas.specs.Triggers.{triggers_of, has_trigger}
use Rattle.schemas.specs.UseCounts.{is_often, uses_at, uses_of}
use Rattle.law_net.specs.ContextsParts.{Part, Entry, Line, Answer, Trigger, Gate, Merge, Opener, Framer, Fanned, Linker, Sender, Landing, CallDone, Giver}
use Rattle.law_net.specs.ContextsParts.{Taker, Drainer, LoopDone, Strict, Result, TurnCont, TurnFlag, TurnValue, Asker, NextFanned, NextSender, LastReturn}
use Rattle.law_net.specs.ContextsParts.{DrainReturn, Join, CondEnd, End, Inlet, inlet, same_part}
use Rattle.law_net.specs.ContextsBlocks.{Side, side, Site, leaves_in, is_switch, second_side, outputs_in}
use Rattle.law_net.specs.ContextsWires.{has_no_wire}
use Rattle.law_net.specs.ContextsExpanded.{row, way_in, invoked, turn_parts}

-- A wire: from a side to a port of a part. Its way is determined by where it comes from.
pub record Wire : Type 0 where
  pub from : Side
  pub part : Part
  pub port : Port

abbrev pub wire : Side → Part → Port → Wire
wire t r q = record { from = t; part = r; port = q }

abbrev pub inlet_of : Block ℕ → Wire → Inlet
inlet_of b w = inlet w.part w.port (way_in w.part (leaves_in b w.from.part w.from.second))

abbrev pub same_bool : Bool → Bool → Bool
same_bool s t = if s then t else not t

abbrev pub same_side : Side → Side → Bool
same_side t u = same_part t.part u.part && same_bool t.second u.second

-- the inlets to which a side leads
abbrev pub along : Block ℕ → Side → List Wire → List Inlet
along b t [] = []
along b t (w ∷ ws) = if same_side t w.from then inlet_of b w ∷ along b t ws else along b t ws

-- no wire leaves there
abbrev pub is_open : Side → List Wire → Bool
is_open t [] = true
is_open t (w ∷ ws) = if same_side t w.from then false else is_open t ws

-- NODES. Where a node's value leaves
abbrev pub is_shared : Site → ℕ → Bool
is_shared s n =
    is_often (uses_at (uses_of s.block (triggers_of s.block (s.block.inputs + length s.block.nodes)) s.turns (s.block.inputs + length s.block.nodes)) n)

-- some call or loop lies in one of the conditional's arms, and takes a trigger
abbrev pub is_triggered : Block ℕ → ℕ → Bool
is_triggered b k = has_trigger (triggers_of b (b.inputs + length b.nodes)) k

-- a fetch's or a store's answer leaves at its copy, where it is used often
abbrev pub answer_side : ℕ → Bool → Side
answer_side n true = side (Answer n) false
answer_side n false = side (Line n) false

abbrev pub exit_of : Site → ℕ → ℕ → Region → Kind ℕ → Side
exit_of s n q r (Kind.Fetch a) = answer_side n (is_shared s n)
exit_of s n q r (Kind.Store a) = answer_side n (is_shared s n)
exit_of s n q r Kind.Enter = side (Gate n) (second_side r)
exit_of s n q r (Kind.Merge k) = side (Merge n) false
exit_of s n q r (Kind.Call f) = side (Landing n q) false
exit_of s n q r (Kind.StrictCall f) = side (Landing n q) false
exit_of s n q r (Kind.Loop f k) = side (Landing n q) false
exit_of s n q r kind = side (Line n) false

-- at a node's output port
abbrev pub leaves_at : Site → ℕ → ℕ → Side
leaves_at s n q = elim (node_at s.block n) as (λ x. Side) [ None ↦ side (Line n) false | Some line ↦ exit_of s n q line.region line.kind ]

abbrev pub leaves : Site → Source → Side
leaves s x = leaves_at s x.node x.port

-- where the trigger of a region leaves
abbrev pub trigger_side : Region → Side
trigger_side Root = side Entry false
trigger_side (Arm k t) = side (Trigger k) (not t)

-- the sources of a part, from a position on
abbrev pub operand_wires : Site → Part → ℕ → List Source → List Wire
operand_wires s r from [] = []
operand_wires s r from (x ∷ xs) = wire (leaves s x) r (Builds.side from) ∷ operand_wires s r (from + 1) xs

abbrev pub merge_wires : Site → Part → List Source → List Wire
merge_wires s r [] = []
merge_wires s r (x ∷ xs) = wire (leaves s x) r Left ∷ merge_wires s r xs

-- two words that meet in a part
abbrev pub meet_wires : Side → Side → Part → List Wire
meet_wires t u r = wire t r Left ∷ wire u r Right ∷ []

abbrev pub trigger_wires : Site → ℕ → Bool → Source → List Wire
trigger_wires s k true x = meet_wires (leaves s x) (leaves s x) (Trigger k)
trigger_wires s k false x = []

abbrev pub gate_wires : Site → ℕ → Region → List Source → List Wire
gate_wires s n Root xs = []
gate_wires s n (Arm k t) xs = meet_wires (leaves s (first_source xs)) (leaves s (predicate_of s.block k)) (Gate n)

abbrev pub answer_wires : ℕ → Bool → List Wire
answer_wires n true = wire (side (Line n) false) (Answer n) Left ∷ []
answer_wires n false = []

-- INVOCATIONS
abbrev pub sender_wires : Site → ℕ → ℕ → List Source → List Wire
sender_wires s n from [] = []
sender_wires s n from (x ∷ xs) = wire (side (Fanned n) false) (Sender n from) Left ∷ wire (leaves s x) (Sender n from) Right ∷ sender_wires s n (from + 1) xs

-- that begins when something leaves there
abbrev pub invoke_wires : Site → ℕ → Side → List Source → List Wire
invoke_wires s n t xs = wire t (Framer n) Left ∷ wire (side (Fanned n) false) (Linker n) Left ∷ sender_wires s n 0 xs

-- the chain of a strict call's arguments, after the first one
abbrev pub strict_wires : Site → ℕ → ℕ → Side → List Source → List Wire
strict_wires s n from t [] = []
strict_wires s n from t (x ∷ xs) =
    wire t (Strict n from) Left ∷ wire (leaves s x) (Strict n from) Right ∷ strict_wires s n (from + 1) (side (Strict n from) false) xs

abbrev pub strict_end : ℕ → ℕ → Side → List Source → Side
strict_end n from t [] = t
strict_end n from t (x ∷ xs) = strict_end n (from + 1) (side (Strict n from) false) xs

abbrev pub strict_call_wires : Site → ℕ → List Source → List Wire
strict_call_wires s n [] = []
strict_call_wires s n (x ∷ xs) = strict_wires s n 1 (leaves s x) xs ++ invoke_wires s n (strict_end n 1 (leaves s x) xs) (x ∷ xs)

abbrev pub kind_wires : Site → ℕ → Region → Kind ℕ → List Source → List Wire
kind_wires s n r Kind.Cond xs = trigger_wires s n (is_triggered s.block n) (first_source xs)
kind_wires s n r Kind.Enter xs = gate_wires s n r xs
kind_wires s n r (Kind.Merge k) xs = merge_wires s (Merge n) xs
kind_wires s n r (Kind.Fetch a) xs = operand_wires s (Line n) 0 xs ++ answer_wires n (is_shared s n)
kind_wires s n r (Kind.Store a) xs = operand_wires s (Line n) 0 xs ++ answer_wires n (is_shared s n)
kind_wires s n r (Kind.Call f) xs = invoke_wires s n (trigger_side r) xs
kind_wires s n r (Kind.StrictCall f) xs = strict_call_wires s n xs
kind_wires s n r (Kind.Loop f k) xs = wire (trigger_side r) (Opener n) Left ∷ invoke_wires s n (side (Opener n) false) xs
kind_wires s n r kind xs = operand_wires s (Line n) 0 xs

abbrev pub node_wires : Site → ℕ → List (Node ℕ) → List Wire
node_wires s n [] = []
node_wires s n (node ∷ nodes) = kind_wires s n node.region node.kind node.sources ++ node_wires s (n + 1) nodes

-- RESULTS of a call's code
abbrev pub result_wires : Site → ℕ → List Source → List Wire
result_wires s from [] = []
result_wires s from (x ∷ xs) = wire (side Entry false) (Result from) Left ∷ wire (leaves s x) (Result from) Right ∷ result_wires s (from + 1) xs

-- A TURN: the flag's source is the first one, and the values follow
abbrev pub value_wires : Site → Side → ℕ → List Source → List Wire
value_wires s t from [] = []
value_wires s t from (x ∷ xs) = wire (leaves s x) (TurnValue from) Left ∷ wire t (TurnValue from) Right ∷ value_wires s t (from + 1) xs

-- the given number of values
abbrev pub next_wires : ℕ → ℕ → List Wire
next_wires from zero = []
next_wires from (suc n) = meet_wires (side NextFanned false) (side (TurnValue from) false) (NextSender from) ++ next_wires (from + 1) n

abbrev pub last_wires : ℕ → ℕ → List Wire
last_wires from zero = []
last_wires from (suc n) = meet_wires (side TurnCont true) (side (TurnValue (from + 1)) true) (LastReturn from) ++ last_wires (from + 1) n

abbrev pub turn_wires : Site → List Source → List Wire
turn_wires s [] = []
turn_wires s (x ∷ xs) =
    meet_wires (side Entry false) (leaves s x) TurnCont ++ (meet_wires (leaves s x) (leaves s x) TurnFlag ++ (value_wires s (leaves s x) 1 xs
    ++ (meet_wires (side TurnCont false) (side TurnFlag false) Asker
    ++ (meet_wires (side NextFanned false) (side TurnCont false) (NextSender 0) ++ (next_wires 1 (length xs)
    ++ (last_wires 0 (length xs) ++ meet_wires (side TurnCont true) (side TurnFlag true) DrainReturn))))))

abbrev pub tail_wires : Site → Bool → List Wire
tail_wires s false = result_wires s 0 s.block.results
tail_wires s true = turn_wires s s.block.results

abbrev pub inner_wires : Site → List Wire
inner_wires s = node_wires s s.block.inputs s.block.nodes ++ tail_wires s s.turns

-- PARTS
abbrev pub answer_parts : ℕ → Bool → List Part
answer_parts n true = Answer n ∷ []
answer_parts n false = []

abbrev pub trigger_parts : ℕ → Bool → List Part
trigger_parts k true = Trigger k ∷ []
trigger_parts k false = []

-- `m`: how many sources the node has
abbrev pub kind_parts : Flow → Site → ℕ → ℕ → Kind ℕ → List Part
kind_parts fl s n m Kind.Cond = trigger_parts n (is_triggered s.block n)
kind_parts fl s n m Kind.Enter = Gate n ∷ []
kind_parts fl s n m (Kind.Merge k) = Merge n ∷ []
kind_parts fl s n m (Kind.Fetch a) = Line n ∷ answer_parts n (is_shared s n)
kind_parts fl s n m (Kind.Store a) = Line n ∷ answer_parts n (is_shared s n)
kind_parts fl s n m (Kind.Call f) = invoked n m (outputs_in (slice_get fl.blocks f)) ++ CallDone n ∷ []
kind_parts fl s n m (Kind.StrictCall f) = row (Strict n) 1 (m - 1) ++ (invoked n m (outputs_in (slice_get fl.blocks f)) ++ CallDone n ∷ [])
kind_parts fl s n m (Kind.Loop f k) = Opener n ∷ invoked n m m ++ (Giver n ∷ Taker n ∷ Drainer n ∷ LoopDone n ∷ [])
kind_parts fl s n m kind = Line n ∷ []

abbrev pub node_parts : Flow → Site → ℕ → List (Node ℕ) → List Part
node_parts fl s n [] = []
node_parts fl s n (node ∷ nodes) = kind_parts fl s n (length node.sources) node.kind ++ node_parts fl s (n + 1) nodes

abbrev pub tail_parts : Block ℕ → Bool → List Part
tail_parts b false = row Result 0 (length b.results)
tail_parts b true = turn_parts b.inputs

abbrev pub inner_parts : Flow → Site → List Part
inner_parts fl s = (Entry ∷ row Line 0 s.block.inputs ++ node_parts fl s s.block.inputs s.block.nodes) ++ tail_parts s.block s.turns

-- ENDS: the sides from which no wire leaves, where the machine does not answer
abbrev pub sides_of : Part → List Side
sides_of r = if has_no_wire r then [] else if is_switch r then side r false ∷ side r true ∷ [] else side r false ∷ []

abbrev pub sides : List Part → List Side
sides [] = []
sides (r ∷ rs) = sides_of r ++ sides rs

abbrev pub open_of : List Wire → List Side → List Side
open_of ws [] = []
open_of ws (t ∷ ts) = if is_open t ws then t ∷ open_of ws ts else open_of ws ts

abbrev pub first_ends : Flow → Site → List Side
first_ends fl s = open_of (inner_wires s) (sides (inner_parts fl s))

abbrev pub in_region : Block ℕ → Region → List Side → List Side
in_region b r [] = []
in_region b r (t ∷ ts) = if same_region (leaves_in b t.part t.second) r then t ∷ in_region b r ts else in_region b r ts

-- JOINS. A chain after the first end of a region
abbrev pub chain_wires : Region → ℕ → Side → List Side → List Wire
chain_wires r n s [] = []
chain_wires r n s (t ∷ ts) = wire s (Join r n) Left ∷ wire t (Join r n) Right ∷ chain_wires r (n + 1) (side (Join r n) false) ts

abbrev pub chain_end : Region → ℕ → Side → List Side → Side
chain_end r n s [] = s
chain_end r n s (t ∷ ts) = chain_end r (n + 1) (side (Join r n) false) ts

abbrev pub joined_parts : Region → List Side → List Part
joined_parts r [] = []
joined_parts r (t ∷ ts) = row (Join r) 0 (length ts)

abbrev pub joined_wires : Region → List Side → List Wire
joined_wires r [] = []
joined_wires r (t ∷ ts) = chain_wires r 0 t ts

-- the wire along which the last one of a chain leads on
abbrev pub signal_wires : Region → List Side → Part → Port → List Wire
signal_wires r [] part port = []
signal_wires r (t ∷ ts) part port = wire (chain_end r 0 t ts) part port ∷ []

abbrev pub cond_parts : ℕ → List Side → List Part
cond_parts k [] = []
cond_parts k (t ∷ ts) = CondEnd k ∷ []

abbrev pub cond_sides : ℕ → List Side → List Side
cond_sides k [] = []
cond_sides k (t ∷ ts) = side (CondEnd k) false ∷ []

pub record Ended : Type 0 where
  pub parts : List Part
  pub wires : List Wire
  pub ends : List Side

-- the ends of an arm
abbrev pub arm_ends : Block ℕ → ℕ → Bool → Ended → List Side
arm_ends b k t e = in_region b (Arm k t) e.ends

-- a conditional's end, where an arm has ends
abbrev pub close : Block ℕ → ℕ → Ended → Ended
close b k e = record {
  parts =
      e.parts ++ (joined_parts (Arm k true) (arm_ends b k true e)
      ++ (joined_parts (Arm k false) (arm_ends b k false e) ++ cond_parts k (arm_ends b k true e ++ arm_ends b k false e)));
  wires = e.wires ++ (joined_wires (Arm k true) (arm_ends b k true e) ++ (joined_wires (Arm k false) (arm_ends b k false e)
      ++ (signal_wires (Arm k true) (arm_ends b k true e) (CondEnd k) Left ++ signal_wires (Arm k false) (arm_ends b k false e) (CondEnd k) Left)));
  ends = e.ends ++ cond_sides k (arm_ends b k true e ++ arm_ends b k false e);
}

abbrev pub close_kind : Block ℕ → ℕ → Ended → Kind ℕ → Ended
close_kind b n e Kind.Cond = close b n e
close_kind b n e kind = e

-- from the last conditional to the first one
abbrev pub close_nodes : Block ℕ → ℕ → List (Node ℕ) → Ended → Ended
close_nodes b n [] e = e
close_nodes b n (node ∷ nodes) e = close_kind b n (close_nodes b (n + 1) nodes e) node.kind

-- the flag of a turn is closed before the conditionals
abbrev pub close_flag : Block ℕ → Bool → Ended → Ended
close_flag b false e = e
close_flag b true e = close b (node_count b) e

abbrev pub inner : Flow → Site → Ended
inner fl s = record { parts = inner_parts fl s; wires = inner_wires s; ends = first_ends fl s }

abbrev pub closed : Flow → Site → Ended
closed fl s = close_nodes s.block s.block.inputs s.block.nodes (close_flag s.block s.turns (inner fl s))

abbrev pub root_ends : Flow → Site → List Side
root_ends fl s = in_region s.block Root (closed fl s).ends

-- ALL PARTS, in their order, and all wires
abbrev pub parts_in : Flow → Site → List Part
parts_in fl s = (closed fl s).parts ++ (joined_parts Root (root_ends fl s) ++ End ∷ [])

abbrev pub wires_in : Flow → Site → List Wire
wires_in fl s = (closed fl s).wires ++ (joined_wires Root (root_ends fl s) ++ (wire (side Entry false) End Left ∷ signal_wires Root (root_ends fl s) End Right))
