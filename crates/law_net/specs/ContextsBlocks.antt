-- What each part of a code block is: whether it is there, its operation, mark and origin, and in which region it lies.
use Rattle.std.specs.Prelude.{ℕ, ◌+◌, Bool, true, false, not, ◌&&◌, ◌||◌, List, length, Option, Some, None, nat_lt, ◌==◌, if◌then◌else◌, slice_get}
use Rattle.tags.specs.declared.value.Origin.{Origin}
use Rattle.tags.specs.declared.value.Origin.TheVariants.{Untold}
use Rattle.semantics.specs.declared.graph.Region.{Region}
use Rattle.semantics.specs.declared.graph.Region.TheVariants.{Root, Arm}
use Rattle.semantics.specs.declared.graph.Kind.{Kind}
use Rattle.semantics.specs.declared.program.Op.{Op}
use Rattle.semantics.specs.declared.program.Mark.{Mark}
use Rattle.semantics.specs.declared.program.Mark.TheVariants.{Unmarked, OfCond, OfFlag}
use Rattle.semantics.specs.Graph.{Block, Flow, node_at, node_count}
use Rattle.semantics.specs.Meaning.{arm_of, origin_in}
use Rattle.law_net.specs.ContextsParts.{Part, Entry, Line, Answer, Trigger, Gate, Merge, Opener, Framer, Fanned, Linker, Sender, Landing, CallDone, Giver}
use Rattle.law_net.specs.ContextsParts.{Taker, Drainer, LoopDone, Strict, Result, TurnCont, TurnFlag, TurnValue, Asker, NextFramer, NextFanned, NextSender}
use Rattle.law_net.specs.ContextsParts.{LastReturn, DrainReturn, Join, CondEnd, End, Asked, NextAsked, InCell, Inlet}

-- A side of a part: the second one only at a switch
pub record Side : Type 0 where
  pub part : Part
  pub second : Bool

abbrev pub side : Part → Bool → Side
side r s = record { part = r; second = s }

-- THE WIRING of a code block: which of the optional parts are there, where each part is, its slot, and where a
-- side leads. `ends`: the conditionals (and the flag) that have an end.
pub record Wiring : Type 0 where
  pub answers : ℕ → Bool
  pub triggers : ℕ → Bool
  pub joins : Region → ℕ
  pub ends : ℕ → Bool
  pub place : Part → ℕ
  pub slot : Part → ℕ
  pub wire : Side → List Inlet

-- A code block: the graph's block and its number, whether it is that of a turn, and the number of the code block
pub record Site : Type 0 where
  pub block : Block ℕ
  pub number : ℕ
  pub turns : Bool
  pub own : ℕ

-- KINDS
abbrev pub is_kind : (Kind ℕ → Bool) → Block ℕ → ℕ → Bool
is_kind test b n = elim (node_at b n) as (λ x. Bool) [ None ↦ false | Some line ↦ test line.kind ]

abbrev pub plain_kind : Kind ℕ → Bool
plain_kind (Kind.Lit z) = true
plain_kind (Kind.Apply1 op) = true
plain_kind (Kind.Apply2 op) = true
plain_kind (Kind.Fetch a) = true
plain_kind (Kind.Store a) = true
plain_kind kind = false

abbrev pub pair_kind : Kind ℕ → Bool
pair_kind (Kind.Apply2 op) = true
pair_kind (Kind.Store a) = true
pair_kind kind = false

abbrev pub cell_kind : Kind ℕ → Bool
cell_kind (Kind.Fetch a) = true
cell_kind (Kind.Store a) = true
cell_kind kind = false

abbrev pub store_kind : Kind ℕ → Bool
store_kind (Kind.Store a) = true
store_kind kind = false

abbrev pub cond_kind : Kind ℕ → Bool
cond_kind Kind.Cond = true
cond_kind kind = false

abbrev pub enter_kind : Kind ℕ → Bool
enter_kind Kind.Enter = true
enter_kind kind = false

abbrev pub merge_kind : Kind ℕ → Bool
merge_kind (Kind.Merge k) = true
merge_kind kind = false

abbrev pub call_kind : Kind ℕ → Bool
call_kind (Kind.Call f) = true
call_kind (Kind.StrictCall f) = true
call_kind kind = false

abbrev pub strict_kind : Kind ℕ → Bool
strict_kind (Kind.StrictCall f) = true
strict_kind kind = false

abbrev pub loop_kind : Kind ℕ → Bool
loop_kind (Kind.Loop f k) = true
loop_kind kind = false

abbrev pub is_plain : Block ℕ → ℕ → Bool
is_plain b n = nat_lt n b.inputs || is_kind plain_kind b n

abbrev pub is_pair : Block ℕ → ℕ → Bool
is_pair b n = is_kind pair_kind b n

abbrev pub is_cell : Block ℕ → ℕ → Bool
is_cell b n = is_kind cell_kind b n

abbrev pub is_store : Block ℕ → ℕ → Bool
is_store b n = is_kind store_kind b n

abbrev pub is_call : Block ℕ → ℕ → Bool
is_call b n = is_kind call_kind b n

abbrev pub is_strict : Block ℕ → ℕ → Bool
is_strict b n = is_kind strict_kind b n

abbrev pub is_loop : Block ℕ → ℕ → Bool
is_loop b n = is_kind loop_kind b n

abbrev pub invokes : Block ℕ → ℕ → Bool
invokes b n = is_call b n || is_loop b n

abbrev pub source_count : Block ℕ → ℕ → ℕ
source_count b n = elim (node_at b n) as (λ x. ℕ) [ None ↦ 0 | Some line ↦ length line.sources ]

abbrev pub outputs_in : Option (Block ℕ) → ℕ
outputs_in None = 0
outputs_in (Some b) = b.outputs

-- how many results an invocation gives to where it was made
abbrev pub kind_results : Flow → ℕ → Kind ℕ → ℕ
kind_results fl n (Kind.Call f) = outputs_in (slice_get fl.blocks f)
kind_results fl n (Kind.StrictCall f) = outputs_in (slice_get fl.blocks f)
kind_results fl n (Kind.Loop f k) = n
kind_results fl n kind = 0

abbrev pub result_count : Flow → Block ℕ → ℕ → ℕ
result_count fl b n = elim (node_at b n) as (λ x. ℕ) [ None ↦ 0 | Some line ↦ kind_results fl (length line.sources) line.kind ]

abbrev pub merged_by : Kind ℕ → ℕ
merged_by (Kind.Merge k) = k
merged_by kind = 0

-- the conditional of a merge
abbrev pub merge_cond : Block ℕ → ℕ → ℕ
merge_cond b n = elim (node_at b n) as (λ x. ℕ) [ None ↦ 0 | Some line ↦ merged_by line.kind ]

abbrev pub bound_in : Kind ℕ → ℕ
bound_in (Kind.Loop f k) = k
bound_in kind = 0

abbrev pub bound_at : Block ℕ → ℕ → ℕ
bound_at b n = elim (node_at b n) as (λ x. ℕ) [ None ↦ 0 | Some line ↦ bound_in line.kind ]

-- WHICH PARTS ARE THERE, of those that have instructions
abbrev pub there_in : Flow → Site → Wiring → Part → Bool
there_in fl s w Entry = true
there_in fl s w (Line n) = is_plain s.block n
there_in fl s w (Answer n) = is_cell s.block n && w.answers n
there_in fl s w (Trigger k) = is_kind cond_kind s.block k && w.triggers k
there_in fl s w (Gate n) = is_kind enter_kind s.block n
there_in fl s w (Merge n) = is_kind merge_kind s.block n
there_in fl s w (Opener n) = is_loop s.block n
there_in fl s w (Framer n) = invokes s.block n
there_in fl s w (Fanned n) = invokes s.block n
there_in fl s w (Linker n) = invokes s.block n
there_in fl s w (Sender n i) = invokes s.block n && nat_lt i (source_count s.block n)
there_in fl s w (Landing n j) = invokes s.block n && nat_lt j (result_count fl s.block n)
there_in fl s w (CallDone n) = is_call s.block n
there_in fl s w (Giver n) = is_loop s.block n
there_in fl s w (Taker n) = is_loop s.block n
there_in fl s w (Drainer n) = is_loop s.block n
there_in fl s w (LoopDone n) = is_loop s.block n
there_in fl s w (Strict n i) = is_strict s.block n && (nat_lt 0 i && nat_lt i (source_count s.block n))
there_in fl s w (Result j) = not s.turns && nat_lt j s.block.outputs
there_in fl s w TurnCont = s.turns
there_in fl s w TurnFlag = s.turns
there_in fl s w (TurnValue j) = s.turns && (nat_lt 0 j && nat_lt j (s.block.inputs + 1))
there_in fl s w Asker = s.turns
there_in fl s w NextFramer = s.turns
there_in fl s w NextFanned = s.turns
there_in fl s w (NextSender j) = s.turns && nat_lt j (s.block.inputs + 1)
there_in fl s w (LastReturn j) = s.turns && nat_lt j s.block.inputs
there_in fl s w DrainReturn = s.turns
there_in fl s w (Join r i) = nat_lt i (w.joins r)
there_in fl s w (CondEnd k) = w.ends k && (is_kind cond_kind s.block k || (s.turns && (k == node_count s.block)))
there_in fl s w End = true
there_in fl s w r = false

-- WHETHER TWO WORDS MEET THERE
abbrev pub waits_in : Block ℕ → Part → Bool
waits_in b (Line n) = is_pair b n
waits_in b (Trigger k) = true
waits_in b (Gate n) = true
waits_in b (Sender n i) = true
waits_in b (Strict n i) = true
waits_in b (Result j) = true
waits_in b TurnCont = true
waits_in b TurnFlag = true
waits_in b (TurnValue j) = true
waits_in b Asker = true
waits_in b (NextSender j) = true
waits_in b (LastReturn j) = true
waits_in b DrainReturn = true
waits_in b (Join r i) = true
waits_in b End = true
waits_in b r = false

-- OPERATIONS. The codes of what is called, and of loops' turns
abbrev pub code_called : (ℕ → ℕ) → Kind ℕ → ℕ
code_called variant (Kind.Call f) = f
code_called variant (Kind.StrictCall f) = f
code_called variant (Kind.Loop f k) = variant f
code_called variant kind = 0

abbrev pub callee_code : (ℕ → ℕ) → Block ℕ → ℕ → ℕ
callee_code variant b n = elim (node_at b n) as (λ x. ℕ) [ None ↦ 0 | Some line ↦ code_called variant line.kind ]

abbrev pub kind_op : Kind ℕ → Op
kind_op (Kind.Lit z) = Op.Lit z
kind_op (Kind.Apply1 op) = Op.Apply1 op
kind_op (Kind.Apply2 op) = Op.Apply2 op
kind_op (Kind.Fetch a) = Op.Fetch a
kind_op (Kind.Store a) = Op.Store a
kind_op kind = Op.Copy

abbrev pub line_op : Block ℕ → ℕ → Op
line_op b n = elim (node_at b n) as (λ x. Op) [ None ↦ Op.Copy | Some line ↦ kind_op line.kind ]

abbrev pub op_of : (ℕ → ℕ) → Site → Part → Op
op_of variant s (Line n) = line_op s.block n
op_of variant s (Trigger k) = Op.Switch
op_of variant s (Gate n) = Op.Switch
op_of variant s (Opener n) = Op.Open (bound_at s.block n)
op_of variant s (Framer n) = Op.Frame
op_of variant s (Linker n) = Op.Link (callee_code variant s.block n)
op_of variant s (Sender n i) = Op.Send (callee_code variant s.block n) (i + 1)
op_of variant s (Giver n) = Op.Give (bound_at s.block n)
op_of variant s (Taker n) = Op.Take (bound_at s.block n)
op_of variant s (Drainer n) = Op.Drain (bound_at s.block n)
op_of variant s (Strict n i) = Op.Sync
op_of variant s (Result j) = Op.Return j
op_of variant s TurnCont = Op.Switch
op_of variant s TurnFlag = Op.Switch
op_of variant s (TurnValue j) = Op.Switch
op_of variant s Asker = Op.Ask (s.block.inputs + 1)
op_of variant s NextFramer = Op.Frame
op_of variant s (NextSender j) = Op.Send s.own j
op_of variant s (LastReturn j) = Op.Return j
op_of variant s DrainReturn = Op.Return (s.block.inputs + 2)
op_of variant s (Join r i) = Op.Sync
op_of variant s End = Op.Release (if s.turns then s.block.inputs else s.block.outputs)
op_of variant s r = Op.Copy

abbrev pub origin_of : Flow → Site → Part → Origin
origin_of fl s (Line n) = origin_in fl.version (Some s.number) n
origin_of fl s r = Untold

abbrev pub mark_round : Region → Mark
mark_round Root = Unmarked
mark_round (Arm k t) = OfCond k

abbrev pub mark_of : Block ℕ → Part → Mark
mark_of b (Trigger k) = OfCond k
mark_of b (Gate n) = mark_round (arm_of (node_at b n))
mark_of b TurnCont = OfFlag
mark_of b TurnFlag = OfFlag
mark_of b (TurnValue j) = OfFlag
mark_of b r = Unmarked

-- REGIONS. The flag has the number after the last node.
abbrev pub flag : Block ℕ → ℕ
flag b = node_count b

abbrev pub lies_in : Block ℕ → ℕ → Region
lies_in b n = arm_of (node_at b n)

abbrev pub outside : Block ℕ → Region → Region
outside b Root = Root
outside b (Arm k t) = lies_in b k

abbrev pub region_of : Block ℕ → Part → Region
region_of b (Line n) = lies_in b n
region_of b (Answer n) = lies_in b n
region_of b (Trigger k) = lies_in b k
region_of b (Gate n) = outside b (lies_in b n)
region_of b (Merge n) = lies_in b n
region_of b (Opener n) = lies_in b n
region_of b (Framer n) = lies_in b n
region_of b (Fanned n) = lies_in b n
region_of b (Linker n) = lies_in b n
region_of b (Sender n i) = lies_in b n
region_of b (Landing n j) = lies_in b n
region_of b (CallDone n) = lies_in b n
region_of b (Giver n) = lies_in b n
region_of b (Taker n) = lies_in b n
region_of b (Drainer n) = lies_in b n
region_of b (LoopDone n) = lies_in b n
region_of b (Strict n i) = lies_in b n
region_of b Asker = Arm (flag b) true
region_of b NextFramer = Arm (flag b) true
region_of b NextFanned = Arm (flag b) true
region_of b NextAsked = Arm (flag b) true
region_of b (NextSender j) = Arm (flag b) true
region_of b (LastReturn j) = Arm (flag b) false
region_of b DrainReturn = Arm (flag b) false
region_of b (Join r i) = r
region_of b (CondEnd k) = lies_in b k
region_of b (Asked n) = lies_in b n
region_of b (InCell n) = lies_in b n
region_of b r = Root

-- the region from which what arrives at an inlet comes
abbrev pub entered : Block ℕ → Part → ℕ → Region
entered b (Merge n) w = Arm (merge_cond b n) (w == 0)
entered b (CondEnd k) w = Arm k (w == 0)
entered b r w = region_of b r

-- the region in which what leaves a side is
abbrev pub arm_round : Region → Bool → Region
arm_round Root t = Root
arm_round (Arm k u) t = Arm k t

abbrev pub leaves_in : Block ℕ → Part → Bool → Region
leaves_in b (Trigger k) second = Arm k (not second)
leaves_in b (Gate n) second = arm_round (lies_in b n) (not second)
leaves_in b TurnCont second = Arm (flag b) (not second)
leaves_in b TurnFlag second = Arm (flag b) (not second)
leaves_in b (TurnValue j) second = Arm (flag b) (not second)
leaves_in b r second = region_of b r

abbrev pub is_switch : Part → Bool
is_switch (Trigger k) = true
is_switch (Gate n) = true
is_switch TurnCont = true
is_switch TurnFlag = true
is_switch (TurnValue j) = true
is_switch r = false

-- EXITS. Where an output port of a node leaves
abbrev pub second_side : Region → Bool
second_side Root = false
second_side (Arm k t) = not t

abbrev pub exit_kind : Wiring → ℕ → ℕ → Region → Kind ℕ → Side
exit_kind w n q r (Kind.Fetch a) = if w.answers n then side (Answer n) false else side (Line n) false
exit_kind w n q r (Kind.Store a) = if w.answers n then side (Answer n) false else side (Line n) false
exit_kind w n q r Kind.Enter = side (Gate n) (second_side r)
exit_kind w n q r (Kind.Merge k) = side (Merge n) false
exit_kind w n q r (Kind.Call f) = side (Landing n q) false
exit_kind w n q r (Kind.StrictCall f) = side (Landing n q) false
exit_kind w n q r (Kind.Loop f k) = side (Landing n q) false
exit_kind w n q r kind = side (Line n) false

abbrev pub exit : Block ℕ → Wiring → ℕ → ℕ → Side
exit b w n q = elim (node_at b n) as (λ x. Side) [ None ↦ side (Line n) false | Some line ↦ exit_kind w n q line.region line.kind ]
