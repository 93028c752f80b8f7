-- What a graph means: tagged tokens, contexts without limit, and one activity at a time in any order.
use Rattle.std.specs.Prelude.{◌≡◌, ℕ, zero, suc, ◌+◌, ◌-◌, ◌<◌, Bool, true, false, not, ◌&&◌, ◌⊎◌, ℤ, List, [], ◌∷◌, ◌++◌, map, length, Option}
use Rattle.std.specs.Prelude.{Some, None, nat_lt, ◌==◌, slice_get, if◌then◌else◌, flat_map, count_by, Contains, IsPermutation, ⊤}
use Rattle.tags.specs.declared.value.Value.{Value}
use Rattle.tags.specs.declared.value.Value.TheVariants.{Int}
use Rattle.tags.specs.declared.value.Origin.{Origin}
use Rattle.tags.specs.declared.value.Origin.TheVariants.{Untold, At}
use Rattle.operators.specs.Values.{truth, apply1, apply2, Indexed, Place, Outside, index_in}
use Rattle.semantics.specs.declared.graph.Region.{Region}
use Rattle.semantics.specs.declared.graph.Region.TheVariants.{Root, Arm}
use Rattle.semantics.specs.declared.graph.Source.{Source}
use Rattle.semantics.specs.declared.graph.Kind.{Kind}
use Rattle.semantics.specs.declared.graph.Kind.TheVariants.{Lit, Apply1, Apply2, Cond, Enter, Merge, Fetch, Store, Call, StrictCall, Loop}
use Rattle.semantics.specs.Graph.{Node, Block, Flow, node_at, node_count, first_cell, array_len}

-- An invocation of a block, named by the place that it was made at: so no order of steps changes a name.
pub data Context : Type 0 where
  Main : Context
  Called : (by : Context) (node : ℕ) → Context
  Turned : (by : Context) (node : ℕ) (turn : ℕ) → Context

-- Where a token is in a block: at a node, at a result, or at a turn of a loop.
pub data Statement : Type 0 where
  AtNode : (node : ℕ) → Statement
  AtOut : (result : ℕ) → Statement
  AtTurn : (result : ℕ) → Statement

pub data Port : Type 0 where
  Operand : (position : ℕ) → Port
  Predicate : Port
  Flag : Port
  Carried : Port

pub record Tagged : Type 0 where
  pub context : Context
  pub statement : Statement
  pub port : Port
  pub value : Value

abbrev pub tagged : Context → Statement → Port → Value → Tagged
tagged c s p v = record { context = c; statement = s; port = p; value = v }

-- the block that a node invokes, if it is a call or a loop
abbrev pub callee : Kind ℕ → Option ℕ
callee (Call f) = Some f
callee (StrictCall f) = Some f
callee (Loop f k) = Some f
callee k = None

abbrev pub callee_of : Option (Node ℕ) → Option ℕ
callee_of None = None
callee_of (Some n) = callee n.kind

abbrev pub callee_in : Option (Block ℕ) → ℕ → Option ℕ
callee_in None n = None
callee_in (Some b) n = callee_of (node_at b n)

abbrev pub block_numbered : Flow → Option ℕ → Option (Block ℕ)
block_numbered fl None = None
block_numbered fl (Some i) = slice_get fl.blocks i

-- the number of a context's block
abbrev pub block_number : Flow → Context → Option ℕ
block_number fl Main = Some fl.main
block_number fl (Called c n) = callee_in (block_numbered fl (block_number fl c)) n
block_number fl (Turned c n i) = callee_in (block_numbered fl (block_number fl c)) n

abbrev pub block_of : Flow → Context → Option (Block ℕ)
block_of fl c = block_numbered fl (block_number fl c)

-- USES. The positions of a list of sources that are this output port, from a first number on.
abbrev pub positions : ℕ → ℕ → ℕ → List Source → List ℕ
positions n p from [] = []
positions n p from (s ∷ ss) = if (s.node == n) && (s.port == p) then from ∷ positions n p (from + 1) ss else positions n p (from + 1) ss

abbrev pub uses_at : ℕ → ℕ → ℕ → List (Node ℕ) → List (Statement × Port)
uses_at n p m [] = []
uses_at n p m (node ∷ nodes) = map (λ i. (AtNode m, Operand i)) (positions n p 0 node.sources) ++ uses_at n p (m + 1) nodes

-- the turns of a loop that take result j of an iteration, which has n inputs: all take the flag
abbrev pub turns_from : ℕ → ℕ → List (Statement × Port)
turns_from from zero = []
turns_from from (suc n) = (AtTurn from, Flag) ∷ turns_from (from + 1) n

abbrev pub turns_of : ℕ → ℕ → List (Statement × Port)
turns_of n zero = turns_from 1 n
turns_of n (suc j) = (AtTurn (suc j), Carried) ∷ []

abbrev pub result_uses : Context → ℕ → ℕ → List (Statement × Port)
result_uses Main inputs j = (AtOut j, Operand 0) ∷ []
result_uses (Called c n) inputs j = (AtOut j, Operand 0) ∷ []
result_uses (Turned c n i) inputs j = turns_of inputs j

abbrev pub uses_in : Block ℕ → Context → ℕ → ℕ → List (Statement × Port)
uses_in b c n p = uses_at n p b.inputs b.nodes ++ flat_map (λ j. result_uses c b.inputs j) (positions n p 0 b.results)

abbrev pub sent_in : Option (Block ℕ) → Context → ℕ → ℕ → Value → List Tagged
sent_in None c n p v = []
sent_in (Some b) c n p v = map (λ (u : Statement × Port). tagged c u.0 u.1 v) (uses_in b c n p)

-- one token with v for each use of output port p of node n in c's block
abbrev pub sent : Flow → Context → ℕ → ℕ → Value → List Tagged
sent fl c n p v = sent_in (block_of fl c) c n p v

-- MEMORY
pub record Memory : Type 0 where
  pub cells : ℕ → Option Value
  pub outputs : ℕ → Option Value

abbrev pub at_place : (ℕ → Option Value) → ℕ → Value → ℕ → Option Value
at_place m x v y = if x == y then Some v else m y

abbrev pub with_cell : Memory → ℕ → Value → Memory
with_cell m x v = record { cells = at_place m.cells x v; outputs = m.outputs }

abbrev pub with_output : Memory → ℕ → Value → Memory
with_output m j v = record { cells = m.cells; outputs = at_place m.outputs j v }

pub record State : Type 0 where
  pub tokens : List Tagged
  pub memory : Memory

-- the tokens for the inputs of an invocation, from a first number on
abbrev pub entering : Context → ℕ → List Value → List Tagged
entering c from [] = []
entering c from (v ∷ vs) = tagged c (AtNode from) (Operand 0) v ∷ entering c (from + 1) vs

abbrev pub start : List ℤ → State
start inputs = record { tokens = entering Main 0 (map (λ (z : ℤ). Int z) inputs); memory = record { cells = λ x. None; outputs = λ j. None } }

-- ACTIVITIES
pub data Activity : Type 0 where
  -- a node takes its operands, all at once
  Fires : (context : Context) (node : ℕ) (operands : List Value) → Activity
  -- an `enter` takes its source and its predicate
  Gates : (context : Context) (node : ℕ) (value predicate : Value) → Activity
  -- a merge takes what arrives at one of its ports; a call or a loop takes an argument by itself
  Passes : (context : Context) (node : ℕ) (position : ℕ) (value : Value) → Activity
  -- result j of the invocation that node n of c made
  Returns : (context : Context) (node : ℕ) (result : ℕ) (value : Value) → Activity
  -- turn j of an iteration
  Turns : (context : Context) (node : ℕ) (turn : ℕ) (result : ℕ) (flag value : Value) → Activity
  -- a result of main
  Outputs : (result : ℕ) (value : Value) → Activity

abbrev pub operands_from : Context → Statement → ℕ → List Value → List Tagged
operands_from c s from [] = []
operands_from c s from (v ∷ vs) = tagged c s (Operand from) v ∷ operands_from c s (from + 1) vs

abbrev pub same_side : Bool → Bool → Bool
same_side true side = side
same_side false side = not side

-- what an activity takes
abbrev pub taken : Activity → List Tagged
taken (Fires c n vs) = operands_from c (AtNode n) 0 vs
taken (Gates c n v b) = tagged c (AtNode n) (Operand 0) v ∷ tagged c (AtNode n) Predicate b ∷ []
taken (Passes c n i v) = tagged c (AtNode n) (Operand i) v ∷ []
taken (Returns c n j v) = tagged (Called c n) (AtOut j) (Operand 0) v ∷ []
taken (Turns c n i j b v) = tagged (Turned c n i) (AtTurn j) Flag b ∷ tagged (Turned c n i) (AtTurn j) Carried v ∷ []
taken (Outputs j v) = tagged Main (AtOut j) (Operand 0) v ∷ []

-- what an activity adds, and the memory after it
pub record Effect : Type 0 where
  pub added : List Tagged
  pub memory : Memory

-- WHAT IS SENT
pub data Message : Type 0 where
  -- a value on an output port of a node
  Sends : (context : Context) (node port : ℕ) (value : Value) → Message
  -- the value that a conditional took, as predicate to each `enter` of its arms
  Steers : (context : Context) (cond : ℕ) (value : Value) → Message
  -- values for the inputs of an invocation, from one of them on
  Enters : (context : Context) (from : ℕ) (values : List Value) → Message
  Nothing : Message

-- each `enter` of an arm of the conditional k gets the predicate
abbrev pub is_enter_of : ℕ → Region → Kind ℕ → Bool
is_enter_of k (Arm c side) Enter = c == k
is_enter_of k r kind = false

abbrev pub predicates_from : Context → ℕ → Value → ℕ → List (Node ℕ) → List Tagged
predicates_from c k v m [] = []
predicates_from c k v m (n ∷ ns) = if is_enter_of k n.region n.kind then tagged c (AtNode m) Predicate v
    ∷ predicates_from c k v (m + 1) ns else predicates_from c k v (m + 1) ns

abbrev pub predicates_in : Option (Block ℕ) → Context → ℕ → Value → List Tagged
predicates_in None c k v = []
predicates_in (Some b) c k v = predicates_from c k v b.inputs b.nodes

-- the tokens of a message
abbrev pub tokens_of : Flow → Message → List Tagged
tokens_of fl (Sends c n p v) = sent fl c n p v
tokens_of fl (Steers c k v) = predicates_in (block_of fl c) c k v
tokens_of fl (Enters c i vs) = entering c i vs
tokens_of fl Nothing = []

-- WHAT AN ACTIVITY DOES, apart from what the memory allows
pub data Deed : Type 0 where
  Says : (message : Message) → Deed
  -- what the cell holds, on port 0, once it is full
  Reads : (context : Context) (node cell : ℕ) → Deed
  -- the cell is filled where it is empty, and the value sent on port 0
  Fills : (context : Context) (node cell : ℕ) (value : Value) → Deed
  -- an output becomes the value
  Puts : (result : ℕ) (value : Value) → Deed

-- what a filled place gives, and nothing where it is empty
abbrev pub when_full : Option Value → (Value → Option Effect) → Option Effect
when_full None f = None
when_full (Some v) f = f v

abbrev pub when_empty : Option Value → Option Effect → Option Effect
when_empty None e = e
when_empty (Some v) e = None

abbrev pub adds : List Tagged → Memory → Option Effect
adds ts m = Some record { added = ts; memory = m }

-- A fetch waits for its cell to be filled. A store has no activity where its cell is full: that is a clash.
abbrev pub done : Flow → Memory → Deed → Option Effect
done fl m (Says x) = adds (tokens_of fl x) m
done fl m (Reads c n x) = when_full (m.cells x) (λ v. adds (tokens_of fl (Sends c n 0 v)) m)
done fl m (Fills c n x v) = when_empty (m.cells x) (adds (tokens_of fl (Sends c n 0 v)) (with_cell m x v))
done fl m (Puts j v) = adds [] (with_output m j v)

-- the origin of a fault that node n of c makes
abbrev pub origin_in : ℕ → Option ℕ → ℕ → Origin
origin_in version None n = Untold
origin_in version (Some b) n = if nat_lt version 2 then Untold else At b n

abbrev pub origin_at : Flow → Context → ℕ → Origin
origin_at fl c n = origin_in fl.version (block_number fl c) n

abbrev pub fetched : Context → ℕ → ℕ → Indexed → Deed
fetched c n base (Outside v) = Says (Sends c n 0 v)
fetched c n base (Place i) = Reads c n (base + i)

abbrev pub stored : Context → ℕ → ℕ → Value → Indexed → Deed
stored c n base v (Outside w) = Says (Sends c n 0 w)
stored c n base v (Place i) = Fills c n (base + i) v

abbrev pub input_passed : Context → ℕ → List Value → Option Deed
input_passed c n (v ∷ []) = Some (Says (Sends c n 0 v))
input_passed c n vs = None

-- what a node does with all its operands
abbrev pub fired : Flow → Context → ℕ → Kind ℕ → List Value → Option Deed
fired fl c n (Lit z) (v ∷ []) = Some (Says (Sends c n 0 (Int z)))
fired fl c n (Apply1 op) (v ∷ []) = Some (Says (Sends c n 0 (apply1 op v)))
fired fl c n (Apply2 op) (v ∷ w ∷ []) = Some (Says (Sends c n 0 (apply2 op v w (origin_at fl c n))))
fired fl c n Cond (v ∷ []) = Some (Says (Steers c n v))
fired fl c n (Fetch a) (v ∷ []) = Some (fetched c n (first_cell fl a) (index_in (array_len fl a) v (origin_at fl c n)))
fired fl c n (Store a) (v ∷ w ∷ []) = Some (stored c n (first_cell fl a) w (index_in (array_len fl a) v (origin_at fl c n)))
fired fl c n (StrictCall f) vs = Some (Says (Enters (Called c n) 0 vs))
fired fl c n kind vs = None

-- an operand's token where it is taken by itself
abbrev pub passed : Context → ℕ → ℕ → Value → Kind ℕ → Option Deed
passed c n i v (Merge k) = Some (Says (Sends c n 0 v))
passed c n i v (Call f) = Some (Says (Enters (Called c n) i (v ∷ [])))
passed c n i v (Loop f k) = Some (Says (Enters (Turned c n 0) i (v ∷ [])))
passed c n i v kind = None

abbrev pub gated : Context → ℕ → Value → Value → Region → Kind ℕ → Option Deed
gated c n v b (Arm k side) Enter = Some (Says (if same_side (truth b) side then Sends c n 0 v else Nothing))
gated c n v b r kind = None

abbrev pub on_node : Option (Node ℕ) → (Node ℕ → Option Deed) → Option Deed
on_node None f = None
on_node (Some n) f = f n

-- an input passes its value on, and any other node does what its kind says
abbrev pub fired_in : Flow → Context → ℕ → List Value → Block ℕ → Option Deed
fired_in fl c n vs b =
    if nat_lt n b.inputs then input_passed c n vs
    else on_node (node_at b n) (λ (node : Node ℕ). if length vs == length node.sources then fired fl c n node.kind vs else None)

abbrev pub on_block : Option (Block ℕ) → (Block ℕ → Option Deed) → Option Deed
on_block None f = None
on_block (Some b) f = f b

-- what an activity does, if the graph has it
abbrev pub deed : Flow → Activity → Option Deed
deed fl (Fires c n vs) = on_block (block_of fl c) (fired_in fl c n vs)
deed fl (Gates c n v b) = on_block (block_of fl c) (λ (k : Block ℕ). on_node (node_at k n) (λ (node : Node ℕ). gated c n v b node.region node.kind))
deed fl (Passes c n i v) = on_block (block_of fl c) (λ (k : Block ℕ). on_node (node_at k n) (λ (node : Node ℕ). passed c n i v node.kind))
deed fl (Returns c n j v) = Some (Says (Sends c n j v))
deed fl (Turns c n i j b v) = Some (Says (if truth b then Enters (Turned c n (i + 1)) (j - 1) (v ∷ []) else Sends c n (j - 1) v))
deed fl (Outputs j v) = Some (Puts j v)

abbrev pub done_if : Flow → Memory → Option Deed → Option Effect
done_if fl m None = None
done_if fl m (Some d) = done fl m d

-- what an activity does, if the graph and the memory allow it
abbrev pub effect : Flow → Memory → Activity → Option Effect
effect fl m a = done_if fl m (deed fl a)

-- RUNS
-- from old, the activity leads to new: it takes some tokens and adds some, and all others stay
pub record Step (fl : Flow) (a : Activity) (old new : State) : Type 0 where
  pub does : Effect
  pub rest : List Tagged
  pub allowed : effect fl old.memory a ≡ Some does
  pub takes : IsPermutation old.tokens (taken a ++ rest)
  pub leaves : IsPermutation new.tokens (does.added ++ rest)
  pub memory : new.memory ≡ does.memory

-- a run: the activities in order, and the state after them
abbrev pub Same : State → State → Type 0
Same s t = IsPermutation s.tokens t.tokens × (s.memory ≡ t.memory)

abbrev pub Run : Flow → State → List Activity → State → Type 0
Run fl old [] new = Same old new
Run fl old (a ∷ later) new = (mid : State) × Step fl a old mid × Run fl mid later new

-- activities lead from the start to the state
pub record Reached (fl : Flow) (inputs : List ℤ) (s : State) : Type 0 where
  pub run : List Activity
  pub is_run : Run fl (start inputs) run s

-- one state can be led on to another
abbrev pub Leads : Flow → State → State → Type 0
Leads fl s t = (run : List Activity) × Run fl s run t

-- no activity is enabled
abbrev pub AtRest : Flow → State → Type 0
AtRest fl s = (a : Activity) (t : State) → Step fl a s t → ⊥

-- the cell that a store names, by its operand at an array
abbrev pub cell_in : ℕ → Indexed → Option ℕ
cell_in base (Outside v) = None
cell_in base (Place i) = Some (base + i)

abbrev pub cell_of : Flow → ℕ → Value → Option ℕ
cell_of fl a v = cell_in (first_cell fl a) (index_in (array_len fl a) v Untold)

abbrev pub node_in : Option (Block ℕ) → ℕ → Option (Node ℕ)
node_in None n = None
node_in (Some b) n = node_at b n

-- the node of a context
abbrev pub node_of : Flow → Context → ℕ → Option (Node ℕ)
node_of fl c n = node_in (block_of fl c) n

-- a store has both operands and a good index, and its cell is full
pub record Clashes (fl : Flow) (s : State) (cell : ℕ) : Type 0 where
  pub context : Context
  pub node : ℕ
  pub index : Value
  pub value : Value
  pub held : Value
  pub rest : List Tagged
  pub is_store : deed fl (Fires context node (index ∷ value ∷ [])) ≡ Some (Fills context node cell value)
  pub tokens : IsPermutation s.tokens (taken (Fires context node (index ∷ value ∷ [])) ++ rest)
  pub full : s.memory.cells cell ≡ Some held

-- WHICH INVOCATIONS ARE DUE
-- the token was in some state of the run
abbrev pub Stood : (fl : Flow) (old : State) (run : List Activity) (new : State) → Run fl old run new → Tagged → Type 0
Stood fl old [] new r t = Contains new.tokens t
Stood fl old (a ∷ later) new r t = Contains old.tokens t ⊎ Stood fl r.0 later new r.2 t

-- the conditionals around a region of a block, with the sides, from the innermost on: at most as many as there are nodes
abbrev pub arm_of : Option (Node ℕ) → Region
arm_of None = Root
arm_of (Some n) = n.region

abbrev pub arms_round : ℕ → Block ℕ → Region → List (ℕ × Bool)
arms_round zero b r = []
arms_round (suc depth) b Root = []
arms_round (suc depth) b (Arm k side) = (k, side) ∷ arms_round depth b (arm_of (node_at b k))

-- the conditional of each arm around the node has had a token of that side's truth
abbrev pub ArmsTaken : (Tagged → Type 0) → Context → List (ℕ × Bool) → Type 0
ArmsTaken stood c [] = ⊤
ArmsTaken stood c (arm ∷ arms) = ((v : Value) × stood (tagged c (AtNode arm.0) (Operand 0) v) × (truth v ≡ arm.1)) × ArmsTaken stood c arms

abbrev pub arms_at : Option (Block ℕ) → ℕ → List (ℕ × Bool)
arms_at None n = []
arms_at (Some b) n = arms_round (node_count b) b (arm_of (node_at b n))

-- an iteration has had a true flag
abbrev pub HadTrueFlag : (Tagged → Type 0) → Context → Type 0
HadTrueFlag stood c = (j : ℕ) × (v : Value) × stood (tagged c (AtTurn j) Flag v) × (truth v ≡ true)

abbrev pub StartsWhenStrict : List Activity → Context → ℕ → Kind ℕ → Type 0
StartsWhenStrict run c n (StrictCall f) = (vs : List Value) × Contains run (Fires c n vs)
StartsWhenStrict run c n kind = ⊤

abbrev pub IsLoop : Kind ℕ → Type 0
IsLoop (Loop f k) = ⊤
IsLoop kind = ⊥

abbrev pub IsCall : Kind ℕ → Type 0
IsCall (Call f) = ⊤
IsCall (StrictCall f) = ⊤
IsCall kind = ⊥

-- The run calls for this invocation: all that makes it depends on has happened. A frame request is for one of these.
abbrev pub Due : Flow → List Activity → (Tagged → Type 0) → Context → Type 0
Due fl run stood Main = ⊤
Due fl run stood (Called c n) =
    Due fl run stood c
    × ((line : Node ℕ) × (node_of fl c n ≡ Some line) × IsCall line.kind × StartsWhenStrict run c n line.kind)
    × ArmsTaken stood c (arms_at (block_of fl c) n)
Due fl run stood (Turned c n i) =
    Due fl run stood c
    × ((line : Node ℕ) × (node_of fl c n ≡ Some line) × IsLoop line.kind)
    × ArmsTaken stood c (arms_at (block_of fl c) n)
    × ((j : ℕ) → j < i → HadTrueFlag stood (Turned c n j))

abbrev pub fetch_cell : Flow → Value → Kind ℕ → Option ℕ
fetch_cell fl v (Fetch a) = cell_of fl a v
fetch_cell fl v kind = None

abbrev pub cell_is : ℕ → Option ℕ → Bool
cell_is x None = false
cell_is x (Some y) = x == y

-- a token of a fetch that waits for the cell
abbrev pub fetches : Flow → Value → Option (Node ℕ) → Option ℕ
fetches fl v None = None
fetches fl v (Some line) = fetch_cell fl v line.kind

abbrev pub waits_for : Flow → ℕ → Context → Statement → Value → Bool
waits_for fl x c (AtNode n) v = cell_is x (fetches fl v (node_of fl c n))
waits_for fl x c s v = false

-- how many fetches wait for the cell
abbrev pub fetch_count : Flow → ℕ → List Tagged → ℕ
fetch_count fl x ts = count_by (λ (t : Tagged). waits_for fl x t.context t.statement t.value) ts
