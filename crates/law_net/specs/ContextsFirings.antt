-- What each part takes and makes, and what has resulted from it.
use Rattle.std.specs.Prelude.{◌≡◌, ℕ, zero, suc, ◌+◌, ℤ, pos, Bool, true, false, not, ◌&&◌, List, [], ◌∷◌, ◌++◌, length, Option, Some, None, if◌then◌else◌}
use Rattle.std.specs.Prelude.{count_by, flat_map, Contains, ⊤}
use Rattle.tags.specs.declared.value.Value.{Value}
use Rattle.tags.specs.declared.value.Value.TheVariants.{Int}
use Rattle.tags.specs.declared.token.Port.TheVariants.{Left, Right}
use Rattle.operators.specs.Values.{truth, apply1, apply2, Indexed, Place, Outside, index_in}
use Rattle.semantics.specs.declared.graph.Kind.{Kind}
use Rattle.semantics.specs.Graph.{Flow, first_cell, array_len}
use Rattle.semantics.specs.Meaning.{Context, Main, Called, Turned, Memory, with_cell, with_output, origin_at, node_of}
use Rattle.law_confluence.proofs.Net.{NetConfig, NetMove, Waits, Fires}
use Rattle.law_confluence.proofs.NetChains.{NetMoves}
use Rattle.law_confluence.specs.EquationsContexts.{same_context}
use Rattle.law_net.specs.ContextsParts.{Part, Entry, Line, Trigger, Gate, Merge, Opener, Framer, Fanned, Linker, Sender, Landing, CallDone, Giver, Taker}
use Rattle.law_net.specs.ContextsParts.{Drainer, LoopDone, Strict, Result, TurnCont, TurnFlag, TurnValue, Asker, NextFramer, NextFanned, NextSender, LastReturn}
use Rattle.law_net.specs.ContextsParts.{DrainReturn, Join, CondEnd, End, Asked, NextAsked, InCell, Drained, Shown, Done, Freed, Inlet, inlet, Note, Datum}
use Rattle.law_net.specs.ContextsParts.{FrameOf, BackTo, ToHost, signal, Item, item, each, Firing, same_part}
use Rattle.law_net.specs.ContextsBlocks.{side, is_cell, is_store, waits_in, source_count}
use Rattle.law_net.specs.Contexts.{Wires, block_in, wiring_in, child, next, is_strict_in}

-- WORDS
abbrev pub value_in : Note → Value
value_in (Datum v) = v
value_in w = Int (pos 0)

abbrev pub truth_of : Note → Bool
truth_of (Datum v) = truth v
truth_of w = false

abbrev pub is_datum : Note → Bool
is_datum (Datum v) = true
is_datum w = false

-- TAKES
-- the way at the left inlet: that of a merge, of the end of a conditional, of a landing, and of a take
abbrev pub left_way : Part → ℕ → ℕ
left_way (Merge n) w = w
left_way (CondEnd k) w = w
left_way (Landing n j) w = w
left_way (Taker n) w = w
left_way r w = 0

-- and at the right one: a strict call has fired before its arguments are sent
abbrev pub right_way : Flow → Context → Part → ℕ
right_way fl c (Sender n i) = if is_strict_in fl c n then 1 else 0
right_way fl c r = 0

abbrev pub left_item : Context → Part → ℕ → Note → Item
left_item c r w l = item c (inlet r Left (left_way r w)) l

abbrev pub both_items : Flow → Context → Part → ℕ → Note → Note → List Item
both_items fl c r w l k = left_item c r w l ∷ (if waits_in (block_in fl c) r then item c (inlet r Right (right_way fl c r)) k ∷ [] else [])

-- the arguments of a strict call, before (0) and after (1) it fired
abbrev pub arguments_from : Context → ℕ → ℕ → ℕ → List Value → List Item
arguments_from c n w i [] = []
arguments_from c n w i (v ∷ vs) = item c (inlet (Sender n i) Right w) (Datum v) ∷ arguments_from c n w (i + 1) vs

abbrev pub arguments : Flow → Context → ℕ → ℕ → List Value → List Item
arguments fl c n w vs = if is_strict_in fl c n then arguments_from c n w 0 vs else []

-- the credits of the first turns, whose number is given, that were given back
abbrev pub given_back : Context → ℕ → ℕ → List Item
given_back c n zero = []
given_back c n (suc t) = item c (inlet (Giver n) Left t) signal ∷ given_back c n t

abbrev pub request_of : Firing → Item
request_of f = record { context = f.context; inlet = inlet f.part Left 0; word = f.left; held = f.operands }

-- what it takes that is a token of its own
abbrev pub own_takes : Flow → Firing → Part → List Item
own_takes fl f (InCell n) = request_of f ∷ []
own_takes fl f (Drained n) = item f.context (inlet (Drainer n) Left f.turns) f.left ∷ given_back f.context n (f.turns + 1)
own_takes fl f r = both_items fl f.context r f.way f.left f.right

-- and what it takes only to make it anew, as tokens that stay where they are
abbrev pub renewed : Flow → Firing → Part → List Item
renewed fl f (Framer n) = arguments fl f.context n 0 f.operands
renewed fl f r = []

abbrev pub takes : Flow → Firing → List Item
takes fl f = own_takes fl f f.part ++ renewed fl f f.part

-- MAKES
abbrev pub kind_value : Flow → Context → ℕ → Value → Value → Kind ℕ → Value
kind_value fl c n v u (Kind.Lit z) = Int z
kind_value fl c n v u (Kind.Apply1 op) = apply1 op v
kind_value fl c n v u (Kind.Apply2 op) = apply2 op v u (origin_at fl c n)
kind_value fl c n v u kind = v

abbrev pub line_value : Flow → Context → ℕ → Value → Value → Value
line_value fl c n v u = elim (node_of fl c n) as (λ x. Value) [ None ↦ v | Some line ↦ kind_value fl c n v u line.kind ]

-- the word that leaves
abbrev pub sent_word : Flow → Firing → Part → Note
sent_word fl f (Line n) = Datum (line_value fl f.context n (value_in f.left) (value_in f.right))
sent_word fl f (InCell n) = Datum f.answer
sent_word fl f (Opener n) = signal
sent_word fl f (Drained n) = signal
sent_word fl f (Strict n i) = signal
sent_word fl f (Join r i) = signal
sent_word fl f (Sender n i) = signal
sent_word fl f (NextSender j) = signal
sent_word fl f (Result j) = signal
sent_word fl f (LastReturn j) = signal
sent_word fl f DrainReturn = signal
sent_word fl f r = f.left

abbrev pub along : Flow → Wires → Firing → Part → Bool → List Item
along fl w f r second = each f.context (sent_word fl f f.part) ((wiring_in fl w f.context).wire (side r second))

-- a switch, by its right word
abbrev pub switched : Flow → Wires → Firing → Part → Note → List Item
switched fl w f r (Datum v) = along fl w f r (not (truth v))
switched fl w f r k = []

-- where an answer goes
abbrev pub back_from : Context → List Inlet → Note
back_from c [] = ToHost
back_from c (x ∷ xs) = BackTo c x

-- what goes to where the context was invoked
abbrev pub result_back : Context → ℕ → Note → List Item
result_back Main j k = item Main (inlet (Shown j) Left 0) k ∷ []
result_back (Called c n) j k = item c (inlet (Landing n j) Left 0) k ∷ []
result_back (Turned c n i) j k = item c (inlet (Landing n j) Left i) k ∷ []

abbrev pub drain_back : Context → Note → List Item
drain_back (Turned c n i) k = item c (inlet (Drainer n) Left i) k ∷ []
drain_back c k = []

abbrev pub end_back : Context → List Item
end_back Main = item Main (inlet Done Left 0) signal ∷ []
end_back (Called c n) = item c (inlet (CallDone n) Left 0) signal ∷ []
end_back (Turned c n i) = item c (inlet (Giver n) Left i) signal ∷ []

abbrev pub credit_asked : Context → List Item
credit_asked (Turned c n i) = item c (inlet (Taker n) Left (i + 1)) (BackTo (Turned c n i) (inlet NextFramer Left 0)) ∷ []
credit_asked c = []

-- the turn before a number
abbrev pub turn_before : Context → ℕ → ℕ → Context
turn_before c n zero = c
turn_before c n (suc t) = Turned c n t

abbrev pub next_entry : ℕ → Inlet
next_entry zero = inlet Entry Left 0
next_entry (suc j) = inlet (Line j) Left 0

-- a node's operation: a fetch or a store asks its cell
abbrev pub line_makes : Flow → Wires → Firing → ℕ → List Item
line_makes fl w f n =
    if is_cell (block_in fl f.context) n
    then record {
      context = f.context;
      inlet = inlet (InCell n) Left 0;
      word = back_from f.context ((wiring_in fl w f.context).wire (side (Line n) false));
      held = value_in f.left ∷ (if is_store (block_in fl f.context) n then value_in f.right ∷ [] else []);
    } ∷ []
    else along fl w f (Line n) false

abbrev pub makes_by : Flow → Wires → Firing → Part → List Item
makes_by fl w f (Line n) = line_makes fl w f n
makes_by fl w f (InCell n) = along fl w f (Line n) false
makes_by fl w f (Trigger k) = switched fl w f (Trigger k) f.right
makes_by fl w f (Gate n) = switched fl w f (Gate n) f.right
makes_by fl w f TurnCont = switched fl w f TurnCont f.right
makes_by fl w f TurnFlag = switched fl w f TurnFlag f.right
makes_by fl w f (TurnValue j) = switched fl w f (TurnValue j) f.right
makes_by fl w f (Framer n) = item f.context (inlet (Asked n) Left 0) (BackTo f.context (inlet (Fanned n) Left 0)) ∷ arguments fl f.context n 1 f.operands
makes_by fl w f (Asked n) = item f.context (inlet (Fanned n) Left 0) (FrameOf (child fl f.context n)) ∷ []
makes_by fl w f (Linker n) = item (child fl f.context n) (inlet Entry Left 0) (BackTo f.context (inlet (Landing n 0) Left 0)) ∷ []
makes_by fl w f (Sender n i) = item (child fl f.context n) (inlet (Line i) Left 0) f.right ∷ along fl w f (Sender n i) false
makes_by fl w f (Result j) = result_back f.context j f.right ++ along fl w f (Result j) false
makes_by fl w f (LastReturn j) = result_back f.context j f.right ++ along fl w f (LastReturn j) false
makes_by fl w f DrainReturn = drain_back f.context f.right ++ along fl w f DrainReturn false
makes_by fl w f End = item f.context (inlet Freed Left 0) signal ∷ end_back f.context
makes_by fl w f Asker = credit_asked f.context
makes_by fl w f (Taker n) = item (turn_before f.context n f.way) (inlet NextFramer Left 0) signal ∷ []
makes_by fl w f NextFramer = item f.context (inlet NextAsked Left 0) (BackTo f.context (inlet NextFanned Left 0)) ∷ []
makes_by fl w f NextAsked = item f.context (inlet NextFanned Left 0) (FrameOf (next f.context)) ∷ []
makes_by fl w f (NextSender j) = item (next f.context) (next_entry j) f.right ∷ along fl w f (NextSender j) false
makes_by fl w f (Drained n) = item f.context (inlet (LoopDone n) Left 0) signal ∷ []
makes_by fl w f (Giver n) = []
makes_by fl w f (Drainer n) = []
makes_by fl w f (Shown j) = []
makes_by fl w f Done = []
makes_by fl w f Freed = []
makes_by fl w f r = along fl w f r false

abbrev pub makes : Flow → Wires → Firing → List Item
makes fl w f = makes_by fl w f f.part

-- THE BEGINNING
abbrev pub input_items : ℕ → List ℤ → List Item
input_items n [] = []
input_items n (z ∷ zs) = item Main (inlet (Line n) Left 0) (Datum (Int z)) ∷ input_items (n + 1) zs

abbrev pub begins : List ℤ → List Item
begins inputs = item Main (inlet Entry Left 0) ToHost ∷ input_items 0 inputs

abbrev pub Config : Type 0
Config = NetConfig Item Firing

abbrev pub begin : List ℤ → Config
begin inputs = record { pending = begins inputs; waiting = []; fired = [] }

abbrev pub Move : Flow → Wires → Config → Config → Type 0
Move fl w c d = NetMove (takes fl) (makes fl w) c d

abbrev pub Moves : Flow → Wires → Config → Config → Type 0
Moves fl w c d = NetMoves (takes fl) (makes fl w) c d

-- WHAT HAS RESULTED FROM IT
-- the index of a fetch or a store
abbrev pub first_of : List Value → Value
first_of [] = Int (pos 0)
first_of (v ∷ vs) = v

abbrev pub second_of : List Value → Value
second_of [] = Int (pos 0)
second_of (v ∷ vs) = first_of vs

abbrev pub place_at : ℕ → Indexed → Option ℕ
place_at base (Outside v) = None
place_at base (Place i) = Some (base + i)

abbrev pub index_at : Flow → Context → ℕ → Value → ℕ → Indexed
index_at fl c n v a = index_in (array_len fl a) v (origin_at fl c n)

-- the array of a fetch or a store
abbrev pub array_in : Kind ℕ → ℕ
array_in (Kind.Fetch a) = a
array_in (Kind.Store a) = a
array_in kind = 0

abbrev pub array_at : Flow → Context → ℕ → ℕ
array_at fl c n = elim (node_of fl c n) as (λ x. ℕ) [ None ↦ 0 | Some line ↦ array_in line.kind ]

-- where a fetch or a store with these operands points to
abbrev pub index_of : Flow → Context → ℕ → List Value → Indexed
index_of fl c n vs = index_at fl c n (first_of vs) (array_at fl c n)

-- the cell of a request, if its index is good
abbrev pub cell_of : Flow → Context → ℕ → List Value → Option ℕ
cell_of fl c n vs = place_at (first_cell fl (array_at fl c n)) (index_of fl c n vs)

abbrev pub stored_at : Option ℕ → Value → Memory → Memory
stored_at None v m = m
stored_at (Some x) v m = with_cell m x v

abbrev pub remembered : Flow → Firing → Part → Memory → Memory
remembered fl f (InCell n) m = if is_store (block_in fl f.context) n then stored_at (cell_of fl f.context n f.operands) (second_of f.operands) m else m
remembered fl f (Shown j) m = with_output m j (value_in f.left)
remembered fl f r m = m

abbrev pub memory_of : Flow → List Firing → Memory
memory_of fl [] = record { cells = λ x. None; outputs = λ j. None }
memory_of fl (f ∷ fired) = remembered fl f f.part (memory_of fl fired)

-- FRAMES. Whose frame a firing hands out
abbrev pub handed_to : Flow → Context → Part → Option Context
handed_to fl c (Asked n) = Some (child fl c n)
handed_to fl c NextAsked = Some (next c)
handed_to fl c r = None

abbrev pub frame_if : Option Context → Context → ℕ → Option ℕ → Option ℕ
frame_if None c g other = other
frame_if (Some d) c g other = if same_context d c then Some g else other

-- the frame of a context, if it has one
abbrev pub frame_at : Flow → List Firing → Context → Option ℕ
frame_at fl fired Main = Some 0
frame_at fl [] c = None
frame_at fl (f ∷ fired) c = frame_if (handed_to fl f.context f.part) c f.frame (frame_at fl fired c)

abbrev pub frames_if : Option Context → ℕ → List ℕ
frames_if None g = []
frames_if (Some d) g = g ∷ []

-- the frames handed out
abbrev pub frames_of : Flow → List Firing → List ℕ
frames_of fl fired = flat_map (λ (f : Firing). frames_if (handed_to fl f.context f.part) f.frame) fired

-- COUNTS
abbrev pub is_firing : Context → Part → Firing → Bool
is_firing c r f = same_context f.context c && same_part f.part r

-- how often a part fired
abbrev pub times : Context → Part → List Firing → ℕ
times c r fired = count_by (is_firing c r) fired

abbrev pub HasFired : Context → Part → List Firing → Type 0
HasFired c r fired = (f : Firing) × Contains fired f × (f.context ≡ c) × (f.part ≡ r)

-- PROPER. What a firing says besides what it takes: the value that the memory gives, and as many turns as there were.
pub data Answers (fl : Flow) (m : Memory) (c : Context) (n : ℕ) (vs : List Value) (answer : Value) : Type 0 where
  AFault : index_of fl c n vs ≡ Outside answer → Answers fl m c n vs answer
  ARead : (x : ℕ) → is_store (block_in fl c) n ≡ false → cell_of fl c n vs ≡ Some x → m.cells x ≡ Some answer → Answers fl m c n vs answer
  AFill : (x : ℕ) → is_store (block_in fl c) n ≡ true → cell_of fl c n vs ≡ Some x → m.cells x ≡ None → answer ≡ second_of vs → Answers fl m c n vs answer

abbrev pub ProperAt : Flow → List Firing → Firing → Part → Type 0
ProperAt fl fired f (InCell n) = Answers fl (memory_of fl fired) f.context n f.operands f.answer
ProperAt fl fired f (Drained n) = f.turns ≡ times f.context (Taker n) fired
ProperAt fl fired f (Framer n) = length f.operands ≡ (if is_strict_in fl f.context n then source_count (block_in fl f.context) n else 0)
ProperAt fl fired f (Giver n) = ⊥
ProperAt fl fired f (Drainer n) = ⊥
ProperAt fl fired f (Asked n) = Contains (0 ∷ frames_of fl fired) f.frame → ⊥
ProperAt fl fired f NextAsked = Contains (0 ∷ frames_of fl fired) f.frame → ⊥
ProperAt fl fired f r = ⊤

abbrev pub IsProper : Flow → List Firing → Firing → Type 0
IsProper fl fired f = ProperAt fl fired f f.part

abbrev pub IsProperMove : (fl : Flow) (w : Wires) (fired : List Firing) (c d : Config) → Move fl w c d → Type 0
IsProperMove fl w fired c d (Waits i rest p e) = ⊤
IsProperMove fl w fired c d (Fires f now kept rest others p q both e) = IsProper fl fired f

-- moves of which each firing is proper
pub data ProperMoves (fl : Flow) (w : Wires) : Config → Config → Type 0 where
  Still : (c : Config) → ProperMoves fl w c c
  Then : (c mid d : Config) (m : Move fl w c mid) → IsProperMove fl w c.fired c mid m → ProperMoves fl w mid d → ProperMoves fl w c d
