-- That a plan is wired as the code of a graph: where the parts of each code block are, and where they send. This is all that
-- the proofs of the meaning know of a plan.
use Rattle.std.specs.Prelude.{◌≡◌, ◌≢◌, ℕ, zero, suc, ◌+◌, ◌<◌, ◌≤◌, ◌⊎◌, Bool, true, false, ◌&&◌, ◌||◌, nat_lt, ◌==◌, List, [], ◌∷◌, ◌++◌, map, flat_map}
use Rattle.std.specs.Prelude.{Option, Some, None, slice_get, Contains, IsPermutation, length, if◌then◌else◌, ⊤}
use Rattle.tags.specs.declared.value.Value.{Value}
use Rattle.tags.specs.declared.token.Port.{Port}
use Rattle.tags.specs.declared.token.Port.TheVariants.{Left, Right}
use Rattle.semantics.specs.declared.graph.Region.{Region}
use Rattle.semantics.specs.declared.graph.Region.TheVariants.{Root, Arm}
use Rattle.semantics.specs.declared.graph.Source.{Source}
use Rattle.semantics.specs.declared.program.Dest.{Dest}
use Rattle.semantics.specs.Graph.{Block, Flow, node_at}
use Rattle.semantics.specs.Meaning.{Context, Tagged}
use Rattle.semantics.specs.Program.{Instr, CodeBlock}
use Rattle.semantics.specs.Plan.{Plan, mark_at}
use Rattle.semantics.specs.Cause.{is_looped}
use Rattle.law_confluence.specs.OrdersTotals.{one, total}
use Rattle.law_net.specs.ContextsParts.{Part, Entry, Line, Answer, Trigger, Gate, Merge, Opener, Framer, Fanned, Linker, Sender, Landing, CallDone, Giver}
use Rattle.law_net.specs.ContextsParts.{Taker, Drainer, LoopDone, Strict, Result, TurnCont, TurnFlag, TurnValue, Asker, NextFramer, NextFanned, NextSender}
use Rattle.law_net.specs.ContextsParts.{LastReturn, DrainReturn, Join, CondEnd, End, Asked, NextAsked, InCell, Inlet, inlet, same_inlet}
use Rattle.law_net.specs.ContextsBlocks.{Side, side, Wiring, Site, there_in, waits_in, op_of, origin_of, mark_of, entered, leaves_in, is_switch, exit, is_loop}
use Rattle.law_net.specs.ContextsBlocks.{is_call, is_strict, invokes, source_count, result_count, flag, lies_in, is_kind, cond_kind, merge_kind, merge_cond}
use Rattle.law_net.specs.Contexts.{Wires, code_in, IsContext}
use Rattle.law_net.specs.ContextsMeant.{meant_at, settled_sent}

-- ARCS that no part sends along by itself: the manager, a take, or an invocation answers there
abbrev pub answered_at : Part → List Inlet
answered_at (Linker n) = inlet (Landing n 0) Left 0 ∷ []
answered_at (Giver n) = inlet (LoopDone n) Left 0 ∷ []
answered_at (Drainer n) = inlet (LoopDone n) Left 0 ∷ []
answered_at (Framer n) = inlet (Fanned n) Left 0 ∷ []
answered_at NextFramer = inlet NextFanned Left 0 ∷ []
answered_at Asker = inlet NextFramer Left 0 ∷ []
answered_at r = []

-- what no wire feeds
abbrev pub is_unwired : Block ℕ → Part → Bool
is_unwired b Entry = true
is_unwired b (Line n) = nat_lt n b.inputs
is_unwired b (Landing n j) = true
is_unwired b (CallDone n) = true
is_unwired b (Giver n) = true
is_unwired b (Taker n) = true
is_unwired b (Drainer n) = true
is_unwired b (LoopDone n) = true
is_unwired b (Fanned n) = true
is_unwired b NextFanned = true
is_unwired b NextFramer = true
is_unwired b r = false

-- what it sends goes along no wire
abbrev pub has_no_wire : Part → Bool
has_no_wire (Linker n) = true
has_no_wire (Giver n) = true
has_no_wire (Drainer n) = true
has_no_wire (Taker n) = true
has_no_wire (Framer n) = true
has_no_wire NextFramer = true
has_no_wire Asker = true
has_no_wire End = true
has_no_wire r = false

-- the ways that wires know
abbrev pub wired_way : Part → ℕ → Bool
wired_way (Merge n) w = nat_lt w 2
wired_way (CondEnd k) w = nat_lt w 2
wired_way r w = w == 0

abbrev pub wired_port : Block ℕ → Part → Port → Bool
wired_port b r Left = true
wired_port b r Right = waits_in b r

abbrev pub is_side : Side → Bool
is_side s = elim s.second as (λ x. Bool) [ true ↦ is_switch s.part | false ↦ true ]

-- how often an inlet occurs in a list
abbrev pub hits : Inlet → List Inlet → ℕ
hits x xs = total (λ (y : Inlet). one (same_inlet x y)) xs

-- WHAT KIND OF WORD
pub data Carried : Type 0 where
  Anything : Carried
  AValue : Carried
  -- the continuation with which the context was entered
  ItsReturn : Carried
  -- the frame of what a node invokes first, and of the next turn
  ChildFrame : (node : ℕ) → Carried
  NextFrame : Carried
  -- the continuation that asks for a credit, and that asks for a frame
  Credit : (node : ℕ) → Carried
  Request : (part : Part) → Carried
  -- that to which a cell answers
  Reader : (node : ℕ) → Carried

abbrev pub goes_from : Part → Carried
goes_from Entry = ItsReturn
goes_from TurnCont = ItsReturn
goes_from (Fanned n) = ChildFrame n
goes_from NextFanned = NextFrame
goes_from r = AValue

abbrev pub next_kind : ℕ → Carried
next_kind zero = ItsReturn
next_kind (suc j) = AValue

abbrev pub arrives_at : Part → Port → Carried
arrives_at Entry q = ItsReturn
arrives_at (Framer n) q = Anything
arrives_at (Opener n) q = Anything
arrives_at NextFramer q = Anything
arrives_at (Strict n i) q = Anything
arrives_at (Join r i) q = Anything
arrives_at (Fanned n) q = ChildFrame n
arrives_at (Linker n) q = ChildFrame n
arrives_at (Sender n i) Left = ChildFrame n
arrives_at (Result j) Left = ItsReturn
arrives_at TurnCont Left = ItsReturn
arrives_at Asker Left = ItsReturn
arrives_at NextFanned q = NextFrame
arrives_at (NextSender j) Left = NextFrame
arrives_at (NextSender j) Right = next_kind j
arrives_at (LastReturn j) Left = ItsReturn
arrives_at DrainReturn Left = ItsReturn
arrives_at End Left = ItsReturn
arrives_at End Right = Anything
arrives_at (Taker n) q = Credit n
arrives_at (Asked n) q = Request (Fanned n)
arrives_at NextAsked q = Request NextFanned
arrives_at (InCell n) q = Reader n
arrives_at r q = AValue

-- A frame's word goes to what takes a frame: not to a join, nor to what asks for a frame.
abbrev pub is_frame : Carried → Bool
is_frame (ChildFrame n) = true
is_frame NextFrame = true
is_frame k = false

abbrev pub Suits : Carried → Carried → Type 0
Suits Anything k = is_frame k ≡ false
Suits j k = j ≡ k

-- WHICH CONDITIONAL'S WORD arrives at an inlet, and where a conditional's word leaves
abbrev pub cond_round : Region → Option ℕ
cond_round Root = None
cond_round (Arm k t) = Some k

abbrev pub right_only : Port → Option ℕ → Option ℕ
right_only Left k = None
right_only Right k = k

abbrev pub predicate_at : Block ℕ → Part → Port → Option ℕ
predicate_at b (Gate n) q = right_only q (cond_round (lies_in b n))
predicate_at b (Trigger k) q = right_only q (Some k)
predicate_at b TurnCont q = right_only q (Some (flag b))
predicate_at b TurnFlag q = right_only q (Some (flag b))
predicate_at b (TurnValue j) q = right_only q (Some (flag b))
predicate_at b r q = None

abbrev pub no_source : Source
no_source = record { node = 0; port = 0 }

abbrev pub first_source : List Source → Source
first_source [] = no_source
first_source (s ∷ ss) = s

abbrev pub decided_by : Block ℕ → ℕ → Source
decided_by b k = elim (node_at b k) as (λ x. Source) [ None ↦ first_source b.results | Some line ↦ first_source line.sources ]

abbrev pub decider : Block ℕ → Wiring → ℕ → Side
decider b w k = exit b w (decided_by b k).node (decided_by b k).port

-- DESTINATIONS AND INLETS, as a place and a port
abbrev pub leads_to : ℕ → Dest → ℕ × Port
leads_to n d = (n + d.ahead, d.port)

abbrev pub ip_and_port : Wiring → Inlet → ℕ × Port
ip_and_port w x = (w.place x.part, x.port)

-- Each part has its instruction, and each instruction its part; the wires are the destinations, in any order.
pub record IsInstr (fl : Flow) (p : Plan) (variant : ℕ → ℕ) (s : Site) (w : Wiring) (r : Part) (i : Instr) : Type 0 where
  pub op : i.op ≡ op_of variant s r
  pub origin : i.origin ≡ origin_of fl s r
  pub mark : mark_at p s.own (w.place r) ≡ mark_of s.block r
  pub slot : i.slot ≡ w.slot r
  pub firsts : IsPermutation (map (leads_to (w.place r)) i.firsts) (map (ip_and_port w) (answered_at r ++ w.wire (side r false)))
  pub seconds : IsPermutation (map (leads_to (w.place r)) i.seconds) (map (ip_and_port w) (w.wire (side r true)))

abbrev pub holds_own : Block ℕ → Part → Bool
holds_own b (Opener n) = true
holds_own b r = waits_in b r

pub record IsLaidOut (fl : Flow) (p : Plan) (variant : ℕ → ℕ) (s : Site) (w : Wiring) (c : CodeBlock) : Type 0 where
  pub inputs : c.inputs ≡ s.block.inputs
  pub outputs : c.outputs ≡ s.block.outputs
  pub here : (r : Part) → (there_in fl s w r ≡ true) → (i : Instr) × (slice_get c.instrs (w.place r) ≡ Some i) × IsInstr fl p variant s w r i
  pub each : (n : ℕ) → n < length c.instrs → (r : Part) × (there_in fl s w r ≡ true) × (w.place r ≡ n)
  pub apart : (r q : Part) → (there_in fl s w r ≡ true) → (there_in fl s w q ≡ true) → w.place r ≡ w.place q → r ≡ q
  -- rows: the entries, and a landing
  pub entry : w.place Entry ≡ 0
  pub entries : (n : ℕ) → n < s.block.inputs → w.place (Line n) ≡ n + 1
  pub landing : (n j : ℕ) → (there_in fl s w (Landing n j) ≡ true) → w.place (Landing n j) ≡ w.place (Landing n 0) + j
  pub call_done : (n : ℕ) → is_call s.block n ≡ true → w.place (CallDone n) ≡ w.place (Landing n 0) + result_count fl s.block n
  pub credits : (n : ℕ) → is_loop s.block n ≡ true → (w.place (Giver n) ≡ w.place (Landing n 0) + result_count fl s.block n)
      × (w.place (Taker n) ≡ w.place (Giver n) + 1) × (w.place (Drainer n) ≡ w.place (Giver n) + 2)
  -- a part's holder is its own, except that a loop has one
  pub holders : (r q : Part) → (there_in fl s w r ≡ true) → (there_in fl s w q ≡ true) → (holds_own s.block r ≡ true) → (holds_own s.block q ≡ true)
      → w.slot r ≡ w.slot q → r ≡ q
  pub loops : (n : ℕ) → is_loop s.block n ≡ true
      → (w.slot (Giver n) ≡ w.slot (Opener n)) × (w.slot (Taker n) ≡ w.slot (Opener n)) × (w.slot (Drainer n) ≡ w.slot (Opener n))

abbrev pub IsFed : Flow → Site → Wiring → Inlet → Type 0
IsFed fl s w x = (t : Side) × (there_in fl s w t.part ≡ true) × (is_side t ≡ true) × (hits x (w.wire t) ≡ 1)
    × ((u : Side) → (there_in fl s w u.part ≡ true) → u ≢ t → hits x (w.wire u) ≡ 0)

abbrev pub IsUnfed : Flow → Site → Wiring → Inlet → Type 0
IsUnfed fl s w x = (u : Side) → (there_in fl s w u.part ≡ true) → hits x (w.wire u) ≡ 0

pub record AreFed (fl : Flow) (s : Site) (w : Wiring) : Type 0 where
  -- a wire leads to an inlet
  pub inlets : (t : Side) (x : Inlet) → (there_in fl s w t.part ≡ true) → Contains (w.wire t) x
      → (there_in fl s w x.part ≡ true) × (wired_way x.part x.way ≡ true) × (wired_port s.block x.part x.port ≡ true) × (is_unwired s.block x.part ≡ false)
  -- an inlet is fed along one side of one part; no part has a wire along a side that it does not have
  pub fed : (x : Inlet) → (there_in fl s w x.part ≡ true) → (wired_way x.part x.way ≡ true) → (wired_port s.block x.part x.port ≡ true)
      → (is_unwired s.block x.part ≡ false) → IsFed fl s w x
  pub sides : (t : Side) → (is_side t ≡ false) ⊎ (has_no_wire t.part ≡ true) → w.wire t ≡ []

pub record FollowArms (fl : Flow) (s : Site) (w : Wiring) : Type 0 where
  -- an arm is of an earlier conditional
  pub rounds : (n k : ℕ) (t : Bool) → lies_in s.block n ≡ Arm k t → (k < n) × (is_kind cond_kind s.block k ≡ true)
  -- a merge lies where its conditional does
  pub merges : (n : ℕ) → is_kind merge_kind s.block n ≡ true
      → (is_kind cond_kind s.block (merge_cond s.block n) ≡ true) × (lies_in s.block n ≡ lies_in s.block (merge_cond s.block n))
  pub arms : (t : Side) (x : Inlet) → (there_in fl s w t.part ≡ true) → Contains (w.wire t) x → entered s.block x.part x.way ≡ leaves_in s.block t.part t.second
  pub agree : (t : Side) (x : Inlet) (k : ℕ) → (there_in fl s w t.part ≡ true) → Contains (w.wire t) x → predicate_at s.block x.part x.port ≡ Some k
      → t ≡ decider s.block w k
  -- a trigger's two words, and those of the flag's switch, come from one side
  pub both : (t : Side) (k : ℕ) → (there_in fl s w t.part ≡ true)
      → (Contains (w.wire t) (inlet (Trigger k) Left 0) → t ≡ decider s.block w k)
      × (Contains (w.wire t) (inlet TurnFlag Left 0) → t ≡ decider s.block w (flag s.block))

-- A STRICT CALL asks for its frame when all its arguments have arrived: the first one and each of the joins lead to the
-- next join, the last to the framer, and the other arguments go to the joins.
abbrev pub wait_after : ℕ → ℕ → ℕ → Inlet
wait_after n count i = if i + 1 == count then inlet (Framer n) Left 0 else inlet (Strict n (i + 1)) Left 0

abbrev pub wait_for : ℕ → ℕ → ℕ → Inlet
wait_for n count zero = wait_after n count 0
wait_for n count (suc i) = inlet (Strict n (suc i)) Right 0

pub record WaitsForAll (fl : Flow) (s : Site) (w : Wiring) (n : ℕ) : Type 0 where
  -- what leads to an argument's sender leads there
  pub arguments : (i : ℕ) → i < source_count s.block n
      → (t : Side) × (there_in fl s w t.part ≡ true) × Contains (w.wire t) (inlet (Sender n i) Right 0)
      × Contains (w.wire t) (wait_for n (source_count s.block n) i)
  pub joins : (i : ℕ) → 0 < i → i < source_count s.block n → Contains (w.wire (side (Strict n i) false)) (wait_after n (source_count s.block n) i)

-- WHAT STARTS a call or a loop. The first part of a code block, and a conditional's trigger, wait for nothing but the entry and the conditional.
abbrev pub is_start : Part → Bool
is_start Entry = true
is_start (Trigger k) = true
is_start r = false

-- A call asks for its frame, and a loop is opened, as soon as the block or the arm is entered, and a turn asks for a credit as soon as its flag
-- is there; and all arguments are sent before a result arrives.
pub record StartsRightly (fl : Flow) (s : Site) (w : Wiring) : Type 0 where
  pub calls : (n : ℕ) (t : Side) → is_call s.block n ≡ true → is_strict s.block n ≡ false → (there_in fl s w t.part ≡ true)
      → Contains (w.wire t) (inlet (Framer n) Left 0) → is_start t.part ≡ true
  pub loops : (n : ℕ) (t : Side) → is_loop s.block n ≡ true → (there_in fl s w t.part ≡ true) → Contains (w.wire t) (inlet (Opener n) Left 0)
      → is_start t.part ≡ true
  pub asks : (t : Side) → (there_in fl s w t.part ≡ true) → Contains (w.wire t) (inlet Asker Right 0) → t.part ≡ TurnFlag
  pub sends : (n i : ℕ) → invokes s.block n ≡ true → i < source_count s.block n → w.place (Sender n i) < w.place (Landing n 0)

-- and the words
pub record LeadOn (fl : Flow) (s : Site) (w : Wiring) : Type 0 where
  pub leads : (t : Side) → (there_in fl s w t.part ≡ true) → (is_side t ≡ true) → (has_no_wire t.part ≡ false) → (x : Inlet) × Contains (w.wire t) x
  pub forward : (t : Side) (x : Inlet) → (there_in fl s w t.part ≡ true) → Contains (answered_at t.part ++ w.wire t) x → w.place t.part < w.place x.part
  pub last : (r : Part) → (there_in fl s w r ≡ true) → w.place r ≤ w.place End
  -- a loop is opened before it asks for a frame
  pub opens : (n : ℕ) → is_loop s.block n ≡ true → Contains (w.wire (side (Opener n) false)) (inlet (Framer n) Left 0)
  -- and a strict call waits for its arguments
  pub waits : (n : ℕ) → is_strict s.block n ≡ true → WaitsForAll fl s w n
  pub starts : StartsRightly fl s w
  pub suits : (t : Side) (x : Inlet) → (there_in fl s w t.part ≡ true) → Contains (w.wire t) x → Suits (arrives_at x.part x.port) (goes_from t.part)

pub record AreLawful (fl : Flow) (s : Site) (w : Wiring) : Type 0 where
  pub fed : AreFed fl s w
  pub arms : FollowArms fl s w
  pub leads : LeadOn fl s w

-- What leaves at an output port goes to its uses, in any invocation of the block, and nothing else stands for a token.
abbrev pub meant_along : Flow → Context → Value → List Inlet → List Tagged
meant_along fl c v xs = flat_map (λ (x : Inlet). meant_at fl c x.part x.port x.way v) xs

abbrev pub has_port : Flow → Block ℕ → ℕ → ℕ → Bool
has_port fl b n q = (invokes b n && nat_lt q (result_count fl b n)) || (q == 0)

abbrev pub IsSilent : Part → Type 0
IsSilent (TurnValue j) = ⊥
IsSilent (Line n) = ⊥
IsSilent r = ⊤

pub record GoesToUses (fl : Flow) (Here : Context → Type 0) (s : Site) (w : Wiring) : Type 0 where
  pub uses : (c : Context) (n q : ℕ) (v : Value) → Here c → (there_in fl s w (exit s.block w n q).part ≡ true) → (has_port fl s.block n q ≡ true)
      → IsPermutation (meant_along fl c v (w.wire (exit s.block w n q))) (settled_sent fl c n q v)
  -- an answer goes to its copy, where it has one
  pub answers : (n : ℕ) → (there_in fl s w (Answer n) ≡ true) → w.wire (side (Line n) false) ≡ inlet (Answer n) Left 0 ∷ []
  pub nothing : (c : Context) (t : Side) (v : Value) → Here c → (there_in fl s w t.part ≡ true) → IsSilent t.part → ((n q : ℕ) → exit s.block w n q ≢ t)
      → meant_along fl c v (w.wire t) ≡ []
  -- the turn of a loop
  pub turn_value : (j : ℕ) → (there_in fl s w (TurnValue (j + 1)) ≡ true)
      → (w.wire (side (TurnValue (j + 1)) false) ≡ inlet (NextSender (j + 1)) Right 0 ∷ [])
      × (w.wire (side (TurnValue (j + 1)) true) ≡ inlet (LastReturn j) Right 0 ∷ [])

pub record IsWiredCode (fl : Flow) (p : Plan) (variant : ℕ → ℕ) (Here : Context → Type 0) (s : Site) (w : Wiring) : Type 0 where
  pub code : CodeBlock
  pub there : slice_get p.program.blocks s.own ≡ Some code
  pub laid : IsLaidOut fl p variant s w code
  pub lawful : AreLawful fl s w
  pub uses : GoesToUses fl Here s w

-- the contexts that run a code block
abbrev pub Runs : Flow → Wires → ℕ → Context → Type 0
Runs fl w i c = IsContext fl c × (code_in fl w c ≡ i)

abbrev pub plain_site : Block ℕ → ℕ → Site
plain_site b i = record { block = b; number = i; turns = false; own = i }

abbrev pub turn_site : Block ℕ → ℕ → ℕ → Site
turn_site b i own = record { block = b; number = i; turns = true; own = own }

pub record AreWiredBy (fl : Flow) (p : Plan) (w : Wires) : Type 0 where
  pub main : p.program.main ≡ fl.main
  pub arrays : p.program.arrays ≡ fl.arrays
  pub plain_count : p.plain ≡ length fl.blocks
  pub plain : (i : ℕ) (b : Block ℕ) → slice_get fl.blocks i ≡ Some b → IsWiredCode fl p w.variant (Runs fl w i) (plain_site b i) (w.wiring i)
  pub turns : (i : ℕ) (b : Block ℕ) → slice_get fl.blocks i ≡ Some b → is_looped fl i ≡ true
      → IsWiredCode fl p w.variant (Runs fl w (w.variant i)) (turn_site b i (w.variant i)) (w.wiring (w.variant i))
  -- loop variants are other code blocks
  pub others : (i : ℕ) (b : Block ℕ) → slice_get fl.blocks i ≡ Some b → is_looped fl i ≡ true → length fl.blocks ≤ w.variant i
  pub differ : (i j : ℕ) → is_looped fl i ≡ true → is_looped fl j ≡ true → w.variant i ≡ w.variant j → i ≡ j

abbrev pub AreWired : Flow → Plan → Type 0
AreWired fl p = (w : Wires) × AreWiredBy fl p w
