-- The state of the machine, and the state of the net of contexts.
use Rattle.std.specs.Prelude.{◌≡◌, ℕ, ◌+◌, ◌<◌, ◌⊎◌, ℤ, Bool, true, false, not, ◌&&◌, List, [], ◌∷◌, ◌++◌, map, Option, Some, None, nat_lt, ◌==◌, if◌then◌else◌}
use Rattle.std.specs.Prelude.{count_by, flat_map, Contains, IsPermutation}
use Rattle.tags.specs.declared.value.Value.{Value}
use Rattle.tags.specs.declared.token.Port.{Port}
use Rattle.tags.specs.declared.token.Port.TheVariants.{Left, Right}
use Rattle.tags.specs.declared.token.Cont.{Cont}
use Rattle.tags.specs.declared.token.Word.{Word}
use Rattle.tags.specs.declared.token.To.{To}
use Rattle.tags.specs.declared.token.Token.{Token}
use Rattle.tags.specs.declared.slot.SlotState.{SlotState}
use Rattle.tags.specs.declared.slot.SlotState.TheVariants as Slot
use Rattle.tags.specs.declared.slot.SlotState.TheVariants.{Empty}
use Rattle.semantics.specs.Graph.{Block, Flow}
use Rattle.semantics.specs.Meaning.{Context, Main}
use Rattle.semantics.specs.Program.{first_of}
use Rattle.semantics.specs.Rule.{token}
use Rattle.semantics.specs.Machine.{Machine, Store, Events, outputs_of}
use Rattle.semantics.specs.Cause.{SameSeen}
use Rattle.semantics.specs.Arcs.{UsesArc}
use Rattle.semantics.specs.Handed.{handed_by}
use Rattle.semantics.specs.Holders.{Holder}
use Rattle.semantics.specs.Credits.{granted_at, released_at}
use Rattle.semantics.specs.Orderly.{readers_of}
use Rattle.semantics.specs.Plan.{Plan, landing}
use Rattle.law_confluence.proofs.NetSlots.{InSlots}
use Rattle.law_confluence.specs.EquationsContexts.{same_context}
use Rattle.law_net.specs.ContextsParts.{Part, Entry, Line, Opener, Giver, Taker, Drainer, Landing, Asked, NextAsked, InCell, Drained, Shown, Done, Freed, Inlet}
use Rattle.law_net.specs.ContextsParts.{Note, Datum, FrameOf, BackTo, ToHost, Item, Firing, same_part}
use Rattle.law_net.specs.ContextsBlocks.{waits_in, is_store, is_loop, bound_at, callee_code}
use Rattle.law_net.specs.Contexts.{Wires, block_in, code_in, wiring_in, or_zero, IsContext}
use Rattle.law_net.specs.ContextsCredits.{Ledger, slot_for, CreditLaw}
use Rattle.law_net.specs.ContextsFirings.{Config, begin, takes, own_takes, memory_of, frame_at, frames_of, times, HasFired, cell_of, second_of, ProperMoves}

-- TOKENS
abbrev pub frame_of : Flow → List Firing → Context → ℕ
frame_of fl fired c = or_zero (frame_at fl fired c)

abbrev pub ip_of : Flow → Plan → Wires → Context → Part → ℕ
ip_of fl p w c r = first_of p.program (code_in fl w c) + (wiring_in fl w c).place r

abbrev pub word_of : Flow → Plan → Wires → List Firing → Note → Word
word_of fl p w fired (Datum v) = Word.Val v
word_of fl p w fired (FrameOf c) = Word.Frame (frame_of fl fired c)
word_of fl p w fired (BackTo c x) = Word.Back (Cont.Frame (frame_of fl fired c) (ip_of fl p w c x.part) x.port)
word_of fl p w fired ToHost = Word.Back (Cont.Host 0)

-- the context that a word names
abbrev pub named_by : Note → Option Context
named_by (Datum v) = None
named_by (FrameOf c) = Some c
named_by (BackTo c x) = Some c
named_by ToHost = None

-- how many instructions in a row a continuation leads to: a landing, or one
abbrev pub row_of : Flow → Plan → Wires → Context → Part → ℕ
row_of fl p w c (Landing n j) = landing p (callee_code w.variant (block_in fl c) n)
row_of fl p w c r = 1

abbrev pub cont_in : Word → List Cont
cont_in (Word.Back c) = c ∷ []
cont_in w = []

abbrev pub cell_to : Option ℕ → Bool → Value → To
cell_to None store v = To.Manager
cell_to (Some x) false v = To.Fetch x
cell_to (Some x) true v = To.Store x v

abbrev pub to_of : Flow → Plan → Wires → List Firing → Item → Part → To
to_of fl p w fired i (Asked n) = To.Manager
to_of fl p w fired i NextAsked = To.Manager
to_of fl p w fired i (InCell n) = cell_to (cell_of fl i.context n i.held) (is_store (block_in fl i.context) n) (second_of i.held)
to_of fl p w fired i (Shown j) = To.Host j
to_of fl p w fired i Done = To.Host (outputs_of p.program)
to_of fl p w fired i Freed = To.Release (frame_of fl fired i.context)
to_of fl p w fired i r = To.Instr (frame_of fl fired i.context) (ip_of fl p w i.context r) i.inlet.port

abbrev pub token_of : Flow → Plan → Wires → List Firing → Item → Token
token_of fl p w fired i = token (to_of fl p w fired i i.inlet.part) (word_of fl p w fired i.word)

-- KINDS OF ITEMS
abbrev pub is_asked : Part → Bool
is_asked (Asked n) = true
is_asked NextAsked = true
is_asked r = false

abbrev pub is_in_cell : Part → Bool
is_in_cell (InCell n) = true
is_in_cell r = false

abbrev pub is_instr : Part → Bool
is_instr (Asked n) = false
is_instr NextAsked = false
is_instr (InCell n) = false
is_instr (Drained n) = false
is_instr (Shown j) = false
is_instr Done = false
is_instr Freed = false
is_instr r = true

abbrev pub only : (Item → Bool) → List Item → List Item
only test items = flat_map (λ (i : Item). if test i then i ∷ [] else []) items

-- it waits in a slot of its own
abbrev pub in_slot : Flow → Item → Bool
in_slot fl i = waits_in (block_in fl i.context) i.inlet.part

abbrev pub slot_of : Flow → Wires → Item → ℕ
slot_of fl w i = (wiring_in fl w i.context).slot i.inlet.part

abbrev pub on_side : Port → Word → SlotState
on_side Left k = Slot.Left k
on_side Right k = Slot.Right k

abbrev pub reads_cell : ℕ → Option ℕ → Bool
reads_cell x None = false
reads_cell x (Some y) = x == y

abbrev pub reads : Flow → ℕ → Item → Part → Bool
reads fl x i (InCell n) = reads_cell x (cell_of fl i.context n i.held)
reads fl x i r = false

-- THE LEDGER of a loop
abbrev pub is_item_at : Context → Part → Item → Bool
is_item_at c r i = same_context i.context c && same_part i.inlet.part r

abbrev pub items_at : Context → Part → List Item → ℕ
items_at c r items = count_by (is_item_at c r) items

abbrev pub first_cont : List Cont → Option Cont
first_cont [] = None
first_cont (c ∷ cs) = Some c

abbrev pub conts_of : Flow → Plan → Wires → List Firing → List Item → List Cont
conts_of fl p w fired items = flat_map (λ (i : Item). cont_in (word_of fl p w fired i.word)) items

abbrev pub granted_of : Config → Context → ℕ → ℕ
granted_of net c n = times c (Opener n) net.fired + times c (Taker n) net.fired

abbrev pub is_over : Config → Context → ℕ → Bool
is_over net c n = nat_lt 0 (times c (Drained n) net.fired)

abbrev pub ledger : Flow → Plan → Wires → Config → Context → ℕ → Ledger
ledger fl p w net c n = record {
  opened = nat_lt 0 (times c (Opener n) net.fired);
  granted = granted_of net c n;
  given = if is_over net c n then granted_of net c n else items_at c (Giver n) net.waiting;
  waiter = first_cont (conts_of fl p w net.fired (only (is_item_at c (Taker n)) net.waiting));
  draining = nat_lt 0 (items_at c (Drainer n) net.waiting);
  over = is_over net c n;
}

-- a loop keeps to its credits, and its turns are in order
pub record KeepsCredits (fl : Flow) (p : Plan) (w : Wires) (net : Config) (c : Context) (n : ℕ) : Type 0 where
  pub law : CreditLaw (bound_at (block_in fl c) n) (ledger fl p w net c n)
  pub takes : (i : Item) → Contains (net.pending ++ net.waiting) i → (i.context ≡ c) → (i.inlet.part ≡ Taker n) → i.inlet.way ≡ granted_of net c n
  pub drains : (i : Item) → Contains (net.pending ++ net.waiting) i → (i.context ≡ c) → (i.inlet.part ≡ Drainer n)
      → (i.inlet.way + 1 ≡ granted_of net c n) × (items_at c (Taker n) (net.pending ++ net.waiting) ≡ 0)
  -- what is given back is of turns that were granted
  pub gives : (i : Item) → Contains (net.pending ++ net.waiting) i → (i.context ≡ c) → (i.inlet.part ≡ Giver n) → i.inlet.way < granted_of net c n

-- THE MACHINE
pub record Mirrors (fl : Flow) (p : Plan) (w : Wires) (m : Machine) (net : Config) : Type 0 where
  pub pool : IsPermutation m.pool (map (token_of fl p w net.fired) net.pending)
  -- all items so far are in contexts with frames, each with its own
  pub known : (i : Item) → Contains (net.pending ++ (net.waiting ++ flat_map (takes fl) net.fired)) i → (g : ℕ) × (frame_at fl net.fired i.context ≡ Some g)
  pub apart : (c d : Context) (g : ℕ) → frame_at fl net.fired c ≡ Some g → frame_at fl net.fired d ≡ Some g → c ≡ d
  -- and so are the contexts that their words name
  pub named : (i : Item) (d : Context) → Contains (net.pending ++ (net.waiting ++ flat_map (takes fl) net.fired)) i → named_by i.word ≡ Some d
      → (g : ℕ) × (frame_at fl net.fired d ≡ Some g)
  -- slots
  pub base : ℕ → ℕ → SlotState
  pub slots : InSlots (λ (i : Item). frame_of fl net.fired i.context) (slot_of fl w) (λ (i : Item). on_side i.inlet.port (word_of fl p w net.fired i.word)) base
      (only (in_slot fl) net.waiting) m.store.slots
  pub loops : (c : Context) (n g : ℕ) → IsContext fl c → is_loop (block_in fl c) n ≡ true → frame_at fl net.fired c ≡ Some g
      → base g ((wiring_in fl w c).slot (Opener n)) ≡ slot_for (bound_at (block_in fl c) n) (ledger fl p w net c n)
  pub others : (f q : ℕ) → (base f q ≡ Empty)
      ⊎ ((c : Context) × (n : ℕ) × IsContext fl c × (is_loop (block_in fl c) n ≡ true) × (frame_at fl net.fired c ≡ Some f)
      × ((wiring_in fl w c).slot (Opener n) ≡ q))
  -- requests and readers wait, and a request with a bad index is answered at once
  pub requests : IsPermutation m.store.requests (conts_of fl p w net.fired (only (λ (i : Item). is_asked i.inlet.part) net.waiting))
  pub readers : (x : ℕ) → IsPermutation (readers_of (m.store.cells x)) (conts_of fl p w net.fired (only (λ (i : Item). reads fl x i i.inlet.part) net.waiting))
  pub good : (i : Item) (n : ℕ) → Contains (net.pending ++ net.waiting) i → (i.inlet.part ≡ InCell n) → (x : ℕ) × (cell_of fl i.context n i.held ≡ Some x)
  pub no_store : (i : Item) (n : ℕ) → Contains net.waiting i → (i.inlet.part ≡ InCell n) → is_store (block_in fl i.context) n ≡ false
  -- what waits meets another word, asks, or is of a loop
  pub waits : (i : Item) → Contains net.waiting i
      → (in_slot fl i ≡ true) ⊎ ((is_asked i.inlet.part ≡ true)
      ⊎ ((is_in_cell i.inlet.part ≡ true) ⊎ ((n : ℕ) × ((i.inlet.part ≡ Giver n) ⊎ ((i.inlet.part ≡ Taker n) ⊎ (i.inlet.part ≡ Drainer n))))))
  -- memory, the done mark, and which frames are out
  pub seen : SameSeen m.store (memory_of fl net.fired)
  pub done : (m.store.done ≡ true → HasFired Main Done net.fired) × (HasFired Main Done net.fired → m.store.done ≡ true)
  pub out : (c : Context) (g : ℕ) → frame_at fl net.fired c ≡ Some g
      → (m.store.out g ≡ false → HasFired c Freed net.fired) × (HasFired c Freed net.fired → m.store.out g ≡ false)
  pub not_out : (g : ℕ) → m.store.out g ≡ true → (c : Context) × (frame_at fl net.fired c ≡ Some g)

-- WHAT A RUN HAS DONE so far, to the extent that the clauses speak of it
pub record Stepped : Type 0 where
  pub taken : Token
  pub made : List Token
  pub left : Machine

pub record Past : Type 0 where
  pub events : Events
  pub handed : List ℕ
  pub steps : List Stepped
  pub granted : ℕ → Holder → ℕ
  pub released : ℕ → ℕ → ℕ

abbrev pub no_past : Past
no_past = record { events = []; handed = 0 ∷ []; steps = []; granted = λ f h. 0; released = λ f base. 0 }

abbrev pub after : (p : Plan) → Past → ℕ → Token → Store → List Token → Machine → Past
after p q e t old made new = record {
  events = q.events ++ (e, t) ∷ [];
  handed = q.handed ++ handed_by t.to made;
  steps = q.steps ++ record { taken = t; made = made; left = new } ∷ [];
  granted = λ f h. q.granted f h + granted_at p p.program f h old t.to;
  released = λ f base. q.released f base + released_at p.program f base t.to made;
}

-- an arc into the port was used
abbrev pub WasUsed : Plan → List Stepped → ℕ → ℕ → Port → Type 0
WasUsed p steps f ip r = (s : Stepped) × Contains steps s × UsesArc p f ip r s.taken s.made s.left

-- no cell is asked: these requests are tokens only where their index is good
abbrev pub is_cell_token : Token → Bool
is_cell_token t = elim t.to as (λ x. Bool) [ To.Fetch x ↦ true | To.Store x v ↦ true | _ ↦ false ]

abbrev pub but_cells : List Token → List Token
but_cells ts = flat_map (λ (t : Token). if is_cell_token t then [] else t ∷ []) ts

abbrev pub events_taken : Events → List Token
events_taken events = map (λ (ev : ℕ × Token). ev.1) events

-- all that came, each once
abbrev pub came : Flow → Config → List Item
came fl net = net.pending ++ (net.waiting ++ flat_map (λ (f : Firing). own_takes fl f f.part) net.fired)

abbrev pub is_entry_part : Block ℕ → Part → Bool
is_entry_part b Entry = true
is_entry_part b (Line n) = nat_lt n b.inputs
is_entry_part b r = false

-- THE RUN AND THE NET
pub record Tracks (fl : Flow) (p : Plan) (w : Wires) (inputs : List ℤ) (q : Past) (m : Machine) : Type 0 where
  pub net : Config
  pub moves : ProperMoves fl w (begin inputs) net
  pub stands : Mirrors fl p w m net
  pub met : IsPermutation (but_cells (events_taken q.events ++ m.pool))
      (map (token_of fl p w net.fired) (only (λ (i : Item). not (is_in_cell i.inlet.part)) (came fl net)))
  pub handed : (g : ℕ) → Contains (0 ∷ frames_of fl net.fired) g → Contains q.handed g
  pub caused : (i : Item) → Contains net.pending i → (is_instr i.inlet.part ≡ true) → (is_entry_part (block_in fl i.context) i.inlet.part ≡ false)
      → WasUsed p q.steps (frame_of fl net.fired i.context) (ip_of fl p w i.context i.inlet.part) i.inlet.port
  -- a continuation's arcs were used before it came
  pub asked : (i : Item) (d : Context) (x : Inlet) (n : ℕ) → Contains (net.pending ++ net.waiting) i → i.word ≡ BackTo d x → n < row_of fl p w d x.part
      → WasUsed p q.steps (frame_of fl net.fired d) (ip_of fl p w d x.part + n) x.port
  pub credits : (c : Context) (n : ℕ) → IsContext fl c → is_loop (block_in fl c) n ≡ true → KeepsCredits fl p w net c n
  -- the counts of loops
  pub granted : (c : Context) (n g : ℕ) → IsContext fl c → is_loop (block_in fl c) n ≡ true → frame_at fl net.fired c ≡ Some g
      → q.granted g (record { block = code_in fl w c; number = (wiring_in fl w c).slot (Opener n) }) ≡ granted_of net c n
  pub no_other : (g : ℕ) (h : Holder) → 0 < q.granted g h
      → (c : Context) × (n : ℕ) × IsContext fl c × (is_loop (block_in fl c) n ≡ true) × (frame_at fl net.fired c ≡ Some g)
      × (h ≡ record { block = code_in fl w c; number = (wiring_in fl w c).slot (Opener n) })
  pub released : (c : Context) (n g : ℕ) → IsContext fl c → is_loop (block_in fl c) n ≡ true → frame_at fl net.fired c ≡ Some g
      → q.released g (ip_of fl p w c (Landing n 0)) ≡ items_at c (Giver n) (came fl net)
  -- no turn of a frame that no context has
  pub none_released : (g base : ℕ) → 0 < q.released g base → (c : Context) × (frame_at fl net.fired c ≡ Some g)
