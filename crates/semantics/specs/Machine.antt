-- The machine: what it holds, its events, and its runs. An event takes one token that is addressed to an element,
-- changes only that element's part, and makes tokens.
use Rattle.std.specs.Prelude.{◌≡◌, ◌≢◌, ℕ, ◌+◌, ◌*◌, ◌<◌, Bool, true, false, ◌⊎◌, ℤ, List, [], ◌∷◌, ◌++◌, map, length, Option, Some, None, nat_lt}
use Rattle.std.specs.Prelude.{◌==◌, slice_get, if◌then◌else◌, IsPermutation}
use Rattle.tags.specs.declared.value.Value.{Value}
use Rattle.tags.specs.declared.value.Value.TheVariants.{Int}
use Rattle.tags.specs.declared.token.Port.TheVariants.{Left}
use Rattle.tags.specs.declared.token.Cont.{Cont}
use Rattle.tags.specs.declared.token.Word.{Word}
use Rattle.tags.specs.declared.token.To.{To}
use Rattle.tags.specs.declared.token.Token.{Token}
use Rattle.tags.specs.declared.slot.SlotState.{SlotState}
use Rattle.tags.specs.Addresses.{element_of}
use Rattle.tags.specs.declared.slot.SlotState.TheVariants.{Empty, Waiter}
use Rattle.semantics.specs.Program.{Instr, CodeBlock, Program, first_of, instr_at}
use Rattle.semantics.specs.Rule.{token, back_to, Outcome, Becomes, Excluded, rule_at, slot_of}

pub data CellState : Type 0 where
  Vacant : CellState
  Full : (value : Value) → CellState
  -- readers that wait, in the order in which they arrived
  Deferred : (readers : List Cont) → CellState

-- all that the machine holds except its tokens
pub record Store : Type 0 where
  pub slots : ℕ → ℕ → SlotState
  pub cells : ℕ → CellState
  -- whether a frame is out
  pub out : ℕ → Bool
  pub requests : List Cont
  pub outputs : ℕ → Option Value
  pub done : Bool

pub record Machine : Type 0 where
  pub store : Store
  pub pool : List Token

-- how many elements there are, and how many frames each has
pub record Size : Type 0 where
  pub elements : ℕ
  pub frames : ℕ

-- CHANGES OF THE STORE
abbrev pub put_at : {A : Type 0} → (ℕ → A) → ℕ → A → ℕ → A
put_at f x a y = if x == y then a else f y

abbrev pub with_slot : Store → ℕ → ℕ → SlotState → Store
with_slot s f r v = record {
  slots = put_at s.slots f (put_at (s.slots f) r v);
  cells = s.cells;
  out = s.out;
  requests = s.requests;
  outputs =
      s.outputs;
  done = s.done;
}

abbrev pub with_cell : Store → ℕ → CellState → Store
with_cell s x v = record { slots = s.slots; cells = put_at s.cells x v; out = s.out; requests = s.requests; outputs = s.outputs; done = s.done }

abbrev pub with_out : Store → ℕ → Bool → Store
with_out s f b = record { slots = s.slots; cells = s.cells; out = put_at s.out f b; requests = s.requests; outputs = s.outputs; done = s.done }

abbrev pub with_requests : Store → List Cont → Store
with_requests s cs = record { slots = s.slots; cells = s.cells; out = s.out; requests = cs; outputs = s.outputs; done = s.done }

abbrev pub with_output : Store → ℕ → Value → Store
with_output s j v = record { slots = s.slots; cells = s.cells; out = s.out; requests = s.requests; outputs = put_at s.outputs j (Some v); done = s.done }

abbrev pub with_done : Store → Store
with_done s = record { slots = s.slots; cells = s.cells; out = s.out; requests = s.requests; outputs = s.outputs; done = true }

abbrev pub answer : Cont → Word → Token
answer c w = token (back_to c) w

-- EVENTS. What a token does to the store, and the tokens that it makes
abbrev pub slot_in : Store → ℕ → Option ℕ → SlotState
slot_in s f None = Empty
slot_in s f (Some r) = s.slots f r

abbrev pub with_slot_in : Store → ℕ → Option ℕ → SlotState → Store
with_slot_in s f None v = s
with_slot_in s f (Some r) v = with_slot s f r v

abbrev pub slot_used : Option Instr → Option ℕ
slot_used None = None
slot_used (Some i) = slot_of i i.op

abbrev pub Fires : Store → ℕ → Option ℕ → Outcome → List Token → Store → Type 0
Fires old f r (Excluded rule) made new = ⊥
Fires old f r (Becomes slot tokens) made new = (made ≡ tokens) × (new ≡ with_slot_in old f r slot)

abbrev pub Fetches : Store → ℕ → Cont → CellState → List Token → Store → Type 0
Fetches old x c Vacant made new = (made ≡ []) × (new ≡ with_cell old x (Deferred (c ∷ [])))
Fetches old x c (Deferred readers) made new = (made ≡ []) × (new ≡ with_cell old x (Deferred (readers ++ c ∷ [])))
Fetches old x c (Full v) made new = (made ≡ answer c (Word.Val v) ∷ []) × (new ≡ old)

abbrev pub answers : List Cont → Value → List Token
answers cs v = map (λ c. answer c (Word.Val v)) cs

abbrev pub Stores : Store → ℕ → Value → Cont → CellState → List Token → Store → Type 0
Stores old x v c Vacant made new = (made ≡ answer c (Word.Val v) ∷ []) × (new ≡ with_cell old x (Full v))
Stores old x v c (Deferred readers) made new = (made ≡ answers (readers ++ c ∷ []) v) × (new ≡ with_cell old x (Full v))
Stores old x v c (Full w) made new = ⊥

-- any free frame is handed out, and a request waits where none is free
abbrev pub Requests : ℕ → Store → Cont → List Token → Store → Type 0
Requests total old c made new =
    ((f : ℕ) × (f < total) × (old.out f ≡ false) × (made ≡ answer c (Word.Frame f) ∷ []) × (new ≡ with_out old f true))
    ⊎ (((f : ℕ) → f < total → old.out f ≡ true) × (made ≡ []) × (new ≡ with_requests old (old.requests ++ c ∷ [])))

-- some request that waits gets the frame, and it is free where none waits
abbrev pub Releases : Store → ℕ → List Token → Store → Type 0
Releases old f made new =
    (old.out f ≡ true)
    × (((old.requests ≡ []) × (made ≡ []) × (new ≡ with_out old f false))
    ⊎ ((c : Cont) × (rest : List Cont) × IsPermutation old.requests (c ∷ rest) × (made ≡ answer c (Word.Frame f) ∷ []) × (new ≡ with_requests old rest)))

-- a token for the host fills an output, or the done mark, that was not filled
abbrev pub Hosts : ℕ → Store → ℕ → Word → List Token → Store → Type 0
Hosts results old j w made new =
    ((j < results) × (old.outputs j ≡ None) × ((v : Value) × (w ≡ Word.Val v) × (made ≡ []) × (new ≡ with_output old j v)))
    ⊎ ((j ≡ results) × (old.done ≡ false) × (made ≡ []) × (new ≡ with_done old))

abbrev pub results_in : Option CodeBlock → ℕ
results_in None = 0
results_in (Some b) = b.outputs

abbrev pub outputs_of : Program → ℕ
outputs_of p = results_in (slice_get p.blocks p.main)

abbrev pub Happens : Program → ℕ → Store → To → Word → List Token → Store → Type 0
Happens p total old (To.Instr f ip port) w made new =
    Fires old f (slot_used (instr_at p ip)) (rule_at p record { frame = f; ip = ip } (instr_at p ip) (slot_in old f (slot_used (instr_at p ip))) port
    w) made new
Happens p total old (To.Fetch x) (Word.Back c) made new = Fetches old x c (old.cells x) made new
Happens p total old (To.Store x v) (Word.Back c) made new = Stores old x v c (old.cells x) made new
Happens p total old To.Manager (Word.Back c) made new = Requests total old c made new
Happens p total old (To.Release f) w made new = Releases old f made new
Happens p total old (To.Host j) w made new = Hosts (outputs_of p) old j w made new
Happens p total old to w made new = ⊥

pub record Event (p : Program) (z : Size) (e : ℕ) (t : Token) (old new : Machine) : Type 0 where
  pub made : List Token
  pub rest : List Token
  pub addressed : element_of z.elements t.to ≡ e
  pub takes : IsPermutation old.pool (t ∷ rest)
  pub happens : Happens p (z.elements * z.frames) old.store t.to t.word made new.store
  pub leaves : IsPermutation new.pool (made ++ rest)

-- what happened: an element and the token that it took
abbrev pub Events : Type 0
Events = List (ℕ × Token)

abbrev pub Run : Program → Size → Machine → Events → Machine → Type 0
Run p z old [] new = IsPermutation old.pool new.pool × (new.store ≡ old.store)
Run p z old (ev ∷ later) new = (mid : Machine) × Event p z ev.0 ev.1 old mid × Run p z mid later new

-- main's frame is out, the continuation of the host goes to main's first instruction, and each input to the next ones
abbrev pub input_tokens : ℕ → List ℤ → List Token
input_tokens ip [] = []
input_tokens ip (x ∷ xs) = token (To.Instr 0 ip Left) (Word.Val (Int x)) ∷ input_tokens (ip + 1) xs

abbrev pub at_start : Program → List ℤ → Machine
at_start p inputs = record {
  store = record { slots = λ f r. Empty; cells = λ x. Vacant; out = λ f. f == 0; requests = []; outputs = λ j. None; done = false };
  pool = token (To.Instr 0 (first_of p p.main) Left) (Word.Back (Cont.Host 0)) ∷ input_tokens (first_of p p.main + 1) inputs;
}

abbrev pub Resting : Machine → Type 0
Resting m = m.pool ≡ []

-- a frame request or a credit request waits
abbrev pub Wants : Machine → Type 0
Wants m = (m.store.requests ≢ []) ⊎ ((f : ℕ) × (r : ℕ) × (c : Cont) × (m.store.slots f r ≡ Waiter c))

-- TOKENS THAT NO EVENT TAKES. The number of the rule that excludes a token.
abbrev pub excluded_by : Outcome → Option ℕ
excluded_by (Becomes slot made) = None
excluded_by (Excluded r) = Some r

abbrev pub unless_back : Word → Option ℕ
unless_back (Word.Back c) = None
unless_back w = Some 4

abbrev pub unless_value : Word → Option ℕ
unless_value (Word.Val v) = None
unless_value w = Some 4

abbrev pub filled : Option Value → Bool
filled None = false
filled (Some v) = true

abbrev pub host_rule : ℕ → Store → ℕ → Word → Option ℕ
host_rule results s j w =
    if nat_lt j results then (if filled (s.outputs j) then Some 6 else unless_value w)
    else if j == results then (if s.done then Some 6 else None) else Some 6

abbrev pub stuck_rule : Program → Store → To → Word → Option ℕ
stuck_rule p s (To.Instr f ip port) w = excluded_by (rule_at p record { frame = f; ip = ip } (instr_at p ip) (slot_in s f (slot_used (instr_at p ip))) port w)
stuck_rule p s (To.Fetch x) w = unless_back w
stuck_rule p s (To.Store x v) w = unless_back w
stuck_rule p s To.Manager w = unless_back w
stuck_rule p s (To.Release f) w = if s.out f then None else Some 5
stuck_rule p s (To.Host j) w = host_rule (outputs_of p) s j w

-- the readers of a cell, and its value
abbrev pub reader_count : CellState → ℕ
reader_count (Deferred readers) = length readers
reader_count c = 0

abbrev pub value_in : CellState → Option Value
value_in (Full v) = Some v
value_in c = None
