-- How the books of a run are kept: on one lane that holds the whole machine.
use Rattle.std.specs.Prelude.{◌≡◌, ℕ, ◌+◌, ◌*◌, ◌^◌, ◌<◌, ◌≤◌, ◌==◌, nat_lt, if◌then◌else◌, ℤ, List, [], ◌∷◌, length, sum, Option, Some, None, slice_get, ⊤}
use Rattle.std.specs.Prelude.{All}
use Rattle.tags.specs.declared.token.Port.TheVariants.{Left}
use Rattle.tags.specs.declared.token.Cont.{Cont}
use Rattle.tags.specs.declared.token.Word.{Word}
use Rattle.tags.specs.declared.token.To.{To}
use Rattle.tags.specs.declared.token.Token.{Token}
use Rattle.tags.specs.declared.slot.SlotState.{SlotState}
use Rattle.tags.specs.declared.slot.SlotState.TheVariants.{Empty}
use Rattle.semantics.specs.Program.{Program, instr_at, first_of}
use Rattle.semantics.specs.Rule.{token}
use Rattle.semantics.specs.Machine.{Store, Machine, Size, Event, Events, Happens, outputs_of, slot_used, input_tokens}
use Rattle.element.specs.Parts.{IsPart}
use Rattle.element.specs.Holding.{Holding, LaneView, IsFor, IsSoundLane, fixed_of, with_queue}
use Rattle.frame_order.specs.InOrder.{OrderedRun, IsOrdered}
use Rattle.element.specs.Openings.{StartsAs}
use Rattle.element.specs.Steps.{Does}
use Rattle.replay.specs.declared.moment.Deed.{Deed}
use Rattle.replay.specs.declared.moment.Deed.TheVariants as deed
use Rattle.replay.specs.declared.fault.ReplayRefusal.{ReplayRefusal}
use Rattle.replay.specs.declared.fault.ReplayRefusal.TheVariants.{NotARun, Memory}
use Rattle.replay.specs.declared.entry.Change.{Change}
use Rattle.replay.specs.declared.entry.Change.TheVariants as change
use Rattle.replay.specs.declared.extent.Extent.{Extent}
use Rattle.replay.specs.declared.slots.Place.{Place}
use Rattle.replay.specs.declared.ledger.Ledger.{Ledger}
use Rattle.replay.specs.Moments.{at_slot}
use Rattle.replay.specs.Views.{EntryView, BooksView}
use Rattle.replay.specs.Books.{Book, IsEntry, AreEntries, Passed, KeepsBooks, machine_of, opening, frame_change, host_change}

-- The numbers are those of the program and of its machine.
pub record IsExtent (p : Program) (width : ℕ) (x : Extent) : Type 0 where
  pub elements : 0 < x.elements
  pub some_frames : 0 < x.frames
  pub few_frames : x.frames ≤ 16384
  pub some_slots : 0 < x.slots
  pub few_slots : x.slots ≤ 512
  pub slots : width ≤ x.slots
  pub cells : x.cells ≡ sum p.arrays
  pub main : x.main ≡ first_of p p.main
  pub short : x.main < 2 ^ 30
  pub outputs : x.outputs ≡ outputs_of p
  pub few_outputs : x.outputs ≤ 16

-- the slot that a token's instruction uses, if it uses one
abbrev pub place_in : ℕ → Option ℕ → Option Place
place_in f None = None
place_in f (Some r) = Some record { frame = f; slot = r }

abbrev pub place_used : Program → To → Option Place
place_used p (To.Instr f ip port) = place_in f (slot_used (instr_at p ip))
place_used p to = None

abbrev pub state_at : Store → Option Place → SlotState
state_at s None = Empty
state_at s (Some x) = s.slots x.frame x.slot

-- the deed of a token that found a slot in the one state, left it in the other, and made so many tokens
abbrev pub deed_by : To → SlotState → SlotState → ℕ → Deed
deed_by (To.Instr f ip port) before after made = at_slot before after
deed_by (To.Fetch x) before after made = if made == 0 then deed.Deferred else deed.Answered
deed_by (To.Store x v) before after made = if nat_lt made 2 then deed.Stored else deed.Served
deed_by To.Manager before after made = if made == 0 then deed.Queued else deed.Given
deed_by (To.Release f) before after made = if made == 0 then deed.Freed else deed.HandedOn
deed_by (To.Host j) before after made = deed.Arrived

abbrev pub place_change : Option Place → SlotState → Change
place_change None after = change.Nothing
place_change (Some x) after = change.Slot x.frame x.slot after

abbrev pub request_change : Word → Option Token → Change
request_change w (Some answer) = frame_change answer.word
request_change (Word.Back c) None = change.Queued c
request_change w None = change.Nothing

abbrev pub fetch_change : ℕ → Word → ℕ → Change
fetch_change x (Word.Back c) made = if made == 0 then change.Reader x c else change.Nothing
fetch_change x w made = change.Nothing

-- its change, by the slot that it used and the state of that then
abbrev pub change_by : ℕ → To → Word → Option Place → SlotState → List Token → Change
change_by outputs (To.Instr f ip port) w used after made = place_change used after
change_by outputs (To.Fetch x) w used after made = fetch_change x w (length made)
change_by outputs (To.Store x v) w used after made = change.Filled x v
change_by outputs To.Manager w used after made = request_change w (slice_get made 0)
change_by outputs (To.Release f) w used after made = if length made == 0 then change.Free f else change.Handed f
change_by outputs (To.Host j) w used after made = host_change (nat_lt j outputs) j w

-- THE LANE is that of the one element of a machine of this extent, which runs the program, and is sound.
pub record IsWhole (p : Program) (x : Extent) (l : LaneView) : Type 0 where
  pub program : l.program ≡ p
  pub element : l.held.part.shape.element ≡ 0
  pub elements : l.held.part.shape.elements ≡ 1
  pub frames : l.held.part.shape.frames ≡ x.frames
  pub slots : l.held.part.shape.width ≡ x.slots
  pub sound : IsSoundLane l.program l.held

-- the slot is one of the machine's
abbrev pub IsThere : Extent → Place → Type 0
IsThere x y = (y.frame < x.frames) × (y.slot < x.slots)

-- in each machine of which the lane is the part, the slot has this state
abbrev pub StateIs : LaneView → Option Place → SlotState → Type 0
StateIs l place v = (s : Store) → IsPart l.held.part s → v ≡ state_at s place

-- THE TOKENS THAT ARE ON THEIR WAY, and their numbers from one on: each stands in the place of its number until it is taken.
abbrev pub on_way : List (Option Token) → List Token
on_way [] = []
on_way (None ∷ places) = on_way places
on_way (Some t ∷ places) = t ∷ on_way places

abbrev pub numbers_from : ℕ → List (Option Token) → List ℕ
numbers_from n [] = []
numbers_from n (None ∷ places) = numbers_from (n + 1) places
numbers_from n (Some t ∷ places) = n ∷ numbers_from (n + 1) places

-- The lane and the places have what the books have.
pub record Records (l : LaneView) (places : List (Option Token)) (b : Book) : Type 0 where
  pub part : IsPart l.held.part b.store
  pub pool : b.pool ≡ on_way places
  pub numbers : b.numbers ≡ numbers_from 0 places
  pub next : b.next ≡ length places

-- Whatever the books are that the ledger has, this is the entry of the event, and the ledger has the books after it.
abbrev pub Enters : {C A : Type 0} → Program → Ledger C A → ℕ × Token → EntryView → Ledger C A → Type 0
Enters p old ev x new = (z : Size) (b : Book) → z.elements ≡ old.extent.elements → z.elements * z.frames ≡ old.extent.frames
    → Records old.lane old.places.items b
    → (n : Book) × IsEntry p z ev.0 ev.1 b n x × Records new.lane new.places.items n

-- the same of all of these events
abbrev pub EntersAll : {C A : Type 0} → Program → Ledger C A → Events → List EntryView → Type 0
EntersAll p old events entries = (z : Size) (b : Book) → z.elements ≡ old.extent.elements → z.elements * z.frames ≡ old.extent.frames
    → Records old.lane old.places.items b
    → (n : Book) × AreEntries p z b events entries n

-- Whatever the books are that the ledger has, these events were entered and these are their changes, and the ledger has the books after them.
abbrev pub Passes : {C A : Type 0} → Program → Ledger C A → Events → List Change → Ledger C A → Type 0
Passes p old events changes new = (z : Size) (b : Book) → z.elements ≡ old.extent.elements → z.elements * z.frames ≡ old.extent.frames
    → Records old.lane old.places.items b
    → (n : Book) × Passed p z b events changes n × Records new.lane new.places.items n

-- The lane has no token, and can receive each that is on its way.
pub record IsReady {C A : Type 0} (g : Ledger C A) : Type 0 where
  pub idle : g.lane.held.queue ≡ []
  pub near : All (IsFor (fixed_of g.lane)) (on_way g.places.items)

-- The lane, which had no token, took this one, and was left without those that this made.
pub record Took (p : Program) (old : LaneView) (t : Token) (made : List Token) (new : LaneView) : Type 0 where
  pub between : Holding
  pub sent : List Token
  pub does : Does p (with_queue old.held (t ∷ [])) 0 [] between sent
  pub made_are : made ≡ between.queue
  pub after : new.held ≡ with_queue between []

-- WHAT IS NO RUN. Where the fault is that there is none, this is so.
abbrev pub Says : ReplayRefusal → Type 0 → Type 0
Says NotARun P = P
Says Memory P = ⊤

-- In no machine of which the lane is the part, a rule lets the token act.
abbrev pub IsExcluded : LaneView → Token → Type 0
IsExcluded l t = (s n : Store) (total : ℕ) (made : List Token) → IsPart l.held.part s → Happens l.program total s t.to t.word made n → ⊥

-- the same of the lane's oldest token
abbrev pub IsFirstExcluded : LaneView → Type 0
IsFirstExcluded l = (t : Token) → slice_get l.held.queue 0 ≡ Some t → IsExcluded l t

-- Whatever the books are that the ledger has, there is no such event.
abbrev pub IsUnfit : {C A : Type 0} → Program → Ledger C A → ℕ × Token → Type 0
IsUnfit p old ev = (z : Size) (b : Book) → z.elements ≡ old.extent.elements → z.elements * z.frames ≡ old.extent.frames
    → Records old.lane old.places.items b → (m : Machine) → Event p z ev.0 ev.1 (machine_of b) m → ⊥

-- there is no run in order by these events
abbrev pub AreUnfit : {C A : Type 0} → Program → Ledger C A → Events → Type 0
AreUnfit p old events = (z : Size) (b : Book) → z.elements ≡ old.extent.elements → z.elements * z.frames ≡ old.extent.frames
    → Records old.lane old.places.items b → (last : Machine) → OrderedRun p z (machine_of b) events last → ⊥

-- No machine of this extent has a run by these events, from the start on these inputs on, in which the free frame of least number is handed out,
-- and a released frame goes to the request that has waited longest.
abbrev pub HasNoRun : Program → Extent → List ℤ → Events → Type 0
HasNoRun p x inputs events = (z : Size) → z.elements ≡ x.elements → z.elements * z.frames ≡ x.frames → IsOrdered p z inputs events → ⊥

-- THE START
abbrev pub start_tokens : ℕ → List ℤ → List Token
start_tokens first inputs = token (To.Instr 0 first Left) (Word.Back (Cont.Host 0)) ∷ input_tokens (first + 1) inputs

-- the lane is the machine at the start except for its tokens
pub record IsFreshLane (p : Program) (x : Extent) (l : LaneView) : Type 0 where
  pub whole : IsWhole p x l
  pub queue : l.held.queue ≡ []
  pub starts : StartsAs p l.held.part

-- nothing is entered yet
pub record IsBlank {C A : Type 0} (p : Program) (g : Ledger C A) : Type 0 where
  pub lane : IsFreshLane p g.extent g.lane
  pub places : g.places.items ≡ []

-- the ledger has the books of the start on these inputs
abbrev pub Begins : {C A : Type 0} → Program → List ℤ → Ledger C A → Type 0
Begins p inputs new = Records new.lane new.places.items (opening p inputs)

-- THE BOOKS of the events, from the start on these inputs on
abbrev pub AreBooks : Program → Extent → List ℤ → Events → Events → BooksView → Type 0
AreBooks p x inputs earlier events books = (z : Size) → z.elements ≡ x.elements → z.elements * z.frames ≡ x.frames
    → KeepsBooks p z inputs earlier events books
