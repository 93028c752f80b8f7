-- The books of a run: of each event the number of the token that it took, what it changed, and the tokens that it made.
use Rattle.std.specs.Prelude.{◌≡◌, ℕ, ◌+◌, ℤ, Bool, true, false, nat_lt, List, [], ◌∷◌, ◌++◌, length, drop, remove, Option, Some, None, slice_get}
use Rattle.std.specs.List.{range_with_len}
use Rattle.tags.specs.declared.token.Cont.{Cont}
use Rattle.tags.specs.declared.token.Word.{Word}
use Rattle.tags.specs.declared.token.To.{To}
use Rattle.tags.specs.declared.token.Token.{Token}
use Rattle.semantics.specs.Program.{Program, instr_at}
use Rattle.semantics.specs.Machine.{CellState, Full, Deferred, Store, Machine, Size, Event, Events, at_start, outputs_of, slot_used, with_slot, with_cell}
use Rattle.semantics.specs.Machine.{with_out, with_requests, with_output, with_done}
use Rattle.frame_order.specs.InOrder.{IsInOrder}
use Rattle.replay.specs.declared.entry.Change.{Change}
use Rattle.replay.specs.declared.entry.Change.TheVariants as change
use Rattle.replay.specs.Views.{EntryView, BooksView}
use Rattle.replay.specs.Moments.{deed_of}

-- CHANGES. The store after a change of it: one slot, cell, frame, request or output is another, and all else is as it was.
abbrev pub readers_of : CellState → List Cont
readers_of (Deferred readers) = readers
readers_of state = []

abbrev pub changed : Change → Store → Store
changed change.Nothing s = s
changed (change.Slot f r v) s = with_slot s f r v
changed (change.Reader x c) s = with_cell s x (Deferred (readers_of (s.cells x) ++ c ∷ []))
changed (change.Filled x v) s = with_cell s x (Full v)
changed (change.Out f) s = with_out s f true
changed (change.Free f) s = with_out s f false
changed (change.Queued c) s = with_requests s (s.requests ++ c ∷ [])
changed (change.Handed f) s = with_requests s (drop 1 s.requests)
changed (change.Output j v) s = with_output s j v
changed (change.Done j w) s = with_done s

-- and after all of these, one after the other
abbrev pub all_changed : List Change → Store → Store
all_changed [] s = s
all_changed (c ∷ cs) s = all_changed cs (changed c s)

-- the slot that an instruction uses, if it uses one, has the state that the store has
abbrev pub slot_change : Store → ℕ → Option ℕ → Change
slot_change new f None = change.Nothing
slot_change new f (Some r) = change.Slot f r (new.slots f r)

-- the frame that is handed out is what the answer carries
abbrev pub frame_change : Word → Change
frame_change (Word.Frame f) = change.Out f
frame_change w = change.Nothing

-- a word for the host goes to an output, or to the port after the outputs
abbrev pub host_change : Bool → ℕ → Word → Change
host_change true j (Word.Val v) = change.Output j v
host_change true j w = change.Nothing
host_change false j w = change.Done j w

-- What an event changed: it took a token to this address with this word and made these tokens, and the machine has this store after it.
abbrev pub change_of : Program → Store → To → Word → List Token → Change
change_of p new (To.Instr f ip port) w made = slot_change new f (slot_used (instr_at p ip))
change_of p new (To.Fetch x) (Word.Back c) [] = change.Reader x c
change_of p new (To.Store x v) w made = change.Filled x v
change_of p new To.Manager (Word.Back c) [] = change.Queued c
change_of p new To.Manager w (t ∷ ts) = frame_change t.word
change_of p new (To.Release f) w [] = change.Free f
change_of p new (To.Release f) w (t ∷ ts) = change.Handed f
change_of p new (To.Host j) w made = host_change (nat_lt j (outputs_of p)) j w
change_of p new to w made = change.Nothing

-- THE BOOKS at a moment: the machine's store; the tokens that are on their way, in the order in which they were made, with the number of
-- each; and the number that the next one gets.
pub record Book : Type 0 where
  pub store : Store
  pub pool : List Token
  pub numbers : List ℕ
  pub next : ℕ

abbrev pub machine_of : Book → Machine
machine_of b = record { store = b.store; pool = b.pool }

-- before the first event
abbrev pub opened_on : Machine → Book
opened_on m = record { store = m.store; pool = m.pool; numbers = range_with_len 0 (length m.pool); next = length m.pool }

abbrev pub opening : Program → List ℤ → Book
opening p inputs = opened_on (at_start p inputs)

-- The entry of an event that took this token on this element, with the books before it and after it.
pub record IsEntry (p : Program) (z : Size) (e : ℕ) (t : Token) (old new : Book) (x : EntryView) : Type 0 where
  pub event : Event p z e t (machine_of old) (machine_of new)
  pub made : x.made ≡ event.made
  pub deed : x.deed ≡ deed_of p old.store new.store t.to x.made
  pub change : x.change ≡ change_of p new.store t.to t.word x.made
  -- THE BOOKS ARE COMPLETE: the store after the event is the store before it with this change.
  pub complete : new.store ≡ changed x.change old.store
  -- the token was on its way and had this number
  pub place : ℕ
  pub token : slice_get old.pool place ≡ Some t
  pub number : slice_get old.numbers place ≡ Some x.number
  -- it is on its way no more, and those that were made are, with the next numbers
  pub pool : new.pool ≡ remove old.pool place ++ x.made
  pub numbers : new.numbers ≡ remove old.numbers place ++ range_with_len old.next (length x.made)
  pub next : new.next ≡ old.next + length x.made
  pub in_order : IsInOrder old.store t.to x.made new.store

-- These are the entries of the events, from the books as they were to the books as they are then.
abbrev pub AreEntries : Program → Size → Book → Events → List EntryView → Book → Type 0
AreEntries p z old [] [] new = new ≡ old
AreEntries p z old (ev ∷ later) (x ∷ xs) new = (mid : Book) × IsEntry p z ev.0 ev.1 old mid x × AreEntries p z mid later xs new
AreEntries p z old events entries new = ⊥

-- EARLIER EVENTS, of which less is recorded: there are entries of them, from the books as they were to the books as they are then, and these changes
-- lead from the one store to the other.
pub record Passed (p : Program) (z : Size) (old : Book) (events : Events) (changes : List Change) (new : Book) : Type 0 where
  pub entries : List EntryView
  pub are : AreEntries p z old events entries new
  pub sum : all_changed changes old.store ≡ new.store

-- THE BOOKS OF A RUN'S EVENTS from one on, of a run on these inputs: what the machine has before the first of them, and their entries.
pub record KeepsBooks (p : Program) (z : Size) (inputs : List ℤ) (earlier events : Events) (books : BooksView) : Type 0 where
  pub first : Book
  pub passed : Passed p z (opening p inputs) earlier books.changes first
  pub tokens : books.tokens ≡ first.pool
  pub numbers : books.numbers ≡ first.numbers
  pub next : books.next ≡ first.next
  pub last : Book
  pub entries : AreEntries p z first events books.entries last
