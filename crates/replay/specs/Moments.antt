-- What each event of a run did, and what the machine holds after it.
use Rattle.std.specs.Prelude.{◌≡◌, ℕ, ◌*◌, List, [], ◌∷◌, length, IsPermutation}
use Rattle.tags.specs.declared.token.To.{To}
use Rattle.tags.specs.declared.token.Token.{Token}
use Rattle.tags.specs.declared.slot.SlotState.{SlotState}
use Rattle.tags.specs.declared.slot.SlotState.TheVariants as Slot
use Rattle.tags.specs.declared.slot.SlotState.TheVariants.{Empty, Credits, Waiter, Draining}
use Rattle.semantics.specs.Program.{Program, instr_at}
use Rattle.semantics.specs.Machine.{Store, Machine, Size, Event, Events, slot_in, slot_used}
use Rattle.semantics.specs.Report.{sum_below, one_if}
use Rattle.replay.specs.declared.moment.Deed.{Deed}
use Rattle.replay.specs.declared.moment.Deed.TheVariants as deed
use Rattle.replay.specs.declared.moment.Moment.{Moment}

-- 1 for a slot that is not empty
abbrev pub fullness : SlotState → ℕ
fullness Empty = 0
fullness state = 1

-- how many slots of the first `total` frames are not empty; no frame has more than 512
abbrev pub count_full : ℕ → Store → ℕ
count_full total s = sum_below total (λ f. sum_below 512 (λ r. fullness (s.slots f r)))

-- how many of the first `total` frames are out
abbrev pub count_out : ℕ → Store → ℕ
count_out total s = sum_below total (λ f. one_if (s.out f))

-- What a token did at an instruction, by the state of the instruction's slot before the event and after it. The token waits where the
-- slot holds it then and did not before: as the first word of two, which waits for the other; as the request of a `take` that found no
-- credit, which is queued for the next one; or as a `drain`, which waits for the credits that are out. Else the instruction has fired,
-- also where it makes nothing and its slot is not empty then: `open` puts credits there, a `take` takes one of them, and a `give` adds
-- one, gives it to the request, or reduces what the drain waits for. A `drain` that finds all credits there, and the `give` that brings
-- the last one to a drain that waits, leave the slot empty.
abbrev pub at_slot : SlotState → SlotState → Deed
at_slot Empty (Slot.Left w) = deed.Waited
at_slot Empty (Slot.Right w) = deed.Waited
at_slot (Credits n) (Waiter c) = deed.Queued
at_slot (Credits n) (Draining m) = deed.Waited
at_slot before after = deed.Fired

-- What an event did: it took a token to this address and made these tokens, and the machine has these stores before it and after it.
abbrev pub deed_of : Program → Store → Store → To → List Token → Deed
deed_of p old new (To.Instr f ip port) made = let used = slot_used (instr_at p ip) in at_slot (slot_in old f used) (slot_in new f used)
deed_of p old new (To.Fetch x) [] = deed.Deferred
deed_of p old new (To.Fetch x) (t ∷ ts) = deed.Answered
deed_of p old new (To.Store x v) (t ∷ u ∷ ts) = deed.Served
deed_of p old new (To.Store x v) made = deed.Stored
deed_of p old new To.Manager [] = deed.Queued
deed_of p old new To.Manager (t ∷ ts) = deed.Given
deed_of p old new (To.Release f) [] = deed.Freed
deed_of p old new (To.Release f) (t ∷ ts) = deed.HandedOn
deed_of p old new (To.Host j) made = deed.Arrived

-- The moment of an event that took this token and made these tokens, between these machines.
pub record IsMoment (p : Program) (z : Size) (t : Token) (made : List Token) (old new : Machine) (x : Moment) : Type 0 where
  pub deed : x.deed ≡ deed_of p old.store new.store t.to made
  pub tokens : x.tokens ≡ length new.pool
  pub full_slots : x.full_slots ≡ count_full (z.elements * z.frames) new.store
  pub frames_out : x.frames_out ≡ count_out (z.elements * z.frames) new.store

-- A run of the machine by these events, with the moment of each.
abbrev pub Watches : Program → Size → Machine → Events → List Moment → Machine → Type 0
Watches p z old [] [] new = IsPermutation old.pool new.pool × (new.store ≡ old.store)
Watches p z old (ev ∷ later) (x ∷ xs) new = (mid : Machine) × (e : Event p z ev.0 ev.1 old mid) × IsMoment p z ev.1 e.made old mid x
    × Watches p z mid later xs new
Watches p z old events moments new = ⊥
