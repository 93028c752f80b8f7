-- What a store ends as, where a slot of it was lent.
use Rattle.std.specs.Prelude.{ℕ}
use Rattle.std.specs.Borrow.{Lends, Fml, MutBor, RattleType}
use Rattle.std.specs.declared.alloc.Allocator.{Ghosts}
use Rattle.tags.specs.declared.slot.SlotState.{SlotState}
use Rattle.frame_store.specs.contracts.slot.Slot as slot
use Rattle.frame_store.specs.contracts.store.Store as store
use Rattle.frame_store.specs.Slots.{Slots, with_state}

-- the store ends with the state that the slot at the place is left in, and with all others as they were
abbrev pub LendsSlotAt : (A : RattleType) → Ghosts A.Denot → MutBor Slots → ℕ → MutBor SlotState → Fml
LendsSlotAt A alloc s place r = Lends (store.the_row A alloc) slot.the_row s r (with_state s.now place)
