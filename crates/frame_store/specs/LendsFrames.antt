-- What a store ends as, where a frame of it was lent, and went into one of its slots.
use Rattle.std.specs.Prelude.{ℕ}
use Rattle.std.specs.Borrow.{follows, MutBor, Fml, RattleType}
use Rattle.std.specs.declared.alloc.Allocator.{Ghosts}
use Rattle.tags.specs.declared.slot.SlotState.{SlotState}
use Rattle.frame_store.specs.contracts.slot.Slot as slot
use Rattle.frame_store.specs.contracts.store.Store as store
use Rattle.frame_store.specs.declared.frame.FrameMut.{FrameMut}
use Rattle.frame_store.specs.Slots.{with_state}

-- the store that the frame is of ends with the state that the slot at the place is left in, and with all others as they were
abbrev pub LendsSlotOf : (A : RattleType) → Ghosts A.Denot → FrameMut A.Denot → ℕ → MutBor SlotState → Fml
LendsSlotOf A alloc f place r = follows (store.the_row A alloc) slot.the_row f.store.ghost_name r.ghost_name (with_state f.store.now place)
