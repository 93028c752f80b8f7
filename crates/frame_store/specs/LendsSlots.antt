-- What slots end as, where one of them was lent.
use Rattle.std.specs.Prelude.{ℕ, List, Option, slice_set}
use Rattle.std.specs.Borrow.{LendsIf, Array, Fml, MutBor}
use Rattle.tags.specs.declared.slot.SlotState.{SlotState}
use Rattle.frame_store.specs.contracts.slot.Slot as slot

-- the slots end with the state that the lent one is left in, and all others as they were
abbrev pub LendsSlot : MutBor (List SlotState) → ℕ → Option (MutBor SlotState) → Fml
LendsSlot s number r = LendsIf (Array slot.the_row 0) slot.the_row s r (slice_set s.now number) s.now
