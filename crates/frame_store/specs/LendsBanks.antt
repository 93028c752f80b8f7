-- What a bank that is lent out of the store ends as, where a slot of it was lent.
use Rattle.std.specs.Prelude.{ℕ, []}
use Rattle.std.specs.Borrow.{Lends, MutBor, Fml, RattleType}
use Rattle.std.specs.declared.alloc.Allocator.{Ghosts}
use Rattle.tags.specs.declared.slot.SlotState.{SlotState}
use Rattle.frame_store.specs.contracts.slot.Slot as slot
use Rattle.frame_store.specs.contracts.store_bank.StoreBank as bank
use Rattle.frame_store.specs.declared.store_bank.StoreBank.{StoreBank}
use Rattle.frame_store.specs.Slots.{Slots, with_state}
use mir.Syntax.{named}

-- the bank, with its store as it is now
abbrev pub over : {a : Type 0} → StoreBank a → Slots → StoreBank a
over b s = record b { store = record b.store { now = s } }

-- the bank's store ends with the state that the slot at the place is left in, and with all others as they were
abbrev pub LendsSlotIn : (A : RattleType) → Ghosts A.Denot → MutBor (StoreBank A.Denot) → ℕ → MutBor SlotState → Fml
LendsSlotIn A alloc b place r = Lends (bank.the_row (record { mir = named 1; lft = [] }) A alloc) slot.the_row b r
    (λ w. over b.now (with_state b.now.store.now place w))
