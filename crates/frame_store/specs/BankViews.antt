-- A bank that is lent: where its slots are among those after it.
use Rattle.std.specs.Prelude.{◌≡◌, ℕ, ◌+◌, ◌*◌, ◌≤◌, List, length}
use Rattle.std.specs.Borrow.{GName}
use Rattle.tags.specs.declared.slot.SlotState.{SlotState}
use Rattle.frame_store.specs.declared.bank.BankMut.{BankMut}

abbrev pub bank_name : BankMut → GName
bank_name b = b.slots.ghost_name

-- the states of the slots after it
abbrev pub bank_states : BankMut → List SlotState
bank_states b = b.slots.now

-- all its frames are among the slots after it
abbrev pub IsBank : BankMut → Type 0
IsBank b = b.start + b.frames * b.width ≤ length b.slots.now

-- where slot r of frame f is
abbrev pub place_in : BankMut → ℕ → ℕ → ℕ
place_in b f r = b.start + (f * b.width + r)

-- a bank of the same slots and frames
pub record SameBank (old new : BankMut) : Type 0 where
  pub name : bank_name new ≡ bank_name old
  pub start : new.start ≡ old.start
  pub frames : new.frames ≡ old.frames
  pub width : new.width ≡ old.width
