-- The banks that are still to be lent.
use Rattle.std.specs.Prelude.{◌≡◌, ℕ, ◌<◌, List, length, take, drop, Option, Some, None}
use Rattle.std.specs.Slice.Iter.{chunks_exact_mut_rest, chunks_exact_mut_size}
use Rattle.tags.specs.declared.slot.SlotState.{SlotState}
use Rattle.frame_store.specs.declared.bank.BankMut.{BankMut}
use Rattle.frame_store.specs.declared.bank.Banks.{Banks}
use Rattle.frame_store.specs.BankViews.{bank_states}

-- the states of the slots whose banks are not lent yet
abbrev pub remaining_of : Banks → List SlotState
remaining_of b = chunks_exact_mut_rest b.chunks

abbrev pub size_of : Banks → ℕ
size_of b = chunks_exact_mut_size b.chunks

-- the next bank is made of the first slots that are left, and no later one has them
abbrev pub BankComes : Banks → Option BankMut → Banks → Type 0
BankComes old None new = (length (remaining_of old) < size_of old) × (remaining_of new ≡ remaining_of old)
BankComes old (Some b) new = (bank_states b ≡ take (size_of old) (remaining_of old)) × (remaining_of new ≡ drop (size_of old) (remaining_of old))
    × (b.start ≡ 0) × (b.frames ≡ old.frames) × (b.width ≡ old.width)

abbrev pub KeepsShape : Banks → Banks → Type 0
KeepsShape old new = (size_of new ≡ size_of old) × (new.frames ≡ old.frames) × (new.width ≡ old.width)
