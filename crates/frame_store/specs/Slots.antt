-- The slots of all frames, in banks.
use Rattle.std.specs.Prelude.{◌≡◌, ℕ, ◌+◌, ◌*◌, ◌<◌, List, length, replicate, slice_index_or, slice_set}
use Rattle.tags.specs.declared.slot.SlotState.{SlotState}
use Rattle.tags.specs.declared.slot.SlotState.TheVariants.{Empty}

-- the numbers of elements, of frames an element and of slots a frame; bank by bank and frame by frame the states of the slots
pub record Slots : Type 0 where
  pub elements : ℕ
  pub frames : ℕ
  pub width : ℕ
  pub states : List SlotState

abbrev pub bank_size : Slots → ℕ
bank_size s = s.frames * s.width

abbrev pub all_empty : ℕ → ℕ → ℕ → Slots
all_empty elements frames width = record { elements = elements; frames = frames; width = width; states = replicate (elements * (frames * width)) Empty }

-- where slot r of frame f of an element is
abbrev pub place_of : Slots → ℕ → ℕ → ℕ → ℕ
place_of s e f r = e * bank_size s + (f * s.width + r)

abbrev pub state_at : Slots → ℕ → ℕ → ℕ → SlotState
state_at s e f r = slice_index_or s.states (place_of s e f r) Empty

-- the slot at a place has this state, and every other slot of every frame of every element is as it was
abbrev pub with_state : Slots → ℕ → SlotState → Slots
with_state s place w = record { elements = s.elements; frames = s.frames; width = s.width; states = slice_set s.states place w }

-- there is such a slot
pub record IsSlot (s : Slots) (e f r : ℕ) : Type 0 where
  pub element : e < s.elements
  pub frame : f < s.frames
  pub slot : r < s.width

-- Once a slot was set, it has the state that it was set to, and every other slot has the state that it had.
abbrev pub SlotsStandApart : Type 0
SlotsStandApart = (s : Slots) (e f r : ℕ) → IsSlot s e f r → place_of s e f r < length s.states → (w : SlotState) →
    (state_at (with_state s (place_of s e f r) w) e f r ≡ w)
    × ((d g q : ℕ) → IsSlot s d g q → (e ≡ d → f ≡ g → r ≡ q → ⊥) → state_at (with_state s (place_of s e f r) w) d g q ≡ state_at s d g q)
