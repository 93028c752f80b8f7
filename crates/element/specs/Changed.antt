-- Changes of a part, each in one place.
use Rattle.std.specs.Prelude.{◌≡◌, ℕ, ◌<◌, true, false, length, Option, Some, None, Result, Ok, Err, slice_set, slice_index_or, IsSome, ⊤}
use Rattle.std.specs.declared.alloc.AllocError.{AllocError}
use Rattle.tags.specs.declared.value.Value.{Value}
use Rattle.tags.specs.declared.token.Cont.{Cont}
use Rattle.tags.specs.declared.slot.SlotState.{SlotState}
use Rattle.istructure.specs.OwnCells.{OwnCells, cell_at}
use Rattle.frame_manager.specs.declared.NotOut.{NotOut}
use Rattle.frame_manager.specs.Managed.{Managed}
use Rattle.frame_manager.specs.Answered.{Requested, Released, RequestIsEvent, ReleaseIsEvent}
use Rattle.tags.specs.declared.slot.SlotState.TheVariants.{Empty}
use Rattle.tags.specs.declared.token.Word.{Word}
use Rattle.semantics.specs.Machine.{Store, host_rule}
use Rattle.element.specs.declared.contents.host.HostChange.{HostChange}
use Rattle.element.specs.declared.contents.host.HostChange.TheVariants.{Output, Done}
use Rattle.element.specs.Parts.{Part, slot_place}

abbrev pub with_state : Part → ℕ → SlotState → Part
with_state h place v = record { shape = h.shape; states = slice_set h.states place v; cells = h.cells; manager = h.manager; outputs = h.outputs; done = h.done }

abbrev pub with_cells : Part → OwnCells → Part
with_cells h cells = record { shape = h.shape; states = h.states; cells = cells; manager = h.manager; outputs = h.outputs; done = h.done }

abbrev pub with_manager : Part → Option Managed → Part
with_manager h manager = record { shape = h.shape; states = h.states; cells = h.cells; manager = manager; outputs = h.outputs; done = h.done }

abbrev pub with_output : Part → ℕ → Value → Part
with_output h j v = record { shape = h.shape; states = h.states; cells = h.cells; manager = h.manager; outputs = slice_set h.outputs j (Some v); done = h.done }

abbrev pub with_done : Part → Part
with_done h = record { shape = h.shape; states = h.states; cells = h.cells; manager = h.manager; outputs = h.outputs; done = true }

-- what the manager answers
abbrev pub IsRequested : Option Managed → Cont → Result (Option ℕ) AllocError → Option Managed → Type 0
IsRequested (Some m) c r (Some n) = Requested m c r n × RequestIsEvent m c r n
IsRequested m c r n = ⊥

abbrev pub IsReleased : Option Managed → ℕ → Result (Option (Cont × ℕ)) NotOut → Option Managed → Type 0
IsReleased (Some m) f r (Some n) = Released m f r n × ReleaseIsEvent m f r n
IsReleased m f r n = ⊥

-- the slot that an instruction uses in a frame of the machine, if it uses one
abbrev pub state_in : Part → ℕ → Option ℕ → SlotState
state_in h f None = Empty
state_in h f (Some r) = slice_index_or h.states (slot_place h.shape f r) Empty

abbrev pub with_state_in : Part → ℕ → Option ℕ → SlotState → Part
with_state_in h f None v = h
with_state_in h f (Some r) v = with_state h (slot_place h.shape f r) v

-- with a state at a place, if there is one
abbrev pub with_place : Part → Option ℕ → SlotState → Part
with_place h None v = h
with_place h (Some place) v = with_state h place v

-- the cell lies here
abbrev pub OwnsCell : Part → ℕ → Type 0
OwnsCell h x = IsSome (cell_at h.cells x)

-- what a token for the host fills, or the rule that excludes it
abbrev pub IsHostChange : Part → ℕ → Word → Result HostChange ℕ → Type 0
IsHostChange h j w (Ok (Output v)) = (j < length h.outputs) × (slice_index_or h.outputs j None ≡ None) × (w ≡ Word.Val v)
IsHostChange h j w (Ok Done) = (j ≡ length h.outputs) × (h.done ≡ false)
IsHostChange h j w (Err rule) = (s : Store) → ((k : ℕ) → s.outputs k ≡ slice_index_or h.outputs k None) → s.done ≡ h.done
    → host_rule (length h.outputs) s j w ≡ Some rule

abbrev pub CanFill : Part → ℕ → HostChange → Type 0
CanFill h j (Output v) = j < length h.outputs
CanFill h j Done = ⊤

abbrev pub filled : Part → ℕ → HostChange → Part
filled h j (Output v) = with_output h j v
filled h j Done = with_done h
