-- One element's part of the machine.
use Rattle.std.specs.Prelude.{◌≡◌, ◌≢◌, ℕ, ◌+◌, ◌*◌, ◌/◌, ◌%◌, ◌<◌, ◌≤◌, Bool, List, length, All, Option, Some, None, slice_index_or, sum}
use Rattle.tags.specs.declared.value.Value.{Value}
use Rattle.tags.specs.declared.slot.SlotState.{SlotState}
use Rattle.tags.specs.declared.slot.SlotState.TheVariants.{Empty}
use Rattle.semantics.specs.Program.{Program}
use Rattle.semantics.specs.Machine.{Store, outputs_of}
use Rattle.istructure.specs.OwnCells.{OwnCells}
use Rattle.istructure.specs.Holds.{HoldsCells}
use Rattle.frame_manager.specs.Managed.{Managed}
use Rattle.frame_manager.specs.Answered.{HoldsFrames}
use Rattle.element.specs.Near.{Bounds, IsNearCont, IsNearSlot, IsNearCell}

-- which element of how many it is, and how its slots lie: how many frames, how many slots each has, and the place of the first one
pub record Shape : Type 0 where
  pub element : ℕ
  pub elements : ℕ
  pub start : ℕ
  pub frames : ℕ
  pub width : ℕ

-- All but the tokens. Element 0 has the manager, the outputs and the done mark.
pub record Part : Type 0 where
  pub shape : Shape
  pub states : List SlotState
  pub cells : OwnCells
  pub manager : Option Managed
  pub outputs : List (Option Value)
  pub done : Bool

-- where slot r of the machine's frame f is among the states: the element's frames are f with f mod elements = element
abbrev pub slot_place : Shape → ℕ → ℕ → ℕ
slot_place z f r = z.start + ((f / z.elements) * z.width + r)

abbrev pub Manages : Option Managed → Store → Type 0
Manages None s = ⊥
Manages (Some m) s = HoldsFrames m s

-- The part is the machine's for this element: the slots of its frames, its cells, and on element 0 which frames are out,
-- who waits for one, the outputs and the done mark.
pub record IsPart (h : Part) (s : Store) : Type 0 where
  pub slots : (f r : ℕ) → f % h.shape.elements ≡ h.shape.element → f < h.shape.elements * h.shape.frames → r < h.shape.width → s.slots f r
      ≡ slice_index_or h.states (slot_place h.shape f r) Empty
  pub cells : HoldsCells h.cells s
  pub manager : h.shape.element ≡ 0 → Manages h.manager s
  pub outputs : h.shape.element ≡ 0 → (j : ℕ) → s.outputs j ≡ slice_index_or h.outputs j None
  pub done : h.shape.element ≡ 0 → s.done ≡ h.done

-- what lies on other elements is as it was
pub record SameElsewhere (z : Shape) (old new : Store) : Type 0 where
  pub slots : (f r : ℕ) → f % z.elements ≢ z.element → new.slots f r ≡ old.slots f r
  pub cells : (x : ℕ) → x % z.elements ≢ z.element → new.cells x ≡ old.cells x
  pub out : z.element ≢ 0 → new.out ≡ old.out
  pub requests : z.element ≢ 0 → new.requests ≡ old.requests
  pub outputs : z.element ≢ 0 → new.outputs ≡ old.outputs
  pub done : z.element ≢ 0 → new.done ≡ old.done

-- how many frames and cells the machine has
abbrev pub bounds : Program → Shape → Bounds
bounds p z = record { frames = z.elements * z.frames; cells = sum p.arrays }

abbrev pub IsSoundManager : Bounds → Option Managed → Type 0
IsSoundManager b None = ⊥
IsSoundManager b (Some m) = (length m.out ≡ b.frames) × All (IsNearCont b) m.requests

-- what holds of it at all times
pub record IsSound (p : Program) (h : Part) : Type 0 where
  pub there : h.shape.element < h.shape.elements
  pub bank : h.shape.start + h.shape.frames * h.shape.width ≤ length h.states
  pub slots : All (IsNearSlot (bounds p h.shape)) h.states
  pub own_element : h.cells.element ≡ h.shape.element
  pub own_elements : h.cells.elements ≡ h.shape.elements
  -- it has each cell that lies on it
  pub own : (x : ℕ) → x % h.shape.elements ≡ h.shape.element → x < sum p.arrays → x / h.shape.elements < length h.cells.states
  pub readers : All (IsNearCell (bounds p h.shape)) h.cells.states
  pub manager : h.shape.element ≡ 0 → IsSoundManager (bounds p h.shape) h.manager
  pub outputs : h.shape.element ≡ 0 → length h.outputs ≡ outputs_of p
