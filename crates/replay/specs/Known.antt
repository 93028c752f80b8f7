-- What is held of a machine while its events are replayed.
use Rattle.std.specs.Prelude.{◌≡◌, ◌==◌, ℕ, length, Bool, Option, Some, None}
use Rattle.std.specs.HashMap as hash
use Rattle.tags.specs.declared.slot.SlotState.{SlotState}
use Rattle.tags.specs.declared.slot.SlotState.TheVariants.{Empty}
use Rattle.semantics.specs.Machine.{CellState, Vacant, Full, Deferred, Store}
use Rattle.replay.specs.declared.slots.Place.{Place}
use Rattle.replay.specs.declared.slots.Slots.{Slots}
use Rattle.replay.specs.declared.cells.Cell.{Cell}
use Rattle.replay.specs.declared.cells.Cell.TheVariants as cell
use Rattle.replay.specs.declared.cells.Cells.{Cells}
use Rattle.replay.specs.declared.state.State.{State}
use Rattle.replay.specs.contracts.slots.PlacePartialEq.TheImpl as place_eq
use Rattle.replay.specs.Moments.{count_full, count_out}

abbrev pub same_place : Place → Place → Bool
same_place = (place_eq.ghosts).eq

abbrev pub state_or_empty : Option SlotState → SlotState
state_or_empty None = Empty
state_or_empty (Some state) = state

-- the state of a slot of a frame
abbrev pub held : {A : Type 0} → Slots A → ℕ → ℕ → SlotState
held slots f r = state_or_empty (hash.get same_place slots.states (record { frame = f; slot = r }))

abbrev pub cell_or_vacant : Option Cell → Cell
cell_or_vacant None = cell.Vacant
cell_or_vacant (Some c) = c

-- what is known of a cell
abbrev pub kept : {A : Type 0} → Cells A → ℕ → Cell
kept cells x = cell_or_vacant (hash.get (λ a b. a == b) cells.states x)

-- what is known of a cell of the machine
abbrev pub known : CellState → Cell
known Vacant = cell.Vacant
known (Full v) = cell.Full
known (Deferred readers) = cell.Deferred (length readers)

-- It holds what the machine's store has.
pub record Holds {A : Type 0} (h : State A) (s : Store) : Type 0 where
  pub slots : (f r : ℕ) → held h.slots f r ≡ s.slots f r
  pub cells : (x : ℕ) → kept h.cells x ≡ known (s.cells x)
  pub full : h.slots.full ≡ count_full h.frames s
  pub out : h.frames_out ≡ count_out h.frames s
  pub requests : h.requests ≡ length s.requests
