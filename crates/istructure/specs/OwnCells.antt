-- The cells that one element owns, as contracts see them.
use Rattle.std.specs.Prelude.{ℕ, ◌+◌, ◌-◌, ◌/◌, ◌%◌, ◌==◌, nat_lt, List, [], length, replicate, Option, Some, None, option_and_then, slice_get}
use Rattle.std.specs.Prelude.{slice_set, if◌then◌else◌}
use Rattle.tags.specs.declared.value.Value.{Value}
use Rattle.tags.specs.declared.token.Cont.{Cont}
use Rattle.semantics.specs.Machine.{CellState, Vacant, Full, Deferred, value_in, reader_count}

-- the k-th state is that of cell `element + k * elements`
pub record OwnCells : Type 0 where
  pub element : ℕ
  pub elements : ℕ
  pub states : List CellState

-- where the state of cell x is, where the element owns it
abbrev pub place_of : OwnCells → ℕ → Option ℕ
place_of own x = if x % own.elements == own.element then (if nat_lt (x / own.elements) (length own.states) then Some (x / own.elements) else None) else None

-- the state of cell x, where the element owns it
abbrev pub cell_at : OwnCells → ℕ → Option CellState
cell_at own x = option_and_then (slice_get own.states) (place_of own x)

-- the same cells with another state at cell x
abbrev pub with_cell_at : OwnCells → ℕ → CellState → OwnCells
with_cell_at own x state = record { element = own.element; elements = own.elements; states = slice_set own.states (x / own.elements) state }

-- how many of all cells the element owns
abbrev pub own_count : ℕ → ℕ → ℕ → ℕ
own_count cells element elements = (cells + elements - 1 - element) / elements

abbrev pub all_vacant : ℕ → ℕ → ℕ → OwnCells
all_vacant cells element elements = record { element = element; elements = elements; states = replicate (own_count cells element elements) Vacant }

-- the readers that wait for a cell, where it is not full
abbrev pub waiting_in : CellState → Option (List Cont)
waiting_in Vacant = Some []
waiting_in (Deferred readers) = Some readers
waiting_in (Full v) = None

abbrev pub waiting_at : OwnCells → ℕ → Option (List Cont)
waiting_at own x = option_and_then waiting_in (cell_at own x)

abbrev pub value_at : OwnCells → ℕ → Option Value
value_at own x = option_and_then value_in (cell_at own x)

abbrev pub readers_in : Option CellState → ℕ
readers_in None = 0
readers_in (Some state) = reader_count state
