-- What a fetch and a store do with one cell.
use Rattle.std.specs.Prelude.{◌≡◌, ℕ, ◌+◌, ◌<◌, List, ◌∷◌, [], ◌++◌, length, Some}
use Rattle.tags.specs.declared.value.Value.{Value}
use Rattle.tags.specs.declared.token.Cont.{Cont}
use Rattle.semantics.specs.Machine.{CellState, Full, Deferred}
use Rattle.istructure.specs.declared.FetchAnswer.{FetchAnswer}
use Rattle.istructure.specs.declared.StoreAnswer.{StoreAnswer}
use Rattle.istructure.specs.OwnCells.{waiting_in}

-- the readers that a store answers
abbrev pub readers_of : CellState → List Cont
readers_of (Deferred readers) = readers
readers_of state = []

abbrev pub CellFetched : CellState → Cont → FetchAnswer → CellState → Type 0
CellFetched old c (FetchAnswer.Now v) new = (old ≡ Full v) × (new ≡ old)
CellFetched old c FetchAnswer.Deferred new = (readers : List Cont) × (waiting_in old ≡ Some readers) × (new ≡ Deferred (readers ++ c ∷ []))
CellFetched old c FetchAnswer.NotHere new = ⊥
CellFetched old c FetchAnswer.Memory new = ((readers : List Cont) × (waiting_in old ≡ Some readers)) × (new ≡ old)

abbrev pub CellStored : CellState → Value → (room : ℕ) → List Cont → StoreAnswer → CellState → List Cont → Type 0
CellStored old v room answers StoreAnswer.Stored new after = (readers : List Cont) × (waiting_in old ≡ Some readers) × (new ≡ Full v)
    × (after ≡ answers ++ readers)
CellStored old v room answers StoreAnswer.Second new after = ((w : Value) × (old ≡ Full w)) × (new ≡ old) × (after ≡ answers)
CellStored old v room answers StoreAnswer.NotHere new after = ⊥
CellStored old v room answers StoreAnswer.Memory new after = ((readers : List Cont) × (waiting_in old ≡ Some readers)
    × (room < length answers + length readers)) × (new ≡ old) × (after ≡ answers)
