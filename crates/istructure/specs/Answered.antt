-- What a fetch and a store answer, and what they leave.
use Rattle.std.specs.Prelude.{◌≡◌, ℕ, ◌+◌, ◌<◌, List, ◌∷◌, [], ◌++◌, length, Some, None}
use Rattle.tags.specs.declared.value.Value.{Value}
use Rattle.tags.specs.declared.token.Cont.{Cont}
use Rattle.semantics.specs.Machine.{Full, Deferred}
use Rattle.istructure.specs.declared.FetchAnswer.{FetchAnswer}
use Rattle.istructure.specs.declared.StoreAnswer.{StoreAnswer}
use Rattle.istructure.specs.OwnCells.{OwnCells, cell_at, with_cell_at, waiting_at}

-- A FETCH. A full cell answers, and stays; else the reader is the last of those that wait. Memory is answered only
-- where a reader has to be stored.
abbrev pub FetchedAt : OwnCells → ℕ → Cont → FetchAnswer → OwnCells → Type 0
FetchedAt old x c (FetchAnswer.Now v) new = (cell_at old x ≡ Some (Full v)) × (new ≡ old)
FetchedAt old x c FetchAnswer.Deferred new = (readers : List Cont) × (waiting_at old x ≡ Some readers)
    × (new ≡ with_cell_at old x (Deferred (readers ++ c ∷ [])))
FetchedAt old x c FetchAnswer.NotHere new = (cell_at old x ≡ None) × (new ≡ old)
FetchedAt old x c FetchAnswer.Memory new = ((readers : List Cont) × (waiting_at old x ≡ Some readers)) × (new ≡ old)

-- A STORE. A cell that is not full becomes full, and all its readers are answered, in the order in which they came.
-- Memory is answered only where there are readers and the list of answers has no room for them.
abbrev pub StoredAt : OwnCells → ℕ → Value → (room : ℕ) → List Cont → StoreAnswer → OwnCells → List Cont → Type 0
StoredAt old x v room answers StoreAnswer.Stored new after = (readers : List Cont) × (waiting_at old x ≡ Some readers)
    × (new ≡ with_cell_at old x (Full v)) × (after ≡ answers ++ readers)
StoredAt old x v room answers StoreAnswer.Second new after = ((w : Value) × (cell_at old x ≡ Some (Full w))) × (new ≡ old) × (after ≡ answers)
StoredAt old x v room answers StoreAnswer.NotHere new after = (cell_at old x ≡ None) × (new ≡ old) × (after ≡ answers)
StoredAt old x v room answers StoreAnswer.Memory new after = ((readers : List Cont) × (waiting_at old x ≡ Some readers)
    × (room < length answers + length readers)) × (new ≡ old) × (after ≡ answers)
