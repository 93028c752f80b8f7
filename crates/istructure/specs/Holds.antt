-- The cells of one element as the machine's cells, and its events that concern them.
use Rattle.std.specs.Prelude.{◌≡◌, ℕ, List, [], ◌∷◌, ◌++◌, Some}
use Rattle.tags.specs.declared.value.Value.{Value}
use Rattle.tags.specs.declared.token.Cont.{Cont}
use Rattle.tags.specs.declared.token.Word.{Word}
use Rattle.tags.specs.declared.token.Token.{Token}
use Rattle.semantics.specs.Machine.{CellState, Store, Fetches, Stores, answer, answers}
use Rattle.istructure.specs.declared.FetchAnswer.{FetchAnswer}
use Rattle.istructure.specs.declared.StoreAnswer.{StoreAnswer}
use Rattle.istructure.specs.OwnCells.{OwnCells, cell_at}

-- each cell that the element owns is in the state that the machine has it in
abbrev pub HoldsCells : OwnCells → Store → Type 0
HoldsCells own s = (x : ℕ) (state : CellState) → cell_at own x ≡ Some state → s.cells x ≡ state

-- the token that answers a fetch
abbrev pub fetch_tokens : Cont → FetchAnswer → List Token
fetch_tokens c (FetchAnswer.Now v) = answer c (Word.Val v) ∷ []
fetch_tokens c a = []

abbrev pub IsFetchAnswer : FetchAnswer → Type 0
IsFetchAnswer FetchAnswer.NotHere = ⊥
IsFetchAnswer FetchAnswer.Memory = ⊥
IsFetchAnswer a = Unit {0}

-- A fetch that was answered or deferred is the machine's event, and the new cells hold what the machine then has.
abbrev pub FetchIsEvent : OwnCells → ℕ → Cont → FetchAnswer → OwnCells → Type 0
FetchIsEvent old x c a new = IsFetchAnswer a → (s : Store) → HoldsCells old s → (t : Store) × Fetches s x c (s.cells x) (fetch_tokens c a) t × HoldsCells new t

-- A store that was made is the machine's event: its readers are answered, and last the continuation of the store.
abbrev pub StoreIsEvent : OwnCells → ℕ → Value → StoreAnswer → OwnCells → List Cont → List Cont → Type 0
StoreIsEvent old x v StoreAnswer.Stored new before after =
    (c : Cont) (s : Store) → HoldsCells old s → (readers : List Cont) × (t : Store) × (after ≡ before ++ readers)
    × Stores s x v c (s.cells x) (answers (readers ++ c ∷ []) v) t × HoldsCells new t
StoreIsEvent old x v a new before after = Unit {0}
