-- What happens in one cell, stated of all cells.
use Rattle.std.proofs.Common.{◌≡◌, ℕ, ◌<◌, List, length, set, map, replicate, get_or, Some, sym, ap, ◌∙◌, arith, subst}
use Rattle.std.specs.Prelude.{slice_get, option_and_then}
use Rattle.tags.specs.declared.value.Value.{Value}
use Rattle.tags.specs.declared.token.Cont.{Cont}
use Rattle.semantics.specs.Machine.{CellState, Vacant}
use Rattle.istructure.specs.declared.FetchAnswer.{FetchAnswer}
use Rattle.istructure.specs.declared.StoreAnswer.{StoreAnswer}
use Rattle.istructure.specs.OwnCells.{OwnCells, place_of, cell_at, with_cell_at, waiting_in, waiting_at, own_count, all_vacant}
use Rattle.istructure.specs.Answered.{FetchedAt, StoredAt}
use Rattle.istructure.specs.Steps.{CellFetched, CellStored}
use Rattle.std.proofs.lemmas.List.{set-get_or, map-set, get_or-map, length-map}
use Rattle.std.proofs.lemmas.Option.{get_or_from_slice_get, slice_get-get_or}
use Rattle.istructure.specs.declared.cell.Cell.{Cell}
use Rattle.istructure.specs.CellStates.{state_of}
use Rattle.istructure.proofs.Places.{place_is, cell_at-place}

-- a state that is put back changes nothing
pub set-slice_get : {A : Type 0} (xs : List A) (k : ℕ) (y : A) → slice_get xs k ≡ Some y → set xs k y ≡ xs
set-slice_get xs k y e = subst (λ z. set xs k z ≡ xs) (get_or_from_slice_get xs k y y e) (set-get_or xs k y)

abbrev pub with_states : OwnCells → List CellState → OwnCells
with_states own states = record { element = own.element; elements = own.elements; states = states }

module _ (own : OwnCells) (x k : ℕ) (old new : CellState) (p : place_of own x ≡ Some k) (s : slice_get own.states k ≡ Some old) where
  at_cell : cell_at own x ≡ Some old
  at_cell = cell_at-place own x k p ∙ s

  kept : new ≡ old → with_states own (set own.states k new) ≡ own
  kept e = ap (with_states own) (ap (set own.states k) e ∙ set-slice_get own.states k old s)

  waits : (readers : List Cont) → waiting_in old ≡ Some readers → waiting_at own x ≡ Some readers
  waits readers e = ap (option_and_then waiting_in) at_cell ∙ e

  changed : (y : CellState) → new ≡ y → with_states own (set own.states k new) ≡ with_cell_at own x y
  changed y e = ap (with_states own) (ap (set own.states k) e ∙ ap (λ n. set own.states n y) (sym (place_is own x k p).here))

  pub fetched_of_cell : (c : Cont) (a : FetchAnswer) → CellFetched old c a new → FetchedAt own x c a (with_states own (set own.states k new))
  fetched_of_cell c (FetchAnswer.Now v) h = (at_cell ∙ ap (λ (y : CellState). Some y) h.0, kept h.1)
  fetched_of_cell c FetchAnswer.Deferred h = (h.0, waits h.0 h.1, changed _ h.2)
  fetched_of_cell c FetchAnswer.NotHere h = absurd h
  fetched_of_cell c FetchAnswer.Memory h = ((h.0.0, waits h.0.0 h.0.1), kept h.1)

  pub stored_of_cell : (v : Value) (room : ℕ) (before after : List Cont) (a : StoreAnswer) → CellStored old v room before a new after
      → StoredAt own x v room before a (with_states own (set own.states k new)) after
  stored_of_cell v room before after StoreAnswer.Stored h = (h.0, waits h.0 h.1, changed _ h.2, h.3)
  stored_of_cell v room before after StoreAnswer.Second h = ((h.0.0, at_cell ∙ ap (λ (y : CellState). Some y) h.0.1), kept h.1, h.2)
  stored_of_cell v room before after StoreAnswer.NotHere h = absurd h
  stored_of_cell v room before after StoreAnswer.Memory h = ((h.0.0, waits h.0.0 h.0.1, h.0.2), kept h.1, h.2)

-- THE CELLS IN MEMORY
abbrev pub seen : {A : Type 0} → ℕ → ℕ → List (Cell A) → OwnCells
seen e es cells = record { element = e; elements = es; states = map state_of cells }

module _ {A : Type 0} (own : OwnCells) (e es : ℕ) (cells : List (Cell A)) (x k : ℕ) (held after : Cell A)
    (view_is : seen e es cells ≡ own) (p : place_of own x ≡ Some k) (at : held ≡ get_or cells k held) where
  place_in : place_of (seen e es cells) x ≡ Some k
  place_in = ap (λ o. place_of o x) view_is ∙ p

  state_in : slice_get (map state_of cells) k ≡ Some (state_of held)
  state_in =
      let within : k < length (map state_of cells) = (place_is (seen e es cells) x k place_in).within in
      let fits : k < length cells = subst (λ n. k < n) (length-map cells state_of) within in
      slice_get-get_or (map state_of cells) k (state_of held) within
      ∙ ap (λ (y : CellState). Some y) (get_or-map state_of cells k held (state_of held) fits ∙ ap state_of (sym at))

  pub fetched_of_cells : (c : Cont) (a : FetchAnswer) → CellFetched (state_of held) c a (state_of after) → FetchedAt own x c a (seen e es (set cells k after))
  fetched_of_cells c a h =
      let one = fetched_of_cell (seen e es cells) x k (state_of held) (state_of after) place_in state_in c a h in
      subst (λ o. FetchedAt o x c a (seen e es (set cells k after))) view_is
      (subst (λ ss. FetchedAt (seen e es cells) x c a record { element = e; elements = es; states = ss }) (sym (map-set state_of cells k after)) one)

  pub stored_of_cells : (v : Value) (room : ℕ) (before later : List Cont) (a : StoreAnswer) → CellStored (state_of held) v room before a
      (state_of after) later → StoredAt own x v room before a (seen e es (set cells k after)) later
  stored_of_cells v room before later a h =
      let one = stored_of_cell (seen e es cells) x k (state_of held) (state_of after) place_in state_in v room before later a h in
      subst (λ o. StoredAt o x v room before a (seen e es (set cells k after)) later) view_is
      (subst (λ ss. StoredAt (seen e es cells) x v room before a record { element = e; elements = es; states = ss } later)
      (sym (map-set state_of cells k after)) one)

-- the element's number is below the number of elements
pub elements_above : {A : Type 0} (own : OwnCells) (e es : ℕ) (cells : List (Cell A)) → seen e es cells ≡ own → e < es → 0 < own.elements
elements_above own e es cells view_is h = subst (λ o. 0 < o.elements) view_is (omega arith)

-- cells that were all made vacant, as many as the element owns
pub seen_vacant : {A : Type 0} (count e es : ℕ) (cells : List (Cell A)) (n : ℕ) → map state_of cells ≡ replicate n Vacant → n ≡ own_count count e es
    → all_vacant count e es ≡ seen e es cells
seen_vacant count e es cells n h all = ap (with_states (all_vacant count e es)) (sym (h ∙ ap (λ k. replicate k Vacant) all))
