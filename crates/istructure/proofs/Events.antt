-- A fetch and a store are the machine's events.
use Rattle.std.proofs.Common.{◌≡◌, ℕ, ◌/◌, ◌<◌, List, [], ◌∷◌, ◌++◌, length, set, get_or, Option, Some, None, sym, ap, ◌∙◌, refl, subst, ⊎_elim}
use Rattle.std.specs.Prelude.{slice_get, option_and_then}
use Rattle.std.proofs.lemmas.Bool.{cases_eq}
use Rattle.std.proofs.lemmas.List.{get_or-set_same, get_or-set_other, length-set}
use Rattle.std.proofs.lemmas.Option.{slice_get-get_or, get_or_from_slice_get, same_Some}
use Rattle.tags.specs.declared.value.Value.{Value}
use Rattle.tags.specs.declared.token.Cont.{Cont}
use Rattle.semantics.specs.Machine.{CellState, Vacant, Full, Deferred, Store, with_cell, Fetches, Stores, answers}
use Rattle.semantics.proofs.Stores.{put_other, put_same}
use Rattle.istructure.specs.declared.FetchAnswer.{FetchAnswer}
use Rattle.istructure.specs.declared.StoreAnswer.{StoreAnswer}
use Rattle.istructure.specs.OwnCells.{OwnCells, place_of, cell_at, with_cell_at, waiting_in}
use Rattle.istructure.specs.Answered.{FetchedAt, StoredAt}
use Rattle.istructure.specs.Holds.{HoldsCells, FetchIsEvent, StoreIsEvent, fetch_tokens}
use Rattle.istructure.proofs.Places.{place_is, is_place, cell_at-place, place_from_state, one_cell}

-- WHAT A CHANGED CELL LEAVES
module _ (own : OwnCells) (x : ℕ) (old new : CellState) (e : cell_at own x ≡ Some old) where
  same_place : (y k : ℕ) → place_of (with_cell_at own x new) y ≡ Some k → place_of own y ≡ Some k
  same_place y k p =
      let q = place_is (with_cell_at own x new) y k p in
      is_place own y k record { ours = q.ours; here = q.here; within = subst (λ n. k < n) (length-set own.states _ new) q.within }

  pub state_there : (state : CellState) → cell_at (with_cell_at own x new) x ≡ Some state → state ≡ new
  state_there state h =
      let w = place_from_state (with_cell_at own x new) x state h in
      let q = place_is own x w.0 (same_place x w.0 w.1) in
      let f : slice_get (set own.states (x / own.elements) new) (x / own.elements)
      ≡ Some state = subst (λ n. slice_get (set own.states (x / own.elements) new) n ≡ Some state) (sym q.here) w.2 in
      let within : x / own.elements < length own.states = subst (λ n. n < length own.states) (sym q.here) q.within in
      sym (get_or_from_slice_get (set own.states (x / own.elements) new) (x / own.elements) state new f)
      ∙ get_or-set_same own.states (x / own.elements) new new within

  pub state_elsewhere : 0 < own.elements → (y : ℕ) (state : CellState) → (x ≡ y → ⊥) → cell_at (with_cell_at own x new) y ≡ Some state → cell_at own y
      ≡ Some state
  state_elsewhere pos y state ne h =
      let w = place_from_state (with_cell_at own x new) y state h in
      let p = same_place y w.0 w.1 in
      let v = place_from_state own x old e in
      let q = place_is own y w.0 p in
      let r = place_is own x v.0 v.1 in
      let apart : w.0 ≡ x / own.elements → ⊥ = λ same. ne (one_cell own x y w.0 pos record { ours = r.ours; here = sym same; within = q.within } q) in
      let at_old : get_or own.states w.0 state ≡ state = sym (get_or-set_other own.states (x / own.elements) w.0 new state apart)
      ∙ get_or_from_slice_get (set own.states (x / own.elements) new) w.0 state state w.2 in
      cell_at-place own y w.0 p ∙ slice_get-get_or own.states w.0 state q.within ∙ ap (λ (z : CellState). Some z) at_old

  pub holds_changed : 0 < own.elements → (s : Store) → HoldsCells own s → HoldsCells (with_cell_at own x new) (with_cell s x new)
  holds_changed pos s h y state f = ⊎_elim
      (λ (same : x ≡ y). put_same s.cells x y new same ∙ sym (state_there state (subst (λ z. cell_at (with_cell_at own x new) z ≡ Some state) (sym same) f)))
      (λ (ne : x ≡ y → ⊥). put_other s.cells x y new ne ∙ h y state (state_elsewhere pos y state ne f))
      (cases_eq x y)

-- a cell in which readers wait is vacant or deferred
fetches_where : (s : Store) (x : ℕ) (c : Cont) (state : CellState) (readers : List Cont) → waiting_in state ≡ Some readers
    → Fetches s x c state [] (with_cell s x (Deferred (readers ++ c ∷ [])))
fetches_where s x c Vacant readers e = (refl, ap (λ rs. with_cell s x (Deferred (rs ++ c ∷ []))) (sym (same_Some _ _ e)))
fetches_where s x c (Deferred others) readers e = (refl, ap (λ rs. with_cell s x (Deferred (rs ++ c ∷ []))) (sym (same_Some _ _ e)))
fetches_where s x c (Full v) readers e = cc

stores_where : (s : Store) (x : ℕ) (v : Value) (c : Cont) (state : CellState) (readers : List Cont) → waiting_in state ≡ Some readers
    → Stores s x v c state (answers (readers ++ c ∷ []) v) (with_cell s x (Full v))
stores_where s x v c Vacant readers e = (ap (λ rs. answers (rs ++ c ∷ []) v) (sym (same_Some _ _ e)), refl)
stores_where s x v c (Deferred others) readers e = (ap (λ rs. answers (rs ++ c ∷ []) v) (sym (same_Some _ _ e)), refl)
stores_where s x v c (Full w) readers e = cc

-- the state of a cell in which readers wait
waiting_state : (o : Option CellState) (readers : List Cont) → option_and_then waiting_in o ≡ Some readers → (state : CellState) × (o ≡ Some state)
    × (waiting_in state ≡ Some readers)
waiting_state None readers e = cc
waiting_state (Some state) readers e = (state, refl, e)

pub fetch_is_event : (old : OwnCells) (x : ℕ) (c : Cont) (a : FetchAnswer) (new : OwnCells) → 0 < old.elements → FetchedAt old x c a new
    → FetchIsEvent old x c a new
fetch_is_event old x c (FetchAnswer.Now v) new pos h = λ good s holds. (
  s,
  subst (λ state. Fetches s x c state (fetch_tokens c (FetchAnswer.Now v)) s) (sym (holds x (Full v) h.0)) (refl, refl),
  subst
      (λ own. HoldsCells own s) (sym h.1) holds,
)
fetch_is_event old x c FetchAnswer.Deferred new pos h = λ good s holds.
    let w = waiting_state (cell_at old x) h.0 h.1 in (
      with_cell s x (Deferred (h.0 ++ c ∷ [])),
      subst (λ state. Fetches s x c state [] (with_cell s x (Deferred (h.0 ++ c ∷ [])))) (sym (holds x w.0 w.1)) (fetches_where s x c w.0 h.0 w.2),
      subst (λ own. HoldsCells own (with_cell s x (Deferred (h.0 ++ c ∷ [])))) (sym h.2) (holds_changed old x w.0 (Deferred (h.0 ++ c ∷ [])) w.1 pos s holds),
    )
fetch_is_event old x c FetchAnswer.NotHere new pos h = λ bad. absurd bad
fetch_is_event old x c FetchAnswer.Memory new pos h = λ bad. absurd bad

pub store_is_event : (old : OwnCells) (x : ℕ) (v : Value) (room : ℕ) (before after : List Cont) (a : StoreAnswer) (new : OwnCells) → 0 < old.elements
    → StoredAt old x v room before a new after → StoreIsEvent old x v a new before after
store_is_event old x v room before after StoreAnswer.Stored new pos h = λ c s holds.
    let w = waiting_state (cell_at old x) h.0 h.1 in (
      h.0,
      with_cell s x (Full v),
      h.3,
      subst (λ state. Stores s x v c state (answers (h.0 ++ c ∷ []) v) (with_cell s x (Full v))) (sym (holds x w.0 w.1)) (stores_where s x v c w.0 h.0 w.2),
      subst (λ own. HoldsCells own (with_cell s x (Full v))) (sym h.2) (holds_changed old x w.0 (Full v) w.1 pos s holds),
    )
store_is_event old x v room before after StoreAnswer.Second new pos h = tt
store_is_event old x v room before after StoreAnswer.NotHere new pos h = tt
store_is_event old x v room before after StoreAnswer.Memory new pos h = tt
