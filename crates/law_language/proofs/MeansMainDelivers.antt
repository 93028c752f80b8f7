-- From what main's body delivers to the memory in the end: its outputs, and its stores.
use Rattle.std.proofs.Common.{◌≡◌, ℕ, zero, suc, ◌<◌, ◌≤◌, ◌↔◌, ◌&&◌, ℤ, Bool, true, List, [], ◌∷◌, map, filter, Option, Some, None, IsPermutation, Contains}
use Rattle.std.proofs.Common.{if◌then◌else◌, refl, sym, ap, ap₂, ◌∙◌, subst, arith, lt-ltb, le-leb}
use Rattle.std.specs.Prelude.{slice_get}
use Rattle.std.proofs.lemmas.Option.{same_Some}
use Rattle.std.proofs.lemmas.List.Sorted.{IsPermutation-sym}
use Rattle.tags.specs.declared.value.Value.{Value}
use Rattle.semantics.specs.declared.graph.Source.{Source}
use Rattle.semantics.specs.Graph.{Node, Block, Flow, node_at, node_count}
use Rattle.semantics.specs.Meaning.{Context, Main, Called, Turned, State, Activity, Run, start, block_of, node_in, node_of}
use Rattle.lemmas.proofs.Permutations.{Within, Each, Spread, each_from, each_within, within_from, within_to, within_permutation, within_map, spread_map}
use Rattle.lemmas.proofs.Permutations.{spread_permutation, get_within}
use Rattle.lemmas.proofs.Contains.{contains_get, contains_mapped}
use Rattle.law_confluence.specs.EquationsHave.{Stored, stores_of, result_in, result_at}
use Rattle.law_confluence.specs.Equations.{IsDue, HasSome}
use Rattle.law_confluence.specs.EquationsSettled.{Settled}
use Rattle.law_confluence.proofs.EquationsGraphForms.{line_past, line_below}
use Rattle.source.specs.Evaluates.{Stores}
use Rattle.law_language.specs.MeansAgrees.{Have}
use Rattle.law_language.specs.MeansBelow.{node_under, is_within, is_below, cell_and_value, stores_below}
use Rattle.law_language.proofs.MeansHaving.{have_value, have_source}
use Rattle.law_language.proofs.MeansStoreLines.{stored_at}

-- LISTS
pub kept_all : {X : Type 0} (f : X → Bool) (xs : List X) → Each (λ x. f x ≡ true) xs → filter f xs ≡ xs
kept_all f [] h = refl
kept_all f (x ∷ xs) h = ap (λ (b : Bool). if b then x ∷ filter f xs else filter f xs) h.0 ∙ ap (λ l. x ∷ l) (kept_all f xs h.1)

pub within_true : (lo hi n : ℕ) → lo ≤ n → n < hi → is_within lo hi (Some n) ≡ true
within_true lo hi n low high = ap₂ (λ (a b : Bool). a && b) (le-leb lo n low) (lt-ltb n hi high)

-- two entries are of two cells
abbrev Apart : ℕ × Value → ℕ × Value → Type 0
Apart x y = x.0 ≡ y.0 → ⊥

apart_turn : (x y : ℕ × Value) → Apart x y → Apart y x
apart_turn x y h e = h (sym e)

abbrev StoredOnce : List Stored → Type 0
StoredOnce us = (i j : ℕ) (u w : Stored) → slice_get us i ≡ Some u → slice_get us j ≡ Some w → u.cell ≡ w.cell → i ≡ j

stores_apart : (us : List Stored) → StoredOnce us → Spread (λ (u w : Stored). Apart (cell_and_value u) (cell_and_value w)) us
stores_apart [] h = tt
stores_apart (u ∷ us) h = (
  each_from (λ (w : Stored). Apart (cell_and_value u) (cell_and_value w)) us
      (λ w k same. let at = contains_get us w (within_to w us k) in let e = h 0 (suc at.0) u w refl at.1 same in absurd (omega (arith, e))),
  stores_apart us (λ i j v w e f same. let k = h (suc i) (suc j) v w e f same in omega (arith, k)),
)

pub cells_once : (ss : Stores) → Spread Apart ss → (i j x : ℕ) (v w : Value) → slice_get ss i ≡ Some (x, v) → slice_get ss j ≡ Some (x, w) → i ≡ j
cells_once [] all i j x v w e f = cc
cells_once (y ∷ ss) all zero zero x v w e f = refl
cells_once (y ∷ ss) all zero (suc j) x v w e f =
    absurd (each_within (Apart y) (x, w) ss (get_within ss j (x, w) f) all.0 (ap (λ (y : ℕ × Value). y.0) (same_Some y (x, v) e)))
cells_once (y ∷ ss) all (suc i) zero x v w e f =
    absurd (each_within (Apart y) (x, v) ss (get_within ss i (x, v) e) all.0 (ap (λ (y : ℕ × Value). y.0) (same_Some y (x, w) f)))
cells_once (y ∷ ss) all (suc i) (suc j) x v w e f = ap suc (cells_once ss all.1 i j x v w e f)

module _ (fl : Flow) (inputs : List ℤ) (run : List Activity) (s : State) (r : Run fl (start inputs) run s) (st : Settled fl inputs run s r) where
  -- OUTPUTS
  abbrev ResultOf : Option Source → Value → Type 0
  ResultOf o v = HasSome fl inputs run s r Main o v

  pub outputs_shown : (b : Block ℕ) (vs : List Value) → block_of fl Main ≡ Some b → Have fl inputs run s r Main b.results vs → (j : ℕ)
      → s.memory.outputs j ≡ slice_get vs j
  outputs_shown b vs eb h j = go (slice_get vs j) refl
    where
      at : result_at fl Main j ≡ slice_get b.results j
      at = ap (λ (o : Option (Block ℕ)). result_in o j) eb

      past : (o : Option Source) (v : Value) → slice_get b.results j ≡ o → ResultOf o v → slice_get vs j ≡ None → ⊥
      past None v e k none = k
      past (Some x) v e k none = let got = have_value fl inputs run s r Main b.results vs j x h e in let g = got.1 in cc

      silent : (o : Option Value) → s.memory.outputs j ≡ o → slice_get vs j ≡ None → s.memory.outputs j ≡ None
      silent None e none = e
      silent (Some v) e none = absurd (past (slice_get b.results j) v refl (subst (λ o. ResultOf o v) at (st.outputs_results j v e)) none)

      go : (o : Option Value) → slice_get vs j ≡ o → s.memory.outputs j ≡ o
      go None e = silent (s.memory.outputs j) refl e
      go (Some v) e =
          let got = have_source fl inputs run s r Main b.results vs j v h e in
          st.results_outputs j v (subst (λ o. ResultOf o v) (sym (at ∙ got.1)) got.2)

  -- STORES: each node of each invocation lies below a node of main.
  under_main : (d : Context) (n : ℕ) (line : Node ℕ) → IsDue fl inputs run s r d → node_of fl d n ≡ Some line
      → (m : ℕ) × (above : Node ℕ) × (node_under Main d n ≡ Some m) × (node_of fl Main m ≡ Some above)
  under_main Main n line due e = (n, line, refl, e)
  under_main (Called d k) n line due e = under_main d k due.1.0 due.0 due.1.1
  under_main (Turned d k t) n line due e = under_main d k due.1.0 due.0 due.1.1

  module _ (b : Block ℕ) (eb : block_of fl Main ≡ Some b) where
    below_main : (w : Stored) → Within w (stores_of fl run) → is_below Main b.inputs (node_count b) w.context w.node ≡ true
    below_main w h =
        let own = stored_at fl inputs run s r st w h in
        let m = under_main w.context w.node own.1.0 own.0 own.1.1 in
        let at : node_at b m.0 ≡ Some m.1 = sym (ap (λ (o : Option (Block ℕ)). node_in o m.0) eb) ∙ m.3 in
        ap (λ o. is_within b.inputs (node_count b) o) m.2 ∙ within_true b.inputs (node_count b) m.0 (line_past b m.0 m.1 at).0 (line_below b m.0 m.1 at)

    pub all_below : stores_below fl run Main b.inputs (node_count b) ≡ map cell_and_value (stores_of fl run)
    all_below = ap (λ (us : List Stored). map cell_and_value us)
        (kept_all (λ (w : Stored). is_below Main b.inputs (node_count b) w.context w.node) (stores_of fl run)
        (each_from (λ (w : Stored). is_below Main b.inputs (node_count b) w.context w.node ≡ true) (stores_of fl run) (λ w h. below_main w h)))

    module _ (ss : Stores) (p : IsPermutation ss (stores_below fl run Main b.inputs (node_count b))) where
      of_run : IsPermutation ss (map cell_and_value (stores_of fl run))
      of_run = subst (λ us. IsPermutation ss us) all_below p

      pub cells_filled : (x : ℕ) (v : Value) → Contains ss (x, v) ↔ (s.memory.cells x ≡ Some v)
      cells_filled x v = (
        λ h.
            let at = within_permutation (x, v) ss (map cell_and_value (stores_of fl run)) of_run (within_from (x, v) ss h) in
            let w = contains_mapped cell_and_value (stores_of fl run) (x, v) (within_to (x, v) (map cell_and_value (stores_of fl run)) at) in
            let cell : w.0.cell ≡ x = ap (λ (e : ℕ × Value). e.0) w.2 in
            let value : w.0.value ≡ v = ap (λ (e : ℕ × Value). e.1) w.2 in
            ap s.memory.cells (sym cell) ∙ st.stored_cells w.0 w.1 ∙ ap (λ v. Some v) value,
        λ e.
            let w = st.cells_stored x v e in
            let at = within_map cell_and_value w.0 (stores_of fl run) (within_from w.0 (stores_of fl run) w.1) in
            let same : cell_and_value w.0 ≡ (x, v) = ap₂ (λ (x : ℕ) (v : Value). (x, v)) w.2 w.3 in
            let its : Within (x, v) (map cell_and_value (stores_of fl run)) = subst (λ e. Within e (map cell_and_value (stores_of fl run))) same at in
            within_to (x, v) ss (within_permutation (x, v) (map cell_and_value (stores_of fl run)) ss (IsPermutation-sym _ _ of_run) its),
      )

      pub cells_filled_once : (i j x : ℕ) (v w : Value) → slice_get ss i ≡ Some (x, v) → slice_get ss j ≡ Some (x, w) → i ≡ j
      cells_filled_once =
          cells_once ss (spread_permutation Apart apart_turn (map cell_and_value (stores_of fl run)) ss (IsPermutation-sym _ _ of_run)
          (spread_map Apart cell_and_value (stores_of fl run) (stores_apart (stores_of fl run) st.stored_once)))
