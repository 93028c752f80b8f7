-- The cells at the end are those that the stores of the run filled, each once; and no node stores twice in an invocation.
use Rattle.std.proofs.Common.{◌≡◌, ℕ, zero, suc, ◌⊎◌, List, [], ◌∷◌, ◌++◌, Option, Some, None, flat_map, inl, inr, refl, sym, ap, ◌∙◌, subst, ⊎_elim}
use Rattle.std.proofs.Common.{append_assoc, arith, Contains}
use Rattle.std.specs.Prelude.{slice_get}
use Rattle.std.proofs.lemmas.Option.{same_Some}
use Rattle.tags.specs.declared.value.Value.{Value}
use Rattle.semantics.specs.Graph.{Flow}
use Rattle.semantics.specs.Meaning.{Context, AtNode, Operand, Tagged, tagged, State, Memory, Effect, Activity, taken, Deed, Says, Reads, Fills, Puts, Sends}
use Rattle.semantics.specs.Meaning.{tokens_of, adds, with_cell, deed, done, Step, Run}
use Rattle.lemmas.proofs.Permutations.{Within, Spread, each_from, spread_append, each_within, within_append, within_right, within_flat_map, within_from}
use Rattle.lemmas.proofs.Permutations.{within_to, put_first, put_later, get_within}
use Rattle.law_confluence.proofs.ActivityKeys.{Unique, Differ}
use Rattle.lemmas.proofs.Permutations.{spread_append_back}
use Rattle.lemmas.proofs.Contains.{contains_get}
use Rattle.law_confluence.proofs.ActivityDeeds.{full_of, empty_of}
use Rattle.law_confluence.proofs.ActivityDiamond.{deed_of, at_filled}
use Rattle.law_confluence.proofs.HistoryRuns.{run_cells, step_cells, activity_once, placed_cases}
use Rattle.law_confluence.proofs.ActivityShapes.{storing}
use Rattle.law_confluence.specs.EquationsHave.{Stored, stored_by, stores_of}
use Rattle.law_confluence.proofs.EquationsRunRested.{Rested}

abbrev pub entry : Context → ℕ → ℕ → Value → Stored
entry c n x v = record { context = c; node = n; cell = x; value = v }

-- what a deed that fills a cell found and left
fills_done : (fl : Flow) (m : Memory) (c : Context) (n x : ℕ) (v : Value) (E : Effect) → done fl m (Fills c n x v) ≡ Some E
    → (m.cells x ≡ None) × (E.memory.cells x ≡ Some v)
fills_done fl m c n x v E e =
    let f = empty_of (m.cells x) (adds (tokens_of fl (Sends c n 0 v)) (with_cell m x v)) E e in
    (f.0, ap (λ (E : Effect). E.memory.cells x) (sym (same_Some _ E f.1)) ∙ at_filled m.cells x v)

-- a cell that is full after a deed was full before it, or the deed filled it
cell_before : (fl : Flow) (m : Memory) (d : Deed) (E : Effect) (x : ℕ) (v : Value) → done fl m d ≡ Some E → E.memory.cells x ≡ Some v
    → (m.cells x ≡ Some v) ⊎ ((c : Context) × (n : ℕ) × (d ≡ Fills c n x v))
cell_before fl m (Says y) E x v e f = inl (ap (λ (E : Effect). E.memory.cells x) (same_Some _ E e) ∙ f)
cell_before fl m (Reads c n y) E x v e f =
    let g = full_of (m.cells y) (λ v. adds (tokens_of fl (Sends c n 0 v)) m) E e in
    inl (ap (λ (E : Effect). E.memory.cells x) (same_Some _ E g.2) ∙ f)
cell_before fl m (Fills c n y w) E x v e f =
    let g = empty_of (m.cells y) (adds (tokens_of fl (Sends c n 0 w)) (with_cell m y w)) E e in
    ⊎_elim (λ same. inr (c, n, let a = same.0 in let b = same.1 in cc)) (λ old. inl old)
    (placed_cases m.cells y x w v (ap (λ (E : Effect). E.memory.cells x) (same_Some _ E g.1) ∙ f))
cell_before fl m (Puts j w) E x v e f = inl (ap (λ (E : Effect). E.memory.cells x) (same_Some _ E e) ∙ f)

-- an entry is that of a deed
by_deed : (d : Deed) (u : Stored) → Within u (stored_by (Some d)) → d ≡ Fills u.context u.node u.cell u.value
by_deed (Fills c n x v) u (zs, inl h) = let e = h.0 in ap (λ (u : Stored). Fills u.context u.node u.cell u.value) (sym e)
by_deed (Fills c n x v) u (zs, inr h) = absurd h.2
by_deed (Says y) u h = absurd h.1
by_deed (Reads c n x) u h = absurd h.1
by_deed (Puts j v) u h = absurd h.1

pub stored_in : (fl : Flow) (run : List Activity) (a : Activity) (c : Context) (n x : ℕ) (v : Value) → Within a run → deed fl a ≡ Some (Fills c n x v)
    → Within (entry c n x v) (stores_of fl run)
stored_in fl run a c n x v h e =
    within_flat_map (λ a. stored_by (deed fl a)) a (entry c n x v) run h
    (subst (λ o. Within (entry c n x v) (stored_by o)) (sym e) ([], put_first (entry c n x v) []))

-- the activity of an entry
pub stored_from : (fl : Flow) (s t : State) (run : List Activity) (r : Run fl s run t) (u : Stored) → Within u (stores_of fl run)
    → (a : Activity) × Within a run × (deed fl a ≡ Some (Fills u.context u.node u.cell u.value))
stored_from fl s t [] r u h = absurd h.1
stored_from fl s t (a ∷ run) r u h =
    let d = deed_of fl s.memory a r.1.does r.1.allowed in
    ⊎_elim (λ (k : Within u (stored_by (deed fl a))). (a, (run, put_first a run), d.1 ∙ ap Some (by_deed d.0 u (subst (λ o. Within u (stored_by o)) d.1 k))))
    (λ k. let ih = stored_from fl r.0 t run r.2 u k in (ih.0, (a ∷ ih.1.0, put_later ih.0 a ih.1.0 run ih.1.1), ih.2))
    (within_append u (stored_by (deed fl a)) (stores_of fl run) h)

step_entry : (fl : Flow) (s t : State) (a : Activity) (p : Step fl a s t) (u : Stored) → Within u (stored_by (deed fl a))
    → (s.memory.cells u.cell ≡ None) × (t.memory.cells u.cell ≡ Some u.value)
step_entry fl s t a p u h =
    let d = deed_of fl s.memory a p.does p.allowed in
    let is = by_deed d.0 u (subst (λ o. Within u (stored_by o)) d.1 h) in
    let f = fills_done fl s.memory u.context u.node u.cell u.value p.does (subst (λ d. done fl s.memory d ≡ Some p.does) is d.2) in
    (f.0, ap (λ (m : Memory). m.cells u.cell) p.memory ∙ f.1)

none_before : (fl : Flow) (s t : State) (a : Activity) → Step fl a s t → (x : ℕ) → t.memory.cells x ≡ None → s.memory.cells x ≡ None
none_before fl s t a p x e = go (s.memory.cells x) refl
  where
    go : (o : Option Value) → s.memory.cells x ≡ o → s.memory.cells x ≡ None
    go None f = f
    go (Some v) f = let g = step_cells fl s t a p x v f in cc

-- the cell of an entry was empty at first, and has its value in the end
entries : (fl : Flow) (s t : State) (run : List Activity) (r : Run fl s run t) (u : Stored) → Within u (stores_of fl run)
    → (s.memory.cells u.cell ≡ None) × (t.memory.cells u.cell ≡ Some u.value)
entries fl s t [] r u h = absurd h.1
entries fl s t (a ∷ run) r u h =
    ⊎_elim (λ (k : Within u (stored_by (deed fl a))). let f = step_entry fl s r.0 a r.1 u k in (f.0, run_cells fl r.0 t run r.2 u.cell u.value f.1))
    (λ k. let ih = entries fl r.0 t run r.2 u k in (none_before fl s r.0 a r.1 u.cell ih.0, ih.1))
    (within_append u (stored_by (deed fl a)) (stores_of fl run) h)

-- a cell that is full in the end was full at first, or has an entry
filled : (fl : Flow) (s t : State) (run : List Activity) (r : Run fl s run t) (x : ℕ) (v : Value) → t.memory.cells x ≡ Some v
    → (s.memory.cells x ≡ Some v) ⊎ ((u : Stored) × Within u (stores_of fl run) × (u.cell ≡ x) × (u.value ≡ v))
filled fl s t [] r x v e = inl (ap (λ (m : Memory). m.cells x) r.1 ∙ e)
filled fl s t (a ∷ run) r x v e =
    let d = deed_of fl s.memory a r.1.does r.1.allowed in
    ⊎_elim (λ k.
    ⊎_elim (λ old. inl old)
    (λ f. inr (entry f.0 f.1 x v, stored_in fl (a ∷ run) a f.0 f.1 x v (run, put_first a run) (d.1 ∙ ap Some f.2), refl, refl))
    (cell_before fl s.memory d.0 r.1.does x v d.2 (ap (λ (m : Memory). m.cells x) (sym r.1.memory) ∙ k)))
    (λ k. inr (k.0, within_right k.0 (stored_by (deed fl a)) (stores_of fl run) k.1, k.2, k.3))
    (filled fl r.0 t run r.2 x v e)

-- NO TWO ENTRIES

at_most_one : (R : Stored → Stored → Type 0) (o : Option Deed) → Spread R (stored_by o)
at_most_one R None = tt
at_most_one R (Some (Fills c n x v)) = (tt, tt)
at_most_one R (Some (Says y)) = tt
at_most_one R (Some (Reads c n x)) = tt
at_most_one R (Some (Puts j v)) = tt

abbrev CellsDiffer : Stored → Stored → Type 0
CellsDiffer u w = u.cell ≡ w.cell → ⊥

cells_spread : (fl : Flow) (s t : State) (run : List Activity) (r : Run fl s run t) → Spread CellsDiffer (stores_of fl run)
cells_spread fl s t [] r = tt
cells_spread fl s t (a ∷ run) r =
    spread_append CellsDiffer (stored_by (deed fl a)) (stores_of fl run) (at_most_one CellsDiffer (deed fl a)) (cells_spread fl r.0 t run r.2)
    (each_from _ (stored_by (deed fl a)) (λ u k. each_from (CellsDiffer u) (stores_of fl run) (λ w l same.
    let full = (step_entry fl s r.0 a r.1 u k).1 in
    let none = (entries fl r.0 t run r.2 w l).0 in
    let e = ap r.0.memory.cells same in cc)))

abbrev NodesDiffer : Stored → Stored → Type 0
NodesDiffer u w = (u.context ≡ w.context) × (u.node ≡ w.node) → ⊥

first_at : (fl : Flow) (a : Activity) (u : Stored) → deed fl a ≡ Some (Fills u.context u.node u.cell u.value)
    → (v : Value) × Within (tagged u.context (AtNode u.node) (Operand 0) v) (taken a)
first_at fl a u e =
    let s = storing fl a u.context u.node u.cell u.value e in
    (s.0, subst (λ a. Within (tagged u.context (AtNode u.node) (Operand 0) s.0) (taken a)) (sym s.1) (_, put_first _ _))

nodes_spread : (fl : Flow) (s t : State) (run : List Activity) (r : Run fl s run t) (rest : List Tagged) → Unique (flat_map taken run ++ rest)
    → Spread NodesDiffer (stores_of fl run)
nodes_spread fl s t [] r rest all = tt
nodes_spread fl s t (a ∷ run) r rest all =
    let d = deed_of fl s.memory a r.1.does r.1.allowed in
    let inner : Unique (flat_map taken run ++ rest) =
    (spread_append_back Differ (taken a) (flat_map taken run ++ rest) (subst Unique (append_assoc (taken a) (flat_map taken run) rest) all)).1 in
    spread_append NodesDiffer (stored_by (deed fl a)) (stores_of fl run) (at_most_one NodesDiffer (deed fl a)) (nodes_spread fl r.0 t run r.2 rest inner)
    (each_from _ (stored_by (deed fl a)) (λ u k. each_from (NodesDiffer u) (stores_of fl run) (λ w l same.
    let mine = first_at fl a u (d.1 ∙ ap Some (by_deed d.0 u (subst (λ o. Within u (stored_by o)) d.1 k))) in
    let b = stored_from fl r.0 t run r.2 w l in
    let its = first_at fl b.0 w b.2 in
    let at = contains_get run b.0 (within_to b.0 run b.1) in
    let once : 0 ≡ suc at.0 = activity_once (a ∷ run) rest all 0 (suc at.0) a b.0 _ _ refl at.1 mine.1 its.1 (same.0, ap AtNode same.1, refl) in
    absurd (omega (arith, once)))))

spread_once : (P : Stored → Stored → Type 0) → ((u w : Stored) → P u w → P w u) → (us : List Stored) → Spread (λ u w. P u w → ⊥) us
    → (i j : ℕ) (u w : Stored) → slice_get us i ≡ Some u → slice_get us j ≡ Some w → P u w → i ≡ j
spread_once P turn [] all i j u w e f h = cc
spread_once P turn (x ∷ us) all zero zero u w e f h = refl
spread_once P turn (x ∷ us) all zero (suc j) u w e f h =
    absurd (each_within (λ w. P x w → ⊥) w us (get_within us j w f) all.0 (subst (λ u. P u w) (sym (same_Some x u e)) h))
spread_once P turn (x ∷ us) all (suc i) zero u w e f h =
    absurd (each_within (λ w. P x w → ⊥) u us (get_within us i u e) all.0 (subst (λ w. P w u) (sym (same_Some x w f)) (turn u w h)))
spread_once P turn (x ∷ us) all (suc i) (suc j) u w e f h = ap suc (spread_once P turn us all.1 i j u w e f h)

module _ (z : Rested) where
  pub cells_stored : (x : ℕ) (v : Value) → z.state.memory.cells x ≡ Some v → (w : Stored) × Contains (stores_of z.flow z.run) w × (w.cell ≡ x) × (w.value ≡ v)
  cells_stored x v e =
      ⊎_elim (λ first. absurd (cc)) (λ u. (u.0, within_to u.0 (stores_of z.flow z.run) u.1, u.2, u.3)) (filled z.flow _ z.state z.run z.is_run x v e)

  pub stored_cells : (w : Stored) → Contains (stores_of z.flow z.run) w → z.state.memory.cells w.cell ≡ Some w.value
  stored_cells w h = (entries z.flow _ z.state z.run z.is_run w (within_from w (stores_of z.flow z.run) h)).1

  pub stored_once : (i j : ℕ) (u w : Stored) → slice_get (stores_of z.flow z.run) i ≡ Some u → slice_get (stores_of z.flow z.run) j ≡ Some w → u.cell ≡ w.cell
      → i ≡ j
  stored_once i j u w e f same =
      spread_once (λ u w. u.cell ≡ w.cell) (λ u w h. sym h) (stores_of z.flow z.run) (cells_spread z.flow _ z.state z.run z.is_run) i j u w e f same

  pub node_stores_once : (i j : ℕ) (u w : Stored) → slice_get (stores_of z.flow z.run) i ≡ Some u → slice_get (stores_of z.flow z.run) j ≡ Some w
      → u.context ≡ w.context → u.node ≡ w.node → i ≡ j
  node_stores_once i j u w e f cs ns =
      spread_once (λ u w. (u.context ≡ w.context) × (u.node ≡ w.node)) (λ u w h. (sym h.0, sym h.1)) (stores_of z.flow z.run)
      (nodes_spread z.flow _ z.state z.run z.is_run z.state.tokens z.unique) i j u w e f (cs, ns)
