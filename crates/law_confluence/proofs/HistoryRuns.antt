-- Runs joined together, and what they keep of the memory.
use Rattle.std.proofs.Common.{◌≡◌, ℕ, zero, suc, ◌⊎◌, ℤ, Bool, true, false, List, [], ◌∷◌, ◌++◌, flat_map, Option, Some, ◌==◌, if◌then◌else◌, IsPermutation}
use Rattle.std.proofs.Common.{inl, inr, refl, sym, ap, ◌∙◌, subst, subst₂, ⊎_elim, append_assoc, append-nil, slice_get, eqb-true}
use Rattle.std.proofs.lemmas.List.Sorted.{IsPermutation-refl, IsPermutation-sym, IsPermutation-trans}
use Rattle.std.proofs.lemmas.Option.{same_Some}
use Rattle.tags.specs.declared.value.Value.{Value}
use Rattle.semantics.specs.Graph.{Flow}
use Rattle.semantics.specs.Meaning.{Main, AtOut, Operand, Tagged, tagged, Memory, State, Effect, Activity, Outputs, taken, Deed, Says, Reads, Fills, Puts}
use Rattle.semantics.specs.Meaning.{Sends, done, adds, tokens_of, with_cell, at_place, effect, Step, Same, Run, Reached, Leads, start}
use Rattle.lemmas.proofs.Permutations.{Within, Each, put_first, each_within, within_append, within_left, within_right, spread_append_back}
use Rattle.law_confluence.proofs.ActivityKeys.{Differ, Unique}
use Rattle.law_confluence.proofs.ActivityShapes.{showing}
use Rattle.law_confluence.proofs.ActivityDeeds.{CellsKept, kept, full_of, empty_of}
use Rattle.law_confluence.proofs.ActivityDiamond.{deed_of, held_from}
use Rattle.law_confluence.proofs.OutcomeDeterminacy.{same_refl, same_trans, same_sym, run_same}
use Rattle.law_confluence.specs.Outcome.{SameTag}

-- RUNS

-- the same end in another order
pub run_to_same : (fl : Flow) (s t u : State) (r : List Activity) → Run fl s r t → Same t u → Run fl s r u
run_to_same fl s t u [] p h = same_trans s t u p h
run_to_same fl s t u (a ∷ r) p h = (p.0, p.1, run_to_same fl p.0 t u r p.2 h)

pub run_append : (fl : Flow) (s t u : State) (r q : List Activity) → Run fl s r t → Run fl t q u → Run fl s (r ++ q) u
run_append fl s t u [] q p p' = run_same fl t s u q (same_sym s t p) p'
run_append fl s t u (a ∷ r) q p p' = (p.0, p.1, run_append fl p.0 t u r q p.2 p')

pub leads_trans : (fl : Flow) (s t u : State) → Leads fl s t → Leads fl t u → Leads fl s u
leads_trans fl s t u p q = (p.0 ++ q.0, run_append fl s t u p.0 q.0 p.1 q.1)

pub reached_leads : (fl : Flow) (inputs : List ℤ) (s t : State) → Reached fl inputs s → Leads fl s t → Reached fl inputs t
reached_leads fl inputs s t r p = record { run = r.run ++ p.0; is_run = run_append fl (start inputs) s t r.run p.0 r.is_run p.1 }

pub reached_step : (fl : Flow) (inputs : List ℤ) (s t : State) (a : Activity) → Reached fl inputs s → Step fl a s t → Reached fl inputs t
reached_step fl inputs s t a r p = reached_leads fl inputs s t r (a ∷ [], (t, p, (IsPermutation-trans _ _ _ p.leaves (IsPermutation-sym _ _ p.leaves), refl)))

-- an enabled activity has a step
pub step_of : (fl : Flow) (a : Activity) (s : State) (does : Effect) (rest : List Tagged) → effect fl s.memory a ≡ Some does
    → IsPermutation s.tokens (taken a ++ rest)
    → Step fl a s record { tokens = does.added ++ rest; memory = does.memory }
step_of fl a s does rest e p = record { does = does; rest = rest; allowed = e; takes = p; leaves = IsPermutation-refl _; memory = refl }

-- CELLS

pub step_cells : (fl : Flow) (s t : State) (a : Activity) → Step fl a s t → CellsKept s.memory t.memory
step_cells fl s t a p x v h =
    let d = deed_of fl s.memory a p.does p.allowed in
    ap (λ (m : Memory). m.cells x) p.memory ∙ kept fl s.memory d.0 p.does d.2 x v h

-- a full cell keeps its value
pub run_cells : (fl : Flow) (s t : State) (r : List Activity) → Run fl s r t → CellsKept s.memory t.memory
run_cells fl s t [] p x v h = ap (λ (m : Memory). m.cells x) (sym p.1) ∙ h
run_cells fl s t (a ∷ r) p x v h = run_cells fl p.0 t r p.2 x v (step_cells fl s p.0 a p.1 x v h)

-- OUTPUTS

outputs_of : (fl : Flow) (m : Memory) (d : Deed) (E : Effect) → done fl m d ≡ Some E
    → (m.outputs ≡ E.memory.outputs) ⊎ ((j : ℕ) × (v : Value) × (d ≡ Puts j v) × (at_place m.outputs j v ≡ E.memory.outputs))
outputs_of fl m (Says x) E e = inl (ap (λ (E : Effect). E.memory.outputs) (same_Some _ E e))
outputs_of fl m (Reads c n x) E e =
    let f = full_of (m.cells x) (λ v. adds (tokens_of fl (Sends c n 0 v)) m) E e in
    inl (ap (λ (E : Effect). E.memory.outputs) (same_Some _ E f.2))
outputs_of fl m (Fills c n x v) E e =
    let f = empty_of (m.cells x) (adds (tokens_of fl (Sends c n 0 v)) (with_cell m x v)) E e in
    inl (ap (λ (E : Effect). E.memory.outputs) (same_Some _ E f.1))
outputs_of fl m (Puts j v) E e = inr (j, v, refl, ap (λ (E : Effect). E.memory.outputs) (same_Some _ E e))

-- each output that is filled was taken from these tokens
abbrev pub FilledFrom : List Tagged → Memory → Type 0
FilledFrom spent m = (j : ℕ) (v : Value) → m.outputs j ≡ Some v → Within (tagged Main (AtOut j) (Operand 0) v) spent

pub placed_cases : (f : ℕ → Option Value) (j k : ℕ) (v w : Value) → at_place f j v k ≡ Some w → ((j ≡ k) × (v ≡ w)) ⊎ (f k ≡ Some w)
placed_cases f j k v w e = go (j == k) refl e
  where
    go : (t : Bool) → (j == k) ≡ t → (if t then Some v else f k) ≡ Some w → ((j ≡ k) × (v ≡ w)) ⊎ (f k ≡ Some w)
    go true p q = inl (eqb-true j k p, same_Some v w q)
    go false p q = inr q

step_filled : (fl : Flow) (s t : State) (a : Activity) (spent : List Tagged) → FilledFrom spent s.memory → Step fl a s t
    → FilledFrom (taken a ++ spent) t.memory
step_filled fl s t a spent h p k w e =
    let d = deed_of fl s.memory a p.does p.allowed in
    let now = ap (λ (m : Memory). m.outputs k) (sym p.memory) ∙ e in
    ⊎_elim (λ same. within_right _ (taken a) spent (h k w (ap (λ f. f k) same ∙ now)))
    (λ q.
    let is = showing fl a q.0 q.1 (d.1 ∙ ap (λ d. Some d) q.2) in
    ⊎_elim (λ c.
    let mine : Within (tagged Main (AtOut q.0) (Operand 0) q.1) (taken a) =
    subst (λ a. Within (tagged Main (AtOut q.0) (Operand 0) q.1) (taken a)) (sym is) ([], put_first _ []) in
    within_left _ (taken a) spent (subst₂ (λ j v. Within (tagged Main (AtOut j) (Operand 0) v) (taken a)) c.0 c.1 mine))
    (λ old. within_right _ (taken a) spent (h k w old)) (placed_cases s.memory.outputs q.0 k q.1 w (ap (λ f. f k) q.3 ∙ now)))
    (outputs_of fl s.memory d.0 p.does d.2)

run_filled : (fl : Flow) (s t : State) (r : List Activity) (spent : List Tagged) → FilledFrom spent s.memory → Run fl s r t → (j : ℕ) (v : Value)
    → t.memory.outputs j ≡ Some v
    → Within (tagged Main (AtOut j) (Operand 0) v) (flat_map taken r ++ spent)
run_filled fl s t [] spent h p j v e = h j v (ap (λ (m : Memory). m.outputs j) p.1 ∙ e)
run_filled fl s t (a ∷ r) spent h p j v e =
    let x : Tagged = tagged Main (AtOut j) (Operand 0) v in
    let later = run_filled fl p.0 t r (taken a ++ spent) (step_filled fl s p.0 a spent h p.1) p.2 j v e in
    subst (λ l. Within x l) (sym (append_assoc (taken a) (flat_map taken r) spent))
    (⊎_elim (λ k. within_right x (taken a) (flat_map taken r ++ spent) (within_left x (flat_map taken r) spent k))
    (λ k. ⊎_elim (λ l. within_left x (taken a) (flat_map taken r ++ spent) l)
    (λ l. within_right x (taken a) (flat_map taken r ++ spent) (within_right x (flat_map taken r) spent l)) (within_append x (taken a) spent k))
    (within_append x (flat_map taken r) (taken a ++ spent) later))

-- In a run in which no place has two tokens a result of main goes to an output that is not filled.
pub shows_once : (fl : Flow) (inputs : List ℤ) (s t : State) (r : List Activity) (j : ℕ) (v w : Value) → Run fl (start inputs) r s
    → Unique (flat_map taken r ++ s.tokens)
    → Step fl (Outputs j v) s t → s.memory.outputs j ≡ Some w → ⊥
shows_once fl inputs s t r j v w p all q e =
    let x : Tagged = tagged Main (AtOut j) (Operand 0) v in
    let y : Tagged = tagged Main (AtOut j) (Operand 0) w in
    let spent : Within y (flat_map taken r) =
    subst (λ l. Within y l) (append-nil (flat_map taken r)) (run_filled fl (start inputs) s r [] (λ j v e. absurd (cc)) p j w e) in
    let now = (held_from s.tokens (taken (Outputs j v)) q.rest q.takes).0 in
    let parts = (spread_append_back Differ (flat_map taken r) s.tokens all).2 in
    each_within (Differ y) x s.tokens now (each_within (λ y. Each (Differ y) s.tokens) y (flat_map taken r) spent parts) (refl, refl, refl)

-- So in such runs an output that is filled keeps its value.
placed_other : (f : ℕ → Option Value) (j k : ℕ) (v w : Value) → f k ≡ Some w → (j ≡ k → ⊥) → at_place f j v k ≡ Some w
placed_other f j k v w e other = go (j == k) refl
  where
    go : (t : Bool) → (j == k) ≡ t → (if t then Some v else f k) ≡ Some w
    go true p = absurd (other (eqb-true j k p))
    go false p = e

step_outputs : (fl : Flow) (inputs : List ℤ) (s t : State) (r : List Activity) (a : Activity) → Run fl (start inputs) r s
    → Unique (flat_map taken r ++ s.tokens)
    → Step fl a s t → (k : ℕ) (w : Value) → s.memory.outputs k ≡ Some w → t.memory.outputs k ≡ Some w
step_outputs fl inputs s t r a p all q k w e =
    let d = deed_of fl s.memory a q.does q.allowed in
    let after = ap (λ (m : Memory). m.outputs k) q.memory in
    ⊎_elim (λ same. after ∙ (ap (λ (f : ℕ → Option Value). f k) (sym same) ∙ e))
    (λ puts.
    let is : a ≡ Outputs puts.0 puts.1 = showing fl a puts.0 puts.1 (d.1 ∙ ap (λ d. Some d) puts.2) in
    after ∙ (ap (λ (f : ℕ → Option Value). f k) (sym puts.3) ∙ placed_other s.memory.outputs puts.0 k puts.1 w e
    (λ same. shows_once fl inputs s t r k puts.1 w p all (subst (λ (b : Activity). Step fl b s t) (is ∙ ap (λ (j : ℕ). Outputs j puts.1) same) q) e)))
    (outputs_of fl s.memory d.0 q.does d.2)

pub run_outputs : (fl : Flow) (inputs : List ℤ) → ((s : State) (r : List Activity) → Run fl (start inputs) r s → Unique (flat_map taken r ++ s.tokens))
    → (s t : State) (r q : List Activity) → Run fl (start inputs) r s → Run fl s q t → (k : ℕ) (w : Value) → s.memory.outputs k ≡ Some w
    → t.memory.outputs k ≡ Some w
run_outputs fl inputs all s t r [] p q k w e = ap (λ (m : Memory). m.outputs k) (sym q.1) ∙ e
run_outputs fl inputs all s t r (a ∷ later) p q k w e =
    let so_far = run_append fl (start inputs) s q.0 r (a ∷ []) p (q.0, q.1, same_refl q.0) in
    run_outputs fl inputs all q.0 t (r ++ a ∷ []) later so_far q.2 k w (step_outputs fl inputs s q.0 r a p (all s r p) q.1 k w e)

-- ACTIVITIES

taken_in : (r : List Activity) (j : ℕ) (b : Activity) (y : Tagged) → slice_get r j ≡ Some b → Within y (taken b) → Within y (flat_map taken r)
taken_in [] j b y e h = cc
taken_in (c ∷ r) zero b y e h = within_left y (taken c) (flat_map taken r) (subst (λ a. Within y (taken a)) (sym (same_Some c b e)) h)
taken_in (c ∷ r) (suc j) b y e h = within_right y (taken c) (flat_map taken r) (taken_in r j b y e h)

first_only : (c : Activity) (r : List Activity) (rest : List Tagged) → Unique (flat_map taken (c ∷ r) ++ rest) → (j : ℕ) (a b : Activity) (x y : Tagged)
    → Some c ≡ Some a → slice_get r j ≡ Some b
    → Within x (taken a) → Within y (taken b) → SameTag x y → ⊥
first_only c r rest all j a b x y e f h k same =
    let parts = (spread_append_back Differ (taken c) (flat_map taken r ++ rest) (subst Unique (append_assoc (taken c) (flat_map taken r) rest) all)).2 in
    let mine = subst (λ a. Within x (taken a)) (sym (same_Some c a e)) h in
    each_within (Differ x) y (flat_map taken r ++ rest) (within_left y (flat_map taken r) rest (taken_in r j b y f k))
    (each_within (λ x. Each (Differ x) (flat_map taken r ++ rest)) x (taken c) mine parts) same

-- Two activities of such a run that take from one place are one.
pub activity_once : (r : List Activity) (rest : List Tagged) → Unique (flat_map taken r ++ rest) → (i j : ℕ) (a b : Activity) (x y : Tagged)
    → slice_get r i ≡ Some a → slice_get r j ≡ Some b
    → Within x (taken a) → Within y (taken b) → SameTag x y → i ≡ j
activity_once [] rest all i j a b x y e f h k same = cc
activity_once (c ∷ r) rest all zero zero a b x y e f h k same = refl
activity_once (c ∷ r) rest all zero (suc j) a b x y e f h k same = absurd (first_only c r rest all j a b x y e f h k same)
activity_once (c ∷ r) rest all (suc i) zero a b x y e f h k same = absurd (first_only c r rest all i b a y x f e k h (sym same.0, sym same.1, sym same.2))
activity_once (c ∷ r) rest all (suc i) (suc j) a b x y e f h k same =
    let inner : Unique (flat_map taken r ++ rest) =
    (spread_append_back Differ (taken c) (flat_map taken r ++ rest) (subst Unique (append_assoc (taken c) (flat_map taken r) rest) all)).1 in
    ap suc (activity_once r rest inner i j a b x y e f h k same)
