-- At rest, with no second store and no waiting fetch: an activity all of whose tokens were present is in the run.
use Rattle.std.proofs.Common.{◌≡◌, ℕ, ◌+◌, ◌-◌, ◌<◌, ◌⊎◌, ℤ, Bool, true, false, List, [], ◌∷◌, ◌++◌, length, Option, Some, None, nat_lt, ◌==◌, if◌then◌else◌}
use Rattle.std.proofs.Common.{cond, IsPermutation, inl, inr, refl, sym, ap, ◌∙◌, subst, arith, ⊎_elim, eq-eqb}
use Rattle.std.specs.Prelude.{pos, negsuc, slice_get, count_by}
use Rattle.std.proofs.lemmas.List.Sums.{sum_by-cons}
use Rattle.std.proofs.lemmas.List.Sorted.{IsPermutation-sym, sum_by-IsPermutation}
use Rattle.std.proofs.lemmas.Option.{same_Some}
use Rattle.tags.specs.declared.value.Value.{Value}
use Rattle.tags.specs.declared.value.Value.TheVariants.{Int, Fault}
use Rattle.tags.specs.declared.value.Origin.{Origin}
use Rattle.tags.specs.declared.value.Origin.TheVariants.{Untold}
use Rattle.tags.specs.declared.value.FaultKind.TheVariants.{Range}
use Rattle.operators.specs.Values.{Indexed, Place, Outside, index_in}
use Rattle.semantics.specs.declared.graph.Kind.{Kind}
use Rattle.semantics.specs.declared.graph.Kind.TheVariants.{Lit, Apply1, Apply2, Cond, Enter, Merge, Fetch, Store, Call, StrictCall, Loop}
use Rattle.semantics.specs.Graph.{Node, Block, Graph, Flow, flow_of, first_cell, array_len}
use Rattle.semantics.specs.WellFormed.{WellFormed}
use Rattle.semantics.specs.Meaning.{Context, Statement, AtNode, Operand, Tagged, tagged, State, Effect, Activity, Fires, Gates, Passes, Returns, Turns, Outputs}
use Rattle.semantics.specs.Meaning.{taken, operands_from, Deed, Says, Reads, Fills, Puts, Sends, tokens_of, when_full, when_empty, adds, with_cell, deed, done}
use Rattle.semantics.specs.Meaning.{fired, fired_in, fetched, stored, input_passed, on_node, on_block, block_of, node_of, node_in, origin_at, cell_in, Run}
use Rattle.semantics.specs.Meaning.{Stood, AtRest, start, fetch_cell, fetches, cell_is, waits_for}
use Rattle.semantics.specs.Faithful.{inputs_of}
use Rattle.law_confluence.specs.Outcome.{NoClash}
use Rattle.lemmas.proofs.Permutations.{Put, Perm, Within, Each, each_from, each_within, perm_refl, perm_to, put_first, within_from, within_permutation}
use Rattle.lemmas.proofs.Permutations.{put_IsPermutation, get_within}
use Rattle.law_confluence.proofs.ActivityKeys.{Differ, Unique, Held}
use Rattle.law_confluence.proofs.ActivityDiamond.{effect_of}
use Rattle.law_confluence.proofs.ActivityShapes.{fires_deed, gates_said, passes_said, storing}
use Rattle.law_confluence.proofs.HistoryRuns.{step_of}
use Rattle.law_confluence.specs.EquationsSettled.{NoneWaits}
use Rattle.law_confluence.proofs.EquationsRunTakers.{Taker, taken_or_left, same_taker}

-- AN ACTIVITY'S TOKENS ARE AT DIFFERENT PLACES
operands_later : (c : Context) (s : Statement) (v : Value) (h k : ℕ) (vs : List Value) → h < k
    → Each (Differ (tagged c s (Operand h) v)) (operands_from c s k vs)
operands_later c s v h k [] l = tt
operands_later c s v h k (w ∷ vs) l = ((λ same. let p = same.2 in let e : h ≡ k = cc in omega arith), operands_later c s v h (k + 1) vs (omega arith))

operands_differ : (c : Context) (s : Statement) (k : ℕ) (vs : List Value) → Unique (operands_from c s k vs)
operands_differ c s k [] = tt
operands_differ c s k (v ∷ vs) = (operands_later c s v k (k + 1) vs (omega arith), operands_differ c s (k + 1) vs)

taken_differ : (a : Activity) → Unique (taken a)
taken_differ (Fires c n vs) = operands_differ c (AtNode n) 0 vs
taken_differ (Gates c n v b) = (((λ same. let p = same.2 in cc), tt), (tt, tt))
taken_differ (Passes c n i v) = (tt, tt)
taken_differ (Returns c n j v) = (tt, tt)
taken_differ (Turns c n i j b v) = (((λ same. let p = same.2 in cc), tt), (tt, tt))
taken_differ (Outputs j v) = (tt, tt)

-- TOKENS AND THE REST
within_other : (x y : Tagged) (zs ts : List Tagged) → Put x zs ts → Within y ts → Differ x y → Within y zs
within_other x y zs ts p h differ = go (within_permutation y ts (x ∷ zs) (IsPermutation-sym _ _ (put_IsPermutation x zs ts p)) h)
  where
    go : Within y (x ∷ zs) → Within y zs
    go (ws, inl k) =
        absurd (differ (ap (λ (t : Tagged). t.context) (sym k.0), ap (λ (t : Tagged). t.statement) (sym k.0), ap (λ (t : Tagged). t.port) (sym k.0)))
    go (ws, inr k) = (k.0, k.2)

split : (ts us : List Tagged) → Unique us → Held ts us → (rest : List Tagged) × Perm (us ++ rest) ts
split ts [] u h = (ts, perm_refl ts)
split ts (x ∷ us) u h =
    let put = h.0.1 in
    let held : Held h.0.0 us =
    each_from (λ y. Within y h.0.0) us (λ y k. within_other x y h.0.0 ts put (each_within (λ y. Within y ts) y us k h.1) (each_within (Differ x) y us k u.0)) in
    let rest = split h.0.0 us u.1 held in
    (rest.0, (h.0.0, put, rest.1))

counted : (test : Tagged → Bool) (x : Tagged) (ts : List Tagged) → Within x ts → test x ≡ true → 0 < count_by test ts
counted test x ts h e =
    let moved = sum_by-IsPermutation (λ y. cond (test y) 1 0) (x ∷ h.0) ts (put_IsPermutation x h.0 ts h.1) in
    let first : count_by test (x ∷ h.0) ≡ 1 + count_by test h.0 = sum_by-cons (λ y. cond (test y) 1 0) x h.0 ∙ ap (λ t. cond t 1 0 + count_by test h.0) e in
    let same : count_by test (x ∷ h.0) ≡ count_by test ts = sym moved in
    omega (arith, first, same)

-- ONLY A FETCH READS A CELL
module _ (fl : Flow) (c : Context) (n x : ℕ) where
  abbrev Reading : List Value → Option (Node ℕ) → Type 0
  Reading vs line = (i : Value) × (vs ≡ i ∷ []) × (fetches fl i line ≡ Some x)

  place_read : (len : ℕ) (v : Value) (o p : Origin) (base : ℕ) → fetched c n base (index_in len v p) ≡ Reads c n x → cell_in base (index_in len v o) ≡ Some x
  place_read len (Int (pos k)) o p base e = go (nat_lt k len) e
    where
      go : (t : Bool) → fetched c n base (if t then Place k else Outside (Fault Range p)) ≡ Reads c n x
          → cell_in base (if t then Place k else Outside (Fault Range o)) ≡ Some x
      go true f = cc
      go false f = cc
  place_read len (Int (negsuc k)) o p base e = cc
  place_read len (Fault k q) o p base e = cc

  no_store_reads : (base : ℕ) (w : Value) (i : Indexed) → stored c n base w i ≡ Reads c n x → ⊥
  no_store_reads base w (Place k) e = cc
  no_store_reads base w (Outside v) e = cc

  reads_kind : (kind : Kind ℕ) (vs : List Value) → fired fl c n kind vs ≡ Some (Reads c n x) → (i : Value) × (vs ≡ i ∷ []) × (fetch_cell fl i kind ≡ Some x)
  reads_kind (Fetch a) [] e = cc
  reads_kind (Fetch a) (v ∷ []) e = (v, refl, place_read (array_len fl a) v Untold (origin_at fl c n) (first_cell fl a) (same_Some _ _ e))
  reads_kind (Fetch a) (v ∷ w ∷ vs) e = cc
  reads_kind (Store a) [] e = cc
  reads_kind (Store a) (v ∷ []) e = cc
  reads_kind (Store a) (v ∷ w ∷ []) e = absurd (no_store_reads (first_cell fl a) w (index_in (array_len fl a) v (origin_at fl c n)) (same_Some _ _ e))
  reads_kind (Store a) (v ∷ w ∷ z ∷ vs) e = cc
  reads_kind (Lit z) [] e = cc
  reads_kind (Lit z) (v ∷ []) e = cc
  reads_kind (Lit z) (v ∷ w ∷ vs) e = cc
  reads_kind (Apply1 op) [] e = cc
  reads_kind (Apply1 op) (v ∷ []) e = cc
  reads_kind (Apply1 op) (v ∷ w ∷ vs) e = cc
  reads_kind (Apply2 op) [] e = cc
  reads_kind (Apply2 op) (v ∷ []) e = cc
  reads_kind (Apply2 op) (v ∷ w ∷ []) e = absurd (cc)
  reads_kind (Apply2 op) (v ∷ w ∷ z ∷ vs) e = cc
  reads_kind Cond [] e = cc
  reads_kind Cond (v ∷ []) e = cc
  reads_kind Cond (v ∷ w ∷ vs) e = cc
  reads_kind (StrictCall f) vs e = absurd (cc)
  reads_kind Enter vs e = cc
  reads_kind (Merge k) vs e = cc
  reads_kind (Call f) vs e = cc
  reads_kind (Loop f k) vs e = cc

  reads_line : (vs : List Value) (t : Bool) (o : Option (Node ℕ))
      → (if t then input_passed c n vs else on_node (if t then None else o)
      (λ (node : Node ℕ). if length vs == length node.sources then fired fl c n node.kind vs else None)) ≡ Some (Reads c n x)
      → Reading vs (if t then None else o)
  reads_line [] true o e = cc
  reads_line (v ∷ []) true o e = absurd (cc)
  reads_line (v ∷ w ∷ vs) true o e = cc
  reads_line vs false None e = cc
  reads_line vs false (Some line) e = go (length vs == length line.sources) e
    where
      go : (t : Bool) → (if t then fired fl c n line.kind vs else None) ≡ Some (Reads c n x) → Reading vs (Some line)
      go true f = reads_kind line.kind vs f
      go false f = cc

  reads_block : (vs : List Value) (o : Option (Block ℕ)) → on_block o (fired_in fl c n vs) ≡ Some (Reads c n x) → Reading vs (node_in o n)
  reads_block vs None e = cc
  reads_block vs (Some b) e = reads_line vs (nat_lt n b.inputs) (slice_get b.nodes (n - b.inputs)) e

-- a fetch of the cell
pub record Fetching (fl : Flow) (a : Activity) (x : ℕ) : Type 0 where
  pub context : Context
  pub node : ℕ
  pub index : Value
  pub is_fetch : a ≡ Fires context node (index ∷ [])
  pub names : fetches fl index (node_of fl context node) ≡ Some x

pub fetching : (fl : Flow) (a : Activity) (c : Context) (n x : ℕ) → deed fl a ≡ Some (Reads c n x) → Fetching fl a x
fetching fl (Fires d m vs) c n x e =
    let P : List Value → Deed → Type 0 = λ vs d'. d' ≡ Reads c n x → Reads d m x ≡ Reads c n x in
    let same = fires_deed fl d m P (λ vs msg h. absurd (cc)) (λ vs x' h. cc) (λ i w x' h. absurd (cc)) vs (Reads c n x) e refl in
    let l = reads_block fl d m x vs (block_of fl d) (e ∙ ap Some (sym same)) in
    record { context = d; node = m; index = l.0; is_fetch = ap (λ vs. Fires d m vs) l.1; names = l.2 }
fetching fl (Gates d m w b) c n x e = let s = gates_said fl d m w b (Reads c n x) e in let h = s.1 in absurd (cc)
fetching fl (Passes d m i w) c n x e = let s = passes_said fl d m i w (Reads c n x) e in let h = s.1 in absurd (cc)
fetching fl (Returns d m j w) c n x e = absurd (cc)
fetching fl (Turns d m i j b w) c n x e = absurd (cc)
fetching fl (Outputs j w) c n x e = absurd (cc)

module _ (fl : Flow) (s : State) (quiet : NoClash fl s) (none : NoneWaits fl s) where
  -- an activity whose tokens are there is allowed
  allowed : (a : Activity) (d : Deed) → deed fl a ≡ Some d → Held s.tokens (taken a) → (rest : List Tagged) → IsPermutation s.tokens (taken a ++ rest)
      → (E : Effect) × (done fl s.memory d ≡ Some E)
  allowed a (Says m) e held rest moved = (_, refl)
  allowed a (Puts j v) e held rest moved = (_, refl)
  allowed a (Reads c n x) e held rest moved = go (s.memory.cells x) refl
    where
      waiting : 0 < count_by (λ (t : Tagged). waits_for fl x t.context t.statement t.value) s.tokens
      waiting =
          let f = fetching fl a c n x e in
          let here = subst (λ a. Held s.tokens (taken a)) f.is_fetch held in
          counted (λ (t : Tagged). waits_for fl x t.context t.statement t.value) (tagged f.context (AtNode f.node) (Operand 0) f.index) s.tokens here.0
          (ap (λ o. cell_is x o) f.names ∙ eq-eqb x x refl)

      go : (o : Option Value) → s.memory.cells x ≡ o → (E : Effect) × (done fl s.memory (Reads c n x) ≡ Some E)
      go (Some v) f = (_, ap (λ o. when_full o (λ v. adds (tokens_of fl (Sends c n 0 v)) s.memory)) f)
      go None f = let z = none x in let w = waiting in absurd (omega (arith, z, w))
  allowed a (Fills c n x v) e held rest moved = go (s.memory.cells x) refl
    where
      go : (o : Option Value) → s.memory.cells x ≡ o → (E : Effect) × (done fl s.memory (Fills c n x v) ≡ Some E)
      go None f = (_, ap (λ o. when_empty o (adds (tokens_of fl (Sends c n 0 v)) (with_cell s.memory x v))) f)
      go (Some w) f =
          let i = storing fl a c n x v e in
          absurd (quiet x record {
            context = c;
            node = n;
            index = i.0;
            value = v;
            held = w;
            rest = rest;
            is_store = subst (λ a. deed fl a ≡ Some (Fills c n x v)) i.1 e;
            tokens = subst (λ a. IsPermutation s.tokens (taken a ++ rest)) i.1 moved;
            full = f;
          })

  -- so at rest not all of its tokens are there
  not_all : AtRest fl s → (a : Activity) (d : Deed) → deed fl a ≡ Some d → Held s.tokens (taken a) → ⊥
  not_all rests a d e held =
      let parts = split s.tokens (taken a) (taken_differ a) held in
      let moved = IsPermutation-sym _ _ (perm_to (taken a ++ parts.0) s.tokens parts.1) in
      let E = allowed a d e held parts.0 moved in
      rests a _ (step_of fl a s E.0 parts.0 (effect_of fl s.memory a d E.0 e E.1) moved)

module _ (g : Graph) (well : WellFormed g) (inputs : List ℤ) (count : length inputs ≡ inputs_of (flow_of g)) (run : List Activity) (s : State)
    (r : Run (flow_of g) (start inputs) run s)
    (rests : AtRest (flow_of g) s) (quiet : NoClash (flow_of g) s) (none : NoneWaits (flow_of g) s) where
  abbrev Came : Tagged → Type 0
  Came x = Stood (flow_of g) (start inputs) run s r x

  -- either one of these tokens was taken, or all are left
  some_taken : (ts : List Tagged) → Each Came ts → ((x : Tagged) × Within x ts × Taker run x) ⊎ Held s.tokens ts
  some_taken [] h = inr tt
  some_taken (x ∷ ts) h =
      ⊎_elim (λ t. inl (x, (ts, put_first x ts), t))
      (λ k. ⊎_elim (λ l. inl (l.0, (x ∷ l.1.0, inr (l.1.0, refl, l.1.1)), l.2)) (λ l. inr (within_from x s.tokens k, l)) (some_taken ts h.1))
      (taken_or_left g well inputs count run s r x h.0)

  pub happens : (a : Activity) (d : Deed) → deed (flow_of g) a ≡ Some d → Each Came (taken a) → Within a run
  happens a d e h =
      ⊎_elim (λ t. subst (λ a. Within a run) (same_taker g well inputs count run s r a d e h t.0 t.1 t.2) (get_within run t.2.place t.2.activity t.2.stands))
      (λ held. absurd (not_all (flow_of g) s quiet none rests a d e held))
      (some_taken (taken a) h)
