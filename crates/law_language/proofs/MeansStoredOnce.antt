-- The store of a node is the only one of its node in its invocation.
use Rattle.std.proofs.Common.{◌≡◌, ℕ, zero, suc, ◌+◌, ◌&&◌, ℤ, Bool, true, false, List, [], ◌∷◌, map, filter, Some, if◌then◌else◌, refl, sym, ap, ap₂, ◌∙◌}
use Rattle.std.proofs.Common.{subst, arith, Contains, lt-ltb, le-leb, ⊎_elim}
use Rattle.std.specs.Prelude.{slice_get}
use Rattle.std.proofs.lemmas.Option.{same_Some}
use Rattle.tags.specs.declared.value.Value.{Value}
use Rattle.semantics.specs.declared.graph.Kind.{Kind}
use Rattle.semantics.specs.declared.graph.Kind.TheVariants.{Store}
use Rattle.semantics.specs.Graph.{Node, Flow}
use Rattle.semantics.specs.Meaning.{Context, Main, Called, Turned, State, Activity, Run, start, node_of, IsCall, IsLoop}
use Rattle.lemmas.proofs.Permutations.{Within, each_from, get_within, within_to}
use Rattle.lemmas.proofs.Contains.{contains_get}
use Rattle.law_confluence.proofs.EquationsContexts.{same_itself}
use Rattle.law_confluence.specs.EquationsHave.{Stored, stores_of}
use Rattle.law_confluence.specs.EquationsSettled.{Settled}
use Rattle.law_language.specs.MeansBelow.{node_under, is_within, is_below, cell_and_value, stores_below}
use Rattle.law_language.proofs.MeansStoreLines.{IsStore, stored_at, under, kept_none, false_by, within_one}

pub own_under : (c : Context) (n : ℕ) → node_under c c n ≡ Some n
own_under Main n = refl
own_under (Called c k) n = ap (λ (t : Bool). if t then Some n else node_under (Called c k) c k) (same_itself (Called c k))
own_under (Turned c k i) n = ap (λ (t : Bool). if t then Some n else node_under (Turned c k i) c k) (same_itself (Turned c k i))

pub within_itself : (n : ℕ) → is_within n (n + 1) (Some n) ≡ true
within_itself n = ap₂ (λ (a b : Bool). a && b) (le-leb n n (omega arith)) (lt-ltb n (n + 1) (omega arith))

pub kept_one : {X : Type 0} (f : X → Bool) (xs : List X) (i : ℕ) (u : X) → slice_get xs i ≡ Some u → f u ≡ true
    → ((j : ℕ) (w : X) → slice_get xs j ≡ Some w → f w ≡ true → j ≡ i) → filter f xs ≡ u ∷ []
kept_one f [] i u e t only = cc
kept_one f (x ∷ xs) zero u e t only =
    let same : x ≡ u = same_Some x u e in
    let none = kept_none f xs (each_from (λ y. f y ≡ false) xs
    (λ y h. false_by (f y) (λ k. let at = contains_get xs y (within_to y xs h) in let z = only (suc at.0) y at.1 k in absurd (omega (arith, z))))) in
    ap (λ (b : Bool). if b then x ∷ filter f xs else filter f xs) (ap f same ∙ t) ∙ ap (λ l. x ∷ l) none ∙ ap (λ y. y ∷ []) same
kept_one f (x ∷ xs) (suc i) u e t only =
    ap (λ (b : Bool). if b then x ∷ filter f xs else filter f xs) (false_by (f x) (λ k. let z = only zero x refl k in absurd (omega (arith, z))))
    ∙ kept_one f xs i u e t (λ j w g k. let z = only (suc j) w g k in omega (arith, z))

pub store_call : (kind : Kind ℕ) → IsStore kind → IsCall kind → ⊥
store_call (Store a) h k = k
store_call kind h k = h

pub store_loop : (kind : Kind ℕ) → IsStore kind → IsLoop kind → ⊥
store_loop (Store a) h k = k
store_loop kind h k = h

module _ (fl : Flow) (inputs : List ℤ) (run : List Activity) (s : State) (r : Run fl (start inputs) run s) (st : Settled fl inputs run s r)
    (c : Context) (n : ℕ) (line : Node ℕ) (el : node_of fl c n ≡ Some line) (kind : IsStore line.kind) where
  -- what lies below a store's node is its own
  pub its_own : (w : Stored) → Within w (stores_of fl run) → is_below c n (n + 1) w.context w.node ≡ true → (w.context ≡ c) × (w.node ≡ n)
  its_own w h t =
      let at = stored_at fl inputs run s r st w h in
      ⊎_elim (λ own. own)
      (λ made.
      let same : made.0 ≡ line = same_Some made.0 line (sym made.1 ∙ el) in
      let k = subst (λ (l : Node ℕ). IsStore l.kind) (sym same) kind in
      absurd (⊎_elim (λ x. store_call made.0.kind k x) (λ x. store_loop made.0.kind k x) made.2))
      (under fl inputs run s r st c n w.context w.node at.0 (within_one n (node_under c w.context w.node) t))

  -- where the run has its store, that is the only one
  pub one_store : (x : ℕ) (v : Value) → Contains (stores_of fl run) (record { context = c; node = n; cell = x; value = v })
      → stores_below fl run c n (n + 1) ≡ (x, v) ∷ []
  one_store x v h =
      let u : Stored = record { context = c; node = n; cell = x; value = v } in
      let at = contains_get (stores_of fl run) u h in
      let hit : is_below c n (n + 1) c n ≡ true = ap (is_within n (n + 1)) (own_under c n) ∙ within_itself n in
      ap (λ (us : List Stored). map cell_and_value us)
      (kept_one (λ (w : Stored). is_below c n (n + 1) w.context w.node) (stores_of fl run) at.0 u at.1 hit
      (λ j w e t. let own = its_own w (get_within (stores_of fl run) j w e) t in st.node_stores_once j at.0 w u e at.1 own.0 own.1))

  -- and where it has none, there is none
  pub no_store : ((w : Stored) → Within w (stores_of fl run) → w.context ≡ c → w.node ≡ n → ⊥) → stores_below fl run c n (n + 1) ≡ []
  no_store none =
      ap (λ (us : List Stored). map cell_and_value us)
      (kept_none (λ (w : Stored). is_below c n (n + 1) w.context w.node) (stores_of fl run)
      (each_from (λ (w : Stored). is_below c n (n + 1) w.context w.node ≡ false) (stores_of fl run)
      (λ w h. false_by (is_below c n (n + 1) w.context w.node) (λ t. let own = its_own w h t in none w h own.0 own.1))))
