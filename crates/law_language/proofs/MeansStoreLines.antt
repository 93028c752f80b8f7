-- What lies under a node, and that a node that neither stores nor makes an invocation has no store.
use Rattle.std.proofs.Common.{◌≡◌, ℕ, ◌+◌, ◌==◌, ◌⊎◌, ℤ, Bool, true, false, List, [], ◌∷◌, length, map, filter, Option, Some, None, nat_lt, nat_le}
use Rattle.std.proofs.Common.{if◌then◌else◌, inl, inr, refl, sym, ap, ap₂, ◌∙◌, subst, arith, ltb-true, leb-true, ⊎_elim}
use Rattle.std.specs.Prelude.{⊤}
use Rattle.std.proofs.lemmas.Option.{same_Some}
use Rattle.tags.specs.declared.value.Value.{Value}
use Rattle.semantics.specs.declared.graph.Kind.{Kind}
use Rattle.semantics.specs.declared.graph.Kind.TheVariants.{Lit, Apply1, Apply2, Cond, Enter, Merge, Fetch, Store, Call, StrictCall, Loop}
use Rattle.semantics.specs.Graph.{Node, Block, Flow, node_at}
use Rattle.semantics.specs.Meaning.{Context, Main, Called, Turned, State, Activity, Fires, Fills, Deed, Run, start, deed, fired, fired_in, input_passed}
use Rattle.semantics.specs.Meaning.{on_node, on_block, block_of, node_in, node_of, IsCall, IsLoop}
use Rattle.lemmas.proofs.Permutations.{Within, Each, each_from, within_to}
use Rattle.lemmas.proofs.Bools.{first_of_and, second_of_and}
use Rattle.law_confluence.proofs.ActivityShapes.{storing}
use Rattle.law_confluence.specs.EquationsContexts.{same_context}
use Rattle.law_confluence.proofs.EquationsContexts.{same_context_is}
use Rattle.law_confluence.specs.EquationsHave.{Gives, Stored, stores_of}
use Rattle.law_confluence.specs.Equations.{IsDue}
use Rattle.law_confluence.specs.EquationsSettled.{Settled}
use Rattle.law_confluence.proofs.EquationsEndCells.{stored_from}
use Rattle.law_language.specs.MeansBelow.{node_under, is_within, is_below, cell_and_value, stores_below}

abbrev pub IsStore : Kind ℕ → Type 0
IsStore (Store a) = ⊤
IsStore kind = ⊥

-- nodes that neither store nor make an invocation
abbrev pub IsQuiet : Kind ℕ → Type 0
IsQuiet (Store a) = ⊥
IsQuiet (Call f) = ⊥
IsQuiet (StrictCall f) = ⊥
IsQuiet (Loop f k) = ⊥
IsQuiet kind = ⊤

quiet_store : (kind : Kind ℕ) → IsQuiet kind → IsStore kind → ⊥
quiet_store (Store a) h k = h
quiet_store kind h k = k

quiet_call : (kind : Kind ℕ) → IsQuiet kind → IsCall kind → ⊥
quiet_call (Call f) h k = h
quiet_call (StrictCall f) h k = h
quiet_call kind h k = k

quiet_loop : (kind : Kind ℕ) → IsQuiet kind → IsLoop kind → ⊥
quiet_loop (Loop f n) h k = h
quiet_loop kind h k = k

fired_store : (fl : Flow) (c : Context) (n : ℕ) (kind : Kind ℕ) (i v : Value) (d : Deed) (x : ℕ) → d ≡ Fills c n x v → fired fl c n kind (i ∷ v ∷ []) ≡ Some d
    → IsStore kind
fired_store fl c n (Lit z) i v d x is e = cc
fired_store fl c n (Apply1 op) i v d x is e = cc
fired_store fl c n (Apply2 op) i v d x is e = cc
fired_store fl c n Cond i v d x is e = cc
fired_store fl c n Enter i v d x is e = cc
fired_store fl c n (Merge k) i v d x is e = cc
fired_store fl c n (Fetch a) i v d x is e = cc
fired_store fl c n (Store a) i v d x is e = tt
fired_store fl c n (Call f) i v d x is e = cc
fired_store fl c n (StrictCall f) i v d x is e = cc
fired_store fl c n (Loop f k) i v d x is e = cc

-- a store that happens is a line of its block
pub line_of_store : (fl : Flow) (c : Context) (n : ℕ) (i v : Value) (d : Deed) (x : ℕ) → d ≡ Fills c n x v → deed fl (Fires c n (i ∷ v ∷ [])) ≡ Some d
    → (line : Node ℕ) × (node_of fl c n ≡ Some line) × IsStore line.kind
line_of_store fl c n i v d x is e = go (block_of fl c) e
  where
    by_count : (line : Node ℕ) (t : Bool) → (if t then fired fl c n line.kind (i ∷ v ∷ []) else None) ≡ Some d → IsStore line.kind
    by_count line true f = fired_store fl c n line.kind i v d x is f
    by_count line false f = cc

    by_line : (o : Option (Node ℕ)) → on_node o (λ (node : Node ℕ). if length (i ∷ v ∷ []) == length node.sources then fired fl c n node.kind
        (i ∷ v ∷ []) else None) ≡ Some d
        → (line : Node ℕ) × (o ≡ Some line) × IsStore line.kind
    by_line None f = cc
    by_line (Some line) f = (line, refl, by_count line (length (i ∷ v ∷ []) == length line.sources) f)

    by_input : (b : Block ℕ) (t : Bool)
        → (if t then input_passed c n (i ∷ v ∷ []) else on_node (node_at b n) (λ (node : Node ℕ). if length
        (i ∷ v ∷ []) == length node.sources then fired fl c n node.kind (i ∷ v ∷ []) else None)) ≡ Some d
        → (line : Node ℕ) × (node_at b n ≡ Some line) × IsStore line.kind
    by_input b true f = cc
    by_input b false f = by_line (node_at b n) f

    go : (o : Option (Block ℕ)) → on_block o (fired_in fl c n (i ∷ v ∷ [])) ≡ Some d → (line : Node ℕ) × (node_in o n ≡ Some line) × IsStore line.kind
    go None f = cc
    go (Some b) f = by_input b (nat_lt n b.inputs) f

pub kept_none : {X : Type 0} (f : X → Bool) (xs : List X) → Each (λ x. f x ≡ false) xs → filter f xs ≡ []
kept_none f [] h = refl
kept_none f (x ∷ xs) h = ap (λ (b : Bool). if b then x ∷ filter f xs else filter f xs) h.0 ∙ kept_none f xs h.1

pub false_by : (b : Bool) → (b ≡ true → ⊥) → b ≡ false
false_by true h = absurd (h refl)
false_by false h = refl

pub within_one : (n : ℕ) (o : Option ℕ) → is_within n (n + 1) o ≡ true → o ≡ Some n
within_one n None e = cc
within_one n (Some m) e =
    let low = leb-true n m (first_of_and (nat_le n m) (nat_lt m (n + 1)) e) in
    let high = ltb-true m (n + 1) (second_of_and (nat_le n m) (nat_lt m (n + 1)) e) in
    let same : m ≡ n = omega (arith, low, high) in ap (λ m. Some m) same

pub bools_same : (a b : Bool) → (a ≡ true → b ≡ true) → (b ≡ true → a ≡ true) → a ≡ b
bools_same true b f g = sym (f refl)
bools_same false true f g = g refl
bools_same false false f g = refl

pub filters_same : {X : Type 0} (f g : X → Bool) (xs : List X) → Each (λ x. f x ≡ g x) xs → filter f xs ≡ filter g xs
filters_same f g [] h = refl
filters_same f g (x ∷ xs) h = ap₂ (λ (b : Bool) l. if b then x ∷ l else l) h.0 (filters_same f g xs h.1)

pub within_some : (lo hi : ℕ) (o : Option ℕ) → is_within lo hi o ≡ true → (k : ℕ) × (o ≡ Some k)
within_some lo hi None e = cc
within_some lo hi (Some k) e = (k, refl)

pub call_loop : (kind : Kind ℕ) → IsCall kind → IsLoop kind → ⊥
call_loop (Call f) h k = k
call_loop (StrictCall f) h k = k
call_loop kind h k = h

module _ (fl : Flow) (inputs : List ℤ) (run : List Activity) (s : State) (r : Run fl (start inputs) run s) (st : Settled fl inputs run s r) where
  pub stored_at : (w : Stored) → Within w (stores_of fl run) → IsDue fl inputs run s r w.context ×
      ((line : Node ℕ) × (node_of fl w.context w.node ≡ Some line) × IsStore line.kind)
  stored_at w h =
      let a = stored_from fl (start inputs) s run r w h in
      let f = storing fl a.0 w.context w.node w.cell w.value a.2 in
      let gives : Gives fl run s.memory w.context w.node 0 w.value = (a.0, Fills w.context w.node w.cell w.value, within_to a.0 run a.1, a.2, refl) in (
        st.silent_invocations w.context w.node 0 w.value gives,
        line_of_store fl w.context w.node f.0 w.value (Fills w.context w.node w.cell w.value) w.cell refl
            (subst (λ a. deed fl a ≡ Some (Fills w.context w.node w.cell w.value)) f.1 a.2),
      )

  -- what lies under node n of c is that node, or n is a call or a loop
  abbrev Under : Context → ℕ → Context → ℕ → Type 0
  Under c n d m = ((d ≡ c) × (m ≡ n)) ⊎ ((above : Node ℕ) × (node_of fl c n ≡ Some above) × (IsCall above.kind ⊎ IsLoop above.kind))

  made_under : (c : Context) (n : ℕ) (d : Context) (k : ℕ) (line : Node ℕ) → node_of fl d k ≡ Some line → (IsCall line.kind ⊎ IsLoop line.kind) → Under c n d k
      → (above : Node ℕ) × (node_of fl c n ≡ Some above) × (IsCall above.kind ⊎ IsLoop above.kind)
  made_under c n d k line e kind (inl h) = (line, ap₂ (λ c n. node_of fl c n) (sym h.0) (sym h.1) ∙ e, kind)
  made_under c n d k line e kind (inr h) = h

  pub under : (c : Context) (n : ℕ) (d : Context) (m : ℕ) → IsDue fl inputs run s r d → node_under c d m ≡ Some n → Under c n d m
  under c n Main m due e = go (same_context c Main) refl e
    where
      go : (t : Bool) → same_context c Main ≡ t → (if t then Some m else None) ≡ Some n → Under c n Main m
      go true f e = inl (sym (same_context_is c Main f), same_Some m n e)
      go false f e = cc
  under c n (Called d k) m due e = go (same_context c (Called d k)) refl e (λ e. under c n d k due.0 e)
    where
      go : (t : Bool) → same_context c (Called d k) ≡ t → (if t then Some m else node_under c d k) ≡ Some n → (node_under c d k ≡ Some n → Under c n d k)
          → Under c n (Called d k) m
      go true f e later = inl (sym (same_context_is c (Called d k) f), same_Some m n e)
      go false f e later = inr (made_under c n d k due.1.0 due.1.1 (inl due.1.2) (later e))
  under c n (Turned d k t) m due e = go (same_context c (Turned d k t)) refl e (λ e. under c n d k due.0 e)
    where
      go : (u : Bool) → same_context c (Turned d k t) ≡ u → (if u then Some m else node_under c d k) ≡ Some n → (node_under c d k ≡ Some n → Under c n d k)
          → Under c n (Turned d k t) m
      go true f e later = inl (sym (same_context_is c (Turned d k t) f), same_Some m n e)
      go false f e later = inr (made_under c n d k due.1.0 due.1.1 (inr due.1.2) (later e))

  pub quiet_under : (c : Context) (n : ℕ) (line : Node ℕ) → node_of fl c n ≡ Some line → IsQuiet line.kind → (w : Stored) → Within w (stores_of fl run)
      → node_under c w.context w.node ≡ Some n → ⊥
  quiet_under c n line el quiet w h e =
      let at = stored_at w h in go at.1.0 at.1.1 at.1.2 (under c n w.context w.node at.0 e)
    where
      go : (own : Node ℕ) → node_of fl w.context w.node ≡ Some own → IsStore own.kind → Under c n w.context w.node → ⊥
      go own eo kind (inl k) =
          let same : own ≡ line = same_Some own line (sym eo ∙ ap₂ (λ c n. node_of fl c n) k.0 k.1 ∙ el) in
          quiet_store line.kind quiet (subst (λ (l : Node ℕ). IsStore l.kind) same kind)
      go own eo kind (inr k) =
          let same : k.0 ≡ line = same_Some k.0 line (sym k.1 ∙ el) in
          let makes = subst (λ (l : Node ℕ). IsCall l.kind ⊎ IsLoop l.kind) same k.2 in
          ⊎_elim (λ x. quiet_call line.kind quiet x) (λ x. quiet_loop line.kind quiet x) makes

  pub quiet : (c : Context) (n : ℕ) (line : Node ℕ) → node_of fl c n ≡ Some line → IsQuiet line.kind → stores_below fl run c n (n + 1) ≡ []
  quiet c n line el silent =
      ap (λ (us : List Stored). map cell_and_value us)
      (kept_none (λ (w : Stored). is_below c n (n + 1) w.context w.node) (stores_of fl run)
      (each_from (λ (w : Stored). is_below c n (n + 1) w.context w.node ≡ false) (stores_of fl run)
      (λ w h. false_by (is_below c n (n + 1) w.context w.node) (λ e. quiet_under c n line el silent w h (within_one n (node_under c w.context w.node) e)))))
