-- All runs to a state at rest have the same activities; so one of them tells which invocations the meaning calls for.
use Rattle.std.proofs.Common.{◌≡◌, refl, sym, ap, ◌∙◌, subst, ℕ, ◌≤◌, ◌⊎◌, inl, inr, ℤ, cond, List, [], ◌∷◌, ◌++◌, append-nil, arith}
use Rattle.std.proofs.Common.{Contains, IsPermutation}
use Rattle.std.specs.List.{sum_by}
use Rattle.std.proofs.lemmas.List.Sums.{sum_by-cons}
use Rattle.std.proofs.lemmas.List.Sorted.{Contains-permutation, IsPermutation-refl, IsPermutation-trans, IsPermutation-cons, IsPermutation-middle}
use Rattle.std.proofs.lemmas.List.Sorted.{sum_by_popped}
use Rattle.lemmas.proofs.Contains.{contains_cases, contains_head, contains_tail}
use Rattle.lemmas.proofs.Permutations.{one_out}
use Rattle.tags.specs.declared.value.Value.{Value}
use Rattle.semantics.specs.Graph.{Graph, Flow, flow_of}
use Rattle.semantics.specs.WellFormed.{WellFormed}
use Rattle.semantics.specs.Meaning.{Context, Main, State, Activity, Fires, Step, Run, Stood, AtRest, start}
use Rattle.semantics.specs.Cause.{AllDue, is_turn}
use Rattle.source.specs.Theorem.{RestsWell}
use Rattle.law_confluence.specs.Outcome.{AreInputsOf, NoClash}
use Rattle.law_confluence.proofs.ActivityDiamond.{One, Joined, Clash, diamond}
use Rattle.law_confluence.proofs.OutcomeDeterminacy.{IsKept, step_same, run_same, clash_run}
use Rattle.law_confluence.proofs.OutcomeResolved.{flow_well, fits}
use Rattle.law_confluence.proofs.History.{History, history_kept, start_history}
use Rattle.law_completion.specs.TotalGraph.{OneRunCounts}
use Rattle.law_completion.proofs.DueGrows.{AllDiffer, differ_tail, differ_head, few_within, within_long, long_run, at_due}

exchanged : {X : Type 0} (a b : X) (xs : List X) → IsPermutation (a ∷ b ∷ xs) (b ∷ a ∷ xs)
exchanged a b xs = IsPermutation-middle (a ∷ []) b xs

module _ (fl : Flow) (Inv : State → Type 0) (k : IsKept fl Inv) where
  -- any first activity is one of the run's
  after : (r : List Activity) (s t u : State) (b : Activity) → Inv s → Run fl s r t → AtRest fl t → NoClash fl t → Step fl b s u
      → (rest : List Activity) × Run fl u rest t × IsPermutation r (b ∷ rest)
  after [] s t u b h p rest quiet q = absurd (rest b u (step_same fl s t u b p q))
  after (a ∷ later) s t u b h p rest quiet q =
      elim (diamond fl s p.0 u a b (k.unique s h) p.1 q) [
        | One same states ↦ (
          later,
          run_same fl p.0 u t later states p.2,
          subst (λ (x : Activity). IsPermutation (a ∷ later) (x ∷ later)) same (IsPermutation-refl (a ∷ later)),
        )
        | Joined end there here ↦
            let ih = after later p.0 t end b (k.step a s p.0 h p.1) p.2 rest quiet there in
            (a ∷ ih.0, (end, here, ih.1), IsPermutation-trans _ _ _ (IsPermutation-cons a later (b ∷ ih.0) ih.2) (exchanged a b ih.0))
        | Clash cell mine its c ↦ absurd (quiet cell (clash_run fl Inv k p.0 t cell later (k.step a s p.0 h p.1) p.2 c))
      ]

  together : (q r : List Activity) (s t o : State) → Inv s → Run fl s r t → AtRest fl t → NoClash fl t → Run fl s q o
      → (rest : List Activity) × Run fl o rest t × IsPermutation r (q ++ rest)
  together [] r s t o h p rest quiet q = (r, run_same fl s o t r q p, IsPermutation-refl r)
  together (b ∷ later) r s t o h p rest quiet q =
      let one = after r s t q.0 b h p rest quiet q.1 in
      let ih = together later one.0 q.0 t o (k.step b s q.0 h q.1) one.1 rest quiet q.2 in
      (ih.0, ih.1, IsPermutation-trans _ _ _ one.2 (IsPermutation-cons b one.0 (later ++ ih.0) ih.2))

  none_more : (s t : State) (r : List Activity) → AtRest fl s → Run fl s r t → r ≡ []
  none_more s t [] rest p = refl
  none_more s t (a ∷ later) rest p = absurd (rest a p.0 p.1)

  pub same_activities : (q r : List Activity) (s t : State) → Inv s → Run fl s r t → AtRest fl t → NoClash fl t → Run fl s q t → IsPermutation r q
  same_activities q r s t h p rest quiet p' =
      let c = together q r s t t h p rest quiet p' in
      let none = none_more t t c.0 rest c.1 in
      subst (IsPermutation r) (ap (λ (l : List Activity). q ++ l) none ∙ append-nil q) c.2

-- what is counted of different things in a list
left_in : {X : Type 0} (x : X) (xs ys rest : List X) → AllDiffer (x ∷ xs) → IsPermutation ys (x ∷ rest) → ((y : X) → Contains (x ∷ xs) y → Contains ys y)
    → (y : X) → Contains xs y → Contains rest y
left_in x xs ys rest d p h y c = go (contains_cases x rest y (Contains-permutation ys (x ∷ rest) y p (h y (contains_tail x xs y c))))
  where
    go : (x ≡ y) ⊎ Contains rest y → Contains rest y
    go (inl e) = absurd (differ_head x xs d (subst (Contains xs) (sym e) c))
    go (inr k) = k

few_summed : {X : Type 0} (f : X → ℕ) (xs ys : List X) → AllDiffer xs → ((x : X) → Contains xs x → Contains ys x) → sum_by f xs ≤ sum_by f ys
few_summed f [] ys d h = omega arith
few_summed f (x ∷ xs) ys d h =
    let out = one_out ys x (h x (contains_head x xs)) in
    let more = few_summed f xs out.0 (differ_tail x xs d) (left_in x xs ys out.0 d out.1 h) in
    let popped = sum_by_popped f x ys out.0 out.1 in
    let cons = sum_by-cons f x xs in
    omega (arith, more, popped, cons)

module _ (g : Graph) (inputs : List ℤ) (well : WellFormed g) (fit : AreInputsOf g inputs) (s : State) (rests : RestsWell (flow_of g) inputs s)
    (whole : List Activity) (to : Run (flow_of g) (start inputs) whole s) (names : List Context)
    (named : (c : Context) (v : Value) → Contains whole (Fires c 0 (v ∷ [])) → (c ≡ Main) ⊎ Contains names c)
    (run : List Activity) (other : State) (r : Run (flow_of g) (start inputs) run other) (cs : List Context)
    (due : AllDue (flow_of g) run (Stood (flow_of g) (start inputs) run other r) cs) where
  same : IsPermutation (long_run g inputs well fit s rests whole to run other r cs due).0 whole
  same =
      same_activities (flow_of g) (History (flow_of g) inputs)
      (history_kept (flow_of g) (flow_well g well) inputs (fits g well inputs fit)) whole
      (long_run g inputs well fit s rests whole to run other r cs due).0 (start inputs) s
      ([], start_history (flow_of g) inputs (fits g well inputs fit)) (long_run g inputs well fit s rests whole to run other r cs due).1 rests.at_rest
      rests.no_clash to

  pub among : (c : Context) → Contains cs c → Contains names c
  among c k =
      let fires = within_long g inputs well fit s rests whole to run other r cs due c k in
      pick (named c fires.0 (Contains-permutation _ _ _ same fires.1))
    where
      pick : (c ≡ Main) ⊎ Contains names c → Contains names c
      pick (inl e) = absurd ((at_due g inputs well fit s rests whole to run other r cs due c k).1 e)
      pick (inr n) = n

pub one_run_counts : OneRunCounts
one_run_counts g inputs well fit s rests whole to names named = record {
  state = s;
  rests = rests;
  calls = record {
    invocations = λ run other r cs due. few_within cs names due.1 (among g inputs well fit s rests whole to names named run other r cs due);
    turns = λ run other r cs due.
        few_summed (λ (c : Context). cond (is_turn c) 1 0) cs names due.1 (among g inputs well fit s rests whole to names named run other r cs due);
  };
}
