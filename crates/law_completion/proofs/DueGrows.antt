-- What a run calls for, it calls for however it goes on; and each invocation that is due at the end has an activity of its own.
use Rattle.std.proofs.Common.{◌≡◌, refl, sym, ap, subst, ℕ, zero, suc, ◌+◌, ◌≤◌, ◌⊎◌, inl, inr, ℤ, Bool, List, [], ◌∷◌, ◌++◌, map, length, Some, slice_get}
use Rattle.std.proofs.Common.{arith, Contains, IsPermutation}
use Rattle.std.specs.Prelude.{◌≢◌}
use Rattle.std.proofs.lemmas.List.{length-map}
use Rattle.std.proofs.lemmas.List.Elements.{Contains-append_left}
use Rattle.std.proofs.lemmas.List.Sums.{count_by-le-length}
use Rattle.std.proofs.lemmas.List.Sorted.{Contains-permutation, IsPermutation-sym, length_permutation}
use Rattle.lemmas.proofs.Contains.{contains_cases, contains_head, contains_tail, contains_get, contains_map, get_contains}
use Rattle.lemmas.proofs.Permutations.{one_out}
use Rattle.lemmas.proofs.Alls.{all_at}
use Rattle.tags.specs.declared.value.Value.{Value}
use Rattle.semantics.specs.declared.graph.Kind.{Kind}
use Rattle.semantics.specs.declared.graph.Kind.TheVariants.{StrictCall}
use Rattle.semantics.specs.Graph.{Graph, Flow, flow_of}
use Rattle.semantics.specs.WellFormed.{WellFormed}
use Rattle.semantics.specs.Meaning.{Context, Main, Called, Turned, State, Tagged, Activity, Fires, Run, Stood, Due, ArmsTaken, StartsWhenStrict, Same, Leads}
use Rattle.semantics.specs.Meaning.{start}
use Rattle.semantics.specs.Cause.{AllDue, is_turn}
use Rattle.source.specs.Theorem.{RestsWell}
use Rattle.law_confluence.specs.Outcome.{AreInputsOf, IsOnlyOutcome}
use Rattle.law_confluence.specs.EquationsSettled.{Settled}
use Rattle.law_confluence.proofs.OutcomeDeterminacy.{step_same, same_sym, same_trans}
use Rattle.law_confluence.proofs.Outcome.{determinacy}
use Rattle.law_confluence.proofs.Equations.{runs_at_rest}
use Rattle.law_confluence.proofs.EquationsNoneWaits.{none_waits}
use Rattle.law_completion.specs.Total.{LengthBounds}

-- ---- A RUN THAT GOES ON, and the tokens that stood in it
on_same : (fl : Flow) (s t u : State) (q : List Activity) → Same s t → Run fl t q u → Run fl s q u
on_same fl s t u [] h p = same_trans s t u h p
on_same fl s t u (a ∷ q) h p = (p.0, step_same fl t s p.0 a (same_sym s t h) p.1, p.2)

on_then : (fl : Flow) (s t u : State) (r q : List Activity) → Run fl s r t → Run fl t q u → Run fl s (r ++ q) u
on_then fl s t u [] q p k = on_same fl s t u q p k
on_then fl s t u (a ∷ r) q p k = (p.0, p.1, on_then fl p.0 t u r q p.2 k)

stood_same : (fl : Flow) (s t u : State) (q : List Activity) (h : Same s t) (p : Run fl t q u) (x : Tagged) → Contains t.tokens x
    → Stood fl s q u (on_same fl s t u q h p) x
unfolding on_same
stood_same fl s t u [] h p x c = Contains-permutation t.tokens u.tokens x p.0 c
stood_same fl s t u (a ∷ q) h p x c = inl (Contains-permutation t.tokens s.tokens x (IsPermutation-sym _ _ h.0) c)

stood_then : (fl : Flow) (s t u : State) (r q : List Activity) (p : Run fl s r t) (k : Run fl t q u) (x : Tagged) → Stood fl s r t p x
    → Stood fl s (r ++ q) u (on_then fl s t u r q p k) x
unfolding on_then
stood_then fl s t u [] q p k x c = stood_same fl s t u q p k x c
stood_then fl s t u (a ∷ r) q p k x (inl c) = inl c
stood_then fl s t u (a ∷ r) q p k x (inr c) = inr (stood_then fl p.0 t u r q p.2 k x c)

-- ---- WHAT IS DUE STAYS DUE
module _ (fl : Flow) (run more : List Activity) (stood later : Tagged → Type 0) (grows : (x : Tagged) → stood x → later x)
    (longer : (a : Activity) → Contains run a → Contains more a) where
  arms_grow : (c : Context) (arms : List (ℕ × Bool)) → ArmsTaken stood c arms → ArmsTaken later c arms
  arms_grow c [] h = tt
  arms_grow c (arm ∷ arms) ((v, was, is), h) = ((v, grows _ was, is), arms_grow c arms h)

  strict_grows : (c : Context) (n : ℕ) (kind : Kind ℕ) → StartsWhenStrict run c n kind → StartsWhenStrict more c n kind
  strict_grows c n (StrictCall f) (vs, k) = (vs, longer _ k)
  strict_grows c n kind h = h

  pub due_grows : (c : Context) → Due fl run stood c → Due fl more later c
  due_grows Main h = tt
  due_grows (Called c n) (up, (line, at, is, starts), arms) = (due_grows c up, (line, at, is, strict_grows c n line.kind starts), arms_grow c _ arms)
  due_grows (Turned c n i) (up, line, arms, flags) =
      (due_grows c up, line, arms_grow c _ arms, λ j low. (let k = flags j low in (k.0, k.1, grows _ k.2, k.3)))

-- ---- DIFFERENT THINGS IN A LIST are no more than it has
abbrev pub AllDiffer : {X : Type 0} → List X → Type 0
AllDiffer {X = X} xs = (i j : ℕ) (x : X) → slice_get xs i ≡ Some x → slice_get xs j ≡ Some x → i ≡ j

pub differ_tail : {X : Type 0} (x : X) (xs : List X) → AllDiffer (x ∷ xs) → AllDiffer xs
differ_tail x xs d i j y a b = let e = d (suc i) (suc j) y a b in omega (arith, e)

pub differ_head : {X : Type 0} (x : X) (xs : List X) → AllDiffer (x ∷ xs) → Contains xs x → ⊥
differ_head x xs d c = let k = contains_get xs x c in let e = d 0 (suc k.0) x refl k.1 in omega (arith, e)

pub few_within : {X : Type 0} (xs ys : List X) → AllDiffer xs → ((x : X) → Contains xs x → Contains ys x) → length xs ≤ length ys
few_within [] ys d h = omega arith
few_within {X = X} (x ∷ xs) ys d h =
    let out = one_out ys x (h x (contains_head x xs)) in
    let more = few_within xs out.0 (differ_tail x xs d) (λ y c. left y c out.0 out.1) in
    let long = length_permutation ys (x ∷ out.0) out.1 in
    omega (arith, more, long)
  where
    left : (y : X) → Contains xs y → (rest : List X) → IsPermutation ys (x ∷ rest) → Contains rest y
    left y c rest p = go (contains_cases x rest y (Contains-permutation ys (x ∷ rest) y p (h y (contains_tail x xs y c))))
      where
        go : (x ≡ y) ⊎ Contains rest y → Contains rest y
        go (inl e) = absurd (differ_head x xs d (subst (Contains xs) (sym e) c))
        go (inr k) = k

-- ---- FEWER INVOCATIONS THAN ACTIVITIES
where_of : Activity → Context
where_of (Fires c n vs) = c
where_of a = Main

module _ (g : Graph) (inputs : List ℤ) (well : WellFormed g) (fit : AreInputsOf g inputs) (s : State) (rests : RestsWell (flow_of g) inputs s)
    (whole : List Activity) (to : Run (flow_of g) (start inputs) whole s) where
  abbrev fl : Flow
  fl = flow_of g

  only : IsOnlyOutcome fl inputs s
  only = determinacy g well inputs fit s rests.reached rests.at_rest rests.no_clash

  module _ (run : List Activity) (other : State) (r : Run fl (start inputs) run other) (cs : List Context)
      (due : AllDue fl run (Stood fl (start inputs) run other r) cs) where
    abbrev lead : Leads fl other s
    lead = only.leads other record { run = run; is_run = r }

    abbrev long : List Activity
    long = run ++ lead.0

    abbrev on : Run fl (start inputs) long s
    on = on_then fl (start inputs) other s run lead.0 r lead.1

    settled : Settled fl inputs long s on
    settled = runs_at_rest g inputs well fit long s on rests.at_rest rests.no_clash (none_waits fl s.tokens rests.none_waits)

    at : (c : Context) → Contains cs c → Due fl run (Stood fl (start inputs) run other r) c × (c ≢ Main)
    at c k = let i = contains_get cs c k in
        all_at (λ c. Due fl run (Stood fl (start inputs) run other r) c × (c ≢ Main)) cs i.0 c due.0 i.1

    fires_in : (c : Context) → Due fl long (Stood fl (start inputs) long s on) c → Contains (map where_of long) c
    unfolding where_of
    fires_in c d = let a = settled.active c d in contains_map where_of long (Fires c 0 (a.0 ∷ [])) a.1

    within : (c : Context) → Contains (Main ∷ cs) c → Contains (map where_of long) c
    within c k = go (contains_cases Main cs c k)
      where
        go : (Main ≡ c) ⊎ Contains cs c → Contains (map where_of long) c
        go (inl e) = subst (Contains (map where_of long)) e (fires_in Main tt)
        go (inr k) = fires_in c (due_grows fl run long (Stood fl (start inputs) run other r) (Stood fl (start inputs) long s on)
            (λ x h. stood_then fl (start inputs) other s run lead.0 r lead.1 x h) (λ a h. Contains-append_left run lead.0 a h) c (at c k).0)

    differ : AllDiffer (Main ∷ cs)
    differ zero zero c a b = refl
    differ zero (suc j) c a b = absurd ((at c (got j b)).1 (main_is a))
      where
        main_is : Some Main ≡ Some c → c ≡ Main
        main_is e = cc

        got : (j : ℕ) → slice_get cs j ≡ Some c → Contains cs c
        got j e = get_contains cs j c e
    differ (suc i) zero c a b = absurd ((at c (get_contains cs i c a)).1 (main_is b))
      where
        main_is : Some Main ≡ Some c → c ≡ Main
        main_is e = cc
    differ (suc i) (suc j) c a b = ap suc (due.1 i j c a b)

    pub long_run : (q : List Activity) × Run fl (start inputs) q s
    long_run = (long, on)

    pub at_due : (c : Context) → Contains cs c → Due fl run (Stood fl (start inputs) run other r) c × (c ≢ Main)
    at_due c k = at c k

    -- input 0 of each passes in the longer run
    pub within_long : (c : Context) → Contains cs c → (v : Value) × Contains long_run.0 (Fires c 0 (v ∷ []))
    unfolding long_run
    within_long c k = settled.active c (due_grows fl run long (Stood fl (start inputs) run other r) (Stood fl (start inputs) long s on)
        (λ x h. stood_then fl (start inputs) other s run lead.0 r lead.1 x h) (λ a h. Contains-append_left run lead.0 a h) c (at c k).0)

    pub fewer : 1 + length cs ≤ length whole
    fewer =
        let few = few_within (Main ∷ cs) (map where_of long) differ within in
        let same = only.same_length long whole on to in
        let mapped = length-map long where_of in
        omega (arith, few, same, mapped)

pub length_bounds : LengthBounds
length_bounds g inputs well fit s rests whole to = record {
  invocations = λ run other r cs due. (let a = fewer g inputs well fit s rests whole to run other r cs due in omega (arith, a));
  turns = λ run other r cs due. (let a = fewer g inputs well fit s rests whole to run other r cs due in
      let b = count_by-le-length is_turn cs in omega (arith, a, b));
}
