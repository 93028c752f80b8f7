-- Where no loop outgrows its bound, code that waits for credits only for loops that do completes.
use Rattle.std.proofs.Common.{◌≡◌, sym, ap, ◌∙◌, subst, ℕ, zero, suc, inr, ℤ, List, [], ◌∷◌, map, Some, Contains, arith}
use Rattle.std.specs.Prelude.{slice_get}
use Rattle.lemmas.proofs.Alls.{all_from}
use Rattle.lemmas.proofs.Contains.{contains_head, contains_map, contains_mapped}
use Rattle.tags.specs.declared.value.Value.{Value}
use Rattle.semantics.specs.Graph.{Flow, flow_of}
use Rattle.semantics.specs.Meaning.{Context, Main, Turned, State, Activity, Fires, Run, Stood, Due, start}
use Rattle.semantics.specs.Program.{Program}
use Rattle.semantics.specs.Cause.{AllDue}
use Rattle.semantics.specs.Machine.{Size}
use Rattle.law_completion.specs.Total.{NeverStarves}
use Rattle.law_completion.proofs.OneRun.{among}
use Rattle.law_completion.proofs.TotalEnds.{roomy_runs_complete}
use Rattle.law_loops_complete.specs.Loops.{WaitsForMore}
use Rattle.law_loops_complete.specs.LoopsComplete.{NoneOutgrows, OneRunBounds, LoopsComplete}

-- ---- ONE RUN TELLS

-- the invocation in which an activity passes the first input
entered : Activity → Context
entered (Fires c zero (v ∷ [])) = c
entered a = Main

not_main : (c : Context) (n t : ℕ) → Turned c n t ≡ Main → ⊥
not_main c n t e = cc

entered_by : (a : Activity) (c : Context) (n t : ℕ) → entered a ≡ Turned c n t → (v : Value) × (a ≡ Fires (Turned c n t) 0 (v ∷ []))
unfolding entered
entered_by (Fires d zero (v ∷ [])) c n t e = (v, ap (λ (c : Context). Fires c 0 (v ∷ [])) e)
entered_by a c n t e = absurd (not_main c n t (sym e))

in_entered : (run : List Activity) (c : Context) (v : Value) → Contains run (Fires c 0 (v ∷ [])) → Contains (map entered run) c
unfolding entered
in_entered run c v h = contains_map entered run (Fires c 0 (v ∷ [])) h

alone : (fl : Flow) (run : List Activity) (s : State) (inputs : List ℤ) (r : Run fl (start inputs) run s) (c : Context) (n t : ℕ)
    → Due fl run (Stood fl (start inputs) run s r) (Turned c n t) → AllDue fl run (Stood fl (start inputs) run s r) (Turned c n t ∷ [])
alone fl run s inputs r c n t due = (all_from _ (Turned c n t ∷ []) each, once)
  where
    got : (i : ℕ) (d : Context) → slice_get (Turned c n t ∷ []) i ≡ Some d → (i ≡ 0) × (Turned c n t ≡ d)
    got zero d e = (omega arith, cc)
    got (suc i) d e = absurd (cc)

    each : (i : ℕ) (d : Context) → slice_get (Turned c n t ∷ []) i ≡ Some d → Due fl run (Stood fl (start inputs) run s r) d × (d ≡ Main → ⊥)
    each i d e =
        let k = (got i d e).1 in
        (subst (Due fl run (Stood fl (start inputs) run s r)) k due, λ m. not_main c n t (k ∙ m))

    once : (i j : ℕ) (d : Context) → slice_get (Turned c n t ∷ []) i ≡ Some d → slice_get (Turned c n t ∷ []) j ≡ Some d → i ≡ j
    once i j d a b = let x = (got i d a).0 in let y = (got j d b).0 in omega (arith, x, y)

pub one_run_bounds : OneRunBounds
one_run_bounds g inputs well fit s rests whole to none k O =
    let t : Context = Turned O.context O.node k in
    let inside = among g inputs well fit s rests whole to (map entered whole) (λ c v h. inr (in_entered whole c v h)) O.run O.state O.is_run (t ∷ [])
    (alone (flow_of g) O.run O.state inputs O.is_run O.context O.node k O.due) t (contains_head t []) in
    let a = contains_mapped entered whole t inside in
    let e = entered_by a.0 O.context O.node k a.2 in
    none O.context O.node k O.callee O.line e.0 O.there O.loops (subst (Contains whole) e.1 a.1)

-- ---- THE THEOREM
never_starves : (fl : Flow) (q : Program) → WaitsForMore fl q → (inputs : List ℤ) → NoneOutgrows fl inputs → (z : Size) → NeverStarves fl q inputs z
never_starves fl q waits inputs none z events m r rest calm f s c at = let k = waits inputs z events m f s c r at in none k.0 k.1

pub loops_complete : LoopsComplete
loops_complete g q well faithful waits inputs fit d t needs none z most space by_list may_stop r shows uncut =
    roomy_runs_complete (flow_of g) q faithful inputs z most space.some_element space.some_frame fit
    record {
      state = needs.state;
      reached = needs.rests.reached;
      at_rest = needs.rests.at_rest;
      no_clash = needs.rests.no_clash;
      due = d;
      turns = t;
      calls = needs.calls;
      frames = space.frames;
      time = space.steps;
    } (never_starves (flow_of g) q waits inputs none z) needs.rests.none_waits by_list may_stop r shows uncut
