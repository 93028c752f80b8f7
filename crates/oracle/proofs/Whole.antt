-- A whole run of numbered invocations is a run of the meaning, and what it reports is true.
use Rattle.std.proofs.Common.{◌≡◌, ℕ, zero, suc, ◌+◌, ◌<◌, ◌≤◌, ◌^◌, ℤ, List, [], ◌∷◌, ◌++◌, map, length, Option, Some, None, slice_get}
use Rattle.std.proofs.Common.{IsPermutation, refl, sym, ap, ◌∙◌, subst, arith, append-nil, inl, inr}
use Rattle.std.proofs.lemmas.List.Sorted.{IsPermutation-refl}
use Rattle.std.proofs.lemmas.Option.{same_Some}
use Rattle.tags.specs.declared.value.Value.{Value}
use Rattle.tags.specs.declared.value.Value.TheVariants.{Int}
use Rattle.semantics.specs.Graph.{Graph, flow_of}
use Rattle.semantics.specs.Text.{HasText}
use Rattle.semantics.specs.WellFormed.{WellFormed}
use Rattle.semantics.specs.Faithful.{inputs_of}
use Rattle.semantics.specs.Meaning.{Context, Tagged, Memory, State, Activity, Step, Run, Reached, start, entering}
use Rattle.semantics.specs.Meaning as Meaning
use Rattle.std.specs.Prelude.{⊤}
use Rattle.lemmas.proofs.Permutations.{Within, each_append, each_weaker}
use Rattle.law_confluence.proofs.OutcomeResolved.{flow_well}
use Rattle.law_confluence.proofs.Outcome.{determinacy, second_store_from}
use Rattle.oracle.specs.declared.invocations.Made.TheVariants.{Main}
use Rattle.oracle.specs.declared.invocations.Invocation.{Invocation}
use Rattle.oracle.specs.Deeds.{Deed}
use Rattle.oracle.specs.declared.report.MeanEnd.{MeanEnd}
use Rattle.oracle.specs.declared.report.MeanEnd.TheVariants.{Rest, Clash, Steps}
use Rattle.oracle.specs.declared.report.Full.{Full}
use Rattle.oracle.specs.declared.tokens.Token.{Token}
use Rattle.oracle.specs.Lines.{outputs_at}
use Rattle.oracle.specs.Sending.{entering_tokens}
use Rattle.oracle.specs.Running.{Plain, main_place, start_of, Came, Acts, Ends, Broken, next_in, performed, run_of, full_in, end_result_of}
use Rattle.oracle.specs.Meant.{name_in, made_of, tagged_of}
use Rattle.oracle.specs.Naming.{Named, IsBelow}
use Rattle.oracle.specs.Reporting.{cell_at, AreFull, IsEnd, IsOutcome, IsMeant, RunsEnd, ReportsAreTrue}
use Rattle.oracle.proofs.Counted.{token_named}
use Rattle.oracle.proofs.Filling.{empty_at_start, nones_long, cells_long}
use Rattle.oracle.proofs.Following.{Sound, RunsSoFar, Ready, Ended, Rested, Outcome}
use Rattle.oracle.proofs.Fulls.{full_law}
use Rattle.oracle.proofs.Nexting.{next_law}
use Rattle.oracle.proofs.Performing.{enabled, acted}
use Rattle.oracle.proofs.Steering.{entering_same, entering_of}
use Rattle.oracle.proofs.Turning.{inputs_same}
use Rattle.oracle.proofs.Views.{TurnBelow}
use Rattle.oracle.proofs.Waiting.{stuck_none}

-- THE START

-- main is the only invocation
only : (x y : Invocation) (i : ℕ) → slice_get (x ∷ []) i ≡ Some y → (i ≡ 0) × (x ≡ y)
only x y zero e = (refl, same_Some x y e)
only x y (suc i) e = cc

module _ (g : Graph) (well : WellFormed g) (inputs : List ℤ) where
  abbrev x : Invocation
  x = record { made = Main; block = main_place g }

  abbrev cs : List Context
  cs = Meaning.Main ∷ []

  first_named : Named g (x ∷ []) cs
  first_named = record {
    count = refl;
    made = λ i y e. let o = only x y i e in subst (λ y. made_of cs y.made ≡ name_in cs i) o.1 (ap (name_in cs) (sym o.0));
    block = λ i y e. let o = only x y i e in subst (λ y. Meaning.block_number (flow_of g) (name_in cs i) ≡ Some y.block) o.1
        (ap (λ i. Meaning.block_number (flow_of g) (name_in cs i)) o.0);
    below = λ i y e. subst (λ y. IsBelow 1 y.made) (only x y i e).1 tt;
  }

  abbrev values : List Value
  values = map (λ (z : ℤ). Int z) inputs

  only_main : (c : Context) → Within c cs → c ≡ Meaning.Main
  only_main c (zs, inl p) = p.0
  only_main c (zs, inr p) = absurd p.2

  pub begins : RunsSoFar g inputs 0 (start_of g inputs)
  begins =
      let sound : Sound g 0 (start_of g inputs) = record {
        names = cs;
        named = first_named;
        differ = λ i j y z e f h. (only x y i e).0 ∙ sym (only x z j f).0;
        turns = λ i y e. subst (λ y. TurnBelow 0 y.made) (only x y i e).1 tt;
        known = each_append (λ (t : Token). t.context < 1) (entering_tokens 0 0 values) []
            (each_weaker (λ (t : Token). t.context ≡ 0) (λ (t : Token). t.context < 1) (λ t e. omega (arith, e)) (entering_tokens 0 0 values)
            (entering_of 0 0 values)) tt;
        stuck = stuck_none (flow_of g) (flow_well g well);
        defers = tt;
        cell_count = cells_long g.arrays;
        output_count = nones_long (outputs_at g (main_place g));
      } in
      let tokens : map (tagged_of cs) (entering_tokens 0 0 values ++ []) ≡ entering Meaning.Main 0 values = ap (map (tagged_of cs))
      (append-nil (entering_tokens 0 0 values)) ∙ entering_same cs 0 0 values in
      record {
        sound = sound;
        run = [];
        is_run = (
          subst (λ l. IsPermutation (entering Meaning.Main 0 values) l) (sym tokens) (IsPermutation-refl (entering Meaning.Main 0 values)),
          sym (empty_at_start g.arrays (outputs_at g (main_place g))),
        );
        count = refl;
        past = record {
          others = [];
          first = refl;
          seen = λ x k. token_named cs 1 (entering_tokens 0 0 values ++ []) refl sound.known x k;
          touched = λ c k. inl (only_main c k);
        };
      }

-- THE RUN

abbrev pub RestOut : Graph → List ℤ → ℕ → Plain → MeanEnd → Type 0
RestOut g inputs j s Rest = Rested g inputs j s
RestOut g inputs j s e = ⊤

-- after at most n activities it ends as it says
abbrev pub RunOut : Graph → List ℤ → ℕ → Option (MeanEnd × Plain) → Type 0
RunOut g inputs n None = ⊥
RunOut g inputs n (Some r) = (j : ℕ) × (e : Ended g inputs j r.1.cells r.1.outputs r.0) × (j ≤ n) × IsEnd g n e.run e.state r.0 × RestOut g inputs j r.1 r.0

module _ (g : Graph) (text : HasText g) (well : WellFormed g) (inputs : List ℤ) (fit : length inputs ≡ inputs_of (flow_of g)) where
  steps_out : (n : ℕ) (s : Plain) (vs : List Value) (d : Deed) → Ready g inputs n s vs d → RunOut g inputs n (Some (Steps, s))
  steps_out n s vs d r =
      let a = enabled g inputs n s vs d r in (
        n,
        record {
          run = r.run;
          state = r.old;
          is_run = r.is_run;
          count = r.count;
          memory = r.memory;
          cell_count = r.sound.cell_count;
          output_count = r.sound.output_count;
          ended = (r.count, a);
        },
        omega arith,
        (r.count, a),
        tt,
      )

  -- other ends than by the number of steps
  ends_out : (k n : ℕ) → k ≤ n → (s : Plain) (e : MeanEnd) → Outcome g inputs k (Ends s e) → RunOut g inputs n (Some (e, s))
  ends_out k n le s Rest h = (k, h.ended, le, h.ended.ended, h)
  ends_out k n le s (Clash a i) h = (k, h, le, h.ended, tt)
  ends_out k n le s Steps h = absurd h

  run_law : (steps k n : ℕ) → k + steps ≡ n → n < 2 ^ 64 → (s : Plain) → RunsSoFar g inputs k s → RunOut g inputs n (run_of g steps s)
  run_law zero k n whole_count low s f =
      let same : k ≡ n = omega (arith, whole_count) in
      let less : k < 2 ^ 64 = omega (arith, whole_count, low) in
      let cases : (c : Came) → Outcome g inputs k c
      → RunOut g inputs n (elim c as (λ c. Option (MeanEnd × Plain)) [ Acts t vs d ↦ Some (Steps, t) | Ends t e ↦ Some (e, t) | Broken ↦ None ])
      = λ c. elim c as (λ c. Outcome g inputs k c
      → RunOut g inputs n (elim c as (λ c. Option (MeanEnd × Plain)) [ Acts t vs d ↦ Some (Steps, t) | Ends t e ↦ Some (e, t) | Broken ↦ None ])) [
        | Acts t vs d ↦ λ h. steps_out n t vs d (subst (λ k. Ready g inputs k t vs d) same h)
        | Ends t e ↦ λ h. ends_out k n (omega (arith, same)) t e h
        | Broken ↦ λ h. h
      ] in
      cases (next_in g s) (next_law g text well inputs fit k less s.invocations s.cells s.outputs s.fresh s.waiting s.deferred f)
  run_law (suc steps) k n whole_count low s f =
      let less : k < 2 ^ 64 = omega (arith, whole_count, low) in
      let cases : (c : Came) → Outcome g inputs k c
      → RunOut g inputs n (elim c as (λ c. Option (MeanEnd × Plain)) [
        | Acts t vs d ↦ run_of g steps (performed g t vs d)
        | Ends t e ↦ Some (e, t)
        | Broken ↦ None
      ])
      = λ c. elim c as (λ c. Outcome g inputs k c
      → RunOut g inputs n (elim c as (λ c. Option (MeanEnd × Plain)) [
        | Acts t vs d ↦ run_of g steps (performed g t vs d)
        | Ends t e ↦ Some (e, t)
        | Broken ↦ None
      ])) [
        | Acts t vs d ↦ λ h. run_law steps (suc k) n (omega (arith, whole_count)) low (performed g t vs d) (acted g inputs k t vs d h)
        | Ends t e ↦ λ h. ends_out k n (omega (arith, whole_count)) t e h
        | Broken ↦ λ h. h
      ] in
      cases (next_in g s) (next_law g text well inputs fit k less s.invocations s.cells s.outputs s.fresh s.waiting s.deferred f)

  pub whole : (steps : ℕ) → steps < 2 ^ 64 → RunOut g inputs steps (run_of g steps (start_of g inputs))
  whole steps low = run_law steps 0 steps (omega arith) low (start_of g inputs) (begins g well inputs)

  -- WHAT IS REPORTED
  ends_in : (steps : ℕ) (o : Option (MeanEnd × Plain)) → RunOut g inputs steps o → (r : MeanEnd × List (Option Value) × List Full)
      × (end_result_of g o ≡ Some r)
  ends_in steps None h = absurd h
  ends_in steps (Some r) h = ((r.0, r.1.outputs, full_in r.1.cells 0 0 g.arrays), refl)

  outcome_of : (n : ℕ) (run : List Activity) (s : State) (e : MeanEnd) → Reached (flow_of g) inputs s → IsEnd g n run s e → IsOutcome g inputs s e
  outcome_of n run s Rest reached h = determinacy g well inputs fit s reached h.0 h.1
  outcome_of n run s (Clash a i) reached h = (second_store_from g well inputs fit s (cell_at g a i) reached h.1).always
  outcome_of n run s Steps reached h = tt

  true_in : (steps : ℕ) (r : MeanEnd × Plain) → RunOut g inputs steps (Some r) → IsMeant g inputs steps r.0 r.1.outputs (full_in r.1.cells 0 0 g.arrays)
  true_in steps r h =
      let e = h.1 in
      let count = e.count in
      let few = h.2 in
      record {
        run = e.run;
        state = e.state;
        is_run = e.is_run;
        few = omega (arith, count, few);
        output_count = e.output_count;
        shown = λ j. ap (λ (m : Memory). m.outputs j) e.memory;
        cells = subst (λ (m : Memory). AreFull g m.cells (full_in r.1.cells 0 0 g.arrays)) (sym e.memory) (full_law g r.1.cells e.cell_count);
        ended = h.3;
        outcome = outcome_of steps e.run e.state r.0 record { run = e.run; is_run = e.is_run } h.3;
      }

  true_told : (steps : ℕ) (end : MeanEnd) (outputs : List (Option Value)) (as_list : List Full) (o : Option (MeanEnd × Plain))
      → RunOut g inputs steps o → end_result_of g o ≡ Some (end, outputs, as_list) → IsMeant g inputs steps end outputs as_list
  true_told steps end outputs as_list None h e = absurd h
  true_told steps end outputs as_list (Some r) h e =
      let same = same_Some (r.0, r.1.outputs, full_in r.1.cells 0 0 g.arrays) (end, outputs, as_list) e in
      subst (λ (q : MeanEnd × List (Option Value) × List Full). IsMeant g inputs steps q.0 q.1 q.2) same (true_in steps r h)

pub runs_end : RunsEnd
runs_end g inputs steps text well fit low = ends_in g text well inputs (fit ∙ inputs_same g) steps (run_of g steps (start_of g inputs))
    (whole g text well inputs (fit ∙ inputs_same g) steps low)

pub reports_true : ReportsAreTrue
reports_true g inputs steps end outputs as_list text well fit low e =
    true_told g text well inputs (fit ∙ inputs_same g) steps end outputs as_list (run_of g steps (start_of g inputs))
    (whole g text well inputs (fit ∙ inputs_same g) steps low) e
