-- Where a run came to rest with no fetch waiting, its invocations are those that the meaning calls for.
use Rattle.std.proofs.Common.{◌≡◌, ℕ, suc, ◌+◌, ◌-◌, ◌<◌, ◌≤◌, ◌^◌, ◌⊎◌, inl, inr, ℤ, Bool, cond, List, [], ◌∷◌, length}
use Rattle.std.proofs.Common.{Option, Some, None, slice_get, flat_map, Contains, refl, sym, ap, ◌∙◌, subst, subst₂, arith, ⊎_elim}
use Rattle.std.specs.Prelude.{◌≢◌, count_by, IfSome, IfNone}
use Rattle.std.proofs.lemmas.List.Sums.{sum_by-cons}
use Rattle.std.proofs.lemmas.Option.{same_Some}
use Rattle.tags.specs.declared.value.Value.{Value}
use Rattle.semantics.specs.Graph.{Graph, Flow, flow_of}
use Rattle.semantics.specs.Text.{HasText}
use Rattle.semantics.specs.WellFormed.{WellFormed}
use Rattle.semantics.specs.Faithful.{inputs_of}
use Rattle.semantics.specs.Cause.{is_turn}
use Rattle.semantics.specs.Meaning.{Context, Tagged, tagged, AtNode, Operand, State, Activity, Fires, taken, Deed, deed, Run, Stood, Due, AtRest, start, fetch_count}
use Rattle.semantics.specs.Meaning as Meaning
use Rattle.lemmas.proofs.Alls.{all_from}
use Rattle.lemmas.proofs.Contains.{contains_cases, contains_tail, contains_get, get_contains}
use Rattle.lemmas.proofs.Permutations.{Within, Each, put_first, within_from, within_to, within_left, within_flat_map, get_within}
use Rattle.law_confluence.specs.EquationsSettled.{NoneWaits}
use Rattle.law_confluence.proofs.ActivityKeys.{Held}
use Rattle.law_confluence.proofs.EquationsEndTokens.{no_tokens}
use Rattle.law_confluence.proofs.EquationsGraphFormed.{shaped, main_block}
use Rattle.law_confluence.proofs.EquationsProgressDues.{active}
use Rattle.law_confluence.proofs.EquationsRunRested.{Rested as RestedRun}
use Rattle.law_confluence.proofs.EquationsRunTakers.{Taker, taken_or_left, same_taker}
use Rattle.law_confluence.proofs.History.{Ever, run_lawful, stood_ever}
use Rattle.law_confluence.proofs.HistoryDue.{ever_stood}
use Rattle.law_confluence.proofs.HistoryLaws.{lawful_more}
use Rattle.law_confluence.proofs.Outcome.{each_place_once, standing_due}
use Rattle.law_confluence.proofs.OutcomeResolved.{flow_well, fits}
use Rattle.oracle.specs.declared.invocations.Made.{Made}
use Rattle.oracle.specs.declared.invocations.Made.TheVariants.{Main, Called, Turned}
use Rattle.oracle.specs.declared.invocations.Invocation.{Invocation}
use Rattle.oracle.specs.declared.report.CallCounts.{CallCounts}
use Rattle.oracle.specs.declared.report.MeanEnd.{MeanEnd}
use Rattle.oracle.specs.declared.report.MeanEnd.TheVariants.{Rest}
use Rattle.oracle.specs.Calling.{is_iteration, iterations_in, Rests, CallsFor, CallsAreTold}
use Rattle.oracle.specs.declared.tokens.Token.{Token}
use Rattle.oracle.specs.Lines.{inputs_at}
use Rattle.oracle.specs.Meant.{name_in, made_of}
use Rattle.oracle.specs.Running.{Plain, main_place, run_of, start_of}
use Rattle.oracle.proofs.Apart.{names_same}
use Rattle.oracle.proofs.Counted.{name_of_get}
use Rattle.oracle.proofs.Following.{Rested}
use Rattle.oracle.proofs.RowRuns.{bare, bare_end, run_rows}
use Rattle.oracle.proofs.Turning.{inputs_same}
use Rattle.oracle.proofs.Waiting.{Stuck}
use Rattle.oracle.proofs.Whole.{RunOut, RestOut, whole}

-- THE MEANING'S RUN
module _ (g : Graph) (well : WellFormed g) (inputs : List ℤ) (fit : length inputs ≡ inputs_of (flow_of g)) (run : List Activity) (s : State)
    (r : Run (flow_of g) (start inputs) run s) (stuck : Stuck (flow_of g) s.tokens) where
  abbrev Came : Tagged → Type 0
  Came x = Stood (flow_of g) (start inputs) run s r x

  -- either one of these tokens was taken, or all are left
  some_taken : (ts : List Tagged) → Each Came ts → ((x : Tagged) × Within x ts × Taker run x) ⊎ Held s.tokens ts
  some_taken [] h = inr tt
  some_taken (x ∷ ts) h =
      ⊎_elim (λ t. inl (x, (ts, put_first x ts), t))
      (λ k. ⊎_elim (λ l. inl (l.0, (x ∷ l.1.0, inr (l.1.0, refl, l.1.1)), l.2)) (λ l. inr (within_from x s.tokens k, l)) (some_taken ts h.1))
      (taken_or_left g well inputs fit run s r x h.0)

  happened : (a : Activity) (d : Deed) → deed (flow_of g) a ≡ Some d → Each Came (taken a) → Within a run
  happened a d e h =
      ⊎_elim (λ t. subst (λ a. Within a run) (same_taker g well inputs fit run s r a d e h t.0 t.1 t.2) (get_within run t.2.place t.2.activity t.2.stands))
      (λ held. absurd (stuck a d e held)) (some_taken (taken a) h)

  pub rested_run : RestedRun
  rested_run =
      let main = main_block g well inputs fit in
      record {
        flow = flow_of g;
        inputs = inputs;
        run = run;
        state = s;
        is_run = r;
        well = flow_well g well;
        shaped = shaped g well;
        main = main.0;
        is_main = main.1;
        count = main.2;
        unique = each_place_once g well inputs fit s run r;
        lawful = λ x h.
            lawful_more (flow_of g) (Ever (flat_map taken run) s.tokens) Came (ever_stood (flow_of g) (start inputs) s run r) x
            (run_lawful (flow_of g) (flow_well g well) inputs (fits g well inputs fit) s run r x (stood_ever (flow_of g) (start inputs) s run r x h));
        due = λ x h. standing_due g well inputs fit s run r x h;
        happens = λ a d e h. happened a d e h;
      }

  pub nothing_left : s.tokens ≡ []
  unfolding rested_run
  nothing_left = no_tokens rested_run

  pub first_input : (c : Context) → Due (flow_of g) run Came c → (v : Value) × Contains run (Fires c 0 (v ∷ []))
  unfolding rested_run
  first_input c due = active rested_run c due

-- NAMES
turn_named : (cs : List Context) (made : Made) → is_turn (made_of cs made) ≡ is_iteration made
turn_named cs Main = refl
turn_named cs (Called c n) = refl
turn_named cs (Turned c n i) = refl

turns_named : (xs : List Invocation) (cs all : List Context) → length cs ≡ length xs
    → ((i : ℕ) (x : Invocation) → slice_get xs i ≡ Some x → made_of all x.made ≡ name_in cs i) → count_by is_turn cs ≡ iterations_in xs
turns_named [] [] all long h = refl
turns_named [] (c ∷ cs) all long h = absurd (omega (arith, long))
turns_named (x ∷ xs) [] all long h = absurd (omega (arith, long))
turns_named (x ∷ xs) (c ∷ cs) all long h =
    let rest = turns_named xs cs all (omega (arith, long)) (λ i y e. h (suc i) y e) in
    let left = sum_by-cons (λ c. cond (is_turn c) 1 0) c cs in
    let right = sum_by-cons (λ (x : Invocation). cond (is_iteration x.made) 1 0) x xs in
    let number : Bool → ℕ = λ b. cond b 1 0 in
    let same : number (is_turn c) ≡ number (is_iteration x.made) = ap (λ (c : Context). number (is_turn c)) (sym (h 0 x refl))
    ∙ ap number (turn_named all x.made) in
    omega (arith, rest, left, right, same)

-- WHAT IS TOLD
module _ (g : Graph) (text : HasText g) (well : WellFormed g) (inputs : List ℤ) (fit : length inputs ≡ inputs_of (flow_of g)) (steps k : ℕ) (low : k ≤ steps)
    (s : Plain) (h : Rested g inputs k s) (none : s.deferred ≡ []) where
  abbrev fl : Flow
  fl = flow_of g

  abbrev run : List Activity
  run = h.ended.run

  abbrev state : State
  state = h.ended.state

  abbrev stuck : Stuck fl state.tokens
  stuck = h.stuck none

  abbrev called : List Context
  called = h.past.others

  abbrev Past : Tagged → Type 0
  Past x = Stood fl (start inputs) run state h.ended.is_run x

  is_named : (c : Context) → Contains called c → Within c h.names
  is_named c k = subst (λ l. Within c l) (sym h.past.first) (within_from c (Meaning.Main ∷ called) (contains_tail Meaning.Main called c k))

  numbered : (i : ℕ) (c : Context) → slice_get called i ≡ Some c → (suc i < length s.invocations) × (name_in h.names (suc i) ≡ c)
  numbered i c e =
      let r = name_of_get h.names (suc i) c (ap (λ l. slice_get l (suc i)) h.past.first ∙ e) in
      let low = r.0 in
      let count = h.named.count in
      (omega (arith, low, count), r.1)

  not_main : (i : ℕ) (c : Context) → slice_get called i ≡ Some c → c ≢ Meaning.Main
  not_main i c e is =
      let r = numbered i c e in
      let low = r.0 in
      let first : name_in h.names 0 ≡ Meaning.Main = ap (λ l. name_in l 0) h.past.first in
      let same = names_same g s.invocations h.names h.named h.differ (suc i) 0 low (omega (arith, low)) (r.1 ∙ is ∙ sym first) in
      absurd (omega (arith, same))

  due : (i : ℕ) (c : Context) → slice_get called i ≡ Some c → Due fl run Past c
  due i c e =
      ⊎_elim (λ is. absurd (not_main i c e is))
      (λ t. subst (λ c. Due fl run Past c) t.2
      (standing_due g well inputs fit state run h.ended.is_run t.0 (ever_stood fl (start inputs) state run h.ended.is_run t.0 t.1)))
      (h.past.touched c (is_named c (get_contains called i c e)))

  differ : (i j : ℕ) (c : Context) → slice_get called i ≡ Some c → slice_get called j ≡ Some c → i ≡ j
  differ i j c e f =
      let r = numbered i c e in
      let q = numbered j c f in
      let same = names_same g s.invocations h.names h.named h.differ (suc i) (suc j) r.0 q.0 (r.1 ∙ sym q.1) in
      omega (arith, same)

  at : (c : Context) → Contains called c → (i : ℕ) × (slice_get called i ≡ Some c)
  at c k = contains_get called c k

  none_waits : NoneWaits fl state
  none_waits x = ap (fetch_count fl x) (nothing_left g well inputs fit run state h.ended.is_run stuck)

  all_called : (c : Context) (v : Value) → Contains run (Fires c 0 (v ∷ [])) → (c ≡ Meaning.Main) ⊎ Contains called c
  all_called c v k =
      let x = tagged c (AtNode 0) (Operand 0) v in
      let there = within_left x (flat_map taken run) state.tokens (within_flat_map taken (Fires c 0 (v ∷ [])) x run (within_from _ run k) ([], put_first x [])) in
      ⊎_elim (λ e. inl (sym e)) (λ t. inr t)
      (contains_cases Meaning.Main called c (within_to c (Meaning.Main ∷ called) (subst (λ l. Within c l) h.past.first (h.past.seen x there))))

  pub told : CallsFor g inputs steps (length s.invocations - 1) (iterations_in s.invocations)
  told =
      let long = h.ended.count in
      let count = h.named.count in
      let parts = ap length h.past.first in
      let turns = turns_named s.invocations h.names h.names h.named.count h.named.made in
      let listed : count_by is_turn h.names ≡ count_by is_turn (Meaning.Main ∷ called) = ap (count_by is_turn) h.past.first in
      let split : count_by is_turn (Meaning.Main ∷ called) ≡ 0 + count_by is_turn called = sum_by-cons (λ c. cond (is_turn c) 1 0) Meaning.Main called in
      record {
        run = run;
        state = state;
        is_run = h.ended.is_run;
        few = omega (arith, long, low);
        at_rest = h.ended.ended.0;
        no_clash = h.ended.ended.1;
        none_waits = none_waits;
        called = called;
        are_due = (all_from (λ (c : Context). Due fl run Past c × (c ≢ Meaning.Main)) called (λ i c e. (due i c e, not_main i c e)), differ);
        passed = λ c k. first_input g well inputs fit run state h.ended.is_run stuck c (due (at c k).0 c (at c k).1);
        all = all_called;
        invocation_count = omega (arith, count, parts);
        iteration_count = omega (arith, listed, split, turns);
      }

-- THE RUN OVER ROWS
module _ (g : Graph) (text : HasText g) (well : WellFormed g) (inputs : List ℤ) (fit : length inputs ≡ inputs_of (flow_of g)) (steps : ℕ) where
  by_out : (o : Option (MeanEnd × Plain)) → RunOut g inputs steps o → (s : Plain) → bare_end o ≡ Some (Rest, s) → s.deferred ≡ []
      → CallsFor g inputs steps (length s.invocations - 1) (iterations_in s.invocations)
  by_out None h s e none = cc
  by_out (Some (end, last)) h s e none =
      let same = same_Some (end, bare last) (Rest, s) e in
      let is : end ≡ Rest = ap (λ (r : MeanEnd × Plain). r.0) same in
      let state : bare last ≡ s = ap (λ (r : MeanEnd × Plain). r.1) same in
      let rest : Rested g inputs h.0 last = subst (λ e. RestOut g inputs h.0 last e) is h.4 in
      subst (λ (s : Plain). CallsFor g inputs steps (length s.invocations - 1) (iterations_in s.invocations)) state
      (told g text well inputs fit steps h.0 h.2 last rest (ap (λ (s : Plain). s.deferred) state ∙ none))

pub calls_told : CallsAreTold
calls_told g inputs steps text well fit low s e none =
    by_out g text well inputs (fit ∙ inputs_same g) steps (run_of g steps (start_of g inputs))
    (whole g text well inputs (fit ∙ inputs_same g) steps low) s (sym (run_rows g steps (start_of g inputs)) ∙ e) none

-- WHAT THE CODE COUNTS
module _ (g : Graph) (inputs : List ℤ) (steps : ℕ) where
  pub counted_some : (last : Plain) → Rests g inputs steps last → (deferred : List Token) → deferred ≡ last.deferred → (r : Option CallCounts)
      → IfSome r (λ n. (deferred ≡ []) × (n.invocations ≡ length last.invocations - 1) × (n.iterations ≡ iterations_in last.invocations)) → IfSome r (λ n. (s : Plain) × Rests g inputs steps s × (s.deferred ≡ []) × (n.invocations ≡ length s.invocations - 1) × (n.iterations ≡ iterations_in s.invocations))
  counted_some last rests deferred same None h = tt
  counted_some last rests deferred same (Some n) h = (last, rests, sym same ∙ h.0, h.1, h.2)

  pub counted_none : (last : Plain) → Rests g inputs steps last → (deferred : List Token) → deferred ≡ last.deferred → (r : Option CallCounts)
      → IfNone r (deferred ≢ []) → IfNone r ((s : Plain) → Rests g inputs steps s → s.deferred ≢ [])
  counted_none last rests deferred same (Some n) h = tt
  counted_none last rests deferred same None h = λ s its none.
      let is = same_Some (Rest, last) (Rest, s) (sym rests ∙ its) in
      h (same ∙ ap (λ (r : MeanEnd × Plain). r.1.deferred) is ∙ none)

  pub counts_told : HasText g → WellFormed g → length inputs ≡ inputs_at g (main_place g) → steps < 2 ^ 64 → (r : Option CallCounts)
      → IfSome r (λ n. (s : Plain) × Rests g inputs steps s × (s.deferred ≡ []) × (n.invocations ≡ length s.invocations - 1) × (n.iterations ≡ iterations_in s.invocations))
      → IfSome r (λ n. CallsFor g inputs steps n.invocations n.iterations)
  counts_told text well fit low None h = tt
  counts_told text well fit low (Some n) h =
      subst₂ (λ (d t : ℕ). CallsFor g inputs steps d t) (sym h.3) (sym h.4) (calls_told g inputs steps text well fit low h.0 h.1 h.2)
