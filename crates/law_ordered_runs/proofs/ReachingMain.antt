-- A program that reads each cell behind the store that fills it: its meaning reaches what it computes.
use Rattle.std.proofs.Common.{◌≡◌, ℕ, zero, suc, ◌+◌, ◌<◌, ◌⊎◌, inl, inr, ℤ, Bool, false, List, [], ◌∷◌, ◌++◌, length, map, Option, Some, None, Contains, ◌↔◌, refl}
use Rattle.std.proofs.Common.{sym, ap, ◌∙◌, subst, arith, ⊎_elim, eq-eqb, if◌then◌else◌}
use Rattle.std.specs.Prelude.{⊤, slice_get}
use Rattle.std.proofs.lemmas.List.{length-map}
use Rattle.std.proofs.lemmas.Option.{same_Some, slice_get_within}
use Rattle.tags.specs.declared.value.Value.{Value}
use Rattle.tags.specs.declared.value.Value.TheVariants.{Int}
use Rattle.semantics.specs.declared.graph.Source.{Source}
use Rattle.semantics.specs.Graph.{Graph, Block, Flow, flow_of, node_count, place_of, block_names}
use Rattle.semantics.specs.WellFormed.{WellFormed}
use Rattle.semantics.specs.Meaning as Meaning
use Rattle.semantics.specs.Meaning.{Context, Main, Called, Turned, AtOut, Operand, tagged, State, Effect, Activity, Outputs, Puts, taken, deed, done, Run, Stood, block_of, start}
use Rattle.semantics.specs.Meaning.{with_output, adds}
use Rattle.semantics.specs.Faithful.{inputs_in}
use Rattle.lemmas.proofs.Contains.{contains_none, contains_cases}
use Rattle.lemmas.proofs.Permutations.{each_from, put_first, within_to}
use Rattle.lemmas.proofs.SliceGet.{get_some}
use Rattle.law_confluence.specs.Equations.{HasSome}
use Rattle.law_confluence.specs.EquationsHave.{result_in}
use Rattle.law_confluence.specs.EquationsSettled.{Settled}
use Rattle.law_confluence.proofs.Equations.{runs_at_rest}
use Rattle.law_confluence.proofs.EquationsNoneWaits.{none_waits}
use Rattle.law_language.proofs.MeansHaving.{have_length}
use Rattle.source.specs.Theorem.{RestsWell}
use Rattle.law_confluence.specs.Outcome.{AreInputsOf}
use Rattle.law_confluence.proofs.ActivityDiamond.{deed_of}
use Rattle.law_confluence.proofs.OutcomeDeterminacy.{same_refl}
use Rattle.law_confluence.proofs.Outcome.{each_place_once}
use Rattle.law_confluence.proofs.HistoryRuns.{run_append, run_outputs}
use Rattle.law_confluence.proofs.EquationsGraphFormed.{shaped}
use Rattle.law_confluence.proofs.EquationsRunUses.{entering_within}
use Rattle.source.specs.Tree.{Function}
use Rattle.source.specs.Outside.{bare, body_uses}
use Rattle.source.specs.Rules.{function_in, main_name, written_or_one}
use Rattle.source.specs.Evaluates.{Stores, Runs, entered}
use Rattle.source.specs.Lowered.{Lowered, function_scope, inputs_from, port, turn_site}
use Rattle.source.proofs.CountedSources.{inputs_count}
use Rattle.source.proofs.Holding.{holds_whole}
use Rattle.source.proofs.NamesUsed.{body_used}
use Rattle.law_language.specs.MeansHolds.{resolved, block_in}
use Rattle.law_language.specs.MeansTheorem.{FunctionsArePlaced, IsLoweredApart}
use Rattle.law_language.proofs.MeansHolding.{resolved_all}
use Rattle.law_language.proofs.MeansInputs.{root_taken}
use Rattle.law_language.proofs.MeansMainActive.{graph_is, each_function_good, function_named, main_spot, main_lowered, main_made}
use Rattle.law_language.proofs.MeansNamesAgree.{agrees_each, known_in}
use Rattle.law_language.proofs.MeansOriginsTraced.{origins_are_traced}
use Rattle.law_language.proofs.MeansPlaced.{places_from_origins}
use Rattle.law_language.proofs.MeansTexts.{tokens_rise, spellings_differ}
use Rattle.law_loops_complete.specs.Within as ordered
use Rattle.law_loops_complete.specs.Within.{IsIn}
use Rattle.law_ordered_runs.specs.InOrder.{OneAfterAnother, Touch, Reads, Fills, body_touches, ProgramsRunInOrder}
use Rattle.law_ordered_runs.proofs.Order.{seat, Under, InOrder, one_after_another}
use Rattle.law_ordered_runs.proofs.Origins.{Comes, result_source, happened_at}
use Rattle.law_ordered_runs.proofs.Closing.{AsReturns, AsTurns, AsOutputs, Closes, ClosesIn, ClosesEnd, closes_on, closes_whole}
use Rattle.law_ordered_runs.proofs.Doing.{adds_none, adds_one, adds_then, does_then, does_to, precedes_at, precedes_behind}
use Rattle.law_ordered_runs.proofs.GoingOn.{closed_runs_rest}
use Rattle.law_ordered_runs.proofs.Extending.{Extended, on_same, on_then}
use Rattle.law_ordered_runs.proofs.Lines.{output_happens}
use Rattle.law_ordered_runs.proofs.Memory.{ReadsFull, Ready, Changed, apart_from, fills_none, ready_then, changed_none, changed_same}
use Rattle.law_ordered_runs.proofs.Staying.{have_on}
use Rattle.law_ordered_runs.proofs.UsesSent.{result_came}
use Rattle.law_ordered_runs.proofs.Reaching.{Land, RunOf, flow, world_of, cells_of, HasX, HaveX, ActiveX, OnX, AddsX, DoesX}
use Rattle.law_ordered_runs.proofs.ReachingCalls.{inputs_pass, all_arrived, value_at}
use Rattle.law_ordered_runs.proofs.ReachingAll.{body}

-- READS BEHIND STORES, part by part
reads_from : (full : ℕ → Type 0) (ts : List Touch)
    → ((i x : ℕ) → slice_get ts i ≡ Some (Reads x) → full x ⊎ ((j : ℕ) × (j < i) × (slice_get ts j ≡ Some (Fills x)))) → ReadsFull full ts
reads_from full [] h = tt
reads_from full (Reads y ∷ ts) h = (now (h 0 y refl), reads_from full ts (λ i x e. later i x (h (suc i) x e)))
  where
    now : full y ⊎ ((j : ℕ) × (j < 0) × (slice_get (Reads y ∷ ts) j ≡ Some (Fills y))) → full y
    now (inl f) = f
    now (inr k) = let low = k.1 in absurd (omega (arith, low))

    later : (i x : ℕ) → full x ⊎ ((j : ℕ) × (j < suc i) × (slice_get (Reads y ∷ ts) j ≡ Some (Fills x)))
        → full x ⊎ ((j : ℕ) × (j < i) × (slice_get ts j ≡ Some (Fills x)))
    later i x (inl f) = inl f
    later i x (inr (zero, low, e)) = absurd (cc)
    later i x (inr (suc j, low, e)) = inr (j, omega (arith, low), e)
reads_from full (Fills y ∷ ts) h = reads_from (λ x. full x ⊎ (x ≡ y)) ts (λ i x e. later i x (h (suc i) x e))
  where
    same : (x : ℕ) → Some (Fills y) ≡ Some (Fills x) → x ≡ y
    same x e = cc

    later : (i x : ℕ) → full x ⊎ ((j : ℕ) × (j < suc i) × (slice_get (Fills y ∷ ts) j ≡ Some (Fills x)))
        → (full x ⊎ (x ≡ y)) ⊎ ((j : ℕ) × (j < i) × (slice_get ts j ≡ Some (Fills x)))
    later i x (inl f) = inl (inl f)
    later i x (inr (zero, low, e)) = inl (inr (same x e))
    later i x (inr (suc j, low, e)) = inr (j, omega (arith, low), e)

-- AN OUTPUT that was put is there.
puts_full : (g : Graph) (inputs : List ℤ) → WellFormed g → AreInputsOf g inputs → (s t : State) (before later : List Activity)
    → Run (flow_of g) (start inputs) before s → Run (flow_of g) s later t → (j : ℕ) (v : Value) → Contains later (Outputs j v) → t.memory.outputs j ≡ Some v
puts_full g inputs well count s t before [] p q j v h = absurd (contains_none (Outputs j v) h)
puts_full g inputs well count s t before (b ∷ later) p q j v h =
    ⊎_elim (λ e. now e) (λ k. puts_full g inputs well count q.0 t (before ++ b ∷ []) later so_far q.2 j v k) (contains_cases b later (Outputs j v) h)
  where
    so_far : Run (flow_of g) (start inputs) (before ++ b ∷ []) q.0
    so_far = run_append (flow_of g) (start inputs) s q.0 before (b ∷ []) p (q.0, q.1, same_refl q.0)

    now : b ≡ Outputs j v → t.memory.outputs j ≡ Some v
    now e =
        let d = deed_of (flow_of g) s.memory b q.1.does q.1.allowed in
        let same : d.0 ≡ Puts j v = same_Some d.0 (Puts j v) (sym d.1 ∙ ap (λ a. deed (flow_of g) a) e) in
        let put : with_output s.memory j v ≡ q.1.does.memory =
        ap (λ (E : Effect). E.memory) (same_Some _ q.1.does (subst (λ d. done (flow_of g) s.memory d ≡ Some q.1.does) same d.2)) in
        run_outputs (flow_of g) inputs (λ s r k. each_place_once g well inputs count s r k) q.0 t (before ++ b ∷ []) later so_far q.2 j v
        (ap (λ (m : Meaning.Memory). m.outputs j) (q.1.memory ∙ sym put) ∙ ap (λ (t : Bool). if t then Some v else s.memory.outputs j) (eq-eqb j j refl))

-- everything takes place in main
in_main : (d : Context) → IsIn Main d
in_main Main = refl
in_main (Called d n) = inr (in_main d)
in_main (Turned d n t) = inr (in_main d)

-- THE RESULTS OF MAIN become outputs, one by one.
record PutOut (z : Land) (x : RunOf z) (j : ℕ) (vs : List Value) : Type 0 where
  pub to : RunOf z
  pub on : OnX z x to
  pub adds : AddsX z x to (λ a. ordered.place_of a ≡ Main)
  pub cells : cells_of z to ≡ cells_of z x
  pub put : (i : ℕ) (v : Value) → slice_get vs i ≡ Some v → Contains to.run (Outputs (j + i) v)

results_put : (z : Land) (b : Block ℕ) → block_of (flow z) Main ≡ Some b → (x : RunOf z) (j : ℕ) (ss : List Source) (vs : List Value)
    → ((i : ℕ) (s : Source) → slice_get ss i ≡ Some s → slice_get b.results (j + i) ≡ Some s) → HaveX z x Main ss vs → PutOut z x j vs
results_put z b eb x j [] [] at h = record {
  to = x;
  on = on_same z.graph z.inputs z.well z.count x;
  adds = adds_none z.graph z.inputs z.well z.count x (λ a. ordered.place_of a ≡ Main);
  cells = refl;
  put = λ i v e. cc;
}
results_put z b eb x j [] (v ∷ vs) at h = absurd h
results_put z b eb x j (s ∷ ss) [] at h = absurd h
results_put z b eb x j (s ∷ ss) (v ∷ vs) at h =
    let es : slice_get b.results j ≡ Some s = subst (λ j. slice_get b.results j ≡ Some s) (omega arith) (at 0 s refl) in
    let e = output_happens z.graph z.inputs z.well z.count x j v (result_came z.graph z.inputs z.well z.count x Main b j s v eb es (λ t. t) h.0) in
    let q = results_put z b eb e.to (j + 1) ss vs (λ i t f. subst (λ k. slice_get b.results k ≡ Some t) (omega arith) (at (suc i) t f))
    (have_on z.graph z.inputs z.well z.count x e.to e.on Main ss vs h.1) in
    record {
      to = q.to;
      on = on_then z.graph z.inputs z.well z.count x e.to q.to e.on q.on;
      adds = adds_then z.graph z.inputs z.well z.count x e.to q.to P P P (adds_one z.graph z.inputs z.well z.count x (Outputs j v) (Puts j v) P e refl) q.adds
          (λ a b p k. precedes_at Main a b p (in_main (seat b))) (λ a p. p) (λ a p. p);
      cells = q.cells ∙ cells_same e;
      put = λ i w f. which e q i w f;
    }
  where
    P : Activity → Type 0
    P a = ordered.place_of a ≡ Main

    cells_same : (e : Extended z.graph z.inputs z.well z.count x (Outputs j v) (Puts j v)) → cells_of z e.to ≡ cells_of z x
    cells_same e =
        ⊎_elim (λ h. ap (λ (m : Meaning.Memory). m.cells) h) (λ (h : (E : Effect) × (done (flow z) x.state.memory (Puts j v) ≡ Some E)
        × (e.to.state.memory ≡ E.memory)).
        (ap (λ (m : Meaning.Memory). m.cells) h.2 ∙ ap (λ (E : Effect). E.memory.cells) (sym (same_Some _ h.0 h.1)))) e.memory

    which : (e : Extended z.graph z.inputs z.well z.count x (Outputs j v) (Puts j v)) (q : PutOut z e.to (j + 1) vs) (i : ℕ) (w : Value)
        → slice_get (v ∷ vs) i ≡ Some w → Contains q.to.run (Outputs (j + i) w)
    which e q zero w f =
        let same : v ≡ w = same_Some v w f in
        subst (λ k. Contains q.to.run (Outputs k w)) (omega arith) (subst (λ w. Contains q.to.run (Outputs j w)) same (q.on.kept _ e.happened))
    which e q (suc i) w f = subst (λ k. Contains q.to.run (Outputs k w)) (omega arith) (q.put i w f)

functions_are_placed : FunctionsArePlaced
functions_are_placed = places_from_origins origins_are_traced

abbrev results_at : Option (Block ℕ) → List Source
results_at None = []
results_at (Some b) = b.results

-- MAIN, from the start to rest
record MainReached (z : Land) (rs : List Value) (us : Stores) : Type 0 where
  pub run : List Activity
  pub state : State
  pub is_run : Run (flow z) (start z.inputs) run state
  pub rests : RestsWell (flow z) z.inputs state
  pub ordered : OneAfterAnother run
  pub many : length rs ≡ length (results_at (block_of (flow z) Main))
  pub changed : Changed (λ x. None) state.memory.cells us
  pub outputs : (j : ℕ) (v : Value) → slice_get rs j ≡ Some v → state.memory.outputs j ≡ Some v

module _ (z : Land) (f : Function) (named : function_in z.program main_name ≡ Some f) where
  abbrev to : Block ℕ
  to = block_in z.graph f.name.name (main_made z.program f)

  abbrev own : Lowered
  own = main_lowered z.program f

  abbrev arguments : List Value
  arguments = map (λ (i : ℤ). Int i) z.inputs

  abbrev first : RunOf z
  first = record { run = []; state = start z.inputs; is_run = same_refl (start z.inputs) }

  main_is : block_of (flow z) Main ≡ Some to
  main_is =
      let same : z.graph.main ≡ f.name.name = sym (ap (λ (g : Graph). g.main) z.is_graph) ∙ function_named z.program main_name f named in
      ap (λ x. slice_get (flow z).blocks (place_of x (block_names z.graph))) same ∙ (z.placed main_name f named).0.is_there

  as_many : length z.inputs ≡ length f.params
  as_many = z.count ∙ ap inputs_in main_is

  whole_main : length f.params + length own.nodes ≡ node_count to
  whole_main = let n = ap length (resolved_all z.graph own.nodes) ∙ length-map own.nodes (resolved z.graph) in omega (arith, n)

  main_closed : (u v : RunOf z) → OnX z u v → Closes z.graph z.inputs z.well z.count u Main 0 (node_count to)
      → ((j : ℕ) (s : Source) → slice_get own.sources j ≡ Some s → (w : Value) × Contains v.run (Outputs j w))
      → ClosesIn z.graph z.inputs z.well z.count v Main
  main_closed u v on lines put =
      closes_whole z.graph z.inputs z.well z.count v Main to main_is (closes_on z.graph z.inputs z.well z.count u v on Main 0 (node_count to) lines) end
    where
      end : ClosesEnd z.graph z.inputs z.well z.count v Main
      end y more a k (AsReturns e m j w ed ea) = absurd (cc)
      end y more a k (AsTurns e m i j w q ed ea) = absurd (cc)
      end y more a k (AsOutputs j w ed ea) =
          let i = subst (λ a. Comes z.graph z.inputs z.well z.count y a) ea k in
          let s = result_source z.graph z.inputs z.well z.count y Main to j w main_is i.came.0 in
          let h = put j s.0 s.1 in
          subst (λ a. Contains y.run a) (sym ea)
          (happened_at z.graph z.inputs z.well z.count y (Outputs j w) (Outputs j h.0) i (more.kept _ h.1) (tagged Main (AtOut j) (Operand 0) h.0)
          (tagged Main (AtOut j) (Operand 0) w) (_, put_first _ _) (_, put_first _ _) (refl, refl, refl))

  main_reached : {rs : List Value} {us : Stores} (g : Runs (world_of z) (entered f.params arguments []) f.body rs us)
      → Ready z.memory (λ x. None) us (body_touches g) → MainReached z rs us
  main_reached {rs = rs} {us = us} g ready =
      let good = z.good main_name f named in
      let placed = z.placed main_name f named in
      let many : length arguments ≡ length f.params = length-map z.inputs (λ (i : ℤ). Int i) ∙ as_many in
      let some = (shaped z.graph z.well (place_of f.name.name (block_names z.graph)) to placed.0.is_there).some_input in
      let ins = inputs_pass z Main to main_is first 0 (length f.params) arguments many (omega arith)
      (all_arrived z first Main 0 arguments (λ j v e. within_to _ _ (entering_within Main 0 arguments j v e))) in
      let w = ins.quietly.to in
      let trigger = first_value (length f.params) arguments w ins.have some in
      let stands : ActiveX z w Main (turn_site f.name.name) (main_spot f) own =
      record {
        number = place_of f.name.name (block_names z.graph);
        block = to;
        is_number = ap (λ x. Some (place_of x (block_names z.graph)))
            (sym (ap (λ (g : Graph). g.main) z.is_graph) ∙ function_named z.program main_name f named);
        is_block = placed.0.is_there;
        due = tt;
        taken = root_taken (Stood (flow z) (start z.inputs) w.run w.state w.is_run) Main to (node_count to);
        trigger = trigger.0;
        triggered = trigger.1;
        lines = holds_whole to (map (resolved z.graph) own.nodes) (resolved_all z.graph own.nodes);
        traced = placed.0.traced;
        loops = placed.1;
      } in
      let knows =
      agrees_each (flow z) z.inputs w.run w.state w.is_run Main (function_scope f) (entered f.params arguments []) (bare f.params) (body_uses f.body)
      (λ a e. known_in (flow z) z.inputs w.run w.state w.is_run Main f.params (inputs_from 0 (length f.params)) arguments [] [] ins.have
      (sym (inputs_count 0 (length f.params))) a e)
      (body_used z.program (bare f.params) f.body (written_or_one f.results) good.values) in
      let same : Changed (λ x. None) (cells_of z w) [] = changed_same (λ x. None) (λ x. None) (cells_of z w) [] (sym ins.quietly.cells) (changed_none (λ x. None)) in
      let r = body z g Main w (turn_site f.name.name) (main_spot f) (function_scope f) (bare f.params) (written_or_one f.results) false good.fits good.values
      stands knows (ready_then z.memory (λ x. None) (cells_of z w) [] us [] (body_touches g) ready ins.quietly.on.cells same (fills_none [])) in
      let q = results_put z to main_is r.to 0 own.sources rs (λ i s e. subst (λ k. slice_get own.sources k ≡ Some s) (omega arith) e) r.have in
      let lines : DoesX z first r.to Main 0 (node_count to) =
      does_to z.graph z.inputs z.well z.count first r.to Main 0 (length f.params + length own.nodes) (node_count to) whole_main
      (does_then z.graph z.inputs z.well z.count first w r.to Main 0 (length f.params) (length f.params + length own.nodes) (omega arith) (omega arith) r.on
      (does_to z.graph z.inputs z.well z.count first w Main 0 (0 + length f.params) (length f.params) (omega arith) ins.does) r.does) in
      let all : AddsX z first q.to (λ a. ⊤) =
      adds_then z.graph z.inputs z.well z.count first r.to q.to (λ a. Under Main 0 (node_count to) (seat a)) (λ a. ordered.place_of a ≡ Main) (λ a. ⊤) lines.adds
      q.adds (λ a b p k. precedes_behind Main a b k (in_main (seat a))) (λ a p. tt) (λ a p. tt) in
      let everything = main_closed r.to q.to q.on lines.closed
      (λ j s e. (let v = value_at z r.to Main own.sources rs j s r.have e in
      (v.0, subst (λ k. Contains q.to.run (Outputs k v.0)) (omega arith) (q.put j v.0 v.1)))) in
      record {
        run = q.to.run;
        state = q.to.state;
        is_run = q.to.is_run;
        rests = closed_runs_rest z.graph z.inputs z.well z.count q.to.run q.to.state q.to.is_run
            (λ a d e h. everything q.to (on_same z.graph z.inputs z.well z.count q.to) a
            (record { does = d; is_deed = e; came = each_from _ (taken a) (λ t k. h t (within_to t (taken a) k)) }) (in_main (ordered.place_of a)));
        ordered = one_after_another q.to.run (subst InOrder (sym all.is) all.ordered);
        many = sym (have_length (flow z) z.inputs r.to.run r.to.state r.to.is_run Main own.sources rs r.have) ∙ sym (ap (λ o. length (results_at o)) main_is);
        changed = changed_same (λ x. None) (cells_of z r.to) (cells_of z q.to) us (sym q.cells)
            (subst (λ old. Changed old (cells_of z r.to) us) ins.quietly.cells r.changed);
        outputs = λ j v e. puts_full z.graph z.inputs z.well z.count (start z.inputs) q.to.state [] q.to.run (same_refl (start z.inputs)) q.to.is_run j v
            (subst (λ k. Contains q.to.run (Outputs k v)) (omega arith) (q.put j v e));
      }
    where
      first_value : (k : ℕ) (vs : List Value) (w : RunOf z) → HaveX z w Main (inputs_from 0 k) vs → 0 < k → (v : Value) × HasX z w Main (port 0 0) v
      first_value zero vs w h low = absurd (omega (arith, low))
      first_value (suc k) [] w h low = absurd h
      first_value (suc k) (v ∷ vs) w h low = (v, h.0)

-- the cells are just the stores
cells_same : (m new : ℕ → Option Value) (us : Stores) → ((x : ℕ) (v : Value) → Contains us (x, v) ↔ (m x ≡ Some v)) → Changed (λ x. None) new us
    → (x : ℕ) → new x ≡ m x
cells_same m new us filled changed x = go (m x) refl
  where
    go : (o : Option Value) → m x ≡ o → new x ≡ m x
    go (Some v) e = changed.full x v ((filled x v).1 e) ∙ sym e
    go None e =
        ⊎_elim (λ k. k ∙ sym e) (λ (k : (v : Value) × Contains us (x, v)). absurd (none_some k.0 (sym e ∙ (filled x k.0).0 k.1))) (changed.other x)
      where
        none_some : (v : Value) → None ≡ Some v → ⊥
        none_some v d = cc

-- no other outputs
outputs_same : (fl : Flow) (inputs : List ℤ) (run : List Activity) (s : State) (r : Run fl (start inputs) run s) → Settled fl inputs run s r → (rs : List Value)
    → length rs ≡ length (results_at (block_of fl Main)) → ((j : ℕ) (v : Value) → slice_get rs j ≡ Some v → s.memory.outputs j ≡ Some v) → (j : ℕ)
    → s.memory.outputs j ≡ slice_get rs j
outputs_same fl inputs run s r st rs many put j = go (slice_get rs j) (s.memory.outputs j) refl refl
  where
    low : (o : Option (Block ℕ)) (v : Value) → HasSome fl inputs run s r Main (result_in o j) v → j < length (results_at o)
    low None v h = absurd h
    low (Some b) v h = below (slice_get b.results j) refl h
      where
        below : (o : Option Source) → slice_get b.results j ≡ o → HasSome fl inputs run s r Main o v → j < length b.results
        below None e h = absurd h
        below (Some x) e h = slice_get_within b.results j x e

    go : (o p : Option Value) → slice_get rs j ≡ o → s.memory.outputs j ≡ p → s.memory.outputs j ≡ slice_get rs j
    go (Some v) p e f = put j v e ∙ sym e
    go None None e f = f ∙ sym e
    go None (Some v) e f =
        let less = low (block_of fl Main) v (st.outputs_results j v f) in
        let some = get_some rs j (omega (arith, less, many)) in
        absurd (none_some some.0 (sym e ∙ some.1))
      where
        none_some : (v : Value) → None ≡ Some v → ⊥
        none_some v d = cc

pub programs_run_in_order : ProgramsRunInOrder
programs_run_in_order text p g origin low well inputs count m k behind =
    let apart : IsLoweredApart p g origin =
    record { lowered = low.lowered; apart = spellings_differ text low.tokens p low.spelled (tokens_rise text low.tokens low.read) } in
    let z : Land =
    record {
      program = p;
      graph = g;
      origin = origin;
      inputs = inputs;
      memory = m.cells;
      is_graph = graph_is p g low.lowered.graph;
      well = well;
      count = count;
      good = each_function_good p low.lowered.good;
      placed = λ f h e. functions_are_placed p g origin apart well f h e;
    } in
    let r = main_reached z k.main.main k.main.named k.main.runs
    (record {
      sound = λ x v e. absurd (none_some v e);
      stores = λ x v h. (k.filled x v).0 h;
      empty = λ x v h. refl;
      once = apart_from k.stores k.once;
      reads = reads_from (λ x. (v : Value) × (None ≡ Some v)) (body_touches k.main.runs) (λ i x e. inr (behind i x e));
    }) in
    let settled = runs_at_rest g inputs well count r.run r.state r.is_run r.rests.at_rest r.rests.no_clash
    (none_waits (flow_of g) r.state.tokens r.rests.none_waits) in
    record {
      run = r.run;
      state = r.state;
      is_run = r.is_run;
      rests = r.rests;
      outputs = λ j. outputs_same (flow_of g) inputs r.run r.state r.is_run settled k.outputs r.many r.outputs j ∙ sym (k.shown j);
      cells = cells_same m.cells r.state.memory.cells k.stores k.filled r.changed;
      ordered = r.ordered;
    }
  where
    none_some : (v : Value) → None ≡ Some v → ⊥
    none_some v d = cc
