-- A program completes where a machine has a frame for main, for each call and for each iteration of its evaluation.
use Rattle.std.proofs.Common.{◌≡◌, ℕ, ◌+◌, ◌<◌, ◌⊎◌, inl, inr, ℤ, Bool, List, [], ◌∷◌, length, map, Option, Some, None, Contains, refl, ap, ◌∙◌, subst}
use Rattle.std.proofs.Common.{arith, lt-ltb, if◌then◌else◌, ◌==◌, false}
use Rattle.std.specs.Prelude.{slice_get, count_by, ◌≢◌}
use Rattle.std.proofs.lemmas.List.{length-map}
use Rattle.tags.specs.declared.value.Value.{Value}
use Rattle.tags.specs.declared.value.Origin.{Origin}
use Rattle.semantics.specs.Graph.{Graph, Flow, Node, Block, flow_of, node_at, node_count}
use Rattle.semantics.specs.WellFormed.{WellFormed}
use Rattle.semantics.specs.Meaning.{Context, Main, Called, Turned, State, Activity, Fires, Says, Sends, Run, Stood, start, deed, block_of, block_number, block_numbered}
use Rattle.semantics.specs.Meaning.{on_block, on_node, fired, fired_in, input_passed}
use Rattle.semantics.specs.Cause.{AllDue, is_turn}
use Rattle.lemmas.proofs.Alls.{all_from}
use Rattle.lemmas.proofs.Contains.{contains_get, get_contains}
use Rattle.law_confluence.specs.Outcome.{AreInputsOf}
use Rattle.law_confluence.specs.EquationsHave.{Gives}
use Rattle.law_confluence.specs.Equations.{IsDue}
use Rattle.law_confluence.specs.EquationsSettled.{NoneWaits}
use Rattle.law_confluence.proofs.Equations.{runs_at_rest, store_indexes}
use Rattle.law_confluence.proofs.EquationsNoneWaits.{none_waits}
use Rattle.law_confluence.proofs.EquationsRunTakers.{run_deeds}
use Rattle.law_confluence.proofs.EquationsGraphFormed.{shaped}
use Rattle.source.specs.Tree.{Program, Function}
use Rattle.source.specs.Outside.{bare}
use Rattle.source.specs.Rules.{written_or_one}
use Rattle.source.specs.Once.{OneAnswer}
use Rattle.source.specs.Lowered.{node_of as line_node, function_scope, turn_site}
use Rattle.source.specs.Theorem.{RestsWell, Computes}
use Rattle.law_completion.specs.Total.{CallsForAtMost}
use Rattle.law_completion.specs.TotalProgram.{count_of, body_counted}
use Rattle.law_completion.proofs.Graphs.{total_graph}
use Rattle.law_completion.proofs.OneRun.{one_run_counts}
use Rattle.law_language.specs.MeansBelow.{node_under}
use Rattle.law_language.specs.MeansTheorem.{FunctionsArePlaced, IsLoweredApart, IsLoweredText}
use Rattle.law_language.proofs.MeansMainActive.{graph_is, each_function_good, main_spot, main_lowered, main_is, main_stands, main_agrees, block}
use Rattle.law_language.proofs.MeansOriginsTraced.{origins_are_traced}
use Rattle.law_language.proofs.MeansPlaced.{places_from_origins}
use Rattle.law_language.proofs.MeansScene.{Scene, flow, DueIn, AllIn}
use Rattle.law_language.proofs.MeansSteps.{parts_from_places}
use Rattle.law_language.proofs.MeansTexts.{tokens_rise, spellings_differ}
use Rattle.law_program_counts.specs.ProgramCounts.{ProgramsCallForCounted, ProgramsCompleteCounted, TextsCallForCounted, TextsCompleteCounted}
use Rattle.law_program_counts.proofs.MadeAt.{made_at}
use Rattle.law_program_counts.proofs.Lists.{Lists}
use Rattle.law_program_counts.proofs.Calls.{within_block}
use Rattle.law_program_counts.proofs.Induction.{body}

-- ALL LIES UNDER MAIN.
under_main : (d : Context) (m : ℕ) → (n : ℕ) × (node_under Main d m ≡ Some n)
under_main Main m = (m, refl)
under_main (Called d k) m = under_main d k
under_main (Turned d k t) m = under_main d k

made_in_main : (d : Context) → (d ≡ Main) ⊎ ((n : ℕ) × (made_at Main d ≡ Some n))
made_in_main Main = inl refl
made_in_main (Called d n) = inr (under_main d n)
made_in_main (Turned d n t) = inr (under_main d n)

-- WHERE THE FIRST INPUT PASSES, the invocation is due.
numbered : (fl : Flow) (o : Option ℕ) (b : Block ℕ) → block_numbered fl o ≡ Some b → (i : ℕ) × (slice_get fl.blocks i ≡ Some b)
numbered fl None b e = cc
numbered fl (Some i) b e = (i, e)

module _ (z : Scene) where
  some_block : (c : Context) (v : Value) (d : _) → deed (flow z) (Fires c 0 (v ∷ [])) ≡ Some d → (b : Block ℕ) × (block_of (flow z) c ≡ Some b)
  some_block c v d e = go (block_of (flow z) c) refl e
    where
      go : (o : Option (Block ℕ)) → block_of (flow z) c ≡ o → on_block o (fired_in (flow z) c 0 (v ∷ [])) ≡ Some d
          → (b : Block ℕ) × (block_of (flow z) c ≡ Some b)
      go None eb f = cc
      go (Some b) eb f = (b, eb)

  passes : (c : Context) (v : Value) (b : Block ℕ) → block_of (flow z) c ≡ Some b → 0 < b.inputs
      → deed (flow z) (Fires c 0 (v ∷ [])) ≡ Some (Says (Sends c 0 0 v))
  passes c v b eb some =
      ap (λ o. on_block o (fired_in (flow z) c 0 (v ∷ []))) eb
      ∙ ap (λ (t : Bool). if t then input_passed c 0 (v ∷ []) else on_node (node_at b 0)
      (λ (node : Node ℕ). if length (v ∷ []) == length node.sources then fired (flow z) c 0 node.kind (v ∷ []) else None)) (lt-ltb 0 b.inputs some)

  pub fires_due : (c : Context) (v : Value) → Contains z.run (Fires c 0 (v ∷ [])) → DueIn z c
  fires_due c v h =
      let at = contains_get z.run (Fires c 0 (v ∷ [])) h in
      let d = run_deeds (flow z) (start z.inputs) z.state z.run z.is_run at.0 (Fires c 0 (v ∷ [])) at.1 in
      let b = some_block c v d.0 d.1 in
      let i = numbered (flow z) (block_number (flow z) c) b.0 b.1 in
      let some = (shaped z.graph z.well i.0 b.0 i.1).some_input in
      let gives : Gives (flow z) z.run z.state.memory c 0 0 v = (Fires c 0 (v ∷ []), Says (Sends c 0 0 v), h, passes c v b.0 b.1 some, refl) in
      z.settled.silent_invocations c 0 0 v gives

-- A RUN to the state at rest
functions_are_placed : FunctionsArePlaced
functions_are_placed = places_from_origins origins_are_traced

module _ (one_answer : OneAnswer) (p : Program) (g : Graph) (origin : ℕ → Origin) (low : IsLoweredApart p g origin) (well : WellFormed g)
    (inputs : List ℤ) (count : AreInputsOf g inputs) (s : State) (rests : RestsWell (flow_of g) inputs s) (k : Computes p origin inputs s.memory)
    (run : List Activity) (r : Run (flow_of g) (start inputs) run s) where
  none : NoneWaits (flow_of g) s
  none = none_waits (flow_of g) s.tokens rests.none_waits

  abbrev scene : Scene
  scene = record {
    program = p;
    graph = g;
    origin = origin;
    inputs = inputs;
    run = run;
    state = s;
    is_run = r;
    settled = runs_at_rest g inputs well count run s r rests.at_rest rests.no_clash none;
    is_graph = graph_is p g low.lowered.graph;
    well = well;
    indexes = λ c n a line x el ek ex w h ec en. store_indexes g inputs well count run s r rests.at_rest rests.no_clash none c n line a x el ek ex w h ec en;
    good = each_function_good p low.lowered.good;
    placed = λ f h e. functions_are_placed p g origin low well f h e;
  }

  all : (c : Context) → AllIn scene c
  all c = parts_from_places functions_are_placed p g origin low well inputs count run s r rests.at_rest rests.no_clash none c

  -- main's body
  abbrev main : Function
  main = k.main.main

  main_lists : Lists scene Main (length main.params) (length main.params + length (main_lowered p main).nodes) (body_counted k.main.runs)
  main_lists =
      let placed = functions_are_placed p g origin low well _ main k.main.named in
      let good = each_function_good p low.lowered.good _ main k.main.named in
      body scene one_answer all k.main.runs Main (turn_site main.name.name) (main_spot main) (function_scope main) (bare main.params)
      (written_or_one main.results) false good.fits good.values
      (main_stands p g origin inputs run s r scene.settled well count scene.is_graph main k.main.named placed)
      (main_agrees p g origin inputs run s r scene.settled well count scene.is_graph main k.main.named placed good)

  -- each invocation that is due is main or among those
  named : (c : Context) (v : Value) → Contains run (Fires c 0 (v ∷ [])) → (c ≡ Main) ⊎ Contains main_lists.invocations c
  named c v h = go (made_in_main c)
    where
      go : (c ≡ Main) ⊎ ((n : ℕ) × (made_at Main c ≡ Some n)) → (c ≡ Main) ⊎ Contains main_lists.invocations c
      go (inl e) = inl e
      go (inr m) =
          let due = fires_due scene c v h in
          let placed = functions_are_placed p g origin low well _ main k.main.named in
          let b = block p g origin inputs run s r scene.settled well count scene.is_graph main k.main.named placed in
          let eb = main_is p g origin inputs run s r scene.settled well count scene.is_graph main k.main.named placed in
          let in_it = within_block scene Main c b m.0 eb due m.1 in
          let past = in_it.0 in let below = in_it.1 in
          let long : node_count b ≡ length main.params + length (main_lowered p main).nodes =
          ap (λ n. length main.params + n) (length-map (map line_node (main_lowered p main).nodes) _ ∙ length-map (main_lowered p main).nodes line_node) in
          inr (main_lists.all c m.0 due m.1 past (omega (arith, below, long)))

  pub calls_counted : CallsForAtMost (flow_of g) inputs ((count_of p origin inputs s.memory k).calls + (count_of p origin inputs s.memory k).turns)
      (count_of p origin inputs s.memory k).turns
  calls_counted =
      let needs = one_run_counts g inputs well count s rests run r main_lists.invocations named in
      subst (λ t. CallsForAtMost (flow_of g) inputs ((count_of p origin inputs s.memory k).calls + (count_of p origin inputs s.memory k).turns) t) main_lists.turns
      (subst (λ d. CallsForAtMost (flow_of g) inputs d (count_by is_turn main_lists.invocations)) main_lists.many needs.calls)

  -- and these are due, other than main, and differ
  all_due : AllDue (flow_of g) run (Stood (flow_of g) (start inputs) run s r) main_lists.invocations
  all_due = (
    all_from (λ c. IsDue (flow_of g) inputs run s r c × (c ≢ Main)) main_lists.invocations
        (λ i c e. let m = main_lists.just c (get_contains main_lists.invocations i c e) in (m.0, not_main c m.1.0 m.1.1)),
    main_lists.differ,
  )
    where
      not_main : (c : Context) (n : ℕ) → made_at Main c ≡ Some n → c ≢ Main
      not_main c n e f = none_at n (subst (λ c. made_at Main c ≡ Some n) f e)
        where
          none_at : (n : ℕ) → None ≡ Some n → ⊥
          none_at n e = cc

  pub calls_just : (cs : List Context) × AllDue (flow_of g) run (Stood (flow_of g) (start inputs) run s r) cs
      × (length cs ≡ (count_of p origin inputs s.memory k).calls + (count_of p origin inputs s.memory k).turns)
      × (count_by is_turn cs ≡ (count_of p origin inputs s.memory k).turns)
  calls_just = (main_lists.invocations, all_due, main_lists.many, main_lists.turns)

pub programs_call_for : OneAnswer → ProgramsCallForCounted
programs_call_for one p g origin low well inputs count s rests k = record {
  at_most = calls_counted one p g origin low well inputs count s rests k rests.reached.run rests.reached.is_run;
  just = λ run r. calls_just one p g origin low well inputs count s rests k run r;
}

pub programs_complete : OneAnswer → ProgramsCompleteCounted
programs_complete one p g origin low well plan code true_code inputs count s rests k z most large by_list may_stop r shows uncut =
    total_graph g plan code well true_code inputs count _ _
    record { state = s; rests = rests; calls = (programs_call_for one p g origin low well inputs count s rests k).at_most } z most large by_list may_stop r shows uncut

-- TEXTS
text_apart : (text : List ℕ) (p : Program) (g : Graph) (origin : ℕ → Origin) → IsLoweredText text p g origin → IsLoweredApart p g origin
text_apart text p g origin low = record {
  lowered = low.lowered;
  apart = spellings_differ text low.tokens p low.spelled (tokens_rise text low.tokens low.read);
}

pub texts_call_for : OneAnswer → TextsCallForCounted
texts_call_for one text p g origin low well inputs count s rests k =
    programs_call_for one p g origin (text_apart text p g origin low) well inputs count s rests k

pub texts_complete : OneAnswer → TextsCompleteCounted
texts_complete one text p g origin low well plan code true_code inputs count s rests k z most large by_list may_stop r shows uncut =
    programs_complete one p g origin (text_apart text p g origin low) well plan code true_code inputs count s rests k z most large by_list may_stop r shows uncut
