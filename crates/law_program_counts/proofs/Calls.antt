-- The invocations of a call are the call itself, those of its arguments, and those of the body of its function.
use Rattle.std.proofs.Common.{◌≡◌, ℕ, ◌+◌, ◌<◌, ◌≤◌, ◌⊎◌, inl, inr, Bool, true, false, List, [], ◌∷◌, length, map, Some, Contains, refl, sym, ap, ◌∙◌, subst, arith}
use Rattle.std.proofs.Common.{length-append}
use Rattle.std.specs.Prelude.{slice_get, count_by}
use Rattle.std.proofs.lemmas.List.{length-map}
use Rattle.std.proofs.lemmas.Option.{slice_get_within, same_Some}
use Rattle.tags.specs.declared.value.Value.{Value}
use Rattle.semantics.specs.declared.graph.Source.{Source}
use Rattle.semantics.specs.declared.graph.Kind.{Kind}
use Rattle.semantics.specs.Graph.{Node, Block, node_at, node_count, place_of, resolved_kind, array_names, block_names}
use Rattle.semantics.specs.Meaning.{Context, Called, Turned, IsCall, IsLoop, callee, callee_of, callee_in, block_number, block_numbered, block_of, node_in}
use Rattle.semantics.specs.Meaning.{node_of}
use Rattle.semantics.specs.Cause.{is_turn}
use Rattle.lemmas.proofs.Contains.{contains_cases, contains_head, contains_tail}
use Rattle.law_confluence.specs.EquationsHave.{outputs_in, ports_of, source_line}
use Rattle.law_confluence.specs.Equations.{LineEquation, HasSome}
use Rattle.law_confluence.proofs.EquationsGraphForms.{line_past, line_below}
use Rattle.law_confluence.proofs.EquationsGraphFormed.{shaped}
use Rattle.source.specs.Tree.{Name, Exprs, Function}
use Rattle.source.specs.Outside.{bare, body_uses}
use Rattle.source.specs.Rules.{function_in, written_or_one}
use Rattle.source.specs.Evaluates.{Env, Stores, EvaluatesAll, Runs, call, entered}
use Rattle.source.specs.Once.{OneAnswer}
use Rattle.source.specs.Lowered.{Made, Lowered, made, ended, node_of as line_node, call_kind, results_of, turn_site, function_scope, function_blocks}
use Rattle.source.specs.Lowered.{inputs_from, port, spot_after, lower_list}
use Rattle.source.proofs.CountedSources.{inputs_count}
use Rattle.source.proofs.Kept.{IsCalled, in_call}
use Rattle.source.proofs.Holding.{holds_whole}
use Rattle.source.proofs.NamesUsed.{body_used}
use Rattle.source.proofs.Counting.{list_count}
use Rattle.law_completion.specs.TotalProgram.{a_call, both, list_counted, body_counted}
use Rattle.law_language.specs.MeansHolds.{resolved, block_in, HasBlocks}
use Rattle.law_language.proofs.MeansHaving.{have_source, have_length}
use Rattle.law_language.proofs.MeansHolding.{resolved_all}
use Rattle.law_language.proofs.MeansNamesAgree.{agrees_each, known_in}
use Rattle.law_language.proofs.MeansStoreLines.{call_loop}
use Rattle.law_language.proofs.MeansParts.{own_line, block_is, line_gives}
use Rattle.law_language.proofs.MeansLeaves.{append_nothing}
use Rattle.law_language.proofs.MeansMainActive.{IsGoodFunction, function_named, main_spot, main_lowered, main_made}
use Rattle.law_language.proofs.MeansInputs.{root_taken, input_gives, have_inputs_from}
use Rattle.law_language.proofs.MeansCalls.{some_output}
use Rattle.law_language.proofs.MeansScene.{Scene, PortsGive, flow, world_of, StoodIn, DueIn, HasIn, HaveIn, KnownIn, ActiveIn, AllIn}
use Rattle.law_language.proofs.MeansStanding.{first_in, rest_in}
use Rattle.law_program_counts.proofs.MadeAt.{made_at, MadeBy, TheCall, TheTurn, WithinCall, WithinTurn, made_by, made_due, made_line, made_call, own_call, not_in_call}
use Rattle.law_program_counts.proofs.Lists.{Lists, MadeIn, lists_both, lists_to, count_more, differ_cons}
use Rattle.law_program_counts.proofs.Parts.{ExprCounts, ListCounts, BodyCounts}
use Rattle.law_program_counts.proofs.SameAnswers.{same_list}

-- what is made within an invocation is made at a line of its block
pub within_block : (z : Scene) (c d : Context) (b : Block ℕ) (k : ℕ) → block_of (flow z) c ≡ Some b → DueIn z d → made_at c d ≡ Some k
    → (b.inputs ≤ k) × (k < node_count b)
within_block z c d b k eb due e =
    let line = made_line z c d k due e in
    let at : node_at b k ≡ Some line.0 = sym (ap (λ o. node_in o k) eb) ∙ line.1 in
    ((line_past b k line.0 at).0, line_below b k line.0 at)

-- what both kinds of calls have
record CallsIt (z : Scene) (kind : Kind ℕ) (i : ℕ) : Type 0 where
  pub due : (c : Context) (n q : ℕ) (v : Value) (ss : List Source) → LineEquation (flow z) z.inputs z.run z.state z.is_run c n q v kind ss
      → DueIn z (Called c n)
  pub calls : callee kind ≡ Some i
  pub is_call : IsCall kind
  pub ports : (ss : List Source) → ports_of (flow z) kind ss ≡ outputs_in (slice_get (flow z).blocks i)

calls_it : (z : Scene) (strict : Bool) (f : Name) → CallsIt z (resolved_kind (array_names z.graph) (block_names z.graph) (call_kind strict f))
    (place_of f (block_names z.graph))
calls_it z true f = record { due = λ c n q v ss h. h.0; calls = refl; is_call = tt; ports = λ ss. refl }
calls_it z false f = record { due = λ c n q v ss h. h.0; calls = refl; is_call = tt; ports = λ ss. refl }

-- A NODE THAT CALLS a function of the program, with values for its arguments
module _ (z : Scene) (c : Context) (due : DueIn z c) (n : ℕ) (line : Node ℕ) (block : Block ℕ) (eb : block_of (flow z) c ≡ Some block)
    (el : node_at block n ≡ Some line)
    (f : Function) (good : IsGoodFunction z.program f) (placed : HasBlocks z.graph z.origin f.name.name (function_blocks z.program f))
    (it : CallsIt z line.kind (place_of f.name.name (block_names z.graph)))
    (gives : PortsGive z c n line)
    (vs : List Value) (have : HaveIn z c line.sources vs) (many : length line.sources ≡ length f.params) where
  abbrev to : Block ℕ
  to = block_in z.graph f.name.name (main_made z.program f)

  abbrev own : Lowered
  own = main_lowered z.program f

  line_is : node_of (flow z) c n ≡ Some line
  line_is = ap (λ o. node_in o n) eb ∙ el

  number_is : block_number (flow z) (Called c n) ≡ Some (place_of f.name.name (block_names z.graph))
  number_is = ap (λ o. callee_in o n) eb ∙ ap callee_of el ∙ it.calls

  to_is : block_of (flow z) (Called c n) ≡ Some to
  to_is = ap (λ o. block_numbered (flow z) o) number_is ∙ placed.0.is_there

  ports_are : ports_of (flow z) line.kind line.sources ≡ to.outputs
  ports_are = it.ports line.sources ∙ ap outputs_in placed.0.is_there

  called_due : DueIn z (Called c n)
  called_due =
      let some = some_output z (place_of f.name.name (block_names z.graph)) to placed.0.is_there in
      let v = gives 0 (let e = ports_are in omega (arith, some, e)) in it.due c n 0 v.0 line.sources v.2

  inputs_have : HaveIn z (Called c n) (inputs_from 0 (length f.params)) vs
  inputs_have =
      let long = have_length (flow z) z.inputs z.run z.state z.is_run c line.sources vs have in
      have_inputs_from (flow z) z.inputs z.run z.state z.is_run (Called c n) vs 0 (length f.params) (sym long ∙ many)
      (λ k v e.
      let x = have_source (flow z) z.inputs z.run z.state z.is_run c line.sources vs k v have e in
      let low = slice_get_within vs k v e in
      let w = input_gives (flow z) z.inputs z.run z.state z.is_run z.settled (Called c n) to to_is called_due k (omega (arith, low, long, many)) in
      let its : HasIn z c x.0 w.0 =
      subst (λ o. HasSome (flow z) z.inputs z.run z.state z.is_run c o w.0) (ap (λ o. source_line o k) line_is ∙ x.1) w.2 in
      let same : w.0 ≡ v = z.settled.one_value c x.0.node x.0.port w.0 v its x.2 in
      let at : k ≡ 0 + k = omega arith in
      subst (λ i. HasIn z (Called c n) (port i 0) v) at (subst (λ v. HasIn z (Called c n) (port k 0) v) same w.1))

  called_stands : ActiveIn z (Called c n) (turn_site f.name.name) (main_spot f) own
  called_stands =
      let some = (shaped z.graph z.well (place_of f.name.name (block_names z.graph)) to placed.0.is_there).some_input in
      let first = input_gives (flow z) z.inputs z.run z.state z.is_run z.settled (Called c n) to to_is called_due 0 some in
      record {
        number = place_of f.name.name (block_names z.graph);
        block = to;
        is_number = number_is;
        is_block = placed.0.is_there;
        due = called_due;
        taken = root_taken (StoodIn z) (Called c n) to (node_count to);
        trigger = first.0;
        triggered = first.1;
        lines = holds_whole to (map (resolved z.graph) own.nodes) (resolved_all z.graph own.nodes);
        traced = placed.0.traced;
        loops = placed.1;
      }

  called_knows : KnownIn z (Called c n) (function_scope f) (entered f.params vs []) (body_uses f.body)
  called_knows =
      agrees_each (flow z) z.inputs z.run z.state z.is_run (Called c n) (function_scope f) (entered f.params vs []) (bare f.params) (body_uses f.body)
      (λ x e. known_in (flow z) z.inputs z.run z.state z.is_run (Called c n) f.params (inputs_from 0 (length f.params)) vs [] [] inputs_have
      (sym (inputs_count 0 (length f.params))) x e)
      (body_used z.program (bare f.params) f.body (written_or_one f.results) good.values)

  -- THE INVOCATIONS AT THE NODE: the call, and those of the body
  call_lists : {rs : List Value} {us : Stores} (g : Runs (world_of z) (entered f.params vs []) f.body rs us) → BodyCounts z (Called c n) g
      → Lists z c n (n + 1) (a_call (body_counted g))
  call_lists g counts =
      let out = counts (turn_site f.name.name) (main_spot f) (function_scope f) (bare f.params) (written_or_one f.results) false good.fits good.values
      called_stands called_knows in
      let long : node_count to ≡ length f.params + length own.nodes =
      ap (λ n. length f.params + n) (length-map (map line_node own.nodes) _ ∙ length-map own.nodes line_node) in
      record {
        invocations = Called c n ∷ out.invocations;
        many = let a = out.many in omega (arith, a);
        turns = let a : count_by is_turn (Called c n ∷ out.invocations) ≡ 0 + count_by is_turn out.invocations = count_more is_turn (Called c n) out.invocations in
            let b = out.turns in omega (arith, a, b);
        all = λ d k due' e low high.
            let same : k ≡ n = omega (arith, low, high) in
            pick d due' (made_by c n d (subst (λ k. made_at c d ≡ Some k) same e)) out.invocations
            (λ k f. let in_it = within_block z (Called c n) d to k to_is due' f in let past = in_it.0 in let below = in_it.1 in
            out.all d k due' f past (omega (arith, below, long)));
        just = λ d h. its d (contains_cases (Called c n) out.invocations d h) out.just;
        differ = differ_cons (Called c n) out.invocations (λ h. let m = (out.just (Called c n) h).1 in not_in_call c n m.0 m.1) out.differ;
      }
    where
      no_turn : (t : ℕ) → DueIn z (Turned c n t) → ⊥
      no_turn t turn =
          let same : turn.1.0 ≡ line = same_Some turn.1.0 line (sym turn.1.1 ∙ line_is) in
          call_loop line.kind it.is_call (subst (λ (l : Node ℕ). IsLoop l.kind) same turn.1.2)

      its : (d : Context) → (Called c n ≡ d) ⊎ Contains (counts (turn_site f.name.name) (main_spot f) (function_scope f) (bare f.params)
          (written_or_one f.results) false good.fits good.values called_stands called_knows).invocations d
          → ((d : Context) → Contains (counts (turn_site f.name.name) (main_spot f) (function_scope f) (bare f.params)
          (written_or_one f.results) false good.fits good.values called_stands called_knows).invocations d
          → DueIn z d × MadeIn (Called c n) (length f.params) (length f.params + length own.nodes) d)
          → DueIn z d × MadeIn c n (n + 1) d
      its d (inl e) inner = subst (λ d. DueIn z d × MadeIn c n (n + 1) d) e (called_due, (n, own_call c n, omega arith, omega arith))
      its d (inr h) inner = let m = inner d h in (m.0, (n, made_call c d n m.1.0 m.1.1, omega arith, omega arith))

      pick : (d : Context) → DueIn z d → MadeBy c n d → (ds : List Context) → ((k : ℕ) → made_at (Called c n) d ≡ Some k → Contains ds d)
          → Contains (Called c n ∷ ds) d
      pick d due' (TheCall e) ds inner = subst (Contains (Called c n ∷ ds)) (sym e) (contains_head (Called c n) ds)
      pick d due' (TheTurn t e) ds inner = absurd (no_turn t (subst (λ d. DueIn z d) e due'))
      pick d due' (WithinCall k e) ds inner = contains_tail (Called c n) ds d (inner k e)
      pick d due' (WithinTurn t k e) ds inner = absurd (no_turn t (made_due z (Turned c n t) d k due' e))

pub counts_call : {env : Env} {vs rs : List Value} {ss us : Stores} (z : Scene) (c : Context) (one_answer : OneAnswer) (all : AllIn z c) (at : ℕ) (strict : Bool) (f : Name) (es : Exprs)
    (fun : Function) (d : EvaluatesAll (world_of z) env es vs ss) (found : function_in z.program f ≡ Some fun)
    (g : Runs (world_of z) (entered fun.params vs []) fun.body rs us) → ListCounts z c d → ((c : Context) → BodyCounts z c g)
    → ExprCounts z c (call {t = at} {strict = strict} d found g)
counts_call {env = env} {vs = vs} {ss = ss} z c one_answer all at strict f es fun d found g means body site spot scope names n fits rule h known =
    let l : Lowered = lower_list z.program site spot scope es in
    let count : ℕ = results_of (function_in z.program f) in
    let m1 : Made = made site at (call_kind strict f) l.sources in
    let m : Lowered = ended site spot l at (call_kind strict f) l.sources count in
    let tail : Lowered = record { nodes = m1 ∷ []; sources = []; blocks = [] } in
    let k : IsCalled z.program names f es n = in_call z.program names at strict f es n rule in
    let before : ActiveIn z c site spot l = first_in z c site spot l m (m1 ∷ []) [] refl (sym (append_nothing l.blocks)) h in
    let last : ActiveIn z c site (spot_after spot l) tail = rest_in z c site spot l tail m refl (sym (append_nothing l.blocks)) h in
    let out = all.list es site spot scope env names (length k.function.params) fits k.arguments before known in
    let have : HaveIn z c l.sources vs =
    subst (λ vs. HaveIn z c l.sources vs) (same_list one_answer (world_of z) env es out.vs vs out.ss ss out.evaluated d) out.have in
    let own : ℕ = spot.next + length l.nodes in
    let line : Node ℕ = resolved z.graph m1 in
    let eb = block_is z.program z.graph z.origin z.inputs z.run z.state z.is_run c site (spot_after spot l) tail last in
    let el = (own_line z.program z.graph z.origin z.inputs z.run z.state z.is_run c site (spot_after spot l) tail m1 [] refl last).0 in
    let named : f ≡ fun.name.name = function_named z.program f fun found in
    let it : CallsIt z line.kind (place_of fun.name.name (block_names z.graph)) =
    subst (λ x. CallsIt z line.kind (place_of x (block_names z.graph))) named (calls_it z strict f) in
    let gives : PortsGive z c own line = λ q low. line_gives (flow z) z.inputs z.run z.state z.is_run z.settled c last.block own q line eb last.due el
    last.taken low in
    let same : k.function ≡ fun = same_Some k.function fun (sym k.found ∙ found) in
    let many : length l.sources ≡ length fun.params =
    list_count z.program site spot scope es names (length k.function.params) k.arguments ∙ ap (λ (h : Function). length h.params) same in
    let mine = call_lists z c last.due own line last.block eb el fun (z.good f fun found) (z.placed f fun found) it gives vs have many g (body (Called c own)) in
    let long : own + 1 ≡ spot.next + length m.nodes = let x = length-append l.nodes (m1 ∷ []) in omega (arith, x) in
    lists_to z c spot.next (own + 1) (spot.next + length m.nodes) (both (list_counted d) (a_call (body_counted g))) long
    (lists_both z c spot.next own (own + 1) (list_counted d) (a_call (body_counted g)) (omega arith) (omega arith)
    (means site spot scope names (length k.function.params) fits k.arguments before known) mine)
