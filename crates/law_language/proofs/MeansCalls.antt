-- Lowering keeps the meaning of a call, where it keeps that of the arguments and of what lies deeper.
use Rattle.std.proofs.Common.{◌≡◌, ℕ, ◌+◌, ◌<◌, Bool, true, false, List, [], ◌∷◌, ◌++◌, length, map, Some, IsPermutation, refl, sym, ap, ap₂, ◌∙◌, subst, arith}
use Rattle.std.proofs.Common.{length-append}
use Rattle.std.specs.Prelude.{slice_get}
use Rattle.std.proofs.lemmas.List.{length-map}
use Rattle.std.proofs.lemmas.Option.{slice_get_within, same_Some}
use Rattle.tags.specs.declared.value.Value.{Value}
use Rattle.semantics.specs.declared.graph.Source.{Source}
use Rattle.semantics.specs.declared.graph.Kind.{Kind}
use Rattle.semantics.specs.Graph.{Node, Block, node_at, node_count, place_of, resolved_kind, resolved_block, array_names, block_names}
use Rattle.semantics.specs.WellFormed.{IsBlockWell}
use Rattle.semantics.specs.Meaning.{Context, Called, Turned, IsCall, IsLoop, callee, callee_of, callee_in, block_number, block_numbered, block_of, node_in}
use Rattle.semantics.specs.Meaning.{node_of}
use Rattle.lemmas.proofs.Alls.{all_at}
use Rattle.lemmas.proofs.Permutations.{Within, each_from}
use Rattle.lemmas.proofs.SliceGet.{map_get_back}
use Rattle.law_confluence.specs.EquationsContexts.{depth}
use Rattle.law_confluence.specs.EquationsHave.{Stored, stores_of, outputs_in, ports_of, source_line, result_in}
use Rattle.law_confluence.specs.Equations.{LineEquation, Result, HasSome}
use Rattle.law_confluence.proofs.EquationsGraphForms.{line_past, line_below}
use Rattle.law_confluence.proofs.EquationsGraphFormed.{shaped}
use Rattle.source.specs.Tree.{Name, Exprs, Call, Function}
use Rattle.source.specs.Outside.{bare, body_uses}
use Rattle.source.specs.Rules.{function_in, written_or_one}
use Rattle.source.specs.Evaluates.{Runs, call, entered}
use Rattle.source.specs.Lowered.{Made, Lowered, made, ended, node_of as line_node, call_kind, results_of, turn_site, function_scope, function_blocks}
use Rattle.source.specs.Lowered.{inputs_from, ports_from, port, spot_after, lower_list}
use Rattle.source.proofs.CountedSources.{inputs_count}
use Rattle.source.proofs.Kept.{IsCalled, in_call}
use Rattle.law_language.specs.MeansHolds.{resolved, block_in, HasBlocks}
use Rattle.law_language.specs.MeansBelow.{node_under, is_within, is_below, cell_and_value}
use Rattle.law_language.proofs.MeansHaving.{have_source, have_length}
use Rattle.source.proofs.Holding.{holds_whole}
use Rattle.law_language.proofs.MeansHolding.{resolved_all}
use Rattle.source.proofs.NamesUsed.{body_used}
use Rattle.law_language.proofs.MeansNamesAgree.{agrees_each, known_in}
use Rattle.source.proofs.Counting.{list_count, body_count}
use Rattle.law_language.proofs.MeansRanges.{stores_both}
use Rattle.law_language.proofs.MeansStoreLines.{IsStore, stored_at, within_one, bools_same, filters_same, within_some, call_loop}
use Rattle.law_language.proofs.MeansStoredOnce.{store_call, within_itself}
use Rattle.law_language.proofs.MeansParts.{first_part, rest_part, own_line, block_is, line_gives}
use Rattle.law_language.proofs.MeansLeaves.{append_nothing}
use Rattle.law_language.proofs.MeansMainDelivers.{within_true}
use Rattle.law_language.proofs.MeansMainActive.{IsGoodFunction, function_named, main_spot, main_lowered, main_made}
use Rattle.law_language.proofs.MeansInputs.{root_taken, input_gives, have_inputs_from, have_ports_from}
use Rattle.law_language.proofs.MeansUnder.{AtIt, Itself, InCall, InTurn, under_cases, under_call, under_due, under_line}
use Rattle.law_language.proofs.MeansScene.{Scene, PortsGive, flow, world_of, StoodIn, DueIn, HasIn, HaveIn, KnownIn, StoresIn, ActiveIn, DeliversIn, ExprIn}
use Rattle.law_language.proofs.MeansScene.{ListIn, AllIn}

-- A node of a block lies among the block's lines.
pub line_within : (z : Scene) (d : Context) (b : Block ℕ) (k : ℕ) (line : Node ℕ) → block_of (flow z) d ≡ Some b → node_of (flow z) d k ≡ Some line
    → is_within b.inputs (node_count b) (Some k) ≡ true
line_within z d b k line eb e =
    let at : node_at b k ≡ Some line = sym (ap (λ o. node_in o k) eb) ∙ e in
    within_true b.inputs (node_count b) k (line_past b k line at).0 (line_below b k line at)

-- THE STORES OF A CALL are all those of what it calls.
module _ (z : Scene) (c : Context) (n : ℕ) (line : Node ℕ) (el : node_of (flow z) c n ≡ Some line) (kind : IsCall line.kind) (b : Block ℕ)
    (eb : block_of (flow z) (Called c n) ≡ Some b) where
  inner : (w : Stored) → Within w (stores_of (flow z) z.run) → AtIt c n w.context w.node → is_below (Called c n) b.inputs (node_count b) w.context w.node ≡ true
  inner w h at =
      let own = stored_at (flow z) z.inputs z.run z.state z.is_run z.settled w h in go own.0 own.1.0 own.1.1 own.1.2 at
    where
      go : DueIn z w.context → (own : Node ℕ) → node_of (flow z) w.context w.node ≡ Some own → IsStore own.kind → AtIt c n w.context w.node
          → is_below (Called c n) b.inputs (node_count b) w.context w.node ≡ true
      go due own eo store (Itself ec en) =
          let same : own ≡ line = same_Some own line (sym eo ∙ ap₂ (λ c n. node_of (flow z) c n) ec en ∙ el) in
          absurd (store_call line.kind (subst (λ (l : Node ℕ). IsStore l.kind) same store) kind)
      go due own eo store (InCall k e) =
          let above = under_line z.graph z.inputs z.run z.state z.is_run z.settled (Called c n) w.context w.node k own due eo e in
          ap (is_within b.inputs (node_count b)) e ∙ line_within z (Called c n) b k above.0 eb above.1
      go due own eo store (InTurn t k e) =
          let turn : DueIn z (Turned c n t) = under_due z.graph z.inputs z.run z.state z.is_run (Turned c n t) w.context w.node k due e in
          let same : turn.1.0 ≡ line = same_Some turn.1.0 line (sym turn.1.1 ∙ el) in
          absurd (call_loop line.kind kind (subst (λ (l : Node ℕ). IsLoop l.kind) same turn.1.2))

  pub stores_call : StoresIn z c n (n + 1) ≡ StoresIn z (Called c n) b.inputs (node_count b)
  stores_call =
      ap (λ (us : List Stored). map cell_and_value us)
      (filters_same (λ (w : Stored). is_below c n (n + 1) w.context w.node) (λ (w : Stored). is_below (Called c n) b.inputs (node_count b) w.context w.node)
      (stores_of (flow z) z.run)
      (each_from _ (stores_of (flow z) z.run)
      (λ w h.
      bools_same (is_below c n (n + 1) w.context w.node) (is_below (Called c n) b.inputs (node_count b) w.context w.node)
      (λ e. inner w h (under_cases c n w.context w.node (within_one n (node_under c w.context w.node) e)))
      (λ e.
      let k = within_some b.inputs (node_count b) (node_under (Called c n) w.context w.node) e in
      ap (is_within n (n + 1)) (under_call c n w.context w.node k.0 k.1) ∙ within_itself n))))

-- A block of the graph has some output.
pub some_output : (z : Scene) (i : ℕ) (b : Block ℕ) → slice_get (flow z).blocks i ≡ Some b → 0 < b.outputs
some_output z i b e =
    let x = map_get_back (λ (b : List ℕ × Block (List ℕ)). resolved_block (array_names z.graph) (block_names z.graph) b.1) z.graph.blocks i b e in
    let well : IsBlockWell z.graph x.0.1 = all_at (λ (named : List ℕ × Block (List ℕ)). IsBlockWell z.graph named.1) z.graph.blocks i x.0 z.well.blocks x.1 in
    subst (λ (b : Block ℕ). 0 < b.outputs) x.2 well.some_output

-- what both kinds of calls have
record CallsIt (z : Scene) (kind : Kind ℕ) (i : ℕ) : Type 0 where
  pub equals : (c : Context) (n q : ℕ) (v : Value) (ss : List Source) → LineEquation (flow z) z.inputs z.run z.state z.is_run c n q v kind ss
      → DueIn z (Called c n) × Result (flow z) z.inputs z.run z.state z.is_run (Called c n) q v
  pub calls : callee kind ≡ Some i
  pub is_call : IsCall kind
  pub ports : (ss : List Source) → ports_of (flow z) kind ss ≡ outputs_in (slice_get (flow z).blocks i)

calls_it : (z : Scene) (strict : Bool) (f : Name) → CallsIt z (resolved_kind (array_names z.graph) (block_names z.graph) (call_kind strict f))
    (place_of f (block_names z.graph))
calls_it z true f = record { equals = λ c n q v ss h. h; calls = refl; is_call = tt; ports = λ ss. refl }
calls_it z false f = record { equals = λ c n q v ss h. h; calls = refl; is_call = tt; ports = λ ss. refl }

-- A NODE THAT CALLS a function of the program, with values for its arguments
module _ (z : Scene) (c : Context) (due : DueIn z c) (n : ℕ) (line : Node ℕ) (block : Block ℕ) (eb : block_of (flow z) c ≡ Some block)
    (el : node_at block n ≡ Some line)
    (f : Function) (good : IsGoodFunction z.program f) (placed : HasBlocks z.graph z.origin f.name.name (function_blocks z.program f))
    (it : CallsIt z line.kind (place_of f.name.name (block_names z.graph)))
    (gives : PortsGive z c n line)
    (vs : List Value) (have : HaveIn z c line.sources vs) (many : length line.sources ≡ length f.params) where
  abbrev to : Block ℕ
  to = block_in z.graph f.name.name (main_made z.program f)

  abbrev own : Lowered
  own = main_lowered z.program f

  line_is : node_of (flow z) c n ≡ Some line
  line_is = ap (λ o. node_in o n) eb ∙ el

  number_is : block_number (flow z) (Called c n) ≡ Some (place_of f.name.name (block_names z.graph))
  number_is = ap (λ o. callee_in o n) eb ∙ ap callee_of el ∙ it.calls

  to_is : block_of (flow z) (Called c n) ≡ Some to
  to_is = ap (λ o. block_numbered (flow z) o) number_is ∙ placed.0.is_there

  ports_are : ports_of (flow z) line.kind line.sources ≡ to.outputs
  ports_are = it.ports line.sources ∙ ap outputs_in placed.0.is_there

  called_due : DueIn z (Called c n)
  called_due =
      let some = some_output z (place_of f.name.name (block_names z.graph)) to placed.0.is_there in
      let v = gives 0 (let e = ports_are in omega (arith, some, e)) in (it.equals c n 0 v.0 line.sources v.2).0

  inputs_have : HaveIn z (Called c n) (inputs_from 0 (length f.params)) vs
  inputs_have =
      let long = have_length (flow z) z.inputs z.run z.state z.is_run c line.sources vs have in
      have_inputs_from (flow z) z.inputs z.run z.state z.is_run (Called c n) vs 0 (length f.params) (sym long ∙ many)
      (λ k v e.
      let x = have_source (flow z) z.inputs z.run z.state z.is_run c line.sources vs k v have e in
      let low = slice_get_within vs k v e in
      let w = input_gives (flow z) z.inputs z.run z.state z.is_run z.settled (Called c n) to to_is called_due k (omega (arith, low, long, many)) in
      let its : HasIn z c x.0 w.0 =
      subst (λ o. HasSome (flow z) z.inputs z.run z.state z.is_run c o w.0) (ap (λ o. source_line o k) line_is ∙ x.1) w.2 in
      let same : w.0 ≡ v = z.settled.one_value c x.0.node x.0.port w.0 v its x.2 in
      let at : k ≡ 0 + k = omega arith in
      subst (λ i. HasIn z (Called c n) (port i 0) v) at (subst (λ v. HasIn z (Called c n) (port k 0) v) same w.1))

  called_stands : ActiveIn z (Called c n) (turn_site f.name.name) (main_spot f) own
  called_stands =
      let some = (shaped z.graph z.well (place_of f.name.name (block_names z.graph)) to placed.0.is_there).some_input in
      let first = input_gives (flow z) z.inputs z.run z.state z.is_run z.settled (Called c n) to to_is called_due 0 some in
      record {
        number = place_of f.name.name (block_names z.graph);
        block = to;
        is_number = number_is;
        is_block = placed.0.is_there;
        due = called_due;
        taken = root_taken (StoodIn z) (Called c n) to (node_count to);
        trigger = first.0;
        triggered = first.1;
        lines = holds_whole to (map (resolved z.graph) own.nodes) (resolved_all z.graph own.nodes);
        traced = placed.0.traced;
        loops = placed.1;
      }

  called_knows : KnownIn z (Called c n) (function_scope f) (entered f.params vs []) (body_uses f.body)
  called_knows =
      agrees_each (flow z) z.inputs z.run z.state z.is_run (Called c n) (function_scope f) (entered f.params vs []) (bare f.params) (body_uses f.body)
      (λ x e. known_in (flow z) z.inputs z.run z.state z.is_run (Called c n) f.params (inputs_from 0 (length f.params)) vs [] [] inputs_have
      (sym (inputs_count 0 (length f.params))) x e)
      (body_used z.program (bare f.params) f.body (written_or_one f.results) good.values)

  abbrev CalledDelivers : Type 0
  CalledDelivers = DeliversIn z (Called c n) (Runs (world_of z) (entered f.params vs []) f.body) own.sources (length f.params)
      (length f.params + length own.nodes)

  called_delivers : AllIn z (Called c n) → CalledDelivers
  called_delivers all =
      all.body f.body (turn_site f.name.name) (main_spot f) (function_scope f) (entered f.params vs []) (bare f.params) (written_or_one f.results) false
      good.fits good.values called_stands called_knows

  -- its ports have the values of the results
  ports_have : (out : CalledDelivers) (count : ℕ) → length own.sources ≡ count → HaveIn z c (ports_from n 0 count) out.vs
  ports_have out count e =
      let long = have_length (flow z) z.inputs z.run z.state z.is_run (Called c n) own.sources out.vs out.have in
      have_ports_from (flow z) z.inputs z.run z.state z.is_run c out.vs n 0 count (sym long ∙ e)
      (λ k v f.
      let x = have_source (flow z) z.inputs z.run z.state z.is_run (Called c n) own.sources out.vs k v out.have f in
      let low = slice_get_within own.sources k x.0 x.1 in
      let w = gives k (let p = ports_are in omega (arith, p, low)) in
      let result = (it.equals c n k w.0 line.sources w.2).1 in
      let its : HasIn z (Called c n) x.0 w.0 = subst (λ o. HasSome (flow z) z.inputs z.run z.state z.is_run (Called c n) o w.0)
      (ap (λ o. result_in o k) to_is ∙ x.1) result in
      let same : w.0 ≡ v = z.settled.one_value (Called c n) x.0.node x.0.port w.0 v its x.2 in
      let at : k ≡ 0 + k = omega arith in
      subst (λ i. HasIn z c (port n i) v) at (subst (λ v. HasIn z c (port n k) v) same w.1))

  -- and its stores are those of the body
  its_stores : (out : CalledDelivers) → IsPermutation out.ss (StoresIn z c n (n + 1))
  its_stores out =
      let long : node_count to ≡ length f.params + length own.nodes =
      ap (λ n. length f.params + n) (length-map (map line_node own.nodes) _ ∙ length-map own.nodes line_node) in
      subst (λ us. IsPermutation out.ss us) (sym (stores_call z c n line line_is it.is_call to to_is))
      (subst (λ hi. IsPermutation out.ss (StoresIn z (Called c n) (length f.params) hi)) (sym long) out.stored)

pub means_call : (z : Scene) (c : Context) (at : ℕ) (strict : Bool) (f : Name) (es : Exprs) → ((d : Context) → depth c < depth d → AllIn z d) → ListIn z c es
    → ExprIn z c (Call at strict f es)
means_call z c at strict f es deeper means site spot scope env names n fits rule h known =
    let l : Lowered = lower_list z.program site spot scope es in
    let count : ℕ = results_of (function_in z.program f) in
    let m1 : Made = made site at (call_kind strict f) l.sources in
    let m : Lowered = ended site spot l at (call_kind strict f) l.sources count in
    let tail : Lowered = record { nodes = m1 ∷ []; sources = []; blocks = [] } in
    let k : IsCalled z.program names f es n = in_call z.program names at strict f es n rule in
    let before : ActiveIn z c site spot l =
    first_part z.program z.graph z.origin z.inputs z.run z.state z.is_run c site spot l m (m1 ∷ []) [] refl (sym (append_nothing l.blocks)) h in
    let last : ActiveIn z c site (spot_after spot l) tail =
    rest_part z.program z.graph z.origin z.inputs z.run z.state z.is_run c site spot l tail m refl (sym (append_nothing l.blocks)) h in
    let out = means site spot scope env names (length k.function.params) fits k.arguments before known in
    let own : ℕ = spot.next + length l.nodes in
    let line : Node ℕ = resolved z.graph m1 in
    let eb = block_is z.program z.graph z.origin z.inputs z.run z.state z.is_run c site (spot_after spot l) tail last in
    let el = (own_line z.program z.graph z.origin z.inputs z.run z.state z.is_run c site (spot_after spot l) tail m1 [] refl last).0 in
    let named : f ≡ k.function.name.name = function_named z.program f k.function k.found in
    let it : CallsIt z line.kind (place_of k.function.name.name (block_names z.graph)) =
    subst (λ x. CallsIt z line.kind (place_of x (block_names z.graph))) named (calls_it z strict f) in
    let good : IsGoodFunction z.program k.function = z.good f k.function k.found in
    let placed = z.placed f k.function k.found in
    let gives : PortsGive z c own line = λ q low. line_gives (flow z) z.inputs z.run z.state z.is_run z.settled c last.block own q line eb last.due el
    last.taken low in
    let many : length l.sources ≡ length k.function.params = list_count z.program site spot scope es names (length k.function.params) k.arguments in
    let body : CalledDelivers z c last.due own line last.block eb el k.function good placed it gives out.vs out.have many =
    called_delivers z c last.due own line last.block eb el k.function good placed it gives out.vs out.have many (deeper (Called c own) (omega arith)) in
    let counted : length (main_lowered z.program k.function).sources ≡ count =
    body_count z.program (turn_site k.function.name.name) (main_spot k.function) (function_scope k.function) k.function.body (bare k.function.params)
    (written_or_one k.function.results) good.values
    ∙ sym (ap results_of k.found) in
    let own_stores = its_stores z c last.due own line last.block eb el k.function good placed it gives out.vs out.have many body in
    let whole = stores_both (flow z) z.run c spot.next own (own + 1) out.ss body.ss (omega arith) (omega arith) out.stored own_stores in
    let long : own + 1 ≡ spot.next + length m.nodes = let x = length-append l.nodes (m1 ∷ []) in omega (arith, x) in
    record {
      vs = body.vs;
      ss = out.ss ++ body.ss;
      evaluated = call out.evaluated k.found body.evaluated;
      have = ports_have z c last.due own line last.block eb el k.function good placed it gives out.vs out.have many body count counted;
      stored = subst (λ hi. IsPermutation (out.ss ++ body.ss) (StoresIn z c spot.next hi)) long whole;
    }
