-- Lowering keeps the meaning of a loop, where it keeps that of its first values and of its turns.
use Rattle.std.proofs.Common.{◌≡◌, ℕ, zero, suc, ◌+◌, ◌<◌, ◌≤◌, Bool, true, false, List, [], ◌∷◌, ◌++◌, length, map, Option, Some, None, Ok, IsPermutation}
use Rattle.std.proofs.Common.{refl, sym, ap, ◌∙◌, subst, subst₂, arith, length-append}
use Rattle.std.specs.Prelude.{slice_get}
use Rattle.std.proofs.lemmas.List.{length-map}
use Rattle.std.proofs.lemmas.List.Sorted.{IsPermutation-trans, IsPermutation-append}
use Rattle.std.proofs.lemmas.Option.{slice_get_within, same_Some}
use Rattle.tags.specs.declared.value.Value.{Value}
use Rattle.operators.specs.Values.{truth}
use Rattle.semantics.specs.declared.graph.Source.{Source}
use Rattle.semantics.specs.declared.graph.Kind.TheVariants as node
use Rattle.semantics.specs.Graph.{Node, Block, node_at, node_count, place_of, block_names}
use Rattle.semantics.specs.Meaning.{Context, Turned, IsLoop, callee, callee_of, callee_in, block_number, block_numbered, block_of, node_in, node_of}
use Rattle.law_confluence.specs.EquationsContexts.{depth}
use Rattle.law_confluence.specs.EquationsHave.{ports_of, source_line, result_in, result_at}
use Rattle.law_confluence.specs.Equations.{HasSome, Result, Flagged, Loops, LineEquation}
use Rattle.law_confluence.proofs.EquationsGraphForms.{HasForm}
use Rattle.law_confluence.proofs.EquationsGraphFormed.{shaped}
use Rattle.source.specs.Tree.{Name, NameAt, NumberAt, Exprs, One, More, Loop, Turn, Before, After, Program, names_of}
use Rattle.source.specs.Fits.{FitsTurn, count}
use Rattle.source.specs.Outside.{without, bare, list_uses, uses, body_uses, turn_uses, outside_turn}
use Rattle.source.specs.Rules.{turn_values}
use Rattle.source.specs.Evaluates as eval
use Rattle.source.specs.Evaluates.{Env, Stores, Turns}
use Rattle.source.specs.Lowered.{Made, MadeBlock, Lowered, Spot, Scope, made, node_of as line_node, source_in, scoped, turn_site, turn_scope, turn_block}
use Rattle.source.specs.Lowered.{looped, loop_name, block_name, inputs_from, ports_from, port, spot_after, lower_list, lower_turn}
use Rattle.source.proofs.Steps.{ok_as}
use Rattle.source.proofs.CountedSources.{inputs_count}
use Rattle.source.proofs.Kept.{IsTurned, in_loop}
use Rattle.law_language.specs.MeansHolds.{resolved, block_place, block_in, HasBlock, HasBlocks}
use Rattle.law_language.specs.Means.{turn_gives}
use Rattle.law_language.proofs.MeansHaving.{have_source, have_length, have_both, have_split}
use Rattle.source.proofs.Holding.{holds_whole}
use Rattle.law_language.proofs.MeansHolding.{resolved_all}
use Rattle.source.proofs.OutsideNames.{uses_once}
use Rattle.law_language.proofs.MeansNamesAgree.{agrees_split, agrees_once, agrees_arm}
use Rattle.source.proofs.Counting.{list_count}
use Rattle.law_language.proofs.MeansPlaced.{get_left}
use Rattle.law_language.proofs.MeansParts.{own_line, block_is, line_gives}
use Rattle.law_language.proofs.MeansLeaves.{append_nothing}
use Rattle.law_language.proofs.MeansTurnsGo.{last_turn, more_turns}
use Rattle.law_language.proofs.MeansInputs.{root_taken, input_gives, have_inputs_from, have_ports_from}
use Rattle.law_language.proofs.MeansScene.{Scene, PortsGive, flow, world_of, StoodIn, DueIn, HasIn, HaveIn, KnownIn, StoresIn, ActiveIn, DeliversIn, ExprIn}
use Rattle.law_language.proofs.MeansScene.{ListIn, TurnIn, AllIn}
use Rattle.law_language.proofs.MeansStanding.{first_in, rest_in, makes_both, makes_to}
use Rattle.law_language.proofs.MeansFirsts.{firsts_list, Apart, firsts_apart, scoped_sources, scoped_both, inputs_both}
use Rattle.law_language.proofs.MeansTurnNames.{BoundTo, known_values, entered_values, agrees_behind}
use Rattle.law_language.proofs.MeansLoopStores.{turn_stores, stores_from, loop_stores}

turn_uses_are : (turn : Turn) → (ys : List Name) × (turn_uses turn ≡ without (bare (names_of turn)) ys)
turn_uses_are (Before xs q body) = (uses q ++ body_uses body, refl)
turn_uses_are (After xs body q) = (body_uses body ++ uses q, refl)

-- THE BLOCK OF A TURN
abbrev loop_names : Turn → List Name
loop_names turn = bare (names_of turn)

abbrev turn_from : Turn → ℕ → Spot
turn_from turn k = record { next = length (loop_names turn) + length (outside_turn turn); loops = k }

abbrev turn_lowered : Program → Name → ℕ → ℕ → Turn → Lowered
turn_lowered p f k at turn = lower_turn p f (turn_from turn k) at (turn_scope (loop_names turn) (outside_turn turn)) turn

abbrev turn_made : Program → Name → ℕ → ℕ → Turn → MadeBlock
turn_made p f k at turn = turn_block at k (loop_names turn) (outside_turn turn) (turn_lowered p f k at turn)

-- A LOOP OF A RUN, with its first values and those of the outside names
record Looping (z : Scene) (c : Context) (turn : Turn) (env : Env) (vs : List Value) : Type 0 where
  pub own : ℕ
  pub line : Node ℕ
  pub block : Block ℕ
  pub number : ℕ
  pub is_block : slice_get (flow z).blocks number ≡ Some block
  pub its_block : block_of (flow z) c ≡ Some block
  pub due : DueIn z c
  pub at_line : node_at block own ≡ Some line
  pub gives : PortsGive z c own line
  pub function : Name
  pub k : ℕ
  pub at : ℕ
  pub bound : ℕ
  pub kind : line.kind ≡ node.Loop (block_place z.graph function (turn_made z.program function k at turn)) bound
  pub placed : HasBlock z.graph z.origin function (turn_made z.program function k at turn)
  pub inner : HasBlocks z.graph z.origin function (turn_lowered z.program function k at turn).blocks
  pub outer : List Value
  pub have : HaveIn z c line.sources (vs ++ outer)
  pub many : length line.sources ≡ length (loop_names turn) + length (outside_turn turn)
  pub first : length vs ≡ length (loop_names turn)
  pub bounds : BoundTo env (outside_turn turn) outer
  pub apart : Apart [] (loop_names turn)
  pub some : 0 < length (names_of turn)
  pub names : List Name
  pub fits : FitsTurn turn
  pub rule : turn_values z.program names turn ≡ Ok (length (names_of turn))

module _ (z : Scene) (c : Context) (turn : Turn) (env : Env) (vs : List Value) (l : Looping z c turn env vs)
    (means : (t : ℕ) → TurnIn z (Turned c l.own t) turn) where
  abbrev xs : List Name
  xs = loop_names turn

  abbrev outs : List Name
  outs = outside_turn turn

  abbrev nx : ℕ
  nx = length (loop_names turn)

  abbrev no_ : ℕ
  no_ = length (outside_turn turn)

  abbrev tl : Lowered
  tl = turn_lowered z.program l.function l.k l.at turn

  abbrev to : Block ℕ
  to = block_in z.graph l.function (turn_made z.program l.function l.k l.at turn)

  abbrev here : ℕ → Context
  here t = Turned c l.own t

  line_is : node_of (flow z) c l.own ≡ Some l.line
  line_is = ap (λ o. node_in o l.own) l.its_block ∙ l.at_line

  turn_number : (t : ℕ) → block_number (flow z) (here t) ≡ Some (block_place z.graph l.function (turn_made z.program l.function l.k l.at turn))
  turn_number t = ap (λ o. callee_in o l.own) l.its_block ∙ ap callee_of l.at_line ∙ ap callee l.kind

  turn_is : (t : ℕ) → block_of (flow z) (here t) ≡ Some to
  turn_is t = ap (λ o. block_numbered (flow z) o) (turn_number t) ∙ l.placed.is_there

  -- ITS TURNS
  abbrev LoopsAt : ℕ → Value → Type 0
  LoopsAt q v = Loops (flow z) z.inputs z.run z.state z.is_run c l.own q v

  abbrev ResultAt : ℕ → ℕ → Value → Type 0
  ResultAt t j v = Result (flow z) z.inputs z.run z.state z.is_run (here t) j v

  abbrev SomeAt : ℕ → Option Source → Value → Type 0
  SomeAt t o v = HasSome (flow z) z.inputs z.run z.state z.is_run (here t) o v

  loops : (q : ℕ) → q < length l.line.sources → (v : Value) × HasIn z c (port l.own q) v × LoopsAt q v
  loops q low =
      let ports : ports_of (flow z) l.line.kind l.line.sources ≡ length l.line.sources = ap (λ k. ports_of (flow z) k l.line.sources) l.kind in
      let w = l.gives q (omega (arith, ports, low)) in
      (w.0, w.1, subst (λ k. LineEquation (flow z) z.inputs z.run z.state z.is_run c l.own q w.0 k l.line.sources) l.kind w.2)

  names_many : nx ≡ length (names_of turn)
  names_many = length-map (names_of turn) (λ (x : NameAt). x.name)

  first : (v : Value) × HasIn z c (port l.own 0) v × LoopsAt 0 v
  first = let some = l.some in let many = l.many in let same = names_many in loops 0 (omega (arith, some, many, same))

  abbrev last : ℕ
  last = first.2.turns

  same_turns : (q : ℕ) (v : Value) (m : LoopsAt q v) → m.turns ≡ last
  same_turns q v m =
      let a = first.2.last m.turns (m.due m.turns (omega arith)) in let b = m.last last (first.2.due last (omega arith)) in omega (arith, a, b)

  -- INPUTS of a turn
  abbrev InputsAt : ℕ → List Value → Type 0
  InputsAt t us = HaveIn z (here t) (inputs_from 0 (nx + no_)) us

  first_inputs : InputsAt 0 (vs ++ l.outer)
  first_inputs =
      let long = have_length (flow z) z.inputs z.run z.state z.is_run c l.line.sources (vs ++ l.outer) l.have in
      let many = l.many in
      have_inputs_from (flow z) z.inputs z.run z.state z.is_run (here 0) (vs ++ l.outer) 0 (nx + no_) (sym long ∙ many)
      (λ k v e.
      let x = have_source (flow z) z.inputs z.run z.state z.is_run c l.line.sources (vs ++ l.outer) k v l.have e in
      let low = slice_get_within (vs ++ l.outer) k v e in
      let w = input_gives (flow z) z.inputs z.run z.state z.is_run z.settled (here 0) to (turn_is 0) (first.2.due 0 (omega arith)) k
      (omega (arith, low, long, many)) in
      let its : HasIn z c x.0 w.0 = subst (λ o. HasSome (flow z) z.inputs z.run z.state z.is_run c o w.0) (ap (λ o. source_line o k) line_is ∙ x.1) w.2 in
      let same : w.0 ≡ v = z.settled.one_value c x.0.node x.0.port w.0 v its x.2 in
      let at : k ≡ 0 + k = omega arith in
      subst (λ i. HasIn z (here 0) (port i 0) v) at (subst (λ v. HasIn z (here 0) (port k 0) v) same w.1))

  next_inputs : (t : ℕ) → t < last → (b : Value) (ws : List Value) → HaveIn z (here t) to.results (b ∷ ws) → length ws ≡ nx + no_ → InputsAt (suc t) ws
  next_inputs t before b ws h many =
      have_inputs_from (flow z) z.inputs z.run z.state z.is_run (here (suc t)) ws 0 (nx + no_) many
      (λ k v e.
      let x = have_source (flow z) z.inputs z.run z.state z.is_run (here t) to.results (b ∷ ws) (suc k) v h e in
      let low = slice_get_within ws k v e in
      let w = input_gives (flow z) z.inputs z.run z.state z.is_run z.settled (here (suc t)) to (turn_is (suc t))
      (first.2.due (suc t) (omega (arith, before))) k (omega (arith, low, many)) in
      let next : k + 1 ≡ suc k = omega arith in
      let its : HasIn z (here t) x.0 w.0 = subst (λ o. SomeAt t o w.0) (ap (λ j. result_at (flow z) (here t) j) next
      ∙ ap (λ o. result_in o (suc k)) (turn_is t) ∙ x.1) w.2 in
      let same : w.0 ≡ v = z.settled.one_value (here t) x.0.node x.0.port w.0 v its x.2 in
      let at : k ≡ 0 + k = omega arith in
      subst (λ i. HasIn z (here (suc t)) (port i 0) v) at (subst (λ v. HasIn z (here (suc t)) (port k 0) v) same w.1))

  inputs_are : inputs_from 0 (nx + no_) ≡ inputs_from 0 nx ++ inputs_from nx no_
  inputs_are = let e : 0 + nx ≡ nx = omega arith in inputs_both 0 nx no_ ∙ ap (λ i. inputs_from 0 nx ++ inputs_from i no_) e

  inputs_split : (t : ℕ) (us : List Value) → length us ≡ nx → InputsAt t (us ++ l.outer) → HaveIn z (here t) (inputs_from 0 nx) us × HaveIn z (here t)
      (inputs_from nx no_) l.outer
  inputs_split t us many h =
      have_split (flow z) z.inputs z.run z.state z.is_run (here t) (inputs_from 0 nx) (inputs_from nx no_) us l.outer (inputs_count 0 nx ∙ sym many)
      (subst (λ ss. HaveIn z (here t) ss (us ++ l.outer)) inputs_are h)

  -- NAMES of a turn
  abbrev outer_scope : Scope
  outer_scope = scoped outs (inputs_from nx no_) []

  scope_is : turn_scope xs outs ≡ scoped xs (inputs_from 0 nx) outer_scope
  scope_is = ap (λ ss. scoped (xs ++ outs) ss []) inputs_are ∙ scoped_both xs outs (inputs_from 0 nx) (inputs_from nx no_) [] (sym (inputs_count 0 nx))

  turn_names : (t : ℕ) (us : List Value) → HaveIn z (here t) (inputs_from 0 nx) us → HaveIn z (here t) (map (source_in (turn_scope xs outs)) xs) us
  turn_names t us h =
      subst (λ ss. HaveIn z (here t) ss us)
      (sym (ap (λ (sc : Scope). map (source_in sc) xs) scope_is ∙ scoped_sources [] xs (inputs_from 0 nx) outer_scope l.apart (sym (inputs_count 0 nx)))) h

  turn_knows : (t : ℕ) → HaveIn z (here t) (inputs_from nx no_) l.outer → KnownIn z (here t) (turn_scope xs outs) env (turn_uses turn)
  turn_knows t h =
      let u = turn_uses_are turn in
      let entered = entered_values (flow z) z.inputs z.run z.state z.is_run (here t) env outs (inputs_from nx no_) l.outer l.bounds h in
      let behind = agrees_arm (flow z) z.inputs z.run z.state z.is_run (here t) env outs (inputs_from nx no_) [] entered (turn_uses turn)
      (uses_once (turn_uses turn)) in
      let knows = agrees_behind (flow z) z.inputs z.run z.state z.is_run (here t) xs (inputs_from 0 nx) outer_scope env u.0
      (subst (λ ys. KnownIn z (here t) outer_scope env ys) u.1 behind) in
      subst₂ (λ (sc : Scope) ys. KnownIn z (here t) sc env ys) (sym scope_is) (sym u.1) knows

  -- ONE TURN
  turn_stands : (t : ℕ) → DueIn z (here t) → ActiveIn z (here t) (turn_site l.function) (turn_from turn l.k) tl
  turn_stands t due =
      let some = l.some in let many = names_many in
      let trigger = input_gives (flow z) z.inputs z.run z.state z.is_run z.settled (here t) to (turn_is t) due 0 (omega (arith, some, many)) in
      record {
        number = block_place z.graph l.function (turn_made z.program l.function l.k l.at turn);
        block = to;
        is_number = turn_number t;
        is_block = l.placed.is_there;
        due = due;
        taken = root_taken (StoodIn z) (here t) to (node_count to);
        trigger = trigger.0;
        triggered = trigger.1;
        lines = holds_whole to (map (resolved z.graph) tl.nodes) (resolved_all z.graph tl.nodes);
        traced = l.placed.traced;
        loops = l.inner;
      }

  abbrev TurnDelivers : ℕ → List Value → Type 0
  TurnDelivers t us = DeliversIn z (here t) (turn_gives z.program z.graph z.origin z.inputs z.run z.state z.is_run env turn us) tl.sources (nx + no_)
      (nx + no_ + length tl.nodes)

  turn_delivers : (t : ℕ) → t ≤ last → (us : List Value) → length us ≡ nx → InputsAt t (us ++ l.outer) → TurnDelivers t us
  turn_delivers t low us many h =
      let parts = inputs_split t us many h in
      means t l.function (turn_from turn l.k) l.at (turn_scope xs outs) env l.names us l.some l.fits l.rule (turn_stands t (first.2.due t low))
      (turn_names t us parts.0) (turn_knows t parts.1)

  -- its results
  outputs_many : length tl.sources ≡ nx + 1
  outputs_many =
      let line = (shaped z.graph z.well l.number l.block l.is_block).lines l.own l.line l.at_line in
      let form = subst (λ k. HasForm (flow z) l.block l.line.region k l.line.sources) l.kind line.form in
      let same : form.0.0 ≡ to = same_Some form.0.0 to (sym form.0.1 ∙ l.placed.is_there) in
      let outputs : to.outputs ≡ length l.line.sources + 1 = ap (λ (b : Block ℕ). b.outputs) (sym same) ∙ form.0.3 in
      let append = length-append tl.sources (inputs_from nx no_) in
      let count = inputs_count nx no_ in
      let many = l.many in
      omega (arith, outputs, append, count, many)

  results_have : (t : ℕ) (us : List Value) (out : TurnDelivers t us) → HaveIn z (here t) (inputs_from nx no_) l.outer
      → HaveIn z (here t) to.results (out.evaluated.0 ∷ (out.evaluated.1 ++ l.outer))
  results_have t us out h =
      have_both (flow z) z.inputs z.run z.state z.is_run (here t) tl.sources (inputs_from nx no_) (out.evaluated.0 ∷ out.evaluated.1) l.outer
      (subst (λ us. HaveIn z (here t) tl.sources us) out.evaluated.2 out.have) h

  next_many : (t : ℕ) (us : List Value) (out : TurnDelivers t us) → length out.evaluated.1 ≡ nx
  next_many t us out =
      let long = have_length (flow z) z.inputs z.run z.state z.is_run (here t) tl.sources (out.evaluated.0 ∷ out.evaluated.1)
      (subst (λ us. HaveIn z (here t) tl.sources us) out.evaluated.2 out.have) in
      let many = outputs_many in
      omega (arith, long, many)

  flag_is : (t : ℕ) (b : Value) (ws : List Value) → HaveIn z (here t) to.results (b ∷ ws) → (on : Bool)
      → Flagged (flow z) z.inputs z.run z.state z.is_run (here t) on → truth b ≡ on
  flag_is t b ws h on flag =
      let x = have_source (flow z) z.inputs z.run z.state z.is_run (here t) to.results (b ∷ ws) 0 b h refl in
      let its : HasIn z (here t) x.0 flag.0 = subst (λ o. SomeAt t o flag.0) (ap (λ o. result_in o 0) (turn_is t) ∙ x.1) flag.1 in
      let same : flag.0 ≡ b = z.settled.one_value (here t) x.0.node x.0.port flag.0 b its x.2 in
      sym (ap truth same) ∙ flag.2

  result_is : (t : ℕ) (b : Value) (ws : List Value) → HaveIn z (here t) to.results (b ∷ ws) → (q : ℕ) (v : Value) → slice_get ws q ≡ Some v
      → ResultAt t (q + 1) v
  result_is t b ws h q v e =
      let x = have_source (flow z) z.inputs z.run z.state z.is_run (here t) to.results (b ∷ ws) (suc q) v h e in
      let next : q + 1 ≡ suc q = omega arith in
      subst (λ o. SomeAt t o v) (sym (ap (λ j. result_at (flow z) (here t) j) next ∙ ap (λ o. result_in o (suc q)) (turn_is t) ∙ x.1)) x.2

  its_stores : (t : ℕ) (us : List Value) (out : TurnDelivers t us) → IsPermutation out.ss (turn_stores z c l.own to t)
  its_stores t us out =
      let long : nx + no_ + length tl.nodes ≡ node_count to =
      ap (λ n. nx + no_ + n) (sym (length-map (map line_node tl.nodes) _ ∙ length-map tl.nodes line_node)) in
      subst (λ hi. IsPermutation out.ss (StoresIn z (here t) (nx + no_) hi)) long out.stored

  -- FROM A TURN ON, with so many turns after it
  record Rest (t k : ℕ) (us : List Value) : Type 0 where
    pub rs : List Value
    pub qs : Stores
    pub turns : Turns (world_of z) env turn us rs qs
    pub many : length rs ≡ nx
    pub final : (q : ℕ) (v : Value) → slice_get rs q ≡ Some v → ResultAt last (q + 1) v
    pub stored : IsPermutation qs (stores_from z c l.own to t (suc k))

  rest_from : (k t : ℕ) → t + k ≡ last → (us : List Value) → length us ≡ nx → InputsAt t (us ++ l.outer) → Rest t k us
  rest_from zero t e us m h =
      let ends : t ≡ last = omega (arith, e) in
      let out = turn_delivers t (omega (arith, e)) us m h in
      let results = results_have t us out (inputs_split t us m h).1 in
      let off = flag_is t out.evaluated.0 (out.evaluated.1 ++ l.outer) results false (subst
      (λ t. Flagged (flow z) z.inputs z.run z.state z.is_run (here t) false) (sym ends) first.2.off) in
      record {
        rs = out.evaluated.1;
        qs = out.ss;
        turns = last_turn (world_of z) env turn us out.evaluated.1 out.evaluated.0 out.ss out.evaluated.3 off;
        many = next_many t us out;
        final = λ q v f. subst (λ t. ResultAt t (q + 1) v) ends (result_is t out.evaluated.0 (out.evaluated.1 ++ l.outer) results q v
            (get_left out.evaluated.1 l.outer q v f));
        stored = subst (λ us. IsPermutation out.ss us) (sym (append_nothing (turn_stores z c l.own to t))) (its_stores t us out);
      }
  rest_from (suc k) t e us m h =
      let out = turn_delivers t (omega (arith, e)) us m h in
      let before : t < last = omega (arith, e) in
      let results = results_have t us out (inputs_split t us m h).1 in
      let on = flag_is t out.evaluated.0 (out.evaluated.1 ++ l.outer) results true (first.2.on t before) in
      let next = next_many t us out in
      let outer = have_length (flow z) z.inputs z.run z.state z.is_run (here t) (inputs_from nx no_) l.outer (inputs_split t us m h).1 in
      let count = inputs_count nx no_ in
      let append = length-append out.evaluated.1 l.outer in
      let inputs = next_inputs t before out.evaluated.0 (out.evaluated.1 ++ l.outer) results (omega (arith, next, outer, count, append)) in
      let later = rest_from k (suc t) (omega (arith, e)) out.evaluated.1 next inputs in
      record {
        rs = later.rs;
        qs = out.ss ++ later.qs;
        turns = more_turns (world_of z) env turn us out.evaluated.1 later.rs out.evaluated.0 out.ss later.qs out.evaluated.3 on later.turns;
        many = later.many;
        final = later.final;
        stored = IsPermutation-append out.ss (turn_stores z c l.own to t) later.qs (stores_from z c l.own to (suc t) (suc k))
            (its_stores t us out) later.stored;
      }

  -- THE LOOP
  abbrev Whole : Type 0
  Whole = Rest 0 last vs

  whole : Whole
  whole = rest_from last 0 (omega arith) vs l.first first_inputs

  one_result : (o : Option Source) (v w : Value) → SomeAt last o v → SomeAt last o w → v ≡ w
  one_result None v w g h = absurd g
  one_result (Some x) v w g h = z.settled.one_value (here last) x.node x.port v w g h

  loop_ports : (out : Whole) → HaveIn z c (ports_from l.own 0 nx) out.rs
  loop_ports out =
      let all = l.many in let rs = out.many in
      have_ports_from (flow z) z.inputs z.run z.state z.is_run c out.rs l.own 0 nx out.many
      (λ k v e.
      let low = slice_get_within out.rs k v e in
      let w = loops k (omega (arith, low, all, rs)) in
      let result : ResultAt last (k + 1) w.0 = subst (λ t. ResultAt t (k + 1) w.0) (same_turns k w.0 w.2) w.2.result in
      let same : w.0 ≡ v = one_result (result_at (flow z) (here last) (k + 1)) w.0 v result (out.final k v e) in
      let at : k ≡ 0 + k = omega arith in
      subst (λ i. HasIn z c (port l.own i) v) at (subst (λ v. HasIn z c (port l.own k) v) same w.1))

  all_stores : (out : Whole) → IsPermutation out.qs (StoresIn z c l.own (l.own + 1))
  all_stores out =
      IsPermutation-trans _ _ _ out.stored (loop_stores z c l.own to l.line line_is (subst IsLoop (sym l.kind) tt) turn_is last (λ t due. first.2.last t due))

block_name_loop : (f : Name) (m : ℕ) → block_name f (m + 1) ≡ loop_name f (m + 1)
block_name_loop f m = let e : suc m ≡ m + 1 = omega arith in subst (λ k. block_name f k ≡ loop_name f k) e refl

count_some : (es : Exprs) → 0 < count es
count_some (One e) = omega arith
count_some (More e es) = omega arith

pub means_loop : (z : Scene) (c : Context) (at : ℕ) (bound : NumberAt) (firsts : Exprs) (turn : Turn) → ((d : Context) → depth c < depth d → AllIn z d)
    → ListIn z c firsts → ExprIn z c (Loop at bound firsts turn)
means_loop z c at bound firsts turn deeper means site spot scope env names n fits rule h known =
    let t : IsTurned z.program names bound firsts turn n = in_loop z.program names at bound firsts turn n rule in
    let f : Lowered = lower_list z.program site spot scope firsts in
    let k : ℕ = spot.loops + length f.blocks + 1 in
    let tl : Lowered = turn_lowered z.program site.function k at turn in
    let tb : MadeBlock = turn_made z.program site.function k at turn in
    let outs : List Name = outside_turn turn in
    let ss : List Source = f.sources ++ map (source_in scope) outs in
    let m1 : Made = made site at (node.Loop (loop_name site.function k) bound.number) ss in
    let m : Lowered = looped site spot scope at bound.number (loop_names turn) outs f tl in
    let tail : Lowered = record { nodes = m1 ∷ []; sources = []; blocks = tb ∷ tl.blocks } in
    let before : ActiveIn z c site spot f = first_in z c site spot f m (m1 ∷ []) (tb ∷ tl.blocks) refl refl h in
    let last : ActiveIn z c site (spot_after spot f) tail = rest_in z c site spot f tail m refl refl h in
    let values = firsts_list z.program names [] (names_of turn) firsts t.begun in
    let agree = agrees_split (flow z) z.inputs z.run z.state z.is_run c scope env (list_uses firsts) (turn_uses turn) known in
    let out = means site spot scope env names (count firsts) fits.1 values before agree.0 in
    let outer = known_values (flow z) z.inputs z.run z.state z.is_run c scope env outs (agrees_once (flow z) z.inputs z.run z.state z.is_run c scope env
    (turn_uses turn) agree.1) in
    let own : ℕ = spot.next + length f.nodes in
    let line : Node ℕ = resolved z.graph m1 in
    let eb = block_is z.program z.graph z.origin z.inputs z.run z.state z.is_run c site (spot_after spot f) tail last in
    let el = (own_line z.program z.graph z.origin z.inputs z.run z.state z.is_run c site (spot_after spot f) tail m1 [] refl last).0 in
    let with_commas : length f.sources ≡ count firsts = list_count z.program site spot scope firsts names (count firsts) values in
    let long = have_length (flow z) z.inputs z.run z.state z.is_run c f.sources out.vs out.have in
    let bare_many : length (loop_names turn) ≡ length (names_of turn) = length-map (names_of turn) (λ (x : NameAt). x.name) in
    let both = length-append f.sources (map (source_in scope) outs) in
    let mapped = length-map outs (source_in scope) in
    let counted = fits.2 in
    let some = count_some firsts in
    let l : Looping z c turn env out.vs =
    record {
      own = own;
      line = line;
      block = last.block;
      number = last.number;
      is_block = last.is_block;
      its_block = eb;
      due = last.due;
      at_line = el;
      gives = λ q low. line_gives (flow z) z.inputs z.run z.state z.is_run z.settled c last.block own q line eb last.due el last.taken low;
      function = site.function;
      k = k;
      at = at;
      bound = bound.number;
      kind = ap (λ x. node.Loop (place_of x (block_names z.graph)) bound.number) (sym (block_name_loop site.function (spot.loops + length f.blocks)));
      placed = last.loops.0;
      inner = last.loops.1;
      outer = outer.0;
      have = have_both (flow z) z.inputs z.run z.state z.is_run c f.sources (map (source_in scope) outs) out.vs outer.0 out.have outer.2;
      many = omega (arith, with_commas, bare_many, both, mapped, counted);
      first = omega (arith, long, with_commas, bare_many, counted);
      bounds = outer.1;
      apart = firsts_apart z.program names [] (names_of turn) firsts t.begun fits.2;
      some = omega (arith, some, counted);
      names = loop_names turn ++ names;
      fits = fits.3;
      rule = ok_as (turn_values z.program (loop_names turn ++ names) turn) n (length (names_of turn)) t.turns t.names;
    } in
    let turns : (t : ℕ) → TurnIn z (Turned c own t) turn = λ t. (deeper (Turned c own t) (omega arith)).turn turn in
    let all = whole z c turn env out.vs l turns in
    let wide : own + 1 ≡ spot.next + length m.nodes = let x = length-append f.nodes (m1 ∷ []) in omega (arith, x) in
    record {
      vs = all.rs;
      ss = out.ss ++ all.qs;
      evaluated = eval.loop out.evaluated all.turns;
      have = loop_ports z c turn env out.vs l turns all;
      stored = makes_to z c (out.ss ++ all.qs) spot.next (own + 1) (spot.next + length m.nodes) wide
          (makes_both z c spot.next (length f.nodes) 1 out.ss all.qs out.stored (all_stores z c turn env out.vs l turns all));
    }
