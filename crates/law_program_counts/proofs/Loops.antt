-- The invocations of a loop are its turns, and those of its first values and of its turns.
use Rattle.std.proofs.Common.{◌≡◌, ℕ, suc, ◌+◌, ◌<◌, ◌≤◌, ◌⊎◌, inl, inr, Bool, true, false, List, [], ◌∷◌, ◌++◌, length, map, Option, Some, Ok, Contains}
use Rattle.std.proofs.Common.{refl, sym, ap, ◌∙◌, subst, subst₂, arith, length-append, ltb-true, ltb-false, ⊎_elim}
use Rattle.std.specs.Prelude.{slice_get, nat_lt, count_by}
use Rattle.std.proofs.lemmas.List.{length-map}
use Rattle.std.proofs.lemmas.List.Elements.{Contains-append_left, Contains-append_right, Contains-append_cases}
use Rattle.std.proofs.lemmas.Option.{slice_get_within, same_Some}
use Rattle.tags.specs.declared.value.Value.{Value}
use Rattle.operators.specs.Values.{truth}
use Rattle.semantics.specs.declared.graph.Source.{Source}
use Rattle.semantics.specs.declared.graph.Kind.TheVariants as node
use Rattle.semantics.specs.Graph.{Node, Block, node_at, node_count, place_of, block_names}
use Rattle.semantics.specs.Meaning.{Context, Called, Turned, IsCall, IsLoop, callee, callee_of, callee_in, block_number, block_numbered, block_of, node_in, node_of}
use Rattle.semantics.specs.Cause.{is_turn}
use Rattle.lemmas.proofs.Contains.{contains_cases, contains_head, contains_tail}
use Rattle.law_confluence.specs.EquationsHave.{ports_of, source_line, result_in, result_at}
use Rattle.law_confluence.specs.Equations.{HasSome, Result, Flagged, Loops, LineEquation}
use Rattle.law_confluence.proofs.EquationsGraphForms.{HasForm}
use Rattle.law_confluence.proofs.EquationsGraphFormed.{shaped}
use Rattle.source.specs.Tree.{Name, NameAt, NumberAt, Expr, Exprs, One, More, Body, Turn, Before, After, Program, names_of}
use Rattle.source.specs.Fits.{FitsTurn, count}
use Rattle.source.specs.Outside.{without, bare, list_uses, uses, body_uses, turn_uses, outside_turn}
use Rattle.source.specs.Rules.{turn_values}
use Rattle.source.specs.Evaluates as eval
use Rattle.source.specs.Evaluates.{Env, Stores, entered, Evaluates, EvaluatesAll, Runs, Turns}
use Rattle.source.specs.Once.{OneAnswer}
use Rattle.source.specs.Lowered.{Made, MadeBlock, Lowered, Spot, Scope, made, node_of as line_node, source_in, scoped, turn_site, turn_scope, turn_block}
use Rattle.source.specs.Lowered.{looped, loop_name, block_name, inputs_from, port, spot_after, lower_list, lower_turn}
use Rattle.source.proofs.Steps.{ok_as}
use Rattle.source.proofs.CountedSources.{inputs_count}
use Rattle.source.proofs.Kept.{IsTurned, in_loop}
use Rattle.source.proofs.Holding.{holds_whole}
use Rattle.source.proofs.OutsideNames.{uses_once}
use Rattle.source.proofs.Counting.{list_count}
use Rattle.law_completion.specs.TotalProgram.{Count, a_turn, both, counted, list_counted, body_counted, turns_counted}
use Rattle.law_completion.proofs.DueGrows.{AllDiffer}
use Rattle.law_language.specs.MeansHolds.{resolved, block_place, block_in, HasBlock, HasBlocks}
use Rattle.law_language.specs.Means.{turn_gives}
use Rattle.law_language.proofs.MeansHaving.{have_source, have_length, have_both, have_split}
use Rattle.law_language.proofs.MeansHolding.{resolved_all}
use Rattle.law_language.proofs.MeansNamesAgree.{agrees_split, agrees_once, agrees_arm}
use Rattle.law_language.proofs.MeansStoreLines.{call_loop}
use Rattle.law_language.proofs.MeansParts.{own_line, block_is, line_gives}
use Rattle.law_language.proofs.MeansInputs.{root_taken, input_gives, have_inputs_from}
use Rattle.law_language.proofs.MeansScene.{Scene, PortsGive, flow, world_of, StoodIn, DueIn, HasIn, HaveIn, KnownIn, ActiveIn, DeliversIn, AllIn}
use Rattle.law_language.proofs.MeansStanding.{first_in, rest_in}
use Rattle.law_language.proofs.MeansFirsts.{firsts_list, Apart, firsts_apart, scoped_sources, scoped_both, inputs_both}
use Rattle.law_language.proofs.MeansTurnNames.{BoundTo, known_values, entered_values, agrees_behind}
use Rattle.law_program_counts.proofs.MadeAt.{made_at, MadeBy, TheCall, TheTurn, WithinCall, WithinTurn, made_by, made_due, made_turn, own_turn, not_in_turn, made_once, turn_once}
use Rattle.law_program_counts.proofs.Lists.{Lists, lists_both, lists_to, count_more, count_both, differ_cons, differ_both}
use Rattle.law_program_counts.proofs.SameAnswers.{same_list}
use Rattle.law_program_counts.proofs.Parts.{ListsOf, ExprCounts, ListCounts, BodyCounts}
use Rattle.law_program_counts.proofs.Calls.{within_block}
use Rattle.law_program_counts.proofs.Turns.{flag_before, next_before, next_after, flag_after, counts_after, counts_stays, counts_moves}

clash : (b : Bool) → b ≡ true → b ≡ false → ⊥
clash b e f = cc

turn_uses_are : (turn : Turn) → (ys : List Name) × (turn_uses turn ≡ without (bare (names_of turn)) ys)
turn_uses_are (Before xs q body) = (uses q ++ body_uses body, refl)
turn_uses_are (After xs body q) = (body_uses body ++ uses q, refl)

-- THE BLOCK OF A TURN
abbrev pub loop_names : Turn → List Name
loop_names turn = bare (names_of turn)

abbrev turn_from : Turn → ℕ → Spot
turn_from turn k = record { next = length (loop_names turn) + length (outside_turn turn); loops = k }

abbrev turn_lowered : Program → Name → ℕ → ℕ → Turn → Lowered
turn_lowered p f k at turn = lower_turn p f (turn_from turn k) at (turn_scope (loop_names turn) (outside_turn turn)) turn

abbrev turn_made : Program → Name → ℕ → ℕ → Turn → MadeBlock
turn_made p f k at turn = turn_block at k (loop_names turn) (outside_turn turn) (turn_lowered p f k at turn)

-- A LOOP OF A RUN, with its first values and those of the outside names
pub record Looping (z : Scene) (c : Context) (turn : Turn) (env : Env) (vs : List Value) : Type 0 where
  pub own : ℕ
  pub line : Node ℕ
  pub block : Block ℕ
  pub number : ℕ
  pub is_block : slice_get (flow z).blocks number ≡ Some block
  pub its_block : block_of (flow z) c ≡ Some block
  pub due : DueIn z c
  pub at_line : node_at block own ≡ Some line
  pub gives : PortsGive z c own line
  pub function : Name
  pub k : ℕ
  pub at : ℕ
  pub bound : ℕ
  pub kind : line.kind ≡ node.Loop (block_place z.graph function (turn_made z.program function k at turn)) bound
  pub placed : HasBlock z.graph z.origin function (turn_made z.program function k at turn)
  pub inner : HasBlocks z.graph z.origin function (turn_lowered z.program function k at turn).blocks
  pub outer : List Value
  pub have : HaveIn z c line.sources (vs ++ outer)
  pub many : length line.sources ≡ length (loop_names turn) + length (outside_turn turn)
  pub first : length vs ≡ length (loop_names turn)
  pub bounds : BoundTo env (outside_turn turn) outer
  pub apart : Apart [] (loop_names turn)
  pub some : 0 < length (names_of turn)
  pub names : List Name
  pub fits : FitsTurn turn
  pub rule : turn_values z.program names turn ≡ Ok (length (names_of turn))

module _ (z : Scene) (c : Context) (turn : Turn) (env : Env) (vs : List Value) (l : Looping z c turn env vs)
    (all : (c : Context) → AllIn z c) where
  abbrev xs : List Name
  xs = loop_names turn

  abbrev outs : List Name
  outs = outside_turn turn

  abbrev nx : ℕ
  nx = length (loop_names turn)

  abbrev no_ : ℕ
  no_ = length (outside_turn turn)

  abbrev tl : Lowered
  tl = turn_lowered z.program l.function l.k l.at turn

  abbrev to : Block ℕ
  to = block_in z.graph l.function (turn_made z.program l.function l.k l.at turn)

  abbrev here : ℕ → Context
  here t = Turned c l.own t

  line_is : node_of (flow z) c l.own ≡ Some l.line
  line_is = ap (λ o. node_in o l.own) l.its_block ∙ l.at_line

  turn_number : (t : ℕ) → block_number (flow z) (here t) ≡ Some (block_place z.graph l.function (turn_made z.program l.function l.k l.at turn))
  turn_number t = ap (λ o. callee_in o l.own) l.its_block ∙ ap callee_of l.at_line ∙ ap callee l.kind

  turn_is : (t : ℕ) → block_of (flow z) (here t) ≡ Some to
  turn_is t = ap (λ o. block_numbered (flow z) o) (turn_number t) ∙ l.placed.is_there

  -- ITS TURNS
  abbrev LoopsAt : ℕ → Value → Type 0
  LoopsAt q v = Loops (flow z) z.inputs z.run z.state z.is_run c l.own q v

  abbrev ResultAt : ℕ → ℕ → Value → Type 0
  ResultAt t j v = Result (flow z) z.inputs z.run z.state z.is_run (here t) j v

  abbrev SomeAt : ℕ → Option Source → Value → Type 0
  SomeAt t o v = HasSome (flow z) z.inputs z.run z.state z.is_run (here t) o v

  loops : (q : ℕ) → q < length l.line.sources → (v : Value) × HasIn z c (port l.own q) v × LoopsAt q v
  loops q low =
      let ports : ports_of (flow z) l.line.kind l.line.sources ≡ length l.line.sources = ap (λ k. ports_of (flow z) k l.line.sources) l.kind in
      let w = l.gives q (omega (arith, ports, low)) in
      (w.0, w.1, subst (λ k. LineEquation (flow z) z.inputs z.run z.state z.is_run c l.own q w.0 k l.line.sources) l.kind w.2)

  names_many : nx ≡ length (names_of turn)
  names_many = length-map (names_of turn) (λ (x : NameAt). x.name)

  pub first : (v : Value) × HasIn z c (port l.own 0) v × LoopsAt 0 v
  first = let some = l.some in let many = l.many in let same = names_many in loops 0 (omega (arith, some, many, same))

  abbrev last : ℕ
  last = first.2.turns

  same_turns : (q : ℕ) (v : Value) (m : LoopsAt q v) → m.turns ≡ last
  same_turns q v m =
      let a = first.2.last m.turns (m.due m.turns (omega arith)) in let b = m.last last (first.2.due last (omega arith)) in omega (arith, a, b)

  -- INPUTS of a turn
  abbrev InputsAt : ℕ → List Value → Type 0
  InputsAt t us = HaveIn z (here t) (inputs_from 0 (nx + no_)) us

  first_inputs : InputsAt 0 (vs ++ l.outer)
  first_inputs =
      let long = have_length (flow z) z.inputs z.run z.state z.is_run c l.line.sources (vs ++ l.outer) l.have in
      let many = l.many in
      have_inputs_from (flow z) z.inputs z.run z.state z.is_run (here 0) (vs ++ l.outer) 0 (nx + no_) (sym long ∙ many)
      (λ k v e.
      let x = have_source (flow z) z.inputs z.run z.state z.is_run c l.line.sources (vs ++ l.outer) k v l.have e in
      let low = slice_get_within (vs ++ l.outer) k v e in
      let w = input_gives (flow z) z.inputs z.run z.state z.is_run z.settled (here 0) to (turn_is 0) (first.2.due 0 (omega arith)) k
      (omega (arith, low, long, many)) in
      let its : HasIn z c x.0 w.0 = subst (λ o. HasSome (flow z) z.inputs z.run z.state z.is_run c o w.0) (ap (λ o. source_line o k) line_is ∙ x.1) w.2 in
      let same : w.0 ≡ v = z.settled.one_value c x.0.node x.0.port w.0 v its x.2 in
      let at : k ≡ 0 + k = omega arith in
      subst (λ i. HasIn z (here 0) (port i 0) v) at (subst (λ v. HasIn z (here 0) (port k 0) v) same w.1))

  next_inputs : (t : ℕ) → t < last → (b : Value) (ws : List Value) → HaveIn z (here t) to.results (b ∷ ws) → length ws ≡ nx + no_ → InputsAt (suc t) ws
  next_inputs t before b ws h many =
      have_inputs_from (flow z) z.inputs z.run z.state z.is_run (here (suc t)) ws 0 (nx + no_) many
      (λ k v e.
      let x = have_source (flow z) z.inputs z.run z.state z.is_run (here t) to.results (b ∷ ws) (suc k) v h e in
      let low = slice_get_within ws k v e in
      let w = input_gives (flow z) z.inputs z.run z.state z.is_run z.settled (here (suc t)) to (turn_is (suc t))
      (first.2.due (suc t) (omega (arith, before))) k (omega (arith, low, many)) in
      let next : k + 1 ≡ suc k = omega arith in
      let its : HasIn z (here t) x.0 w.0 = subst (λ o. SomeAt t o w.0) (ap (λ j. result_at (flow z) (here t) j) next
      ∙ ap (λ o. result_in o (suc k)) (turn_is t) ∙ x.1) w.2 in
      let same : w.0 ≡ v = z.settled.one_value (here t) x.0.node x.0.port w.0 v its x.2 in
      let at : k ≡ 0 + k = omega arith in
      subst (λ i. HasIn z (here (suc t)) (port i 0) v) at (subst (λ v. HasIn z (here (suc t)) (port k 0) v) same w.1))

  inputs_are : inputs_from 0 (nx + no_) ≡ inputs_from 0 nx ++ inputs_from nx no_
  inputs_are = let e : 0 + nx ≡ nx = omega arith in inputs_both 0 nx no_ ∙ ap (λ i. inputs_from 0 nx ++ inputs_from i no_) e

  inputs_split : (t : ℕ) (us : List Value) → length us ≡ nx → InputsAt t (us ++ l.outer) → HaveIn z (here t) (inputs_from 0 nx) us × HaveIn z (here t)
      (inputs_from nx no_) l.outer
  inputs_split t us many h =
      have_split (flow z) z.inputs z.run z.state z.is_run (here t) (inputs_from 0 nx) (inputs_from nx no_) us l.outer (inputs_count 0 nx ∙ sym many)
      (subst (λ ss. HaveIn z (here t) ss (us ++ l.outer)) inputs_are h)

  -- NAMES of a turn
  abbrev outer_scope : Scope
  outer_scope = scoped outs (inputs_from nx no_) []

  scope_is : turn_scope xs outs ≡ scoped xs (inputs_from 0 nx) outer_scope
  scope_is = ap (λ ss. scoped (xs ++ outs) ss []) inputs_are ∙ scoped_both xs outs (inputs_from 0 nx) (inputs_from nx no_) [] (sym (inputs_count 0 nx))

  turn_names : (t : ℕ) (us : List Value) → HaveIn z (here t) (inputs_from 0 nx) us → HaveIn z (here t) (map (source_in (turn_scope xs outs)) xs) us
  turn_names t us h =
      subst (λ ss. HaveIn z (here t) ss us)
      (sym (ap (λ (sc : Scope). map (source_in sc) xs) scope_is ∙ scoped_sources [] xs (inputs_from 0 nx) outer_scope l.apart (sym (inputs_count 0 nx)))) h

  turn_knows : (t : ℕ) → HaveIn z (here t) (inputs_from nx no_) l.outer → KnownIn z (here t) (turn_scope xs outs) env (turn_uses turn)
  turn_knows t h =
      let u = turn_uses_are turn in
      let entered = entered_values (flow z) z.inputs z.run z.state z.is_run (here t) env outs (inputs_from nx no_) l.outer l.bounds h in
      let behind = agrees_arm (flow z) z.inputs z.run z.state z.is_run (here t) env outs (inputs_from nx no_) [] entered (turn_uses turn)
      (uses_once (turn_uses turn)) in
      let knows = agrees_behind (flow z) z.inputs z.run z.state z.is_run (here t) xs (inputs_from 0 nx) outer_scope env u.0
      (subst (λ ys. KnownIn z (here t) outer_scope env ys) u.1 behind) in
      subst₂ (λ (sc : Scope) ys. KnownIn z (here t) sc env ys) (sym scope_is) (sym u.1) knows

  -- ONE TURN
  turn_stands : (t : ℕ) → DueIn z (here t) → ActiveIn z (here t) (turn_site l.function) (turn_from turn l.k) tl
  turn_stands t due =
      let some = l.some in let many = names_many in
      let trigger = input_gives (flow z) z.inputs z.run z.state z.is_run z.settled (here t) to (turn_is t) due 0 (omega (arith, some, many)) in
      record {
        number = block_place z.graph l.function (turn_made z.program l.function l.k l.at turn);
        block = to;
        is_number = turn_number t;
        is_block = l.placed.is_there;
        due = due;
        taken = root_taken (StoodIn z) (here t) to (node_count to);
        trigger = trigger.0;
        triggered = trigger.1;
        lines = holds_whole to (map (resolved z.graph) tl.nodes) (resolved_all z.graph tl.nodes);
        traced = l.placed.traced;
        loops = l.inner;
      }

  abbrev TurnDelivers : ℕ → List Value → Type 0
  TurnDelivers t us = DeliversIn z (here t) (turn_gives z.program z.graph z.origin z.inputs z.run z.state z.is_run env turn us) tl.sources (nx + no_)
      (nx + no_ + length tl.nodes)

  turn_delivers : (t : ℕ) → t ≤ last → (us : List Value) → length us ≡ nx → InputsAt t (us ++ l.outer) → TurnDelivers t us
  turn_delivers t low us many h =
      let parts = inputs_split t us many h in
      (all (here t)).turn turn l.function (turn_from turn l.k) l.at (turn_scope xs outs) env l.names us l.some l.fits l.rule (turn_stands t (first.2.due t low))
      (turn_names t us parts.0) (turn_knows t parts.1)

  -- its results
  outputs_many : length tl.sources ≡ nx + 1
  outputs_many =
      let line = (shaped z.graph z.well l.number l.block l.is_block).lines l.own l.line l.at_line in
      let form = subst (λ k. HasForm (flow z) l.block l.line.region k l.line.sources) l.kind line.form in
      let same : form.0.0 ≡ to = same_Some form.0.0 to (sym form.0.1 ∙ l.placed.is_there) in
      let outputs : to.outputs ≡ length l.line.sources + 1 = ap (λ (b : Block ℕ). b.outputs) (sym same) ∙ form.0.3 in
      let append = length-append tl.sources (inputs_from nx no_) in
      let count = inputs_count nx no_ in
      let many = l.many in
      omega (arith, outputs, append, count, many)

  results_have : (t : ℕ) (us : List Value) (out : TurnDelivers t us) → HaveIn z (here t) (inputs_from nx no_) l.outer
      → HaveIn z (here t) to.results (out.evaluated.0 ∷ (out.evaluated.1 ++ l.outer))
  results_have t us out h =
      have_both (flow z) z.inputs z.run z.state z.is_run (here t) tl.sources (inputs_from nx no_) (out.evaluated.0 ∷ out.evaluated.1) l.outer
      (subst (λ us. HaveIn z (here t) tl.sources us) out.evaluated.2 out.have) h

  next_many : (t : ℕ) (us : List Value) (out : TurnDelivers t us) → length out.evaluated.1 ≡ nx
  next_many t us out =
      let long = have_length (flow z) z.inputs z.run z.state z.is_run (here t) tl.sources (out.evaluated.0 ∷ out.evaluated.1)
      (subst (λ us. HaveIn z (here t) tl.sources us) out.evaluated.2 out.have) in
      let many = outputs_many in
      omega (arith, long, many)

  flag_is : (t : ℕ) (b : Value) (ws : List Value) → HaveIn z (here t) to.results (b ∷ ws) → (on : Bool)
      → Flagged (flow z) z.inputs z.run z.state z.is_run (here t) on → truth b ≡ on
  flag_is t b ws h on flag =
      let x = have_source (flow z) z.inputs z.run z.state z.is_run (here t) to.results (b ∷ ws) 0 b h refl in
      let its : HasIn z (here t) x.0 flag.0 = subst (λ o. SomeAt t o flag.0) (ap (λ o. result_in o 0) (turn_is t) ∙ x.1) flag.1 in
      let same : flag.0 ≡ b = z.settled.one_value (here t) x.0.node x.0.port flag.0 b its x.2 in
      sym (ap truth same) ∙ flag.2

  result_is : (t : ℕ) (b : Value) (ws : List Value) → HaveIn z (here t) to.results (b ∷ ws) → (q : ℕ) (v : Value) → slice_get ws q ≡ Some v
      → ResultAt t (q + 1) v
  result_is t b ws h q v e =
      let x = have_source (flow z) z.inputs z.run z.state z.is_run (here t) to.results (b ∷ ws) (suc q) v h e in
      let next : q + 1 ≡ suc q = omega arith in
      subst (λ o. SomeAt t o v) (sym (ap (λ j. result_at (flow z) (here t) j) next ∙ ap (λ o. result_in o (suc q)) (turn_is t) ∙ x.1)) x.2

  -- THE INVOCATIONS of a turn on: the turns, and what is made in them
  abbrev InTurnOf : ℕ → Context → Type 0
  InTurnOf u d = (d ≡ here u) ⊎ ((k : ℕ) × (made_at (here u) d ≡ Some k))

  pub record FromTurn (t : ℕ) (count : Count) : Type 0 where
    pub invocations : List Context
    pub many : length invocations ≡ count.calls + count.turns
    pub turns : count_by is_turn invocations ≡ count.turns
    pub each : (d : Context) (u : ℕ) → DueIn z d → t ≤ u → InTurnOf u d → Contains invocations d
    pub just : (d : Context) → Contains invocations d → DueIn z d × ((u : ℕ) × (t ≤ u) × InTurnOf u d)
    pub differ : AllDiffer invocations

  -- in one turn alone
  one_turn : (t u : ℕ) (d : Context) → InTurnOf t d → InTurnOf u d → t ≡ u
  one_turn t u d (inl e) (inl f) = turn_once c l.own t u (sym e ∙ f)
  one_turn t u d (inl e) (inr f) = absurd (not_in_turn c l.own u t f.0 (subst (λ d. made_at (here u) d ≡ Some f.0) e f.1))
  one_turn t u d (inr e) (inl f) = absurd (not_in_turn c l.own t u e.0 (subst (λ d. made_at (here t) d ≡ Some e.0) f e.1))
  one_turn t u d (inr e) (inr f) = made_once c d l.own t u e.0 f.0 e.1 f.1

  turn_due : (u : ℕ) (d : Context) → DueIn z d → InTurnOf u d → DueIn z (here u)
  turn_due u d due (inl e) = subst (λ d. DueIn z d) e due
  turn_due u d due (inr f) = made_due z (here u) d f.0 due f.1

  abbrev TurnLists : ℕ → Count → Type 0
  TurnLists t count = ListsOf z (here t) (turn_from turn l.k) tl count

  in_turn : (t : ℕ) (count : Count) → (f : TurnLists t count) → (d : Context) → DueIn z d → InTurnOf t d → Contains (here t ∷ f.invocations) d
  in_turn t count f d due (inl e) = subst (Contains (here t ∷ f.invocations)) (sym e) (contains_head (here t) f.invocations)
  in_turn t count f d due (inr m) =
      let in_it = within_block z (here t) d to m.0 (turn_is t) due m.1 in
      let past = in_it.0 in let below = in_it.1 in
      let long : node_count to ≡ nx + no_ + length tl.nodes =
      ap (λ n. nx + no_ + n) (length-map (map line_node tl.nodes) _ ∙ length-map tl.nodes line_node) in
      contains_tail (here t) f.invocations d (f.all d m.0 due m.1 past (omega (arith, below, long)))

  its_turn : (t : ℕ) (count : Count) → DueIn z (here t) → (f : TurnLists t count) → (d : Context) → Contains (here t ∷ f.invocations) d
      → DueIn z d × InTurnOf t d
  its_turn t count due f d h = go (contains_cases (here t) f.invocations d h)
    where
      go : (here t ≡ d) ⊎ Contains f.invocations d → DueIn z d × InTurnOf t d
      go (inl e) = (subst (λ d. DueIn z d) e due, inl (sym e))
      go (inr k) = let m = f.just d k in (m.0, inr (m.1.0, m.1.1))

  turn_apart : (t : ℕ) (count : Count) → (f : TurnLists t count) → AllDiffer (here t ∷ f.invocations)
  turn_apart t count f = differ_cons (here t) f.invocations (λ h. let m = (f.just (here t) h).1 in not_in_turn c l.own t t m.0 m.1) f.differ

  only_turn : (t : ℕ) (count : Count) → DueIn z (here t) → t ≡ last → TurnLists t count → FromTurn t (a_turn count)
  only_turn t count due_here ends f = record {
    invocations = here t ∷ f.invocations;
    many = let a = f.many in omega (arith, a);
    turns = let a = count_more is_turn (here t) f.invocations in let b = f.turns in omega (arith, a, b);
    each = λ d u due low lies.
        let high = first.2.last u (turn_due u d due lies) in
        let same : u ≡ t = omega (arith, ends, low, high) in
        in_turn t count f d due (subst (λ u. InTurnOf u d) same lies);
    just = λ d h. let m = its_turn t count due_here f d h in (m.0, (t, omega arith, m.1));
    differ = turn_apart t count f;
  }

  then_turns : (t : ℕ) (count more : Count) → DueIn z (here t) → TurnLists t count → FromTurn (suc t) more → FromTurn t (both (a_turn count) more)
  then_turns t count more due_here f g = record {
    invocations = (here t ∷ f.invocations) ++ g.invocations;
    many = let a = f.many in let b = g.many in let long = length-append (here t ∷ f.invocations) g.invocations in omega (arith, a, b, long);
    turns = let a = count_more is_turn (here t) f.invocations in let b = f.turns in let c = g.turns in
        let long = count_both is_turn (here t ∷ f.invocations) g.invocations in omega (arith, a, b, c, long);
    each = λ d u due low lies. pick d u due low lies (nat_lt t u) refl;
    just = λ d h. ⊎_elim (λ k. (let m = its_turn t count due_here f d k in (m.0, (t, omega arith, m.1))))
        (λ k. (let m = g.just d k in let low = m.1.1 in (m.0, (m.1.0, omega (arith, low), m.1.2))))
        (Contains-append_cases (here t ∷ f.invocations) g.invocations d h);
    differ = differ_both (here t ∷ f.invocations) g.invocations (turn_apart t count f) g.differ
        (λ d h k. let m = its_turn t count due_here f d h in let n = g.just d k in let same = one_turn t n.1.0 d m.1 n.1.2 in
        let low = n.1.1 in omega (arith, same, low));
  }
    where
      pick : (d : Context) (u : ℕ) → DueIn z d → t ≤ u → InTurnOf u d → (b : Bool) → nat_lt t u ≡ b
          → Contains ((here t ∷ f.invocations) ++ g.invocations) d
      pick d u due low lies true e =
          let high = ltb-true t u e in
          Contains-append_right (here t ∷ f.invocations) g.invocations d (g.each d u due (omega (arith, high)) lies)
      pick d u due low lies false e =
          let high = ltb-false t u e in let same : u ≡ t = omega (arith, low, high) in
          Contains-append_left (here t ∷ f.invocations) g.invocations d (in_turn t count f d due (subst (λ u. InTurnOf u d) same lies))

  -- the flag of a turn says whether it is the last
  flag_at : (t : ℕ) (us : List Value) (many : length us ≡ nx) (h : InputsAt t (us ++ l.outer)) (low : t ≤ last)
      → HaveIn z (here t) to.results ((turn_delivers t low us many h).evaluated.0 ∷ ((turn_delivers t low us many h).evaluated.1 ++ l.outer))
  flag_at t us many h low = results_have t us (turn_delivers t low us many h) (inputs_split t us many h).1

  it_ends : (t : ℕ) (us : List Value) (many : length us ≡ nx) (h : InputsAt t (us ++ l.outer)) (low : t ≤ last)
      → truth (turn_delivers t low us many h).evaluated.0 ≡ false → t ≡ last
  it_ends t us many h low off = go (nat_lt t last) refl
    where
      go : (b : Bool) → nat_lt t last ≡ b → t ≡ last
      go true e =
          let out = turn_delivers t low us many h in
          let on = flag_is t out.evaluated.0 (out.evaluated.1 ++ l.outer) (flag_at t us many h low) true (first.2.on t (ltb-true t last e)) in
          absurd (clash (truth out.evaluated.0) on off)
      go false e = let high = ltb-false t last e in omega (arith, low, high)

  it_goes_on : (t : ℕ) (us : List Value) (many : length us ≡ nx) (h : InputsAt t (us ++ l.outer)) (low : t ≤ last)
      → truth (turn_delivers t low us many h).evaluated.0 ≡ true → t < last
  it_goes_on t us many h low on = go (nat_lt t last) refl
    where
      go : (b : Bool) → nat_lt t last ≡ b → t < last
      go true e = ltb-true t last e
      go false e =
          let out = turn_delivers t low us many h in
          let high = ltb-false t last e in
          let ends : last ≡ t = omega (arith, low, high) in
          let off = flag_is t out.evaluated.0 (out.evaluated.1 ++ l.outer) (flag_at t us many h low) false
          (subst (λ t. Flagged (flow z) z.inputs z.run z.state z.is_run (here t) false) ends first.2.off) in
          absurd (clash (truth out.evaluated.0) on off)

  -- and its next values are the inputs of the next
  next_have : (t : ℕ) (us ns : List Value) (many : length us ≡ nx) (h : InputsAt t (us ++ l.outer)) (low : t ≤ last) → t < last
      → (turn_delivers t low us many h).evaluated.1 ≡ ns → (length ns ≡ nx) × InputsAt (suc t) (ns ++ l.outer)
  next_have t us ns many h low before same =
      let out = turn_delivers t low us many h in
      let next = next_many t us out in
      let outer = have_length (flow z) z.inputs z.run z.state z.is_run (here t) (inputs_from nx no_) l.outer (inputs_split t us many h).1 in
      let count = inputs_count nx no_ in
      let append = length-append out.evaluated.1 l.outer in
      let inputs = next_inputs t before out.evaluated.0 (out.evaluated.1 ++ l.outer) (flag_at t us many h low) (omega (arith, next, outer, count, append)) in
      (subst (λ ns. length ns ≡ nx) same next, subst (λ ns. InputsAt (suc t) (ns ++ l.outer)) same inputs)

  -- WHAT IS SHOWN OF ITS TURNS, from one on
  abbrev pub TurnsCount : {us rs : List Value} {qs : Stores} → Turns (world_of z) env turn us rs qs → Type 0
  TurnsCount {us = us} d = (t : ℕ) → t ≤ last → length us ≡ nx → InputsAt t (us ++ l.outer) → FromTurn t (turns_counted d)

  pub loop_lists : {rs : List Value} {qs : Stores} (d : Turns (world_of z) env turn vs rs qs) → TurnsCount d
      → Lists z c l.own (l.own + 1) (turns_counted d)
  loop_lists d counts =
      let out = counts 0 (omega arith) l.first first_inputs in
      record {
        invocations = out.invocations;
        many = out.many;
        turns = out.turns;
        all = λ d k due e low high.
            let same : k ≡ l.own = omega (arith, low, high) in
            pick d due (made_by c l.own d (subst (λ k. made_at c d ≡ Some k) same e)) out.invocations (λ u lies. out.each d u due (omega arith) lies);
        just = λ d h. let m = out.just d h in (m.0, (l.own, its_node d m.1.0 m.1.2, omega arith, omega arith));
        differ = out.differ;
      }
    where
      its_node : (d : Context) (u : ℕ) → InTurnOf u d → made_at c d ≡ Some l.own
      its_node d u (inl e) = subst (λ d. made_at c d ≡ Some l.own) (sym e) (own_turn c l.own u)
      its_node d u (inr m) = made_turn c d l.own u m.0 m.1

      no_call : DueIn z (Called c l.own) → ⊥
      no_call call =
          let same : call.1.0 ≡ l.line = same_Some call.1.0 l.line (sym call.1.1 ∙ line_is) in
          call_loop l.line.kind (subst (λ (l : Node ℕ). IsCall l.kind) same call.1.2) (subst IsLoop (sym l.kind) tt)

      pick : (d : Context) → DueIn z d → MadeBy c l.own d → (ds : List Context) → ((u : ℕ) → InTurnOf u d → Contains ds d) → Contains ds d
      pick d due (TheCall e) ds inner = absurd (no_call (subst (λ d. DueIn z d) e due))
      pick d due (TheTurn u e) ds inner = inner u (inl e)
      pick d due (WithinCall k e) ds inner = absurd (no_call (made_due z (Called c l.own) d k due e))
      pick d due (WithinTurn u k e) ds inner = inner u (inr (k, e))

-- THE TURNS OF A LOOP, by the forms of their evaluation
module _ (z : Scene) (c : Context) (one_answer : OneAnswer) (all : (c : Context) → AllIn z c) (env : Env) (firsts : List Value) (xs : List NameAt) (q : Expr) (body : Body) where
  module _ (l : Looping z c (Before xs q body) env firsts) where
    abbrev Counts : {us rs : List Value} {qs : Stores} → Turns (world_of z) env (Before xs q body) us rs qs → Type 0
    Counts d = TurnsCount z c (Before xs q body) env firsts l all d

    pub counts_leaves : {b : Value} {ss : Stores} (vs : List Value) (d : Evaluates (world_of z) (entered xs vs env) q (b ∷ []) ss) (t : truth b ≡ false)
        → ((c : Context) → ExprCounts z c d) → Counts (eval.leaves {xs = xs} {p = q} {body = body} {vs = vs} d t)
    counts_leaves {b = b} vs d off test t low many h =
        let parts = inputs_split z c (Before xs q body) env firsts l all t vs many h in
        let out = turn_delivers z c (Before xs q body) env firsts l all t low vs many h in
        let same = flag_before one_answer (world_of z) env xs q body vs _ out.evaluated.0 b _ _ out.evaluated.3 d in
        let lists = counts_stays z (Turned c l.own t) one_answer (all (Turned c l.own t)) xs q body env vs d off (test (Turned c l.own t)) l.function
        (turn_from (Before xs q body) l.k) l.at (turn_scope (loop_names (Before xs q body)) (outside_turn (Before xs q body))) l.names l.fits l.rule
        (turn_stands z c (Before xs q body) env firsts l all t ((first z c (Before xs q body) env firsts l all).2.due t low))
        (turn_names z c (Before xs q body) env firsts l all t vs parts.0) (turn_knows z c (Before xs q body) env firsts l all t parts.1) in
        only_turn z c (Before xs q body) env firsts l all t (counted d) ((first z c (Before xs q body) env firsts l all).2.due t low)
        (it_ends z c (Before xs q body) env firsts l all t vs many h low (ap truth same ∙ off)) lists

    pub counts_goes : {b : Value} {us rs : List Value} {ss ts qs : Stores} (vs : List Value) (d : Evaluates (world_of z) (entered xs vs env) q (b ∷ []) ss)
        (t : truth b ≡ true) (g : Runs (world_of z) (entered xs vs env) body us ts) (next : Turns (world_of z) env (Before xs q body) us rs qs)
        → ((c : Context) → ExprCounts z c d) → ((c : Context) → BodyCounts z c g) → Counts next → Counts (eval.goes {xs = xs} {p = q} {body = body} {vs = vs} d t g next)
    counts_goes {b = b} {us = us} vs d on g next test means later t low many h =
        let parts = inputs_split z c (Before xs q body) env firsts l all t vs many h in
        let out = turn_delivers z c (Before xs q body) env firsts l all t low vs many h in
        let same = flag_before one_answer (world_of z) env xs q body vs _ out.evaluated.0 b _ _ out.evaluated.3 d in
        let values = next_before one_answer (world_of z) env xs q body vs _ us out.evaluated.0 b _ _ _ out.evaluated.3 d on g in
        let lists = counts_moves z (Turned c l.own t) one_answer (all (Turned c l.own t)) xs q body env vs d on g (test (Turned c l.own t)) (means (Turned c l.own t)) l.function
        (turn_from (Before xs q body) l.k) l.at (turn_scope (loop_names (Before xs q body)) (outside_turn (Before xs q body))) l.names l.fits l.rule
        (turn_stands z c (Before xs q body) env firsts l all t ((first z c (Before xs q body) env firsts l all).2.due t low))
        (turn_names z c (Before xs q body) env firsts l all t vs parts.0) (turn_knows z c (Before xs q body) env firsts l all t parts.1) in
        let before = it_goes_on z c (Before xs q body) env firsts l all t vs many h low (ap truth same ∙ on) in
        let there = next_have z c (Before xs q body) env firsts l all t vs us many h low before values in
        then_turns z c (Before xs q body) env firsts l all t (both (counted d) (body_counted g)) (turns_counted next)
        ((first z c (Before xs q body) env firsts l all).2.due t low) lists
        (later (suc t) (omega (arith, before)) there.0 there.1)

  module _ (l : Looping z c (After xs body q) env firsts) where
    abbrev CountsAfter : {us rs : List Value} {qs : Stores} → Turns (world_of z) env (After xs body q) us rs qs → Type 0
    CountsAfter d = TurnsCount z c (After xs body q) env firsts l all d

    pub counts_ends : {b : Value} {us : List Value} {ts ss : Stores} (vs : List Value) (g : Runs (world_of z) (entered xs vs env) body us ts)
        (d : Evaluates (world_of z) (entered xs us env) q (b ∷ []) ss) (t : truth b ≡ false)
        → ((c : Context) → BodyCounts z c g) → ((c : Context) → ExprCounts z c d) → CountsAfter (eval.ends {xs = xs} {p = q} {body = body} {vs = vs} g d t)
    counts_ends {b = b} {us = us} vs g d off means test t low many h =
        let parts = inputs_split z c (After xs body q) env firsts l all t vs many h in
        let out = turn_delivers z c (After xs body q) env firsts l all t low vs many h in
        let same = flag_after one_answer (world_of z) env xs body q vs _ us out.evaluated.0 b _ _ _ out.evaluated.3 g d in
        let lists = counts_after env vs us z (Turned c l.own t) one_answer (all (Turned c l.own t)) xs body q g d (means (Turned c l.own t)) (test (Turned c l.own t)) l.function
        (turn_from (After xs body q) l.k) l.at (turn_scope (loop_names (After xs body q)) (outside_turn (After xs body q))) l.names l.fits l.rule
        (turn_stands z c (After xs body q) env firsts l all t ((first z c (After xs body q) env firsts l all).2.due t low))
        (turn_names z c (After xs body q) env firsts l all t vs parts.0) (turn_knows z c (After xs body q) env firsts l all t parts.1) in
        only_turn z c (After xs body q) env firsts l all t (both (body_counted g) (counted d)) ((first z c (After xs body q) env firsts l all).2.due t low)
        (it_ends z c (After xs body q) env firsts l all t vs many h low (ap truth same ∙ off)) lists

    pub counts_again : {b : Value} {us rs : List Value} {ts ss qs : Stores} (vs : List Value) (g : Runs (world_of z) (entered xs vs env) body us ts)
        (d : Evaluates (world_of z) (entered xs us env) q (b ∷ []) ss) (t : truth b ≡ true) (next : Turns (world_of z) env (After xs body q) us rs qs)
        → ((c : Context) → BodyCounts z c g) → ((c : Context) → ExprCounts z c d) → CountsAfter next
        → CountsAfter (eval.again {xs = xs} {p = q} {body = body} {vs = vs} g d t next)
    counts_again {b = b} {us = us} vs g d on next means test later t low many h =
        let parts = inputs_split z c (After xs body q) env firsts l all t vs many h in
        let out = turn_delivers z c (After xs body q) env firsts l all t low vs many h in
        let same = flag_after one_answer (world_of z) env xs body q vs _ us out.evaluated.0 b _ _ _ out.evaluated.3 g d in
        let values = next_after one_answer (world_of z) env xs body q vs _ us out.evaluated.0 _ _ out.evaluated.3 g in
        let lists = counts_after env vs us z (Turned c l.own t) one_answer (all (Turned c l.own t)) xs body q g d (means (Turned c l.own t)) (test (Turned c l.own t)) l.function
        (turn_from (After xs body q) l.k) l.at (turn_scope (loop_names (After xs body q)) (outside_turn (After xs body q))) l.names l.fits l.rule
        (turn_stands z c (After xs body q) env firsts l all t ((first z c (After xs body q) env firsts l all).2.due t low))
        (turn_names z c (After xs body q) env firsts l all t vs parts.0) (turn_knows z c (After xs body q) env firsts l all t parts.1) in
        let before = it_goes_on z c (After xs body q) env firsts l all t vs many h low (ap truth same ∙ on) in
        let there = next_have z c (After xs body q) env firsts l all t vs us many h low before values in
        then_turns z c (After xs body q) env firsts l all t (both (body_counted g) (counted d)) (turns_counted next)
        ((first z c (After xs body q) env firsts l all).2.due t low) lists
        (later (suc t) (omega (arith, before)) there.0 there.1)

block_name_loop : (f : Name) (m : ℕ) → block_name f (m + 1) ≡ loop_name f (m + 1)
block_name_loop f m = let e : suc m ≡ m + 1 = omega arith in subst (λ k. block_name f k ≡ loop_name f k) e refl

count_some : (es : Exprs) → 0 < count es
count_some (One e) = omega arith
count_some (More e es) = omega arith

pub counts_loop : {env : Env} {vs rs : List Value} {ss us : Stores} (z : Scene) (c : Context) (one_answer : OneAnswer) (all : (c : Context) → AllIn z c) (at : ℕ) (bound : NumberAt)
    (firsts : Exprs) (turn : Turn) (d : EvaluatesAll (world_of z) env firsts vs ss) (g : Turns (world_of z) env turn vs rs us) → ListCounts z c d
    → ((l : Looping z c turn env vs) → TurnsCount z c turn env vs l all g) → ExprCounts z c (eval.loop {t = at} {k = bound} d g)
counts_loop {env = env} {vs = vs} {ss = qs} z c one_answer all at bound firsts turn d g means turns site spot scope names n fits rule h known =
    let t : IsTurned z.program names bound firsts turn n = in_loop z.program names at bound firsts turn n rule in
    let f : Lowered = lower_list z.program site spot scope firsts in
    let k : ℕ = spot.loops + length f.blocks + 1 in
    let tl : Lowered = turn_lowered z.program site.function k at turn in
    let tb : MadeBlock = turn_made z.program site.function k at turn in
    let outs : List Name = outside_turn turn in
    let ss : List Source = f.sources ++ map (source_in scope) outs in
    let m1 : Made = made site at (node.Loop (loop_name site.function k) bound.number) ss in
    let m : Lowered = looped site spot scope at bound.number (loop_names turn) outs f tl in
    let tail : Lowered = record { nodes = m1 ∷ []; sources = []; blocks = tb ∷ tl.blocks } in
    let before : ActiveIn z c site spot f = first_in z c site spot f m (m1 ∷ []) (tb ∷ tl.blocks) refl refl h in
    let last : ActiveIn z c site (spot_after spot f) tail = rest_in z c site spot f tail m refl refl h in
    let values = firsts_list z.program names [] (names_of turn) firsts t.begun in
    let agree = agrees_split (flow z) z.inputs z.run z.state z.is_run c scope env (list_uses firsts) (turn_uses turn) known in
    let out = (all c).list firsts site spot scope env names (count firsts) fits.1 values before agree.0 in
    let have : HaveIn z c f.sources vs =
    subst (λ vs. HaveIn z c f.sources vs) (same_list one_answer (world_of z) env firsts out.vs vs out.ss qs out.evaluated d) out.have in
    let outer = known_values (flow z) z.inputs z.run z.state z.is_run c scope env outs (agrees_once (flow z) z.inputs z.run z.state z.is_run c scope env
    (turn_uses turn) agree.1) in
    let own : ℕ = spot.next + length f.nodes in
    let line : Node ℕ = resolved z.graph m1 in
    let eb = block_is z.program z.graph z.origin z.inputs z.run z.state z.is_run c site (spot_after spot f) tail last in
    let el = (own_line z.program z.graph z.origin z.inputs z.run z.state z.is_run c site (spot_after spot f) tail m1 [] refl last).0 in
    let with_commas : length f.sources ≡ count firsts = list_count z.program site spot scope firsts names (count firsts) values in
    let long = have_length (flow z) z.inputs z.run z.state z.is_run c f.sources vs have in
    let bare_many : length (loop_names turn) ≡ length (names_of turn) = length-map (names_of turn) (λ (x : NameAt). x.name) in
    let appended = length-append f.sources (map (source_in scope) outs) in
    let mapped = length-map outs (source_in scope) in
    let counted = fits.2 in
    let some = count_some firsts in
    let l : Looping z c turn env vs =
    record {
      own = own;
      line = line;
      block = last.block;
      number = last.number;
      is_block = last.is_block;
      its_block = eb;
      due = last.due;
      at_line = el;
      gives = λ q low. line_gives (flow z) z.inputs z.run z.state z.is_run z.settled c last.block own q line eb last.due el last.taken low;
      function = site.function;
      k = k;
      at = at;
      bound = bound.number;
      kind = ap (λ x. node.Loop (place_of x (block_names z.graph)) bound.number) (sym (block_name_loop site.function (spot.loops + length f.blocks)));
      placed = last.loops.0;
      inner = last.loops.1;
      outer = outer.0;
      have = have_both (flow z) z.inputs z.run z.state z.is_run c f.sources (map (source_in scope) outs) vs outer.0 have outer.2;
      many = omega (arith, with_commas, bare_many, appended, mapped, counted);
      first = omega (arith, long, with_commas, bare_many, counted);
      bounds = outer.1;
      apart = firsts_apart z.program names [] (names_of turn) firsts t.begun fits.2;
      some = omega (arith, some, counted);
      names = loop_names turn ++ names;
      fits = fits.3;
      rule = ok_as (turn_values z.program (loop_names turn ++ names) turn) n (length (names_of turn)) t.turns t.names;
    } in
    let wide : own + 1 ≡ spot.next + length m.nodes = let x = length-append f.nodes (m1 ∷ []) in omega (arith, x) in
    lists_to z c spot.next (own + 1) (spot.next + length m.nodes) (both (list_counted d) (turns_counted g)) wide
    (lists_both z c spot.next own (own + 1) (list_counted d) (turns_counted g) (omega arith) (omega arith)
    (means site spot scope names (count firsts) fits.1 values before agree.0) (loop_lists z c turn env vs l all g (turns l)))
