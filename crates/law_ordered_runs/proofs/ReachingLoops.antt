-- A loop, where a run has reached its first values: its iterations are reached, one after another.
use Rattle.std.proofs.Common.{◌≡◌, ℕ, zero, suc, ◌+◌, ◌-◌, ◌<◌, ◌≤◌, Bool, true, false, List, [], ◌∷◌, ◌++◌, length, map, Option, Some, Ok, Contains}
use Rattle.std.proofs.Common.{inl, refl, sym, ap, ◌∙◌, subst, subst₂, arith, length-append, ltb-true, ltb-false, if◌then◌else◌}
use Rattle.std.specs.Prelude.{slice_get, nat_lt}
use Rattle.std.proofs.lemmas.List.{length-map}
use Rattle.std.proofs.lemmas.Option.{same_Some}
use Rattle.tags.specs.declared.value.Value.{Value}
use Rattle.operators.specs.Values.{truth}
use Rattle.semantics.specs.declared.graph.Source.{Source}
use Rattle.semantics.specs.declared.graph.Kind.TheVariants as node
use Rattle.semantics.specs.Graph.{Node, Block, node_at, node_count, place_of, block_names}
use Rattle.semantics.specs.Meaning.{Context, Turned, AtNode, AtTurn, Operand, Flag, Tagged, tagged, Activity, Passes, Turns, Deed, Says, Sends, Enters, Stood, IsCall, IsLoop, HadTrueFlag, ArmsTaken, arm_of}
use Rattle.semantics.specs.Meaning.{arms_round, arms_at, callee, callee_of, callee_in, block_number, block_numbered, block_of, node_in, node_of, start}
use Rattle.law_confluence.specs.Equations.{IsDue}
use Rattle.law_confluence.proofs.EquationsGraphForms.{HasForm}
use Rattle.law_confluence.proofs.EquationsGraphFormed.{shaped}
use Rattle.source.specs.Tree.{Name, NameAt, NumberAt, Exprs, One, More, Turn, Before, After, Program, names_of}
use Rattle.source.specs.Fits.{FitsTurn, count}
use Rattle.source.specs.Outside.{without, bare, list_uses, uses, body_uses, turn_uses, outside_turn}
use Rattle.source.specs.Rules.{turn_values}
use Rattle.source.specs.Evaluates as eval
use Rattle.source.specs.Evaluates.{Env, Stores, entered, EvaluatesAll}
use Rattle.source.specs.Lowered.{Made, MadeBlock, Lowered, Spot, Scope, made, source_in, scoped, turn_site, turn_scope, turn_block}
use Rattle.source.specs.Lowered.{looped, loop_name, block_name, inputs_from, ports_from, port, spot_after, lower_list, lower_turn}
use Rattle.source.proofs.Steps.{ok_as}
use Rattle.source.proofs.CountedSources.{inputs_count}
use Rattle.source.proofs.Kept.{IsTurned, in_loop}
use Rattle.source.proofs.Holding.{holds_whole}
use Rattle.source.proofs.OutsideNames.{uses_once}
use Rattle.source.proofs.Counting.{list_count}
use Rattle.law_language.specs.MeansHolds.{resolved, block_place, block_in, HasBlock, HasBlocks}
use Rattle.law_language.proofs.MeansHaving.{have_length, have_both, have_split}
use Rattle.law_language.proofs.MeansHolding.{resolved_all}
use Rattle.law_language.proofs.MeansNamesAgree.{agrees_split, agrees_once, agrees_arm}
use Rattle.law_language.proofs.MeansInputs.{root_taken}
use Rattle.law_language.proofs.MeansFirsts.{firsts_list, Apart, firsts_apart, scoped_sources, scoped_both, inputs_both}
use Rattle.law_language.proofs.MeansTurnNames.{BoundTo, known_values, entered_values, agrees_behind}
use Rattle.law_language.proofs.MeansParts.{own_line, block_is}
use Rattle.lemmas.proofs.Permutations.{put_first}
use Rattle.lemmas.proofs.SliceGet.{get_some}
use Rattle.law_loops_complete.specs.Within as ordered
use Rattle.law_loops_complete.specs.Within.{IsIn}
use Rattle.law_ordered_runs.specs.InOrder.{Touch, list_touches, turn_touches}
use Rattle.law_ordered_runs.proofs.Order.{seat, Under, Precedes, in_self, under_in, place_in_seat, precedes_turns, turns_alike}
use Rattle.law_ordered_runs.proofs.Origins.{Comes, happened_at, lawful, one_token, taken_came}
use Rattle.law_ordered_runs.proofs.Closing.{AsReturns, AsTurns, AsOutputs, Closes, ClosesIn, ClosesEnd, closes_on, closes_in_on, closes_node, closes_whole, closes_never}
use Rattle.law_ordered_runs.proofs.Closing.{not_called, line_passed}
use Rattle.law_ordered_runs.proofs.Doing.{AtNodeOf, precedes_at, precedes_behind, under_within, own_turned, adds_none, adds_one, adds_then, adds_more, does_to}
use Rattle.law_ordered_runs.proofs.Extending.{Extended, on_then, on_same, said_came, said_gives}
use Rattle.law_ordered_runs.proofs.Lines.{iteration_happens}
use Rattle.law_ordered_runs.proofs.Memory.{Changed, FillsStored, list_fills, fills_none, ready_first, ready_then, changed_none, changed_same, changed_both}
use Rattle.law_ordered_runs.proofs.Staying.{due_on, has_on, have_on, agrees_on, arms_on}
use Rattle.law_ordered_runs.proofs.UsesSent.{carried_came, flag_came}
use Rattle.law_ordered_runs.proofs.Reaching.{Land, RunOf, flow, world_of, cells_of, HasX, HaveX, KnownX, ActiveX, ReadyX, OnX, Reaches, ExprReaches, ListReaches}
use Rattle.law_ordered_runs.proofs.Reaching.{AddsX, DoesX, reaches_to, first_in, rest_in}
use Rattle.law_ordered_runs.proofs.ReachingParts.{second_reached, second_part}
use Rattle.law_ordered_runs.proofs.ReachingCalls.{Quietly, says_quietly, quietly_then, Arrived, inputs_pass, PassedIn, passed_none, passed_more, operands_pass, value_at}
use Rattle.law_ordered_runs.proofs.ReachingCalls.{from_zero}

turn_uses_are : (turn : Turn) → (ys : List Name) × (turn_uses turn ≡ without (bare (names_of turn)) ys)
turn_uses_are (Before xs q body) = (uses q ++ body_uses body, refl)
turn_uses_are (After xs body q) = (body_uses body ++ uses q, refl)

-- THE BLOCK OF A TURN
abbrev pub loop_names : Turn → List Name
loop_names turn = bare (names_of turn)

abbrev turn_from : Turn → ℕ → Spot
turn_from turn k = record { next = length (loop_names turn) + length (outside_turn turn); loops = k }

abbrev turn_lowered : Program → Name → ℕ → ℕ → Turn → Lowered
turn_lowered p f k at turn = lower_turn p f (turn_from turn k) at (turn_scope (loop_names turn) (outside_turn turn)) turn

abbrev turn_made : Program → Name → ℕ → ℕ → Turn → MadeBlock
turn_made p f k at turn = turn_block at k (loop_names turn) (outside_turn turn) (turn_lowered p f k at turn)

-- A LOOP OF A PROGRAM, with the values of its outside names
pub record Looping (z : Land) (c : Context) (turn : Turn) (env : Env) : Type 0 where
  pub own : ℕ
  pub line : Node ℕ
  pub block : Block ℕ
  pub number : ℕ
  pub is_block : slice_get (flow z).blocks number ≡ Some block
  pub its_block : block_of (flow z) c ≡ Some block
  pub at_line : node_at block own ≡ Some line
  pub function : Name
  pub k : ℕ
  pub at : ℕ
  pub bound : ℕ
  pub kind : line.kind ≡ node.Loop (block_place z.graph function (turn_made z.program function k at turn)) bound
  pub placed : HasBlock z.graph z.origin function (turn_made z.program function k at turn)
  pub inner : HasBlocks z.graph z.origin function (turn_lowered z.program function k at turn).blocks
  pub outer : List Value
  pub many : length line.sources ≡ length (loop_names turn) + length (outside_turn turn)
  pub outers : length outer ≡ length (outside_turn turn)
  pub bounds : BoundTo env (outside_turn turn) outer
  pub apart : Apart [] (loop_names turn)
  pub some : 0 < length (names_of turn)
  pub names : List Name
  pub fits : FitsTurn turn
  pub rule : turn_values z.program names turn ≡ Ok (length (names_of turn))

-- an iteration reaches its flag, its next values, and its stores
abbrev pub IterationReaches : (z : Land) (c : Context) (turn : Turn) (env : Env) (vs : List Value) (b : Value) (us : List Value) (ss : Stores) (ts : List Touch) → Type 0
IterationReaches z c turn env vs b us ss ts = (x : RunOf z) (f : Name) (spot : Spot) (at : ℕ) (scope : Scope) (names : List Name)
    → 0 < length (names_of turn) → FitsTurn turn → turn_values z.program names turn ≡ Ok (length (names_of turn))
    → ActiveX z x c (turn_site f) spot (lower_turn z.program f spot at scope turn)
    → HaveX z x c (map (source_in scope) (bare (names_of turn))) vs → KnownX z x c scope env (turn_uses turn) → ReadyX z x ss ts
    → Reaches z x c spot.next (spot.next + length (lower_turn z.program f spot at scope turn).nodes) (lower_turn z.program f spot at scope turn).sources (b ∷ us) ss

module _ (z : Land) (c : Context) (turn : Turn) (env : Env) (l : Looping z c turn env) where
  abbrev xs : List Name
  xs = loop_names turn

  abbrev outs : List Name
  outs = outside_turn turn

  abbrev nx : ℕ
  nx = length (loop_names turn)

  abbrev no_ : ℕ
  no_ = length (outside_turn turn)

  abbrev tl : Lowered
  tl = turn_lowered z.program l.function l.k l.at turn

  abbrev to : Block ℕ
  to = block_in z.graph l.function (turn_made z.program l.function l.k l.at turn)

  abbrev here : ℕ → Context
  here t = Turned c l.own t

  line_is : node_of (flow z) c l.own ≡ Some l.line
  line_is = ap (λ o. node_in o l.own) l.its_block ∙ l.at_line

  turn_number : (t : ℕ) → block_number (flow z) (here t) ≡ Some (block_place z.graph l.function (turn_made z.program l.function l.k l.at turn))
  turn_number t = ap (λ o. callee_in o l.own) l.its_block ∙ ap callee_of l.at_line ∙ ap callee l.kind

  turn_is : (t : ℕ) → block_of (flow z) (here t) ≡ Some to
  turn_is t = ap (λ o. block_numbered (flow z) o) (turn_number t) ∙ l.placed.is_there

  names_many : nx ≡ length (names_of turn)
  names_many = length-map (names_of turn) (λ (x : NameAt). x.name)

  inputs_are : inputs_from 0 (nx + no_) ≡ inputs_from 0 nx ++ inputs_from nx no_
  inputs_are = let e : 0 + nx ≡ nx = omega arith in inputs_both 0 nx no_ ∙ ap (λ i. inputs_from 0 nx ++ inputs_from i no_) e

  inputs_split : (y : RunOf z) (t : ℕ) (us : List Value) → length us ≡ nx → HaveX z y (here t) (inputs_from 0 (nx + no_)) (us ++ l.outer)
      → HaveX z y (here t) (inputs_from 0 nx) us × HaveX z y (here t) (inputs_from nx no_) l.outer
  inputs_split y t us many h =
      have_split (flow z) z.inputs y.run y.state y.is_run (here t) (inputs_from 0 nx) (inputs_from nx no_) us l.outer (inputs_count 0 nx ∙ sym many)
      (subst (λ ss. HaveX z y (here t) ss (us ++ l.outer)) inputs_are h)

  -- NAMES of an iteration
  abbrev outer_scope : Scope
  outer_scope = scoped outs (inputs_from nx no_) []

  scope_is : turn_scope xs outs ≡ scoped xs (inputs_from 0 nx) outer_scope
  scope_is = ap (λ ss. scoped (xs ++ outs) ss []) inputs_are ∙ scoped_both xs outs (inputs_from 0 nx) (inputs_from nx no_) [] (sym (inputs_count 0 nx))

  turn_names : (y : RunOf z) (t : ℕ) (us : List Value) → HaveX z y (here t) (inputs_from 0 nx) us
      → HaveX z y (here t) (map (source_in (turn_scope xs outs)) xs) us
  turn_names y t us h =
      subst (λ ss. HaveX z y (here t) ss us)
      (sym (ap (λ (sc : Scope). map (source_in sc) xs) scope_is ∙ scoped_sources [] xs (inputs_from 0 nx) outer_scope l.apart (sym (inputs_count 0 nx)))) h

  turn_knows : (y : RunOf z) (t : ℕ) → HaveX z y (here t) (inputs_from nx no_) l.outer → KnownX z y (here t) (turn_scope xs outs) env (turn_uses turn)
  turn_knows y t h =
      let u = turn_uses_are turn in
      let entered = entered_values (flow z) z.inputs y.run y.state y.is_run (here t) env outs (inputs_from nx no_) l.outer l.bounds h in
      let behind = agrees_arm (flow z) z.inputs y.run y.state y.is_run (here t) env outs (inputs_from nx no_) [] entered (turn_uses turn)
      (uses_once (turn_uses turn)) in
      let knows = agrees_behind (flow z) z.inputs y.run y.state y.is_run (here t) xs (inputs_from 0 nx) outer_scope env u.0
      (subst (λ ys. KnownX z y (here t) outer_scope env ys) u.1 behind) in
      subst₂ (λ (sc : Scope) ys. KnownX z y (here t) sc env ys) (sym scope_is) (sym u.1) knows

  -- WHERE AN ITERATION BEGINS: its inputs have come, and those before it had true flags
  pub record Begins (y : RunOf z) (t : ℕ) (us : List Value) : Type 0 where
    pub due : IsDue (flow z) z.inputs y.run y.state y.is_run c
    pub region : ArmsTaken (Stood (flow z) (start z.inputs) y.run y.state y.is_run) c (arms_round (node_count l.block) l.block l.line.region)
    pub flags : (j : ℕ) → j < t → HadTrueFlag (Stood (flow z) (start z.inputs) y.run y.state y.is_run) (here j)
    pub many : length us ≡ nx
    pub arrived : Arrived z y (here t) 0 (us ++ l.outer)

  turn_due : (y : RunOf z) (t : ℕ) (us : List Value) → Begins y t us → IsDue (flow z) z.inputs y.run y.state y.is_run (here t)
  turn_due y t us h = (
    h.due,
    (l.line, line_is, subst IsLoop (sym l.kind) tt),
    subst (λ (o : Option (Block ℕ)). ArmsTaken (Stood (flow z) (start z.inputs) y.run y.state y.is_run) c (arms_at o l.own)) (sym l.its_block)
        (subst (λ (o : Option (Node ℕ)). ArmsTaken (Stood (flow z) (start z.inputs) y.run y.state y.is_run) c (arms_round (node_count l.block) l.block (arm_of o)))
        (sym l.at_line) h.region),
    h.flags,
  )

  whole_turn : nx + no_ + length tl.nodes ≡ node_count to
  whole_turn = let n = ap length (resolved_all z.graph tl.nodes) ∙ length-map tl.nodes (resolved z.graph) in omega (arith, n)

  -- ONE ITERATION, to its flag and its results
  iterated : (y : RunOf z) (t : ℕ) (vs : List Value) (b : Value) (us : List Value) (ss : Stores) (ts : List Touch) → Begins y t vs
      → IterationReaches z (here t) turn env vs b us ss ts → ReadyX z y ss ts
      → Reaches z y (here t) 0 (node_count to) to.results (b ∷ (us ++ l.outer)) ss
  iterated y t vs b us ss ts h means ready =
      let outers = l.outers in let many = h.many in let long = length-append vs l.outer in
      let ins = inputs_pass z (here t) to (turn_is t) y 0 (nx + no_) (vs ++ l.outer) (omega (arith, outers, many, long)) (omega arith) h.arrived in
      let w = ins.quietly.to in
      let parts = inputs_split w t vs h.many ins.have in
      let some = l.some in let same = names_many in
      let first = first_value (nx + no_) (vs ++ l.outer) w ins.have (omega (arith, some, same)) in
      let stands : ActiveX z w (here t) (turn_site l.function) (turn_from turn l.k) tl =
      record {
        number = block_place z.graph l.function (turn_made z.program l.function l.k l.at turn);
        block = to;
        is_number = turn_number t;
        is_block = l.placed.is_there;
        due = due_on z.graph z.inputs z.well z.count y w ins.quietly.on (here t) (turn_due y t vs h);
        taken = root_taken (Stood (flow z) (start z.inputs) w.run w.state w.is_run) (here t) to (node_count to);
        trigger = first.0;
        triggered = first.1;
        lines = holds_whole to (map (resolved z.graph) tl.nodes) (resolved_all z.graph tl.nodes);
        traced = l.placed.traced;
        loops = l.inner;
      } in
      let before : Reaches z y (here t) 0 (nx + no_) [] [] [] =
      record {
        to = w;
        on = ins.quietly.on;
        does = does_to z.graph z.inputs z.well z.count y w (here t) 0 (0 + (nx + no_)) (nx + no_) (omega arith) ins.does;
        have = tt;
        changed = changed_same (cells_of z y) (cells_of z y) (cells_of z w) [] (sym ins.quietly.cells) (changed_none (cells_of z y));
      } in
      let r = means w l.function (turn_from turn l.k) l.at (turn_scope xs outs) l.names l.some l.fits l.rule stands (turn_names w t vs parts.0)
      (turn_knows w t parts.1) (ready_then z.memory (cells_of z y) (cells_of z w) [] ss [] ts ready ins.quietly.on.cells before.changed (fills_none [])) in
      let all : Reaches z w (here t) (nx + no_) (node_count to) to.results (b ∷ (us ++ l.outer)) ss =
      record {
        to = r.to;
        on = r.on;
        does = does_to z.graph z.inputs z.well z.count w r.to (here t) (nx + no_) (nx + no_ + length tl.nodes) (node_count to) whole_turn r.does;
        have = have_both (flow z) z.inputs r.to.run r.to.state r.to.is_run (here t) tl.sources (inputs_from nx no_) (b ∷ us) l.outer r.have
            (have_on z.graph z.inputs z.well z.count w r.to r.on (here t) (inputs_from nx no_) l.outer parts.1);
        changed = r.changed;
      } in
      second_reached z y (here t) 0 (nx + no_) (node_count to) (omega arith) (omega arith) [] to.results [] (b ∷ (us ++ l.outer)) [] ss before all
    where
      first_value : (k : ℕ) (vs : List Value) (w : RunOf z) → HaveX z w (here t) (inputs_from 0 k) vs → 0 < k → (v : Value) × HasX z w (here t) (port 0 0) v
      first_value zero vs w h low = absurd (omega (arith, low))
      first_value (suc k) [] w h low = absurd h
      first_value (suc k) (v ∷ vs) w h low = (v, h.0)

  -- at the end of iteration t; in it; and from it on
  abbrev pub TurnEnd : ℕ → Activity → Type 0
  TurnEnd t a = (ordered.place_of a ≡ here t) × Under c l.own (l.own + 1) (seat a)

  abbrev pub OfTurn : ℕ → Activity → Type 0
  OfTurn t a = IsIn (here t) (seat a) × Under c l.own (l.own + 1) (seat a)

  abbrev pub FromTurn : ℕ → Activity → Type 0
  FromTurn t a = (u : ℕ) × (t ≤ u) × OfTurn u a

  turn_end : (t : ℕ) (a : Activity) → TurnEnd t a → OfTurn t a
  turn_end t a h = (place_in_seat (here t) a (subst (λ d. IsIn (here t) d) (sym h.0) (in_self (here t))), h.1)

  ends_in_order : (t : ℕ) (a b : Activity) → TurnEnd t a → TurnEnd t b → Precedes a b
  ends_in_order t a b h k = precedes_at (here t) a b h.0 (turn_end t b k).0

  -- ITS RESULTS, one by one: inputs of the next iteration, or of the loop
  module _ (t : ℕ) (flag : Source) (b : Value) (at_flag : slice_get to.results 0 ≡ Some flag) where
    abbrev act : ℕ → Value → Activity
    act j v = Turns c l.own t (suc j) b v

    abbrev TurnDeed : ℕ → Value → Bool → Deed
    TurnDeed j v o = Says (if o then Enters (here (t + 1)) j (v ∷ []) else Sends c l.own j v)

    turns_now : (y : RunOf z) (i : ℕ) (s : Source) (v : Value) → slice_get to.results (suc i) ≡ Some s → i + 1 ≤ to.inputs → HasX z y (here t) flag b
        → HasX z y (here t) s v → Extended z.graph z.inputs z.well z.count y (act i v) (TurnDeed i v (truth b))
    turns_now y i s v es low f h =
        let less : suc i - 1 ≡ i = omega arith in
        subst (λ j. Extended z.graph z.inputs z.well z.count y (act i v) (TurnDeed j v (truth b))) less
        (iteration_happens z.graph z.inputs z.well z.count y c l.own t (suc i) b v
        (flag_came z.graph z.inputs z.well z.count y c l.own t to (suc i) flag b (turn_is t) at_flag (omega arith) (omega (arith, low)) f)
        (carried_came z.graph z.inputs z.well z.count y c l.own t to i s v (turn_is t) es h))

    own_end : (i : ℕ) (v : Value) → TurnEnd t (act i v)
    own_end i v = (refl, own_turned c l.own t)

    pub results_enter : truth b ≡ true → (y : RunOf z) (i : ℕ) (ss : List Source) (vs : List Value)
        → ((j : ℕ) (s : Source) → slice_get ss j ≡ Some s → slice_get to.results (suc (i + j)) ≡ Some s) → i + length ss ≤ to.inputs
        → HasX z y (here t) flag b → HaveX z y (here t) ss vs → PassedIn z y (TurnEnd t) act (here (t + 1)) i vs
    results_enter on y i [] [] at low f h = passed_none z y (TurnEnd t) act (here (t + 1)) i
    results_enter on y i [] (v ∷ vs) at low f h = absurd h
    results_enter on y i (s ∷ ss) [] at low f h = absurd h
    results_enter on y i (s ∷ ss) (v ∷ vs) at low f h =
        let d = here (t + 1) in
        let es : slice_get to.results (suc i) ≡ Some s = subst (λ j. slice_get to.results (suc j) ≡ Some s) (omega arith) (at 0 s refl) in
        let m : Extended z.graph z.inputs z.well z.count y (act i v) (Says (Enters d i (v ∷ []))) =
        subst (λ (o : Bool). Extended z.graph z.inputs z.well z.count y (act i v) (TurnDeed i v o)) on (turns_now y i s v es (omega (arith, low)) f h.0) in
        let r = says_quietly z y (act i v) (Enters d i (v ∷ [])) m in
        let here_ = said_came z.graph z.inputs z.well z.count r.to (act i v) (Says (Enters d i (v ∷ []))) (Enters d i (v ∷ [])) m.happened
        m.is_deed refl (tagged d (AtNode i) (Operand 0) v) ([], inl (refl, refl)) in
        let q = results_enter on r.to (i + 1) ss vs (λ j a k. subst (λ j. slice_get to.results (suc j) ≡ Some a) (omega arith) (at (suc j) a k))
        (omega (arith, low)) (has_on z.graph z.inputs z.well z.count y r.to r.on (here t) flag b f)
        (have_on z.graph z.inputs z.well z.count y r.to r.on (here t) ss vs h.1) in
        passed_more z y (TurnEnd t) act d i v vs (Says (Enters d i (v ∷ []))) m r.cells (own_end i v) (λ a b p k. ends_in_order t a b p k) here_ q

    pub record Left (y : RunOf z) (i count : ℕ) (vs : List Value) : Type 0 where
      pub quietly : Quietly z y
      pub adds : AddsX z y quietly.to (TurnEnd t)
      pub have : HaveX z quietly.to c (ports_from l.own i count) vs
      pub happened : (j : ℕ) (v : Value) → slice_get vs j ≡ Some v → Contains quietly.to.run (act (i + j) v)

    pub results_leave : truth b ≡ false → (y : RunOf z) (i count : ℕ) (ss : List Source) (vs : List Value) → length ss ≡ count
        → ((j : ℕ) (s : Source) → slice_get ss j ≡ Some s → slice_get to.results (suc (i + j)) ≡ Some s) → i + length ss ≤ to.inputs
        → HasX z y (here t) flag b → HaveX z y (here t) ss vs → Left y i count vs
    results_leave off y i zero [] [] long at low f h = record {
      quietly = record { to = y; on = on_same z.graph z.inputs z.well z.count y; cells = refl };
      adds = adds_none z.graph z.inputs z.well z.count y (TurnEnd t);
      have = tt;
      happened = λ j v e. cc;
    }
    results_leave off y i zero (s ∷ ss) vs long at low f h = absurd (omega (arith, long))
    results_leave off y i zero [] (v ∷ vs) long at low f h = absurd h
    results_leave off y i (suc count) [] vs long at low f h = absurd (omega (arith, long))
    results_leave off y i (suc count) (s ∷ ss) [] long at low f h = absurd h
    results_leave off y i (suc count) (s ∷ ss) (v ∷ vs) long at low f h =
        let es : slice_get to.results (suc i) ≡ Some s = subst (λ j. slice_get to.results (suc j) ≡ Some s) (omega arith) (at 0 s refl) in
        let m : Extended z.graph z.inputs z.well z.count y (act i v) (Says (Sends c l.own i v)) =
        subst (λ (o : Bool). Extended z.graph z.inputs z.well z.count y (act i v) (TurnDeed i v o)) off (turns_now y i s v es (omega (arith, low)) f h.0) in
        let r = says_quietly z y (act i v) (Sends c l.own i v) m in
        let q = results_leave off m.to (i + 1) count ss vs (omega (arith, long))
        (λ j a k. subst (λ j. slice_get to.results (suc j) ≡ Some a) (omega arith) (at (suc j) a k))
        (omega (arith, low)) (has_on z.graph z.inputs z.well z.count y m.to m.on (here t) flag b f)
        (have_on z.graph z.inputs z.well z.count y m.to m.on (here t) ss vs h.1) in
        record {
          quietly = quietly_then z y r q.quietly;
          adds = adds_then z.graph z.inputs z.well z.count y m.to q.quietly.to (TurnEnd t) (TurnEnd t) (TurnEnd t)
              (adds_one z.graph z.inputs z.well z.count y (act i v) (Says (Sends c l.own i v)) (TurnEnd t) m (own_end i v)) q.adds
              (λ a b p k. ends_in_order t a b p k) (λ a p. p) (λ a p. p);
          have = (
            has_on z.graph z.inputs z.well z.count m.to q.quietly.to q.quietly.on c (port l.own i) v
                (said_gives z.graph z.inputs z.well z.count y (act i v) c l.own i v m),
            q.have,
          );
          happened = which m.to m.happened q;
        }
      where
        which : (w : RunOf z) → Contains w.run (act i v) → (q : Left w (i + 1) count vs) → (j : ℕ) (u : Value) → slice_get (v ∷ vs) j ≡ Some u
            → Contains q.quietly.to.run (act (i + j) u)
        which w first q zero u f =
            let same : v ≡ u = same_Some v u f in
            subst (λ k. Contains q.quietly.to.run (act k u)) (omega arith) (subst (λ u. Contains q.quietly.to.run (act i u)) same (q.quietly.on.kept _ first))
        which w first q (suc j) u f = subst (λ k. Contains q.quietly.to.run (act k u)) (omega arith) (q.happened j u f)

  -- THE ITERATION IS CLOSED with its results.
  turn_closed : (t : ℕ) (b : Value) (u v : RunOf z) → OnX z u v → Closes z.graph z.inputs z.well z.count u (here t) 0 (node_count to)
      → ((i : ℕ) → i < to.inputs → (w : Value) × Contains v.run (Turns c l.own t (suc i) b w)) → ClosesIn z.graph z.inputs z.well z.count v (here t)
  turn_closed t b u v on lines happened =
      closes_whole z.graph z.inputs z.well z.count v (here t) to (turn_is t)
      (closes_on z.graph z.inputs z.well z.count u v on (here t) 0 (node_count to) lines) end
    where
      end : ClosesEnd z.graph z.inputs z.well z.count v (here t)
      end y more a k (AsReturns e m j w ed ea) = absurd (cc)
      end y more a k (AsOutputs j w ed ea) = absurd (cc)
      end y more a k (AsTurns e m r j q w ed ea) = subst (λ a. Contains y.run a) (sym act) (at j refl)
        where
          same : (c ≡ e) × (l.own ≡ m) × (t ≡ r)
          same = turns_alike c e l.own m t r ed

          act : a ≡ Turns c l.own t j q w
          act = ea ∙ sym (ap (λ c. Turns c l.own t j q w) same.0 ∙ ap (λ n. Turns e n t j q w) same.1 ∙ ap (λ t. Turns e m t j q w) same.2)

          it : Comes z.graph z.inputs z.well z.count y (Turns c l.own t j q w)
          it = subst (λ a. Comes z.graph z.inputs z.well z.count y a) act k

          law : (b' : Block ℕ) × (block_of (flow z) (here t) ≡ Some b') × (1 ≤ j) × (j ≤ b'.inputs)
          law = let h = (lawful z.graph z.inputs z.well z.count y _ it.came.0).1 in (h.0, h.1, h.2, h.3)

          at : (i : ℕ) → i ≡ j → Contains y.run (Turns c l.own t j q w)
          at zero e = let low = law.2 in absurd (omega (arith, low, e))
          at (suc i) e =
              let low = law.3 in
              let inputs = ap (λ (b : Block ℕ). b.inputs) (same_Some law.0 to (sym law.1 ∙ turn_is t)) in
              let h = happened i (omega (arith, low, inputs, e)) in
              happened_at z.graph z.inputs z.well z.count y (Turns c l.own t j q w) (Turns c l.own t (suc i) b h.0) it (more.kept _ h.1)
              (tagged (here t) (AtTurn (suc i)) Flag b) (tagged (here t) (AtTurn j) Flag q) (_, put_first _ _) (_, put_first _ _) (refl, ap AtTurn e, refl)

  -- after an iteration whose flag is false there is none
  none_later : (t : ℕ) (b : Value) (v : RunOf z) → truth b ≡ false → (w : Value) → Contains v.run (Turns c l.own t 1 b w) → (u : ℕ) → t < u
      → ClosesIn z.graph z.inputs z.well z.count v (here u)
  none_later t b v off w happened u low = closes_never z.graph z.inputs z.well z.count v (here u) (λ y on due. never y on (due.3 t low))
    where
      never : (y : RunOf z) → OnX z v y → HadTrueFlag (Stood (flow z) (start z.inputs) y.run y.state y.is_run) (here t) → ⊥
      never y on h =
          let law = (lawful z.graph z.inputs z.well z.count y _ h.2).1 in
          let low = law.2 in let high = law.3 in
          let first = law.4 1 (omega arith) (omega (arith, low, high)) in
          let mine = taken_came z.graph z.inputs z.well z.count y (Turns c l.own t 1 b w) (on.kept _ happened) (tagged (here t) (AtTurn 1) Flag b) (_, put_first _ _) in
          let same = one_token z.graph z.inputs z.well z.count y (tagged (here t) (AtTurn 1) Flag b) (tagged (here t) (AtTurn 1) Flag h.1) mine first
          (refl, refl, refl) in
          let e : truth b ≡ true = ap truth (ap (λ (t : Tagged). t.value) same) ∙ h.3 in let f = sym off ∙ e in cc

  turn_adds : (t : ℕ) (y u v : RunOf z) → DoesX z y u (here t) 0 (node_count to) → AddsX z u v (TurnEnd t) → AddsX z y v (OfTurn t)
  turn_adds t y u v body ends =
      adds_then z.graph z.inputs z.well z.count y u v (λ a. Under (here t) 0 (node_count to) (seat a)) (TurnEnd t) (OfTurn t) body.adds ends
      (λ a b p k. precedes_behind (here t) a b k.0 (under_in (here t) 0 (node_count to) (seat a) p))
      (λ a p. (under_in (here t) 0 (node_count to) (seat a) p, under_within c (here t) (seat a) l.own (l.own + 1) 0 (node_count to) (own_turned c l.own t) p))
      (λ a p. turn_end t a p)

  outputs_many : length tl.sources ≡ nx + 1
  outputs_many =
      let line = (shaped z.graph z.well l.number l.block l.is_block).lines l.own l.line l.at_line in
      let form = subst (λ k. HasForm (flow z) l.block l.line.region k l.line.sources) l.kind line.form in
      let same : form.0.0 ≡ to = same_Some form.0.0 to (sym form.0.1 ∙ l.placed.is_there) in
      let outputs : to.outputs ≡ length l.line.sources + 1 = ap (λ (b : Block ℕ). b.outputs) (sym same) ∙ form.0.3 in
      let append = length-append tl.sources (inputs_from nx no_) in
      let count = inputs_count nx no_ in
      let many = l.many in
      omega (arith, outputs, append, count, many)

  -- the flag and the other results
  record Parted (y : RunOf z) (d : Context) (ss : List Source) (b : Value) (ws : List Value) : Type 0 where
    pub flag : Source
    pub rest : List Source
    pub is : ss ≡ flag ∷ rest
    pub has : HasX z y d flag b
    pub have : HaveX z y d rest ws

  parted : (y : RunOf z) (d : Context) (ss : List Source) (b : Value) (ws : List Value) → HaveX z y d ss (b ∷ ws) → Parted y d ss b ws
  parted y d [] b ws h = absurd h
  parted y d (s ∷ ss) b ws h = record { flag = s; rest = ss; is = refl; has = h.0; have = h.1 }

  next_many : (y : RunOf z) (t : ℕ) (b : Value) (us : List Value) → HaveX z y (here t) to.results (b ∷ (us ++ l.outer)) → length us ≡ nx
  next_many y t b us h =
      let long = have_length (flow z) z.inputs y.run y.state y.is_run (here t) to.results (b ∷ (us ++ l.outer)) h in
      let own = outputs_many in
      let append = length-append tl.sources (inputs_from nx no_) in
      let count = inputs_count nx no_ in
      let more = length-append us l.outer in
      let outers = l.outers in
      omega (arith, long, own, append, count, more, outers)

  -- the iterations from one on, and the values of the loop
  pub record Looped (y : RunOf z) (t : ℕ) (vs : List Value) (ss : Stores) : Type 0 where
    pub to : RunOf z
    pub on : OnX z y to
    pub adds : AddsX z y to (FromTurn t)
    pub closed : (u : ℕ) → t ≤ u → ClosesIn z.graph z.inputs z.well z.count to (here u)
    pub have : HaveX z to c (ports_from l.own 0 nx) vs
    pub changed : Changed (cells_of z y) (cells_of z to) ss

  first_ports : (y : RunOf z) (i n more : ℕ) (us ws : List Value) → length us ≡ n → HaveX z y c (ports_from l.own i (n + more)) (us ++ ws)
      → HaveX z y c (ports_from l.own i n) us
  first_ports y i zero more [] ws long h = tt
  first_ports y i zero more (u ∷ us) ws long h = absurd (omega (arith, long))
  first_ports y i (suc n) more [] ws long h = absurd (omega (arith, long))
  first_ports y i (suc n) more (u ∷ us) ws long h =
      let e : suc n + more ≡ suc (n + more) = omega arith in
      let k = subst (λ m. HaveX z y c (ports_from l.own i m) (u ∷ (us ++ ws))) e h in
      (k.0, first_ports y (i + 1) n more us ws (omega (arith, long)) k.1)

  -- THE LAST ITERATION: its values are those of the loop
  it_ends : (y : RunOf z) (t : ℕ) (b : Value) (us : List Value) (ss : Stores)
      → (r : Reaches z y (here t) 0 (node_count to) to.results (b ∷ (us ++ l.outer)) ss) → truth b ≡ false → Looped y t us ss
  it_ends y t b us ss r off =
      let p = parted r.to (here t) to.results b (us ++ l.outer) r.have in
      let many = next_many r.to t b us r.have in
      let outers = l.outers in
      let append = length-append us l.outer in
      let long = have_length (flow z) z.inputs r.to.run r.to.state r.to.is_run (here t) p.rest (us ++ l.outer) p.have in
      let leave = results_leave t p.flag b (subst (λ ss. slice_get ss 0 ≡ Some p.flag) (sym p.is) refl) off r.to 0 (nx + no_) p.rest (us ++ l.outer)
      (omega (arith, long, many, outers, append))
      (λ j s e. subst (λ ss. slice_get ss (suc (0 + j)) ≡ Some s) (sym p.is) (subst (λ i. slice_get p.rest i ≡ Some s) (omega arith) e))
      (omega (arith, long, many, outers, append)) p.has p.have in
      let v = leave.quietly.to in
      let some = l.some in let same = names_many in
      let happened : (i : ℕ) → i < to.inputs → (w : Value) × Contains v.run (Turns c l.own t (suc i) b w) =
      λ i low. (let w = get_some (us ++ l.outer) i (omega (arith, low, append, many, outers)) in
      (w.0, from_zero (λ i. Contains v.run (Turns c l.own t (suc i) b w.0)) i (leave.happened i w.0 w.1))) in
      let first = happened 0 (omega (arith, some, same)) in
      let here_closed = turn_closed t b r.to v leave.quietly.on r.does.closed happened in
      record {
        to = v;
        on = on_then z.graph z.inputs z.well z.count y r.to v r.on leave.quietly.on;
        adds = adds_more z.graph z.inputs z.well z.count y v (OfTurn t) (FromTurn t) (turn_adds t y r.to v r.does leave.adds) (λ a h. (t, omega arith, h));
        closed = λ u low. from_here t v here_closed (λ u less. none_later t b v off first.0 first.1 u less) u low (nat_lt t u) refl;
        have = first_ports v 0 nx no_ us l.outer many leave.have;
        changed = changed_same (cells_of z y) (cells_of z r.to) (cells_of z v) ss (sym leave.quietly.cells) r.changed;
      }
    where
      from_here : (t : ℕ) (v : RunOf z) → ClosesIn z.graph z.inputs z.well z.count v (here t)
          → ((u : ℕ) → t < u → ClosesIn z.graph z.inputs z.well z.count v (here u)) → (u : ℕ) → t ≤ u → (o : Bool) → nat_lt t u ≡ o
          → ClosesIn z.graph z.inputs z.well z.count v (here u)
      from_here t v now later u low true e = later u (ltb-true t u e)
      from_here t v now later u low false e =
          let high = ltb-false t u e in let same : t ≡ u = omega (arith, low, high) in
          subst (λ t. ClosesIn z.graph z.inputs z.well z.count v (here t)) same now

  -- ANOTHER ITERATION
  pub record Again (y : RunOf z) (t : ℕ) (b : Value) (us : List Value) : Type 0 where
    pub quietly : Quietly z y
    pub adds : AddsX z y quietly.to (TurnEnd t)
    pub happened : (i : ℕ) → i < to.inputs → (w : Value) × Contains quietly.to.run (Turns c l.own t (suc i) b w)
    pub begins : Begins quietly.to (t + 1) us

  it_goes_on : (y : RunOf z) (t : ℕ) (vs : List Value) (b : Value) (us : List Value) (ss : Stores) → Begins y t vs
      → (r : Reaches z y (here t) 0 (node_count to) to.results (b ∷ (us ++ l.outer)) ss) → truth b ≡ true → Again r.to t b us
  it_goes_on y t vs b us ss h r on =
      let p = parted r.to (here t) to.results b (us ++ l.outer) r.have in
      let many = next_many r.to t b us r.have in
      let long = have_length (flow z) z.inputs r.to.run r.to.state r.to.is_run (here t) p.rest (us ++ l.outer) p.have in
      let append = length-append us l.outer in
      let outers = l.outers in
      let at_flag : slice_get to.results 0 ≡ Some p.flag = subst (λ ss. slice_get ss 0 ≡ Some p.flag) (sym p.is) refl in
      let q = results_enter t p.flag b at_flag on r.to 0 p.rest (us ++ l.outer)
      (λ j s e. subst (λ ss. slice_get ss (suc (0 + j)) ≡ Some s) (sym p.is) (subst (λ i. slice_get p.rest i ≡ Some s) (omega arith) e))
      (omega (arith, long, append, outers, many)) p.has p.have in
      let w = q.arrives.quietly.to in
      let all = on_then z.graph z.inputs z.well z.count y r.to w r.on q.arrives.quietly.on in
      let some = l.some in let same = names_many in
      let came = flag_came z.graph z.inputs z.well z.count r.to c l.own t to 1 p.flag b (turn_is t) at_flag (omega arith) (omega (arith, some, same)) p.has in
      record {
        quietly = q.arrives.quietly;
        adds = q.adds;
        happened = λ i low. (let v = get_some (us ++ l.outer) i (omega (arith, low, append, many, outers)) in
            (v.0, from_zero (λ i. Contains w.run (Turns c l.own t (suc i) b v.0)) i (q.happened i v.0 v.1)));
        begins = record {
          due = due_on z.graph z.inputs z.well z.count y w all c h.due;
          region = arms_on z.graph z.inputs z.well z.count y w all c _ h.region;
          flags = λ j low. flag_of w all h.flags (1, b, q.arrives.quietly.on.came _ came, on) j low (nat_lt j t) refl;
          many = many;
          arrived = q.arrives.arrived;
        };
      }
    where
      flag_of : (w : RunOf z) → OnX z y w → ((j : ℕ) → j < t → HadTrueFlag (Stood (flow z) (start z.inputs) y.run y.state y.is_run) (here j))
          → HadTrueFlag (Stood (flow z) (start z.inputs) w.run w.state w.is_run) (here t) → (j : ℕ) → j < t + 1 → (o : Bool) → nat_lt j t ≡ o
          → HadTrueFlag (Stood (flow z) (start z.inputs) w.run w.state w.is_run) (here j)
      flag_of w all flags now j low true e = let f = flags j (ltb-true j t e) in (f.0, f.1, all.came _ f.2, f.3)
      flag_of w all flags now j low false e =
          let k = ltb-false j t e in let same : t ≡ j = omega (arith, low, k) in
          subst (λ j. HadTrueFlag (Stood (flow z) (start z.inputs) w.run w.state w.is_run) (here j)) same now

  -- WHAT IS SHOWN OF ITS ITERATIONS, from one on
  abbrev pub LoopReaches : List Value → List Value → Stores → List Touch → Type 0
  LoopReaches us rs qs ts = (y : RunOf z) (t : ℕ) → Begins y t us → ReadyX z y qs ts → Looped y t rs qs

  pub last_reached : (b : Value) (vs us : List Value) (ss : Stores) (ts : List Touch) → ((d : Context) → IterationReaches z d turn env vs b us ss ts)
      → truth b ≡ false → LoopReaches vs us ss ts
  last_reached b vs us ss ts means off y t h ready = it_ends y t b us ss (iterated y t vs b us ss ts h (means (here t)) ready) off

  pub more_reached : (b : Value) (vs us rs : List Value) (ss qs : Stores) (ts ks : List Touch) → ((d : Context) → IterationReaches z d turn env vs b us ss ts)
      → truth b ≡ true → FillsStored ts ss → LoopReaches us rs qs ks → LoopReaches vs rs (ss ++ qs) (ts ++ ks)
  more_reached b vs us rs ss qs ts ks means on stored later y t h ready =
      let r = iterated y t vs b us ss ts h (means (here t)) (ready_first z.memory (cells_of z y) ss qs ts ks ready) in
      let a = it_goes_on y t vs b us ss h r on in
      let w = a.quietly.to in
      let all = on_then z.graph z.inputs z.well z.count y r.to w r.on a.quietly.on in
      let changed : Changed (cells_of z y) (cells_of z w) ss = changed_same (cells_of z y) (cells_of z r.to) (cells_of z w) ss (sym a.quietly.cells) r.changed in
      let q = later w (t + 1) a.begins (ready_then z.memory (cells_of z y) (cells_of z w) ss qs ts ks ready all.cells changed stored) in
      let closed_now = closes_in_on z.graph z.inputs z.well z.count w q.to q.on (here t) (turn_closed t b r.to w a.quietly.on r.does.closed a.happened) in
      record {
        to = q.to;
        on = on_then z.graph z.inputs z.well z.count y w q.to all q.on;
        adds = adds_then z.graph z.inputs z.well z.count y w q.to (OfTurn t) (FromTurn (t + 1)) (FromTurn t) (turn_adds t y r.to w r.does a.adds) q.adds
            (λ a b p k. (let low = k.1 in precedes_turns a b c l.own t k.0 p.0 k.2.0 (omega (arith, low)))) (λ a p. (t, omega arith, p))
            (λ a k. (let low = k.1 in (k.0, omega (arith, low), k.2)));
        closed = λ u low. from_here q.to closed_now q.closed u low (nat_lt t u) refl;
        have = q.have;
        changed = changed_both (cells_of z y) (cells_of z w) (cells_of z q.to) ss qs q.on.cells changed q.changed;
      }
    where
      from_here : (v : RunOf z) → ClosesIn z.graph z.inputs z.well z.count v (here t)
          → ((u : ℕ) → t + 1 ≤ u → ClosesIn z.graph z.inputs z.well z.count v (here u)) → (u : ℕ) → t ≤ u → (o : Bool) → nat_lt t u ≡ o
          → ClosesIn z.graph z.inputs z.well z.count v (here u)
      from_here v now later u low true e = let less = ltb-true t u e in later u (omega (arith, less))
      from_here v now later u low false e =
          let high = ltb-false t u e in let same : t ≡ u = omega (arith, low, high) in
          subst (λ t. ClosesIn z.graph z.inputs z.well z.count v (here t)) same now

block_name_loop : (f : Name) (m : ℕ) → block_name f (m + 1) ≡ loop_name f (m + 1)
block_name_loop f m = let e : suc m ≡ m + 1 = omega arith in subst (λ k. block_name f k ≡ loop_name f k) e refl

count_some : (es : Exprs) → 0 < count es
count_some (One e) = omega arith
count_some (More e es) = omega arith

bound_many : (env : Env) (xs : List Name) (vs : List Value) → BoundTo env xs vs → length vs ≡ length xs
bound_many env [] [] h = refl
bound_many env [] (v ∷ vs) h = absurd h
bound_many env (x ∷ xs) [] h = absurd h
bound_many env (x ∷ xs) (v ∷ vs) h = ap suc (bound_many env xs vs h.1)

pub reaches_loop : {env : Env} {vs rs : List Value} {ss us : Stores} (z : Land) (c : Context) (at : ℕ) (bound : NumberAt) (firsts : Exprs) (turn : Turn)
    (d : EvaluatesAll (world_of z) env firsts vs ss) (g : eval.Turns (world_of z) env turn vs rs us) → ListReaches z c d
    → ((l : Looping z c turn env) → LoopReaches z c turn env l vs rs us (turn_touches g)) → ExprReaches z c (eval.loop {t = at} {k = bound} d g)
reaches_loop {env = env} {vs = vs} {rs = rs} {ss = qs} {us = us} z c at bound firsts turn d g means turns x site spot scope names n fits rule h known ready =
    let t : IsTurned z.program names bound firsts turn n = in_loop z.program names at bound firsts turn n rule in
    let f : Lowered = lower_list z.program site spot scope firsts in
    let k : ℕ = spot.loops + length f.blocks + 1 in
    let tl : Lowered = turn_lowered z.program site.function k at turn in
    let tb : MadeBlock = turn_made z.program site.function k at turn in
    let outs : List Name = outside_turn turn in
    let ss : List Source = f.sources ++ map (source_in scope) outs in
    let m1 : Made = made site at (node.Loop (loop_name site.function k) bound.number) ss in
    let m : Lowered = looped site spot scope at bound.number (loop_names turn) outs f tl in
    let tail : Lowered = record { nodes = m1 ∷ []; sources = []; blocks = tb ∷ tl.blocks } in
    let before : ActiveX z x c site spot f = first_in z x c site spot f m (m1 ∷ []) (tb ∷ tl.blocks) refl refl h in
    let last : ActiveX z x c site (spot_after spot f) tail = rest_in z x c site spot f tail m refl refl h in
    let values = firsts_list z.program names [] (names_of turn) firsts t.begun in
    let agree = agrees_split (flow z) z.inputs x.run x.state x.is_run c scope env (list_uses firsts) (turn_uses turn) known in
    let out = means x site spot scope names (count firsts) fits.1 values before agree.0
    (ready_first z.memory (cells_of z x) qs us (list_touches d) (turn_touches g) ready) in
    let y = out.to in
    let outer = known_values (flow z) z.inputs y.run y.state y.is_run c scope env outs (agrees_once (flow z) z.inputs y.run y.state y.is_run c scope env
    (turn_uses turn) (agrees_on z.graph z.inputs z.well z.count x y out.on c scope env (turn_uses turn) agree.1)) in
    let own : ℕ = spot.next + length f.nodes in
    let line : Node ℕ = resolved z.graph m1 in
    let eb = block_is z.program z.graph z.origin z.inputs x.run x.state x.is_run c site (spot_after spot f) tail last in
    let el = (own_line z.program z.graph z.origin z.inputs x.run x.state x.is_run c site (spot_after spot f) tail m1 [] refl last).0 in
    let with_commas : length f.sources ≡ count firsts = list_count z.program site spot scope firsts names (count firsts) values in
    let long = have_length (flow z) z.inputs y.run y.state y.is_run c f.sources vs out.have in
    let bare_many : length (loop_names turn) ≡ length (names_of turn) = length-map (names_of turn) (λ (x : NameAt). x.name) in
    let appended = length-append f.sources (map (source_in scope) outs) in
    let mapped = length-map outs (source_in scope) in
    let counted = fits.2 in
    let some = count_some firsts in
    let l : Looping z c turn env =
    record {
      own = own;
      line = line;
      block = last.block;
      number = last.number;
      is_block = last.is_block;
      its_block = eb;
      at_line = el;
      function = site.function;
      k = k;
      at = at;
      bound = bound.number;
      kind = ap (λ x. node.Loop (place_of x (block_names z.graph)) bound.number) (sym (block_name_loop site.function (spot.loops + length f.blocks)));
      placed = last.loops.0;
      inner = last.loops.1;
      outer = outer.0;
      many = omega (arith, with_commas, bare_many, appended, mapped, counted);
      outers = bound_many env outs outer.0 outer.1;
      bounds = outer.1;
      apart = firsts_apart z.program names [] (names_of turn) firsts t.begun fits.2;
      some = omega (arith, some, counted);
      names = loop_names turn ++ names;
      fits = fits.3;
      rule = ok_as (turn_values z.program (loop_names turn ++ names) turn) n (length (names_of turn)) t.turns t.names;
    } in
    let whole : HaveX z y c ss (vs ++ outer.0) = have_both (flow z) z.inputs y.run y.state y.is_run c f.sources (map (source_in scope) outs) vs outer.0 out.have
    outer.2 in
    let enter = operands_pass z c (Turned c own 0) last.block eb own line el (λ i v. refl) y 0 ss (vs ++ outer.0)
    (λ j s e. subst (λ i. slice_get ss i ≡ Some s) (omega arith) e) whole in
    let w = enter.arrives.quietly.to in
    let all = on_then z.graph z.inputs z.well z.count x y w out.on enter.arrives.quietly.on in
    let changed : Changed (cells_of z x) (cells_of z w) qs = changed_same (cells_of z x) (cells_of z y) (cells_of z w) qs (sym enter.arrives.quietly.cells)
    out.changed in
    let r = turns l w 0
    (record {
      due = due_on z.graph z.inputs z.well z.count x w all c last.due;
      region = arms_on z.graph z.inputs z.well z.count x w all c _ last.taken;
      flags = λ j low. absurd (omega (arith, low));
      many = omega (arith, long, with_commas, bare_many, counted);
      arrived = enter.arrives.arrived;
    })
    (ready_then z.memory (cells_of z x) (cells_of z w) qs us (list_touches d) (turn_touches g) ready all.cells changed (list_fills d)) in
    let ports : List Source = ports_from own 0 (length (loop_names turn)) in
    let inner : Reaches z y c own (own + 1) ports rs us =
    record {
      to = r.to;
      on = on_then z.graph z.inputs z.well z.count y w r.to enter.arrives.quietly.on r.on;
      does = record {
        adds = adds_then z.graph z.inputs z.well z.count y w r.to (AtNodeOf c own) (FromTurn z c turn env l 0) (λ a. Under c own (own + 1) (seat a)) enter.adds
            r.adds (λ a b p k. precedes_at c a b p.0 (under_in c own (own + 1) (seat b) k.2.1)) (λ a p. p.1) (λ a k. k.2.1);
        closed = closes_node z.graph z.inputs z.well z.count r.to c own
            (line_passed z.graph z.inputs z.well z.count r.to c last.block eb own line el tt
            (λ i s e. (let v = value_at z y c ss (vs ++ outer.0) i s whole e in
            (v.0, r.on.kept _ (from_zero (λ i. Contains w.run (Passes c own i v.0)) i (enter.happened i v.0 v.1))))))
            (not_called z.graph z.inputs z.well z.count r.to c own (λ k e h. no_call k (same_Some k line (sym e ∙ ap (λ o. node_in o own) eb ∙ el)) h))
            (λ t. r.closed t (omega arith));
      };
      have = r.have;
      changed = subst (λ old. Changed old (cells_of z r.to) us) enter.arrives.quietly.cells r.changed;
    } in
    second_part z x c spot.next f.nodes (m1 ∷ []) f.sources ports vs rs qs us out
    (reaches_to z y c own (own + 1) (own + length (m1 ∷ [])) ports rs us refl inner)
  where
    no_call : (k : Node ℕ) → k ≡ resolved z.graph (made site at (node.Loop (loop_name site.function
        (spot.loops + length (lower_list z.program site spot scope firsts).blocks + 1)) bound.number)
        ((lower_list z.program site spot scope firsts).sources ++ map (source_in scope) (outside_turn turn))) → IsCall k.kind → ⊥
    no_call k e h = subst (λ (k : Node ℕ). IsCall k.kind) e h
