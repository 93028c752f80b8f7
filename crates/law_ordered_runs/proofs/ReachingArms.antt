-- A conditional, where a run has reached its predicate: the arm that is chosen is reached, and its values are merged.
use Rattle.std.proofs.Common.{◌≡◌, ℕ, suc, ◌+◌, ◌≤◌, Bool, true, false, List, [], ◌∷◌, ◌++◌, length, map, Some, Ok, Contains, if◌then◌else◌, refl, sym, ap, ◌∙◌, subst}
use Rattle.std.proofs.Common.{arith, length-append}
use Rattle.std.specs.Prelude.{slice_get}
use Rattle.std.proofs.lemmas.List.{length-map}
use Rattle.std.proofs.lemmas.Option.{same_Some}
use Rattle.tags.specs.declared.value.Value.{Value}
use Rattle.operators.specs.Values.{truth}
use Rattle.semantics.specs.declared.graph.Region.TheVariants.{Arm}
use Rattle.semantics.specs.declared.graph.Source.{Source}
use Rattle.semantics.specs.declared.graph.Kind.TheVariants as node
use Rattle.semantics.specs.Graph.{Block, node_at, node_count}
use Rattle.semantics.specs.Meaning.{Context, Activity, Fires, Gates, Passes, Deed, Says, Sends, Steers, Nothing, Stood, ArmsTaken, arm_of}
use Rattle.semantics.specs.Meaning as Meaning
use Rattle.semantics.specs.Meaning.{arms_round, block_of, same_side, deed, start}
use Rattle.law_confluence.proofs.EquationsValuesSides.{one_more}
use Rattle.source.specs.Tree.{Name, Expr, Body}
use Rattle.source.specs.Fits.{FitsBody}
use Rattle.source.specs.Holds.{Holds}
use Rattle.source.specs.Outside.{outside_body, uses, body_uses}
use Rattle.source.specs.Rules.{body_values}
use Rattle.source.specs.Evaluates.{Env, Stores, Evaluates, Runs, if_true, if_false}
use Rattle.source.specs.Lowered.{Made, Lowered, Site, Spot, Scope, spot_after, next_spot, first_of, followed, made, source_in, or_predicate}
use Rattle.source.specs.Lowered.{entered_names, arm_site, arm_scope, arm, merges, chosen, inputs_from, port, lower, lower_body}
use Rattle.source.proofs.Kept.{in_if}
use Rattle.source.proofs.Counting.{body_count}
use Rattle.source.proofs.OutsideNames.{uses_once}
use Rattle.law_language.specs.MeansHolds.{resolved, AreTraced}
use Rattle.law_language.proofs.MeansNamesAgree.{Entered, agrees_split, agrees_once, agrees_arm}
use Rattle.law_language.proofs.MeansParts.{own_line, block_is}
use Rattle.law_language.proofs.MeansLeaves.{append_nothing}
use Rattle.law_language.proofs.MeansLies.{HoldsMade, made_split, body_lies}
use Rattle.law_language.proofs.MeansTurnNames.{known_values, entered_values}
use Rattle.law_ordered_runs.specs.InOrder.{Touch, touches, body_touches}
use Rattle.law_ordered_runs.proofs.Order.{seat, Under}
use Rattle.law_ordered_runs.proofs.Closing.{closes_quiet, line_gated}
use Rattle.law_ordered_runs.proofs.EntersPast.{body_past}
use Rattle.law_ordered_runs.proofs.Silent.{merge_closed, silent_lines}
use Rattle.law_ordered_runs.proofs.Doing.{own_called, adds_none, adds_one, does_none, does_then, does_before, does_to, fires_does}
use Rattle.law_ordered_runs.proofs.Extending.{Extended, on_same, on_then, said_gives, said_memory}
use Rattle.law_ordered_runs.proofs.Lines.{line_happens, operand_happens, enter_happens}
use Rattle.law_ordered_runs.proofs.Memory.{fills, fills_none, ready_first, ready_then, changed_none, changed_same}
use Rattle.law_ordered_runs.proofs.Staying.{due_on, has_on, have_on, agrees_on, active_on, arms_on}
use Rattle.law_ordered_runs.proofs.UsesSent.{operand_came}
use Rattle.law_ordered_runs.proofs.Reaching.{Land, RunOf, flow, world_of, cells_of, HasX, HaveX, KnownX, ActiveX, ReadyX, Reaches, ExprReaches, BodyReaches}
use Rattle.law_ordered_runs.proofs.Reaching.{OnX, DoesX, reaches_to, after_both, there_already, first_in, rest_in}
use Rattle.law_ordered_runs.proofs.ReachingParts.{both_reached, second_reached, second_part, one_source}

-- WHAT SAYS A VALUE, with no store
pub says_reached : (z : Land) (x : RunOf z) (c : Context) (a : Activity) (n : ℕ) (v : Value)
    (e : Extended z.graph z.inputs z.well z.count x a (Says (Sends c n 0 v))) → DoesX z x e.to c n (n + 1) → Reaches z x c n (n + 1) (port n 0 ∷ []) (v ∷ []) []
says_reached z x c a n v e does = record {
  to = e.to;
  on = e.on;
  does = does;
  have = (said_gives z.graph z.inputs z.well z.count x a c n 0 v e, tt);
  changed = changed_same (cells_of z x) (cells_of z x) (cells_of z e.to) []
      (sym (ap (λ (m : Meaning.Memory). m.cells) (said_memory z.graph z.inputs z.well z.count x a (Sends c n 0 v) e))) (changed_none (cells_of z x));
}

-- ENTERS of an arm that is chosen: each has the value of its source.
chosen_side : (b side : Bool) → b ≡ side → same_side b side ≡ true
chosen_side true true e = refl
chosen_side true false e = cc
chosen_side false true e = cc
chosen_side false false e = refl

-- nothing but that it shuts
pub record Shut (z : Land) (x : RunOf z) (c : Context) (lo hi : ℕ) : Type 0 where
  pub to : RunOf z
  pub on : OnX z x to
  pub does : DoesX z x to c lo hi
  pub cells : cells_of z to ≡ cells_of z x

module _ (z : Land) (c : Context) (b : Block ℕ) (eb : block_of (flow z) c ≡ Some b) (here : Site) (cond : ℕ) (side : Bool) (at : ℕ) (w : Value)
    (in_arm : here.region ≡ Arm cond side) where
  abbrev pub Steered : RunOf z → Type 0
  Steered x = Contains x.run (Fires c cond (w ∷ [])) × (deed (flow z) (Fires c cond (w ∷ [])) ≡ Some (Says (Steers c cond w)))

  gate_happens : (x : RunOf z) → Steered x → (n : ℕ) (s : Source) (v : Value) → node_at b n ≡ Some (resolved z.graph (made here at node.Enter (s ∷ [])))
      → HasX z x c s v
      → Extended z.graph z.inputs z.well z.count x (Gates c n v w) (Says (if same_side (truth w) side then Sends c n 0 v else Nothing))
  gate_happens x steered n s v el h =
      enter_happens z.graph z.inputs z.well z.count x c b eb n (resolved z.graph (made here at node.Enter (s ∷ []))) el cond side s v w in_arm refl
      refl h (Fires c cond (w ∷ [])) steered.0 steered.1

  gate_does : (x : RunOf z) (n : ℕ) (s : Source) (v : Value) → node_at b n ≡ Some (resolved z.graph (made here at node.Enter (s ∷ []))) → (d : Deed)
      (e : Extended z.graph z.inputs z.well z.count x (Gates c n v w) d) → DoesX z x e.to c n (n + 1)
  gate_does x n s v el d e = record {
    adds = adds_one z.graph z.inputs z.well z.count x (Gates c n v w) d (λ a. Under c n (n + 1) (seat a)) e (own_called c n);
    closed = closes_quiet z.graph z.inputs z.well z.count e.to c b eb n (resolved z.graph (made here at node.Enter (s ∷ []))) el (λ h. h) (λ h. h)
        (line_gated z.graph z.inputs z.well z.count e.to c b eb n (resolved z.graph (made here at node.Enter (s ∷ []))) el refl v w e.happened);
  }

  -- in the arm that is not chosen
  pub enters_shut : (x : RunOf z) → Steered x → (n : ℕ) (ss : List Source) (vs : List Value)
      → HoldsMade z.program z.graph b n (map (λ (s : Source). made here at node.Enter (s ∷ [])) ss) → HaveX z x c ss vs → Shut z x c n (n + length ss)
  enters_shut x steered n [] [] lines h = record {
    to = x;
    on = on_same z.graph z.inputs z.well z.count x;
    does = does_to z.graph z.inputs z.well z.count x x c n n (n + 0) (omega arith) (does_none z.graph z.inputs z.well z.count x c n);
    cells = refl;
  }
  enters_shut x steered n [] (v ∷ vs) lines h = absurd h
  enters_shut x steered n (s ∷ ss) [] lines h = absurd h
  enters_shut x steered n (s ∷ ss) (v ∷ vs) lines h =
      let e = gate_happens x steered n s v lines.0 h.0 in
      let says : Meaning.Message = (if same_side (truth w) side then Sends c n 0 v else Nothing) in
      let q = enters_shut e.to (e.on.kept _ steered.0, steered.1) (n + 1) ss vs lines.1 (have_on z.graph z.inputs z.well z.count x e.to e.on c ss vs h.1) in
      record {
        to = q.to;
        on = on_then z.graph z.inputs z.well z.count x e.to q.to e.on q.on;
        does = does_to z.graph z.inputs z.well z.count x q.to c n (n + 1 + length ss) (n + length (s ∷ ss)) (omega arith)
            (does_then z.graph z.inputs z.well z.count x e.to q.to c n (n + 1) (n + 1 + length ss) (omega arith) (omega arith) q.on
            (gate_does x n s v lines.0 (Says says) e) q.does);
        cells = q.cells ∙ ap (λ (m : Meaning.Memory). m.cells) (said_memory z.graph z.inputs z.well z.count x (Gates c n v w) says e);
      }

module _ (z : Land) (c : Context) (b : Block ℕ) (eb : block_of (flow z) c ≡ Some b) (here : Site) (cond : ℕ) (side : Bool) (at : ℕ) (w : Value)
    (in_arm : here.region ≡ Arm cond side) (chooses : truth w ≡ side) where
  enter_reached : (x : RunOf z) → Steered z c b eb here cond side at w in_arm x → (n : ℕ) (s : Source) (v : Value)
      → node_at b n ≡ Some (resolved z.graph (made here at node.Enter (s ∷ []))) → HasX z x c s v → Reaches z x c n (n + 1) (port n 0 ∷ []) (v ∷ []) []
  enter_reached x steered n s v el h =
      let happens = gate_happens z c b eb here cond side at w in_arm x steered n s v el h in
      let says : Extended z.graph z.inputs z.well z.count x (Gates c n v w) (Says (Sends c n 0 v)) =
      subst (λ (t : Bool). Extended z.graph z.inputs z.well z.count x (Gates c n v w) (Says (if t then Sends c n 0 v else Nothing)))
      (chosen_side (truth w) side chooses) happens in
      says_reached z x c (Gates c n v w) n v says (gate_does z c b eb here cond side at w in_arm x n s v el (Says (Sends c n 0 v)) says)

  pub enters_reached : (x : RunOf z) → Steered z c b eb here cond side at w in_arm x → (n : ℕ) (ss : List Source) (vs : List Value)
      → HoldsMade z.program z.graph b n (map (λ (s : Source). made here at node.Enter (s ∷ [])) ss) → HaveX z x c ss vs
      → Reaches z x c n (n + length ss) (inputs_from n (length ss)) vs []
  enters_reached x steered n [] [] lines h = reaches_to z x c n n (n + 0) [] [] [] (omega arith) (there_already z x c n [] [] tt)
  enters_reached x steered n [] (v ∷ vs) lines h = absurd h
  enters_reached x steered n (s ∷ ss) [] lines h = absurd h
  enters_reached x steered n (s ∷ ss) (v ∷ vs) lines h =
      let r = enter_reached x steered n s v lines.0 h.0 in
      let q = enters_reached r.to (r.on.kept _ steered.0, steered.1) (n + 1) ss vs lines.1 (have_on z.graph z.inputs z.well z.count x r.to r.on c ss vs h.1) in
      reaches_to z x c n (n + 1 + length ss) (n + length (s ∷ ss)) (port n 0 ∷ inputs_from (n + 1) (length ss)) (v ∷ vs) [] (omega arith)
      (both_reached z x c n (n + 1) (n + 1 + length ss) (omega arith) (omega arith) (port n 0 ∷ []) (inputs_from (n + 1) (length ss)) (v ∷ []) vs [] [] r q)

-- MERGES of values that came by one of the two ports, which the conditional has chosen
module _ (z : Land) (c : Context) (b : Block ℕ) (eb : block_of (flow z) c ≡ Some b) (site : Site) (cond at : ℕ) (w : Value) where
  abbrev Chose : RunOf z → Type 0
  Chose x = Contains x.run (Fires c cond (w ∷ []))

  merge_reached : (on_side : Bool) → truth w ≡ on_side → (x : RunOf z) → Chose x → (n i : ℕ) → i ≡ (if on_side then 0 else 1) → (s t u : Source) (v : Value)
      → node_at b n ≡ Some (resolved z.graph (made site at (node.Merge cond) (s ∷ t ∷ [])))
      → slice_get (s ∷ t ∷ []) i ≡ Some u → HasX z x c u v → Reaches z x c n (n + 1) (port n 0 ∷ []) (v ∷ []) []
  merge_reached on_side chooses x chose n i at_side s t u v el eu h =
      let line = resolved z.graph (made site at (node.Merge cond) (s ∷ t ∷ [])) in
      let e = operand_happens z.graph z.inputs z.well z.count x c b eb n line el i u v (Says (Sends c n 0 v)) eu h refl tt in
      says_reached z x c (Passes c n i v) n v e
      (record {
        adds = adds_one z.graph z.inputs z.well z.count x (Passes c n i v) (Says (Sends c n 0 v)) (λ a. Under c n (n + 1) (seat a)) e (own_called c n);
        closed = closes_quiet z.graph z.inputs z.well z.count e.to c b eb n line el (λ h. h) (λ h. h)
            (merge_closed z.graph z.inputs z.well z.count c b eb e.to cond w (e.on.kept _ chose) n line el refl on_side chooses i at_side v e.happened);
      })

  more_merged : (x : RunOf z) (n k : ℕ) (v : Value) (vs : List Value) (r : Reaches z x c n (n + 1) (port n 0 ∷ []) (v ∷ []) [])
      → Reaches z r.to c (n + 1) (n + 1 + k) (inputs_from (n + 1) k) vs [] → Reaches z x c n (n + suc k) (inputs_from n (suc k)) (v ∷ vs) []
  more_merged x n k v vs r q =
      reaches_to z x c n (n + 1 + k) (n + suc k) (inputs_from n (suc k)) (v ∷ vs) [] (omega arith)
      (both_reached z x c n (n + 1) (n + 1 + k) (omega arith) (omega arith) (port n 0 ∷ []) (inputs_from (n + 1) k) (v ∷ []) vs [] [] r q)

  none_merged : (x : RunOf z) (n : ℕ) → Reaches z x c n (n + 0) (inputs_from n 0) [] []
  none_merged x n = reaches_to z x c n n (n + 0) [] [] [] (omega arith) (there_already z x c n [] [] tt)

  pub left_merged : truth w ≡ true → (x : RunOf z) → Chose x → (n : ℕ) (ls rs : List Source) (vs : List Value) → length ls ≡ length rs → HaveX z x c ls vs
      → HoldsMade z.program z.graph b n (merges site at cond ls rs)
      → Reaches z x c n (n + length (merges site at cond ls rs)) (inputs_from n (length (merges site at cond ls rs))) vs []
  left_merged t x chose n [] [] [] e h lines = none_merged x n
  left_merged t x chose n [] [] (v ∷ vs) e h lines = absurd h
  left_merged t x chose n [] (r ∷ rs) vs e h lines = absurd (omega (arith, e))
  left_merged t x chose n (l ∷ ls) [] vs e h lines = absurd (omega (arith, e))
  left_merged t x chose n (l ∷ ls) (r ∷ rs) [] e h lines = absurd h
  left_merged t x chose n (l ∷ ls) (r ∷ rs) (v ∷ vs) e h lines =
      let p = merge_reached true t x chose n 0 refl l r l v lines.0 refl h.0 in
      let q = left_merged t p.to (p.on.kept _ chose) (n + 1) ls rs vs (omega (arith, e)) (have_on z.graph z.inputs z.well z.count x p.to p.on c ls vs h.1) lines.1 in
      more_merged x n (length (merges site at cond ls rs)) v vs p q

  pub right_merged : truth w ≡ false → (x : RunOf z) → Chose x → (n : ℕ) (ls rs : List Source) (vs : List Value) → length ls ≡ length rs → HaveX z x c rs vs
      → HoldsMade z.program z.graph b n (merges site at cond ls rs)
      → Reaches z x c n (n + length (merges site at cond ls rs)) (inputs_from n (length (merges site at cond ls rs))) vs []
  right_merged t x chose n [] [] [] e h lines = none_merged x n
  right_merged t x chose n [] [] (v ∷ vs) e h lines = absurd h
  right_merged t x chose n [] (r ∷ rs) vs e h lines = absurd (omega (arith, e))
  right_merged t x chose n (l ∷ ls) [] vs e h lines = absurd (omega (arith, e))
  right_merged t x chose n (l ∷ ls) (r ∷ rs) [] e h lines = absurd h
  right_merged t x chose n (l ∷ ls) (r ∷ rs) (v ∷ vs) e h lines =
      let p = merge_reached false t x chose n 1 refl l r r v lines.0 refl h.0 in
      let q = right_merged t p.to (p.on.kept _ chose) (n + 1) ls rs vs (omega (arith, e)) (have_on z.graph z.inputs z.well z.count x p.to p.on c rs vs h.1) lines.1 in
      more_merged x n (length (merges site at cond ls rs)) v vs p q

-- AN ARM that is chosen, whose region is taken
module _ (z : Land) (c : Context) (site : Site) (cond : ℕ) (side : Bool) (spot : Spot) (at : ℕ) (scope : Scope) (predicate : Source) (body : Body) where
  abbrev pub an_arm : Lowered
  an_arm = arm site cond side spot at scope predicate (outside_body body) (λ here inner names. lower_body z.program here inner names body)

  abbrev here : Site
  here = arm_site site cond side spot

  abbrev l : Lowered
  l = entered_names here spot at scope predicate (outside_body body)

  abbrev inside : Lowered
  inside = lower_body z.program here (spot_after spot l) (arm_scope l (outside_body body)) body

  abbrev enters_of : List Name → List Source
  enters_of xs = or_predicate predicate (map (source_in scope) xs)

  -- the values of its enters
  record Entering (x : RunOf z) (env : Env) (xs : List Name) : Type 0 where
    pub vs : List Value
    pub have : HaveX z x c (enters_of xs) vs
    pub entered : (y : RunOf z) → HaveX z y c (inputs_from spot.next (length (enters_of xs))) vs
        → Entered (flow z) z.inputs y.run y.state y.is_run c env xs (inputs_from spot.next (length (enters_of xs)))
    pub first : (y : RunOf z) → HaveX z y c (inputs_from spot.next (length (enters_of xs))) vs → (v : Value) × HasX z y c (port spot.next 0) v

  entering : (x : RunOf z) (env : Env) (w : Value) (xs : List Name) → HasX z x c predicate w → KnownX z x c scope env xs → Entering x env xs
  entering x env w [] has known = record { vs = w ∷ []; have = (has, tt); entered = λ y h. tt; first = λ y h. (w, h.0) }
  entering x env w (a ∷ xs) has known =
      let k = known_values (flow z) z.inputs x.run x.state x.is_run c scope env (a ∷ xs) known in
      record {
        vs = k.0;
        have = k.2;
        entered = λ y h. entered_values (flow z) z.inputs y.run y.state y.is_run c env (a ∷ xs) (inputs_from spot.next (length (enters_of (a ∷ xs)))) k.0 k.1 h;
        first = λ y h. first_value y k.0 h;
      }
    where
      first_value : (y : RunOf z) (vs : List Value) → HaveX z y c (inputs_from spot.next (length (enters_of (a ∷ xs)))) vs
          → (v : Value) × HasX z y c (port spot.next 0) v
      first_value y [] h = absurd h
      first_value y (v ∷ vs) h = (v, h.0)

  enters_many : spot.next + length (enters_of (outside_body body)) ≡ spot.next + length l.nodes
  enters_many =
      let n = length-map (enters_of (outside_body body)) (λ (s : Source). made here at node.Enter (s ∷ [])) in omega (arith, n)

  -- WHERE IT IS NOT CHOSEN its enters shut, and nothing happens in its body.
  pub arm_shut : (env : Env) (w : Value) → (truth w ≡ side → ⊥) → cond + 1 ≤ spot.next → (x : RunOf z) (b : Block ℕ) → block_of (flow z) c ≡ Some b
      → HoldsMade z.program z.graph b spot.next an_arm.nodes
      → Contains x.run (Fires c cond (w ∷ [])) → deed (flow z) (Fires c cond (w ∷ [])) ≡ Some (Says (Steers c cond w))
      → HasX z x c predicate w → KnownX z x c scope env (body_uses body) → Shut z x c spot.next (spot.next + length an_arm.nodes)
  arm_shut env w other low x b eb holds happened is_deed has known =
      let lines = made_split z.program z.graph b spot.next l.nodes inside.nodes holds in
      let outer = agrees_once (flow z) z.inputs x.run x.state x.is_run c scope env (body_uses body) known in
      let e = entering x env w (outside_body body) has outer in
      let r = enters_shut z c b eb here cond side at w refl x (happened, is_deed) spot.next (enters_of (outside_body body)) e.vs lines.0 e.have in
      let mid : ℕ = spot.next + length l.nodes in
      let rest : DoesX z r.to r.to c mid (mid + length inside.nodes) =
      record {
        adds = adds_none z.graph z.inputs z.well z.count r.to (λ a. Under c mid (mid + length inside.nodes) (seat a));
        closed = silent_lines z.graph z.inputs z.well z.count z.program c b eb r.to cond w (r.on.kept _ happened) side other mid inside.nodes lines.1
            (body_lies z.program z.graph b here (spot_after spot l) (arm_scope l (outside_body body)) body lines.1)
            (body_past z.program (cond + 1) here (spot_after spot l) (arm_scope l (outside_body body)) body (omega (arith, low)));
      } in
      record {
        to = r.to;
        on = r.on;
        does = does_to z.graph z.inputs z.well z.count x r.to c spot.next (mid + length inside.nodes) (spot.next + length an_arm.nodes)
            (after_both spot.next l.nodes inside.nodes)
            (does_then z.graph z.inputs z.well z.count x r.to r.to c spot.next mid (mid + length inside.nodes) (omega arith) (omega arith)
            (on_same z.graph z.inputs z.well z.count r.to)
            (does_to z.graph z.inputs z.well z.count x r.to c spot.next (spot.next + length (enters_of (outside_body body))) mid enters_many r.does) rest);
        cells = r.cells;
      }

  pub arm_reached : {env : Env} {vs : List Value} {ss : Stores} (w : Value) (names : List Name) (n : ℕ) (behind_else : Bool) → FitsBody behind_else body
      → body_values z.program names body ≡ Ok n
      → (g : Runs (world_of z) env body vs ss) → BodyReaches z c g → truth w ≡ side
      → (x : RunOf z) (h : ActiveX z x c site spot an_arm)
      → ArmsTaken (Stood (flow z) (start z.inputs) x.run x.state x.is_run) c (arms_round (node_count h.block) h.block (Arm cond side))
      → Contains x.run (Fires c cond (w ∷ [])) → deed (flow z) (Fires c cond (w ∷ [])) ≡ Some (Says (Steers c cond w))
      → HasX z x c predicate w → KnownX z x c scope env (body_uses body) → ReadyX z x ss (body_touches g)
      → Reaches z x c spot.next (spot.next + length an_arm.nodes) an_arm.sources vs ss
  arm_reached {env = env} {vs = vs} {ss = ss} w names n behind_else fits rule g means chooses x h region happened is_deed has known ready =
      let eb = block_is z.program z.graph z.origin z.inputs x.run x.state x.is_run c site spot an_arm h in
      let lines = (made_split z.program z.graph h.block spot.next l.nodes inside.nodes h.lines).0 in
      let outer = agrees_once (flow z) z.inputs x.run x.state x.is_run c scope env (body_uses body) known in
      let e = entering x env w (outside_body body) has outer in
      let r = reaches_to z x c spot.next (spot.next + length (enters_of (outside_body body))) (spot.next + length l.nodes)
      (inputs_from spot.next (length (enters_of (outside_body body)))) e.vs [] enters_many
      (enters_reached z c h.block eb here cond side at w refl chooses x (happened, is_deed) spot.next (enters_of (outside_body body)) e.vs lines e.have) in
      let first = e.first r.to r.have in
      let all : ActiveX z r.to c here spot an_arm =
      record {
        number = h.number;
        block = h.block;
        is_number = h.is_number;
        is_block = h.is_block;
        due = due_on z.graph z.inputs z.well z.count x r.to r.on c h.due;
        taken = arms_on z.graph z.inputs z.well z.count x r.to r.on c _ region;
        trigger = first.0;
        triggered = first.1;
        lines = h.lines;
        traced = h.traced;
        loops = h.loops;
      } in
      let stands : ActiveX z r.to c here (spot_after spot l) inside = rest_in z r.to c here spot l inside an_arm refl refl all in
      let knows = agrees_arm (flow z) z.inputs r.to.run r.to.state r.to.is_run c env (outside_body body) l.sources [] (e.entered r.to r.have) (body_uses body)
      (uses_once (body_uses body)) in
      let q = means r.to here (spot_after spot l) (arm_scope l (outside_body body)) names n behind_else fits rule stands knows
      (ready_then z.memory (cells_of z x) (cells_of z r.to) [] ss [] (body_touches g) ready r.on.cells r.changed (fills_none [])) in
      second_part z x c spot.next l.nodes inside.nodes l.sources inside.sources e.vs vs [] ss r q

-- THE CONDITIONAL of a predicate with value v
module _ (z : Land) (x : RunOf z) (c : Context) (site : Site) (k : Spot) (at : ℕ) (ps : List Source) (a b : Lowered) (s : Source) (v : Value)
    (only : ps ≡ s ∷ []) (has : HasX z x c s v) (h : ActiveX z x c site k (chosen site k at ps a b)) where
  abbrev ms : List Made
  ms = merges site at k.next a.sources b.sources

  abbrev cond : Made
  cond = made site at node.Cond ps

  abbrev Lines : ℕ → List Made → Type 0
  Lines n ns = HoldsMade z.program z.graph h.block n ns

  is_block : block_of (flow z) c ≡ Some h.block
  is_block = block_is z.program z.graph z.origin z.inputs x.run x.state x.is_run c site k (chosen site k at ps a b) h

  el : node_at h.block k.next ≡ Some (resolved z.graph cond)
  el = (own_line z.program z.graph z.origin z.inputs x.run x.state x.is_run c site k (chosen site k at ps a b) cond (a.nodes ++ b.nodes ++ ms) refl h).0

  pub steers : Extended z.graph z.inputs z.well z.count x (Fires c k.next (v ∷ [])) (Says (Steers c k.next v))
  steers =
      line_happens z.graph z.inputs z.well z.count x c h.block is_block k.next (resolved z.graph cond) el (v ∷ []) (Says (Steers c k.next v))
      (subst (λ ss. HaveX z x c ss (v ∷ [])) (sym only) (has, tt)) refl tt

  abbrev pub after : RunOf z
  after = steers.to

  -- the region of the arm that it chooses, in whatever has the block
  pub opens : (side : Bool) → truth v ≡ side → (to : Site) (spot : Spot) (l : Lowered) (there : ActiveX z after c to spot l)
      → ArmsTaken (Stood (flow z) (start z.inputs) after.run after.state after.is_run) c (arms_round (node_count there.block) there.block (Arm k.next side))
  opens side e to spot l there =
      let its = block_is z.program z.graph z.origin z.inputs after.run after.state after.is_run c to spot l there in
      let same : h.block ≡ there.block = same_Some h.block there.block (sym is_block ∙ its) in
      let came = operand_came z.graph z.inputs z.well z.count after c h.block k.next 0 (resolved z.graph cond) s v is_block el (ap (λ ss. slice_get ss 0) only)
      (has_on z.graph z.inputs z.well z.count x after steers.on c s v has) in
      subst (λ b. ArmsTaken (Stood (flow z) (start z.inputs) after.run after.state after.is_run) c (arms_round (node_count b) b (Arm k.next side))) same
      (one_more (Stood (flow z) (start z.inputs) after.run after.state after.is_run) c h.block (node_count h.block) k.next side v came e
      (subst (λ r. ArmsTaken (Stood (flow z) (start z.inputs) after.run after.state after.is_run) c (arms_round (node_count h.block) h.block r))
      (sym (ap arm_of el)) (arms_on z.graph z.inputs z.well z.count x after steers.on c _ h.taken)))

  -- PARTS
  abbrev rest : Lowered
  rest = record { nodes = a.nodes ++ b.nodes ++ ms; sources = []; blocks = a.blocks ++ b.blocks }

  abbrev both : Lowered
  both = record { nodes = a.nodes ++ b.nodes; sources = []; blocks = a.blocks ++ b.blocks }

  rest_stands : ActiveX z x c site (next_spot k) rest
  rest_stands =
      let head : Lowered = record { nodes = cond ∷ []; sources = []; blocks = [] } in
      at_spot (rest_in z x c site k head rest (chosen site k at ps a b) refl refl h)
    where
      at_spot : ActiveX z x c site (spot_after k (record { nodes = cond ∷ []; sources = []; blocks = [] })) rest → ActiveX z x c site (next_spot k) rest
      at_spot i = record {
        number = i.number;
        block = i.block;
        is_number = i.is_number;
        is_block = i.is_block;
        due = i.due;
        taken = i.taken;
        trigger = i.trigger;
        triggered = i.triggered;
        lines = subst (λ n. Holds i.block n (map (resolved z.graph) rest.nodes)) (omega arith) i.lines;
        traced = subst (λ n. AreTraced z.origin i.number n rest.nodes) (omega arith) i.traced;
        loops = i.loops;
      }

  both_stand : ActiveX z x c site (next_spot k) both
  both_stand = first_in z x c site (next_spot k) both rest ms [] refl (sym (append_nothing both.blocks)) rest_stands

  pub left_stands : ActiveX z after c site (next_spot k) a
  left_stands = active_on z.graph z.inputs z.well z.count x after steers.on z.program z.origin c site (next_spot k) a
      (first_in z x c site (next_spot k) a both b.nodes b.blocks refl refl both_stand)

  pub right_stands : ActiveX z after c site (spot_after (next_spot k) a) b
  right_stands = active_on z.graph z.inputs z.well z.count x after steers.on z.program z.origin c site (spot_after (next_spot k) a) b
      (rest_in z x c site (next_spot k) a b both refl refl both_stand)

  both_lines : Lines (k.next + 1) both.nodes × Lines (k.next + 1 + length both.nodes) ms
  both_lines = made_split z.program z.graph h.block (k.next + 1) both.nodes ms h.lines.1

  sources_at : k.next + 1 + length both.nodes ≡ k.next + 1 + length a.nodes + length b.nodes
  sources_at = let n = length-append a.nodes b.nodes in omega (arith, n)

  abbrev mid : ℕ
  mid = k.next + 1 + length both.nodes

  steers_does : DoesX z x after c k.next (k.next + 1)
  steers_does = fires_does z.graph z.inputs z.well z.count x c h.block is_block k.next (resolved z.graph cond) el tt (v ∷ []) (Says (Steers c k.next v)) steers

  chosen_ends : mid + length ms ≡ k.next + length (chosen site k at ps a b).nodes
  chosen_ends = let n = length-append both.nodes ms in omega (arith, n)

  -- what the arm has is merged
  merged : (vs : List Value) (ss : Stores) (sources : List Source) (r : Reaches z after c (k.next + 1) mid sources vs ss)
      → Reaches z r.to c mid (mid + length ms) (inputs_from mid (length ms)) vs []
      → Reaches z x c k.next (k.next + length (chosen site k at ps a b).nodes) (chosen site k at ps a b).sources vs ss
  merged vs ss sources r q =
      let first : Reaches z x c k.next (k.next + 1) [] [] [] =
      record {
        to = after;
        on = steers.on;
        does = steers_does;
        have = tt;
        changed = changed_same (cells_of z x) (cells_of z x) (cells_of z after) []
            (sym (ap (λ (m : Meaning.Memory). m.cells) (said_memory z.graph z.inputs z.well z.count x (Fires c k.next (v ∷ [])) (Steers c k.next v) steers)))
            (changed_none (cells_of z x));
      } in
      reaches_to z x c k.next (mid + length ms) (k.next + length (chosen site k at ps a b).nodes) (chosen site k at ps a b).sources vs ss chosen_ends
      (subst (λ n. Reaches z x c k.next (mid + length ms) (inputs_from n (length ms)) vs ss) sources_at
      (subst (λ ss. Reaches z x c k.next (mid + length ms) (inputs_from mid (length ms)) vs ss) (append_nothing ss)
      (second_reached z x c k.next (k.next + 1) (mid + length ms) (omega arith) (omega arith) [] (inputs_from mid (length ms)) [] vs [] (ss ++ []) first
      (second_reached z after c (k.next + 1) mid (mid + length ms) (omega arith) (omega arith) sources (inputs_from mid (length ms)) vs vs ss [] r q))))

  abbrev next : ℕ
  next = k.next + 1

  abbrev middle : ℕ
  middle = k.next + 1 + length a.nodes

  pub left_reached : truth v ≡ true → (vs : List Value) (ss : Stores) → length a.sources ≡ length b.sources
      → (r : Reaches z after c next (next + length a.nodes) a.sources vs ss) → Shut z r.to c middle (middle + length b.nodes)
      → Reaches z x c k.next (k.next + length (chosen site k at ps a b).nodes) (chosen site k at ps a b).sources vs ss
  left_reached t vs ss same r shut =
      let on = on_then z.graph z.inputs z.well z.count after r.to shut.to r.on shut.on in
      let all : Reaches z after c next mid a.sources vs ss =
      record {
        to = shut.to;
        on = on;
        does = does_to z.graph z.inputs z.well z.count after shut.to c next (middle + length b.nodes) mid (after_both next a.nodes b.nodes)
            (does_then z.graph z.inputs z.well z.count after r.to shut.to c next middle (middle + length b.nodes) (omega arith) (omega arith) shut.on r.does shut.does);
        have = have_on z.graph z.inputs z.well z.count r.to shut.to shut.on c a.sources vs r.have;
        changed = changed_same (cells_of z after) (cells_of z r.to) (cells_of z shut.to) ss (sym shut.cells) r.changed;
      } in
      merged vs ss a.sources all
      (left_merged z c h.block is_block site k.next at v t shut.to (on.kept _ steers.happened) mid a.sources b.sources vs same all.have both_lines.1)

  pub right_reached : truth v ≡ false → (vs : List Value) (ss : Stores) → length a.sources ≡ length b.sources
      → (r : Reaches z after c middle (middle + length b.nodes) b.sources vs ss) → Shut z r.to c next (next + length a.nodes)
      → Reaches z x c k.next (k.next + length (chosen site k at ps a b).nodes) (chosen site k at ps a b).sources vs ss
  right_reached t vs ss same r shut =
      let on = on_then z.graph z.inputs z.well z.count after r.to shut.to r.on shut.on in
      let all : Reaches z after c next mid b.sources vs ss =
      record {
        to = shut.to;
        on = on;
        does = does_to z.graph z.inputs z.well z.count after shut.to c next (middle + length b.nodes) mid (after_both next a.nodes b.nodes)
            (does_before z.graph z.inputs z.well z.count after r.to shut.to c next middle (middle + length b.nodes) (omega arith) (omega arith) shut.on r.does shut.does);
        have = have_on z.graph z.inputs z.well z.count r.to shut.to shut.on c b.sources vs r.have;
        changed = changed_same (cells_of z after) (cells_of z r.to) (cells_of z shut.to) ss (sym shut.cells) r.changed;
      } in
      merged vs ss b.sources all
      (right_merged z c h.block is_block site k.next at v t shut.to (on.kept _ steers.happened) mid a.sources b.sources vs same all.have both_lines.1)

  -- WHERE BOTH ARE: the block, and the lines of both arms
  pub its_block : block_of (flow z) c ≡ Some h.block
  its_block = is_block

  pub left_lines : Lines next a.nodes
  left_lines = (made_split z.program z.graph h.block next a.nodes b.nodes both_lines.0).0

  pub right_lines : Lines middle b.nodes
  right_lines = (made_split z.program z.graph h.block next a.nodes b.nodes both_lines.0).1

  -- the memory is as before, and so is what is ready
  pub ready_after : (ss : Stores) (ts : List Touch) → ReadyX z x ss ts → ReadyX z after ss ts
  ready_after ss ts ready =
      ready_then z.memory (cells_of z x) (cells_of z after) [] ss [] ts ready steers.on.cells
      (changed_same (cells_of z x) (cells_of z x) (cells_of z after) []
      (sym (ap (λ (m : Meaning.Memory). m.cells) (said_memory z.graph z.inputs z.well z.count x (Fires c k.next (v ∷ [])) (Steers c k.next v) steers)))
      (changed_none (cells_of z x))) (fills_none [])

-- both arms have as many values
module _ (z : Land) (c : Context) (at : ℕ) (l r : Body) (site : Site) (k : Spot) (scope : Scope) (ps : List Source) where
  abbrev pub yes_arm : Lowered
  yes_arm = an_arm z c site k.next true (next_spot k) at scope (first_of ps) l

  abbrev pub no_arm : Lowered
  no_arm = an_arm z c site k.next false (spot_after (next_spot k) yes_arm) at scope (first_of ps) r

  pub arms_alike : (names : List Name) (n : ℕ) → body_values z.program names l ≡ Ok n → body_values z.program names r ≡ Ok n
      → length yes_arm.sources ≡ length no_arm.sources
  arms_alike names n rule_l rule_r =
      let yes = arm_site site k.next true (next_spot k) in
      let e = entered_names yes (next_spot k) at scope (first_of ps) (outside_body l) in
      let spot = spot_after (next_spot k) yes_arm in
      let no_ = arm_site site k.next false spot in
      let f = entered_names no_ spot at scope (first_of ps) (outside_body r) in
      body_count z.program yes (spot_after (next_spot k) e) (arm_scope e (outside_body l)) l names n rule_l
      ∙ sym (body_count z.program no_ (spot_after spot f) (arm_scope f (outside_body r)) r names n rule_r)

first_is : (ps : List Source) (s : Source) → ps ≡ s ∷ [] → first_of ps ≡ s
first_is ps s e = ap first_of e

module _ (z : Land) (c : Context) (at : ℕ) (q : Expr) (l r : Body) where
  pub reaches_if_true : {env : Env} {b : Value} {vs : List Value} {ss us : Stores} (d : Evaluates (world_of z) env q (b ∷ []) ss) (t : truth b ≡ true)
      (g : Runs (world_of z) env l vs us) → ExprReaches z c d → BodyReaches z c g → ExprReaches z c (if_true {t = at} {p = q} {l = l} {r = r} d t g)
  reaches_if_true {env = env} {b = v} {vs = vs} {ss = ss} {us = us} d t g test means x site spot scope names n fits rule h known ready =
      let p : Lowered = lower z.program site spot scope q in
      let k : Spot = spot_after spot p in
      let a : Lowered = yes_arm z c at l r site k scope p.sources in
      let b : Lowered = no_arm z c at l r site k scope p.sources in
      let m : Lowered = chosen site k at p.sources a b in
      let rules = in_if z.program names at q l r n rule in
      let outer = agrees_split (flow z) z.inputs x.run x.state x.is_run c scope env (uses q ++ body_uses l) (body_uses r) known in
      let inner = agrees_split (flow z) z.inputs x.run x.state x.is_run c scope env (uses q) (body_uses l) outer.0 in
      let before : ActiveX z x c site spot p = first_in z x c site spot p (followed p m) m.nodes m.blocks refl refl h in
      let behind : ActiveX z x c site k m = rest_in z x c site spot p m (followed p m) refl refl h in
      let o = test x site spot scope names 1 fits.0 rules.0.values before inner.0 (ready_first z.memory (cells_of z x) ss us (touches d) (body_touches g) ready) in
      let s = one_source z o.to c p.sources v o.have in
      let has : HasX z o.to c s.source v = (subst (λ ss. HaveX z o.to c ss (v ∷ [])) s.is o.have).0 in
      let here = active_on z.graph z.inputs z.well z.count x o.to o.on z.program z.origin c site k m behind in
      let y = after z o.to c site k at p.sources a b s.source v s.is has here in
      let go = steers z o.to c site k at p.sources a b s.source v s.is has here in
      let there = left_stands z o.to c site k at p.sources a b s.source v s.is has here in
      let mine = arm_reached z c site k.next true (next_spot k) at scope (first_of p.sources) l v names n false fits.1 rules.1 g means t y there
      (opens z o.to c site k at p.sources a b s.source v s.is has here true t site (next_spot k) a there) go.happened go.is_deed
      (subst (λ s. HasX z y c s v) (sym (first_is p.sources s.source s.is)) (has_on z.graph z.inputs z.well z.count o.to y go.on c s.source v has))
      (agrees_on z.graph z.inputs z.well z.count o.to y go.on c scope env (body_uses l)
      (agrees_on z.graph z.inputs z.well z.count x o.to o.on c scope env (body_uses l) inner.1))
      (ready_after z o.to c site k at p.sources a b s.source v s.is has here us (body_touches g)
      (ready_then z.memory (cells_of z x) (cells_of z o.to) ss us (touches d) (body_touches g) ready o.on.cells o.changed (fills d))) in
      let on = on_then z.graph z.inputs z.well z.count o.to y mine.to go.on mine.on in
      let shut = arm_shut z c site k.next false (spot_after (next_spot k) a) at scope (first_of p.sources) r env v (λ f. (let e = sym t ∙ f in cc)) (omega arith)
      mine.to here.block (its_block z o.to c site k at p.sources a b s.source v s.is has here)
      (right_lines z o.to c site k at p.sources a b s.source v s.is has here) (mine.on.kept _ go.happened) go.is_deed
      (subst (λ s. HasX z mine.to c s v) (sym (first_is p.sources s.source s.is)) (has_on z.graph z.inputs z.well z.count o.to mine.to on c s.source v has))
      (agrees_on z.graph z.inputs z.well z.count o.to mine.to on c scope env (body_uses r)
      (agrees_on z.graph z.inputs z.well z.count x o.to o.on c scope env (body_uses r) outer.1)) in
      second_part z x c spot.next p.nodes m.nodes p.sources m.sources (v ∷ []) vs ss us o
      (left_reached z o.to c site k at p.sources a b s.source v s.is has here t vs us (arms_alike z c at l r site k scope p.sources names n rules.1 rules.2) mine
      shut)

  pub reaches_if_false : {env : Env} {b : Value} {vs : List Value} {ss us : Stores} (d : Evaluates (world_of z) env q (b ∷ []) ss) (t : truth b ≡ false)
      (g : Runs (world_of z) env r vs us) → ExprReaches z c d → BodyReaches z c g → ExprReaches z c (if_false {t = at} {p = q} {l = l} {r = r} d t g)
  reaches_if_false {env = env} {b = v} {vs = vs} {ss = ss} {us = us} d t g test means x site spot scope names n fits rule h known ready =
      let p : Lowered = lower z.program site spot scope q in
      let k : Spot = spot_after spot p in
      let a : Lowered = yes_arm z c at l r site k scope p.sources in
      let b : Lowered = no_arm z c at l r site k scope p.sources in
      let m : Lowered = chosen site k at p.sources a b in
      let rules = in_if z.program names at q l r n rule in
      let outer = agrees_split (flow z) z.inputs x.run x.state x.is_run c scope env (uses q ++ body_uses l) (body_uses r) known in
      let inner = agrees_split (flow z) z.inputs x.run x.state x.is_run c scope env (uses q) (body_uses l) outer.0 in
      let before : ActiveX z x c site spot p = first_in z x c site spot p (followed p m) m.nodes m.blocks refl refl h in
      let behind : ActiveX z x c site k m = rest_in z x c site spot p m (followed p m) refl refl h in
      let o = test x site spot scope names 1 fits.0 rules.0.values before inner.0 (ready_first z.memory (cells_of z x) ss us (touches d) (body_touches g) ready) in
      let s = one_source z o.to c p.sources v o.have in
      let has : HasX z o.to c s.source v = (subst (λ ss. HaveX z o.to c ss (v ∷ [])) s.is o.have).0 in
      let here = active_on z.graph z.inputs z.well z.count x o.to o.on z.program z.origin c site k m behind in
      let y = after z o.to c site k at p.sources a b s.source v s.is has here in
      let go = steers z o.to c site k at p.sources a b s.source v s.is has here in
      let there = right_stands z o.to c site k at p.sources a b s.source v s.is has here in
      let mine = arm_reached z c site k.next false (spot_after (next_spot k) a) at scope (first_of p.sources) r v names n true fits.2 rules.2 g means t y there
      (opens z o.to c site k at p.sources a b s.source v s.is has here false t site (spot_after (next_spot k) a) b there) go.happened go.is_deed
      (subst (λ s. HasX z y c s v) (sym (first_is p.sources s.source s.is)) (has_on z.graph z.inputs z.well z.count o.to y go.on c s.source v has))
      (agrees_on z.graph z.inputs z.well z.count o.to y go.on c scope env (body_uses r)
      (agrees_on z.graph z.inputs z.well z.count x o.to o.on c scope env (body_uses r) outer.1))
      (ready_after z o.to c site k at p.sources a b s.source v s.is has here us (body_touches g)
      (ready_then z.memory (cells_of z x) (cells_of z o.to) ss us (touches d) (body_touches g) ready o.on.cells o.changed (fills d))) in
      let on = on_then z.graph z.inputs z.well z.count o.to y mine.to go.on mine.on in
      let shut = arm_shut z c site k.next true (next_spot k) at scope (first_of p.sources) l env v (λ f. (let e = sym t ∙ f in cc)) (omega arith)
      mine.to here.block (its_block z o.to c site k at p.sources a b s.source v s.is has here)
      (left_lines z o.to c site k at p.sources a b s.source v s.is has here) (mine.on.kept _ go.happened) go.is_deed
      (subst (λ s. HasX z mine.to c s v) (sym (first_is p.sources s.source s.is)) (has_on z.graph z.inputs z.well z.count o.to mine.to on c s.source v has))
      (agrees_on z.graph z.inputs z.well z.count o.to mine.to on c scope env (body_uses l)
      (agrees_on z.graph z.inputs z.well z.count x o.to o.on c scope env (body_uses l) inner.1)) in
      second_part z x c spot.next p.nodes m.nodes p.sources m.sources (v ∷ []) vs ss us o
      (right_reached z o.to c site k at p.sources a b s.source v s.is has here t vs us (arms_alike z c at l r site k scope p.sources names n rules.1 rules.2) mine
      shut)
