-- No token is left: each token that was present is one that an activity of the run took.
use Rattle.std.proofs.Common.{◌≡◌, ℕ, suc, ◌+◌, ◌-◌, ◌≤◌, ◌⊎◌, Bool, List, [], ◌∷◌, length, Some, flat_map, inl, inr, refl, sym, ap, ap₂, ◌∙◌, subst, subst₂}
use Rattle.std.proofs.Common.{arith, ⊎_elim}
use Rattle.std.specs.Prelude.{slice_get}
use Rattle.std.proofs.lemmas.Option.{slice_get_within, same_Some}
use Rattle.tags.specs.declared.value.Value.{Value}
use Rattle.semantics.specs.declared.graph.Region.TheVariants.{Arm}
use Rattle.semantics.specs.declared.graph.Source.{Source}
use Rattle.semantics.specs.declared.graph.Kind.{Kind}
use Rattle.semantics.specs.declared.graph.Kind.TheVariants.{Lit, Apply1, Apply2, Cond, Enter, Merge, Fetch, Store, Call, StrictCall, Loop}
use Rattle.semantics.specs.Graph.{Node, Block, node_at, node_count}
use Rattle.semantics.specs.Meaning.{Context, Main, Called, Turned, Statement, AtNode, AtOut, AtTurn, Port, Operand, Predicate, Flag, Carried, Tagged, tagged}
use Rattle.semantics.specs.Meaning.{Activity, Fires, Gates, Passes, Returns, Turns, Outputs, taken, Deed, Says, Puts, Sends, Enters, passed, block_of, callee}
use Rattle.semantics.specs.Meaning.{arm_of, IsLoop}
use Rattle.law_confluence.specs.Outcome.{SameTag}
use Rattle.lemmas.proofs.Permutations.{Within, Each, each_within, spread_append_back, within_right, within_flat_map, put_first, put_later}
use Rattle.lemmas.proofs.SliceGet.{get_some}
use Rattle.law_confluence.proofs.ActivityKeys.{Differ}
use Rattle.law_confluence.proofs.HistoryDue.{ever_stood}
use Rattle.law_confluence.proofs.HistoryGrounds.{class_line}
use Rattle.law_confluence.proofs.HistoryLaws.{ArmLaw, source_of}
use Rattle.law_confluence.proofs.ActivityRows.{Steering, Gate, Join, class_of, class_in, class_at, region_node, region_is_arm}
use Rattle.law_confluence.proofs.ActivityUses.{UseOf, AsOperand, AsResult, AsFlag, AsCarried, IsTurned}
use Rattle.law_confluence.proofs.EquationsGraphForms.{HasForm, InRegion, line_past}
use Rattle.law_confluence.proofs.EquationsRunRested.{Rested, Came, IsDueIn, RegionTaken}
use Rattle.law_confluence.proofs.EquationsRunUses.{Ends, operand_came, carried_came, flag_came, operand_within}
use Rattle.law_confluence.proofs.EquationsRunOrigins.{Used, Entering, SteeredIn, origin}
use Rattle.law_confluence.proofs.EquationsRunRegions.{block_shaped, taken_in, arm_taken, round_at}
use Rattle.law_confluence.proofs.EquationsProgressNodes.{IsTogether, operands, operands_stand, line_fired, input_fires, passes_line}
use Rattle.law_confluence.proofs.EquationsProgressInvocations.{AllHave, result_given, all_have, predicate_came, gate_happens, invoked_block}
use Rattle.law_confluence.proofs.EquationsProgressDues.{due_open, sources_have, line_in}
use Rattle.law_confluence.proofs.EquationsValuesSilent.{operand_taken}

-- an activity of the run takes a token at this place
pub record Consumed (z : Rested) (x : Tagged) : Type 0 where
  pub activity : Activity
  pub token : Tagged
  pub in_run : Within activity z.run
  pub takes : Within token (taken activity)
  pub same : SameTag token x

module _ (z : Rested) where
  -- what is at a place, from its parts
  consumed : (x : Tagged) (c : Context) (s : Statement) (q : Port) (v w : Value) (a : Activity) → x.context ≡ c → x.statement ≡ s → x.port ≡ q → Within a z.run
      → Within (tagged c s q w) (taken a) → Consumed z x
  consumed x c s q v w a ec es eq h k = record { activity = a; token = tagged c s q w; in_run = h; takes = k; same = (sym ec, sym es, sym eq) }

  -- TOKENS AT NODES

  -- the source of an `enter` has a value, where the region of its conditional is taken; and so has the conditional's
  gate_consumes : (c : Context) (b : Block ℕ) (m k : ℕ) (side : Bool) (line : Node ℕ) → block_of z.flow c ≡ Some b → node_at b m ≡ Some line
      → line.region ≡ Arm k side → line.kind ≡ Enter → IsDueIn z c → RegionTaken z c b (arm_of (node_at b k))
      → (v : Value) × (q : Value) × Within (Gates c m v q) z.run
  gate_consumes c b m k side line eb el er kind due round =
      let o = due_open z c due in
      let blocks = same_Some o.block b (sym o.is_block ∙ eb) in
      let all = subst (λ b. AllHave z c b) blocks (all_have z c o.block o.is_block due o.came) in
      let its = (block_shaped z c b eb).lines m line el in
      let form = subst (λ kind. HasForm z.flow b line.region kind line.sources) kind its.form in
      let cond = (its.round k side er).1 in
      let same : form.1.0 ≡ k = let r = sym form.1.2 ∙ er in cc in
      let lie : InRegion b (arm_of (node_at b k)) line.sources = subst (λ k. InRegion b (arm_of (node_at b k)) line.sources) same form.1.3 in
      let s = get_some line.sources 0 (omega (arith, form.0)) in
      let early = its.earlier 0 s.0 s.1 in
      let g = all s.0.node s.0.port (subst (λ r. RegionTaken z c b r) (sym (lie 0 s.0 s.1)) round) early.1 in
      let v = operand_came z c b m 0 line s.0 g.0 eb el s.1 g.1 in
      let cits = (block_shaped z c b eb).lines k cond.0 cond.1 in
      let cform = subst (λ kind. HasForm z.flow b cond.0.region kind cond.0.sources) cond.2 cits.form in
      let t = get_some cond.0.sources 0 (omega (arith, cform.0)) in
      let tearly = cits.earlier 0 t.0 t.1 in
      let own : RegionTaken z c b cond.0.region = subst (λ l. RegionTaken z c b (arm_of l)) cond.1 round in
      let h = all t.0.node t.0.port (subst (λ r. RegionTaken z c b r) (sym (cform.1 0 t.0 t.1)) own) tearly.1 in
      let q = operand_came z c b k 0 cond.0 t.0 h.0 eb cond.1 t.1 h.1 in
      let p = predicate_came z c b eb k cond.0 h.0 m side line cond.1 cond.2 q el er kind in
      (g.0, h.0, (gate_happens z c b eb m k side line g.0 h.0 el er kind v p).0)

  -- an operand of a node line
  operand_consumed : (x : Tagged) (b : Block ℕ) (m i : ℕ) (line : Node ℕ) (s : Source) → Came z x → x.statement ≡ AtNode m → x.port ≡ Operand i
      → block_of z.flow x.context ≡ Some b → node_at b m ≡ Some line → slice_get line.sources i ≡ Some s
      → Consumed z x
  operand_consumed x b m i line s h es eq eb el ei = go line.kind refl form
    where
      c : Context
      c = x.context

      form : HasForm z.flow b line.region line.kind line.sources
      form = ((block_shaped z c b eb).lines m line el).form

      came : Came z (tagged c (AtNode m) (Operand i) x.value)
      came = subst₂ (λ s q. Came z (tagged c s q x.value)) es eq h

      class : class_at z.flow c m ≡ class_of line.kind
      class = ap (λ o. class_in o m) eb ∙ class_line b m line el

      alone : (d : Deed) → passed c m i x.value line.kind ≡ Some d → Consumed z x
      alone d e =
          let ran = z.happens (Passes c m i x.value) d (passes_line z.flow c b eb m line i x.value el ∙ e) (came, tt) in
          consumed x c (AtNode m) (Operand i) x.value x.value (Passes c m i x.value) refl es eq ran (_, put_first _ _)

      together : IsTogether line.kind → (class_of line.kind ≡ Gate → ⊥) → (class_of line.kind ≡ Join → ⊥) → InRegion b line.region line.sources → Consumed z x
      together is gate join lie =
          let due = z.due x h in
          let o = due_open z c due in
          let blocks = same_Some b o.block (sym eb ∙ o.is_block) in
          let eo : node_at o.block m ≡ Some line = subst (λ b. node_at b m ≡ Some line) blocks el in
          let taken_here = operand_taken z c m i x.value came (λ f. gate (sym class ∙ f)) (λ f. join (sym class ∙ f)) in
          let region = subst (λ l. RegionTaken z c o.block (arm_of l)) eo (taken_in z c o.block o.is_block m taken_here) in
          let ops = operands z c line.sources (sources_have z c due o m line eo (subst (λ b. InRegion b line.region line.sources) blocks lie) region) in
          let fired = line_fired z c b eb m line ops.values el is form ops.long (operands_stand z c b eb m line ops el) in
          let v = get_some ops.values i (omega (arith, ops.long, slice_get_within line.sources i s ei)) in
          let at : 0 + i ≡ i = omega arith in
          consumed x c (AtNode m) (Operand i) x.value v.0 (Fires c m ops.values) refl es eq fired.in_run
          (subst (λ j. Within (tagged c (AtNode m) (Operand j) v.0) (taken (Fires c m ops.values))) at (operand_within c (AtNode m) 0 ops.values i v.0 v.1))

      -- the token of an `enter` comes from the region round its arm
      gate : line.kind ≡ Enter → (length line.sources ≡ 1)
          × ((k : ℕ) × (side : Bool) × (line.region ≡ Arm k side) × InRegion b (arm_of (node_at b k)) line.sources) → Consumed z x
      gate kind f =
          let k = f.1.0 in
          let law = (z.lawful _ came).1 in
          let first : 0 ≡ i = let low = slice_get_within line.sources i s ei in omega (arith, low, f.0) in
          let bs = same_Some law.0 b (sym law.1 ∙ eb) in
          ⊎_elim (λ l. let past = (line_past b m line el).0 in let low = l.0 in let same = ap (λ (b : Block ℕ). b.inputs) bs in
          absurd (omega (arith, low, same, past)))
          (λ l.
          let lines = same_Some l.0 line (sym l.2 ∙ ap (λ (b : Block ℕ). node_at b m) bs ∙ el) in
          let from = same_Some l.1 s (sym l.3 ∙ ap (λ (n : Node ℕ). slice_get n.sources i) lines ∙ ei) in
          let at = ap₂ (λ (b : Block ℕ) (s : Source). region_node (node_at b s.node)) bs from ∙ region_is_arm (node_at b s.node) ∙ f.1.3 i s ei in
          let arm : ArmLaw (Came z) c (arm_of (node_at b k)) = subst (λ r. ArmLaw (Came z) c r) at l.4 in
          let round = arm_taken z c b eb (node_count b) (arm_of (node_at b k)) (λ j t e. (round_at z c b eb k j t e).1) arm in
          let ran = gate_consumes c b m k f.1.1 line eb el f.1.2 kind (z.due x h) round in
          consumed x c (AtNode m) (Operand 0) x.value ran.0 (Gates c m ran.0 ran.1) refl es (eq ∙ ap Operand (sym first)) ran.2 (_, put_first _ _))
          law.2

      go : (kind : Kind ℕ) → line.kind ≡ kind → HasForm z.flow b line.region kind line.sources → Consumed z x
      go (Lit w) e f = together (subst IsTogether (sym e) tt) (λ g. let k = ap class_of e in cc) (λ g. let k = ap class_of e in cc) f.1
      go (Apply1 op) e f = together (subst IsTogether (sym e) tt) (λ g. let k = ap class_of e in cc) (λ g. let k = ap class_of e in cc) f.1
      go (Apply2 op) e f = together (subst IsTogether (sym e) tt) (λ g. let k = ap class_of e in cc) (λ g. let k = ap class_of e in cc) f.1
      go Cond e f = together (subst IsTogether (sym e) tt) (λ g. let k = ap class_of e in cc) (λ g. let k = ap class_of e in cc) f.1
      go (Fetch a) e f = together (subst IsTogether (sym e) tt) (λ g. let k = ap class_of e in cc) (λ g. let k = ap class_of e in cc) f.1
      go (Store a) e f = together (subst IsTogether (sym e) tt) (λ g. let k = ap class_of e in cc) (λ g. let k = ap class_of e in cc) f.1
      go (StrictCall a) e f = together (subst IsTogether (sym e) tt) (λ g. let k = ap class_of e in cc) (λ g. let k = ap class_of e in cc) f.1
      go Enter e f = gate e f
      go (Merge k) e f = alone (Says (Sends c m 0 x.value)) (ap (λ kind. passed c m i x.value kind) e)
      go (Call g) e f = alone (Says (Enters (Called c m) i (x.value ∷ []))) (ap (λ kind. passed c m i x.value kind) e)
      go (Loop g k) e f = alone (Says (Enters (Turned c m 0) i (x.value ∷ []))) (ap (λ kind. passed c m i x.value kind) e)

  told_consumed : (x : Tagged) → Came z x → SteeredIn z x → Consumed z x
  told_consumed x h t =
      let c : Context = x.context in
      let cond = ((block_shaped z c t.block t.is_block).lines t.node t.line t.is_line).round t.cond t.side t.region in
      let class : class_at z.flow c t.cond ≡ Steering = ap (λ o. class_in o t.cond) t.is_block ∙ class_line t.block t.cond cond.1.0 cond.1.1
      ∙ ap class_of cond.1.2 in
      let round = taken_in z c t.block t.is_block t.cond (operand_taken z c t.cond 0 x.value t.stood (λ e. cc) (λ e. cc)) in
      let ran = gate_consumes c t.block t.node t.cond t.side t.line t.is_block t.is_line t.region t.kind (z.due x h) round in
      consumed x c (AtNode t.node) Predicate x.value ran.1 (Gates c t.node ran.0 ran.1) refl t.statement t.port ran.2 (_, put_later _ _ [] _ (put_first _ []))

  entering_consumed : (x : Tagged) → Came z x → Entering z x → Consumed z x
  entering_consumed x h e =
      let c : Context = x.context in
      let came : Came z (tagged c (AtNode e.input) (Operand 0) x.value) = subst₂ (λ s q. Came z (tagged c s q x.value)) e.statement e.port h in
      consumed x c (AtNode e.input) (Operand 0) x.value x.value (Fires c e.input (x.value ∷ [])) refl e.statement e.port
      (input_fires z c e.block e.is_block e.input x.value e.below came) (_, put_first _ _)

  -- TOKENS AT RESULTS
  out_consumed : (x : Tagged) (j : ℕ) → Came z x → x.statement ≡ AtOut j → x.port ≡ Operand 0 → (IsTurned x.context → ⊥) → Consumed z x
  out_consumed x j h es eq out = go x.context refl
    where
      came : Came z (tagged x.context (AtOut j) (Operand 0) x.value)
      came = subst₂ (λ s q. Came z (tagged x.context s q x.value)) es eq h

      go : (c : Context) → x.context ≡ c → Consumed z x
      go Main e =
          let here = subst (λ c. Came z (tagged c (AtOut j) (Operand 0) x.value)) e came in
          consumed x Main (AtOut j) (Operand 0) x.value x.value (Outputs j x.value) e es eq (z.happens (Outputs j x.value) (Puts j x.value) refl (here, tt))
          (_, put_first _ _)
      go (Called d n) e =
          let here = subst (λ c. Came z (tagged c (AtOut j) (Operand 0) x.value)) e came in
          consumed x (Called d n) (AtOut j) (Operand 0) x.value x.value (Returns d n j x.value) e es eq
          (z.happens (Returns d n j x.value) (Says (Sends d n j x.value)) refl (here, tt)) (_, put_first _ _)
      go (Turned d n t) e = absurd (out (subst IsTurned (sym e) tt))

  -- the block of a turn has one result more than inputs
  loop_block : (c : Context) (n t : ℕ) → IsDueIn z (Turned c n t) → (to : Block ℕ) × (block_of z.flow (Turned c n t) ≡ Some to) × (to.outputs ≡ to.inputs + 1)
  loop_block c n t due =
      let o = due_open z c due.0 in
      let line = due.1 in
      let el = line_in z c o n line.0 line.1 in
      go o.block o.is_block line.0 el line.0.kind refl line.2 ((block_shaped z c o.block o.is_block).lines n line.0 el).form
    where
      go : (b : Block ℕ) → block_of z.flow c ≡ Some b → (line : Node ℕ) → node_at b n ≡ Some line → (kind : Kind ℕ) → line.kind ≡ kind → IsLoop kind
          → HasForm z.flow b line.region kind line.sources
          → (to : Block ℕ) × (block_of z.flow (Turned c n t) ≡ Some to) × (to.outputs ≡ to.inputs + 1)
      go b eb line el (Loop f k) ek h form =
          (form.0.0, invoked_block z.flow c b n f line form.0.0 eb el (ap callee ek) form.0.1, omega (arith, form.0.2, form.0.3))
      go b eb line el kind ek h form = absurd h

  -- each turn of a loop goes: all its tokens arrive
  turn_happens : (c : Context) (n t j : ℕ) → IsDueIn z (Turned c n t) → 1 ≤ j
      → ((to : Block ℕ) → block_of z.flow (Turned c n t) ≡ Some to → to.outputs ≡ to.inputs + 1 → j ≤ to.inputs)
      → (q : Value) × (v : Value) × Within (Turns c n t j q v) z.run
  turn_happens c n t j due low high =
      let d : Context = Turned c n t in
      let to = loop_block c n t due in
      let o = due_open z d due in
      let blocks = same_Some o.block to.0 (sym o.is_block ∙ to.1) in
      let all = subst (λ b. AllHave z d b) blocks (all_have z d o.block o.is_block due o.came) in
      let count = (block_shaped z d to.0 to.1).count in
      let most = high to.0 to.1 to.2 in
      let r = get_some to.0.results 0 (omega (arith, count, to.2)) in
      let q = result_given z d to.0 to.1 all 0 r.0 r.1 in
      let flag = flag_came z c n t to.0 j r.0 q.0 to.1 r.1 low most q.1 in
      let next : suc (j - 1) ≡ j = omega (arith, low) in
      let s = get_some to.0.results (suc (j - 1)) (omega (arith, count, to.2, most, low)) in
      let v = result_given z d to.0 to.1 all (suc (j - 1)) s.0 s.1 in
      let carried = subst (λ j. Came z (tagged d (AtTurn j) Carried v.0)) next (carried_came z c n t to.0 (j - 1) s.0 v.0 to.1 s.1 v.1) in
      (q.0, v.0, z.happens (Turns c n t j q.0 v.0) _ refl (flag, (carried, tt)))

  turn_consumed : (x : Tagged) (j : ℕ) → Came z x → x.statement ≡ AtTurn j → (x.port ≡ Flag) ⊎ (x.port ≡ Carried) → IsTurned x.context → 1 ≤ j
      → ((to : Block ℕ) → block_of z.flow x.context ≡ Some to → to.outputs ≡ to.inputs + 1 → j ≤ to.inputs) → Consumed z x
  turn_consumed x j h es eq turned low high = go x.context refl turned
    where
      port : (c : Context) (n t : ℕ) → x.context ≡ Turned c n t → (q v : Value) → Within (Turns c n t j q v) z.run → (x.port ≡ Flag) ⊎ (x.port ≡ Carried)
          → Consumed z x
      port c n t e q v ran (inl f) = consumed x (Turned c n t) (AtTurn j) Flag x.value q (Turns c n t j q v) e es f ran (_, put_first _ _)
      port c n t e q v ran (inr f) =
          consumed x (Turned c n t) (AtTurn j) Carried x.value v (Turns c n t j q v) e es f ran (_, put_later _ _ [] _ (put_first _ []))

      go : (c : Context) → x.context ≡ c → IsTurned c → Consumed z x
      go (Turned c n t) e h' =
          let due : IsDueIn z (Turned c n t) = subst (λ c. IsDueIn z c) e (z.due x h) in
          let ran = turn_happens c n t j due low
          (subst (λ c. (to : Block ℕ) → block_of z.flow c ≡ Some to → to.outputs ≡ to.inputs + 1 → j ≤ to.inputs) e high) in
          port c n t e ran.0 ran.1 ran.2 eq
      go Main e h' = absurd h'
      go (Called c n) e h' = absurd h'

  used_consumed : (x : Tagged) → Came z x → (u : Used z x) → UseOf u.block x.context u.node u.port x.statement x.port → Consumed z x
  used_consumed x h u (AsOperand m i line es eq low el src) =
      let s = source_of u.node u.port (slice_get line.sources i) src in
      operand_consumed x u.block m i line s.0 h es eq u.is_block el s.1
  used_consumed x h u (AsResult j es eq src) = out_consumed x j h es eq (subst (λ s. Ends x.context s) es u.ends)
  used_consumed x h u (AsFlag j es eq low high src turned) =
      turn_consumed x j h es (inl eq) turned low
      (λ to e long. let same = ap (λ (b : Block ℕ). b.inputs) (same_Some u.block to (sym u.is_block ∙ e)) in omega (arith, same, high))
  used_consumed x h u (AsCarried j es eq low src) =
      let s = source_of u.node u.port (slice_get u.block.results j) src in
      let below = slice_get_within u.block.results j s.0 s.1 in
      let count = (block_shaped z x.context u.block u.is_block).count in
      turn_consumed x j h es (inr eq) (subst (λ s. Ends x.context s) es u.ends) low
      (λ to e long. let same = same_Some u.block to (sym u.is_block ∙ e) in let ins = ap (λ (b : Block ℕ). b.inputs) same in
      let outs = ap (λ (b : Block ℕ). b.outputs) same in omega (arith, ins, outs, long, below, count))

  pub all_consumed : (x : Tagged) → Came z x → Consumed z x
  all_consumed x h = ⊎_elim (λ u. used_consumed x h u u.using_it) (λ o. ⊎_elim (λ e. entering_consumed x h e) (λ t. told_consumed x h t) o) (origin z x h)

  none_left : (x : Tagged) → Within x z.state.tokens → ⊥
  none_left x h =
      let came = ever_stood z.flow _ z.state z.run z.is_run x (within_right x (flat_map taken z.run) z.state.tokens h) in
      let k = all_consumed x came in
      let spent = within_flat_map taken k.activity k.token z.run k.in_run k.takes in
      let apart = (spread_append_back Differ (flat_map taken z.run) z.state.tokens z.unique).2 in
      each_within (Differ k.token) x z.state.tokens h (each_within (λ y. Each (Differ y) z.state.tokens) k.token (flat_map taken z.run) spent apart) k.same

  pub no_tokens : z.state.tokens ≡ []
  no_tokens = go z.state.tokens (λ x h. none_left x h)
    where
      go : (ts : List Tagged) → ((x : Tagged) → Within x ts → ⊥) → ts ≡ []
      go [] h = refl
      go (x ∷ ts) h = absurd (h x (ts, put_first x ts))
