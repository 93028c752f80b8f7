-- Progress: where the inputs of an invocation have arrived, each port of each node that is taken has a value.
use Rattle.std.proofs.Common.{◌≡◌, ℕ, zero, suc, ◌+◌, ◌-◌, ◌<◌, ◌≤◌, Bool, true, false, List, [], ◌∷◌, length, Option, Some, None, nat_lt, if◌then◌else◌, refl}
use Rattle.std.proofs.Common.{sym, ap, ap₂, ◌∙◌, subst, arith, ltb-true, ltb-false, Contains}
use Rattle.std.specs.Prelude.{slice_get}
use Rattle.tags.specs.declared.value.Value.{Value}
use Rattle.operators.specs.Values.{truth}
use Rattle.semantics.specs.declared.graph.Region.{Region}
use Rattle.semantics.specs.declared.graph.Region.TheVariants.{Root, Arm}
use Rattle.semantics.specs.declared.graph.Source.{Source}
use Rattle.semantics.specs.declared.graph.Kind.{Kind}
use Rattle.semantics.specs.declared.graph.Kind.TheVariants.{Lit, Apply1, Apply2, Cond, Enter, Merge, Fetch, Store, Call, StrictCall, Loop}
use Rattle.semantics.specs.Graph.{Node, Block, Flow, node_at, node_count}
use Rattle.semantics.specs.Meaning.{Context, Called, Turned, AtNode, AtTurn, Operand, Predicate, Flag, Carried, tagged, Activity, Fires, Gates, Passes, Returns}
use Rattle.semantics.specs.Meaning.{Turns, taken, Says, Message, Sends, Steers, Enters, Nothing, deed, fired, gated, passed, block_of, block_numbered, callee}
use Rattle.semantics.specs.Meaning.{callee_in, callee_of, node_of, node_in, same_side, arm_of, arms_round, ArmsTaken, HadTrueFlag, StartsWhenStrict, IsCall}
use Rattle.semantics.specs.Meaning.{IsLoop, entering}
use Rattle.lemmas.proofs.Permutations.{Within, within_to}
use Rattle.lemmas.proofs.SliceGet.{get_some}
use Rattle.law_confluence.specs.EquationsContexts.{depth}
use Rattle.law_confluence.specs.EquationsHave.{ports_in, ports_line, ports_of, outputs_in}
use Rattle.law_confluence.proofs.EquationsGraphForms.{HasForm, InRegion, IsCondAt, IsLine, line_below}
use Rattle.law_confluence.proofs.EquationsRunRested.{Rested, Came, IsDueIn, RegionTaken}
use Rattle.law_confluence.proofs.EquationsRunUses.{operand_came, result_came, carried_came, flag_came, said_came, predicate_told, entering_within}
use Rattle.law_confluence.proofs.EquationsRunDepth.{shallow}
use Rattle.law_confluence.proofs.EquationsRunRegions.{TakenIn, block_shaped, in_taken, outside, inside}
use Rattle.law_confluence.proofs.EquationsProgressNodes.{Given, IsPlain, operands, operands_stand, plain_given, merge_given, input_given, gives_said}
use Rattle.law_confluence.proofs.EquationsProgressNodes.{gates_line, passes_line, fires_line}

-- WHAT HAS TO BE SHOWN

abbrev pub InputsCame : Rested → Context → Block ℕ → Type 0
InputsCame z c b = (i : ℕ) → i < b.inputs → (v : Value) × Came z (tagged c (AtNode i) (Operand 0) v)

abbrev pub AllHave : Rested → Context → Block ℕ → Type 0
AllHave z c b = (n p : ℕ) → RegionTaken z c b (arm_of (node_at b n)) → p < ports_in z.flow (Some b) n → Given z c n p

-- for invocations that lie so deep that the run has fewer than `fuel` activities left
abbrev pub Progress : Rested → ℕ → Type 0
Progress z fuel = (c : Context) (b : Block ℕ) → block_of z.flow c ≡ Some b → IsDueIn z c → length z.run < depth c + fuel → InputsCame z c b → AllHave z c b

pub root_taken : (z : Rested) (c : Context) (b : Block ℕ) → RegionTaken z c b Root
root_taken z c b = go (node_count b)
  where
    go : (d : ℕ) → ArmsTaken (Came z) c (arms_round d b Root)
    go zero = tt
    go (suc d) = tt

pub result_given : (z : Rested) (c : Context) (b : Block ℕ) → block_of z.flow c ≡ Some b → AllHave z c b → (j : ℕ) (s : Source)
    → slice_get b.results j ≡ Some s → Given z c s.node s.port
result_given z c b eb all j s e =
    let r = (block_shaped z c b eb).results j s e in
    all s.node s.port (subst (λ r. RegionTaken z c b r) (sym r.1) (root_taken z c b)) r.0

side_same : (side : Bool) → same_side side side ≡ true
side_same true = refl
side_same false = refl

-- CONDITIONALS

module _ (z : Rested) (c : Context) (b : Block ℕ) (eb : block_of z.flow c ≡ Some b) where
  pub cond_fires : (k : ℕ) (line : Node ℕ) (q : Value) → node_at b k ≡ Some line → line.kind ≡ Cond → Came z (tagged c (AtNode k) (Operand 0) q)
      → Within (Fires c k (q ∷ [])) z.run × (deed z.flow (Fires c k (q ∷ [])) ≡ Some (Says (Steers c k q)))
  cond_fires k line q el kind h =
      let form = subst (λ kind. HasForm z.flow b line.region kind line.sources) kind ((block_shaped z c b eb).lines k line el).form in
      let e = fires_line z.flow c b eb k line (q ∷ []) el (omega (arith, form.0)) ∙ ap (λ kind. fired z.flow c k kind (q ∷ [])) kind in
      (z.happens (Fires c k (q ∷ [])) (Says (Steers c k q)) e (h, tt), e)

  -- an `enter` gets the predicate
  pub predicate_came : (k : ℕ) (cond : Node ℕ) (q : Value) (n : ℕ) (side : Bool) (line : Node ℕ) → node_at b k ≡ Some cond → cond.kind ≡ Cond
      → Came z (tagged c (AtNode k) (Operand 0) q)
      → node_at b n ≡ Some line → line.region ≡ Arm k side → line.kind ≡ Enter → Came z (tagged c (AtNode n) Predicate q)
  predicate_came k cond q n side line ek kc h el er kind =
      let f = cond_fires k cond q ek kc h in
      said_came z (Fires c k (q ∷ [])) (Says (Steers c k q)) (Steers c k q) f.0 f.1 refl _ (predicate_told z.flow c b k n side line q eb el er kind)

  pub gate_happens : (n k : ℕ) (side : Bool) (line : Node ℕ) (v q : Value) → node_at b n ≡ Some line → line.region ≡ Arm k side → line.kind ≡ Enter
      → Came z (tagged c (AtNode n) (Operand 0) v) → Came z (tagged c (AtNode n) Predicate q)
      → Within (Gates c n v q) z.run × (deed z.flow (Gates c n v q) ≡ Some (Says (if same_side (truth q) side then Sends c n 0 v else Nothing)))
  gate_happens n k side line v q el er kind h g =
      let e = gates_line z.flow c b eb n line v q el ∙ ap₂ (λ r kind. gated c n v q r kind) er kind in
      (z.happens (Gates c n v q) _ e (h, (g, tt)), e)

  pub enter_given : (n k : ℕ) (side : Bool) (line : Node ℕ) (v q : Value) → node_at b n ≡ Some line → line.region ≡ Arm k side → line.kind ≡ Enter
      → Came z (tagged c (AtNode n) (Operand 0) v) → Came z (tagged c (AtNode n) Predicate q) → truth q ≡ side → Given z c n 0
  enter_given n k side line v q el er kind h g t =
      let f = gate_happens n k side line v q el er kind h g in
      let on : same_side (truth q) side ≡ true = ap (λ t. same_side t side) t ∙ side_same side in
      (v, gives_said z c b eb (Gates c n v q) n 0 v f.0 (f.1 ∙ ap (λ (t : Bool). Some (Says (if t then Sends c n 0 v else Nothing))) on))

  -- THE INPUTS OF WHAT A NODE INVOKES

  pub passed_in : (n : ℕ) (line : Node ℕ) (i : ℕ) (v : Value) (d : Context) → node_at b n ≡ Some line
      → passed c n i v line.kind ≡ Some (Says (Enters d i (v ∷ []))) → Came z (tagged c (AtNode n) (Operand i) v)
      → Came z (tagged d (AtNode i) (Operand 0) v)
  passed_in n line i v d el p h =
      let e = passes_line z.flow c b eb n line i v el ∙ p in
      let at : i + 0 ≡ i = omega arith in
      said_came z (Passes c n i v) (Says (Enters d i (v ∷ []))) (Enters d i (v ∷ []))
      (z.happens (Passes c n i v) (Says (Enters d i (v ∷ []))) e (h, tt)) e refl _
      (subst (λ j. Within (tagged d (AtNode j) (Operand 0) v) (entering d i (v ∷ []))) at (entering_within d i (v ∷ []) 0 v refl))

pub invoked_block : (fl : Flow) (c : Context) (b : Block ℕ) (n f : ℕ) (line : Node ℕ) (to : Block ℕ) → block_of fl c ≡ Some b → node_at b n ≡ Some line
    → callee line.kind ≡ Some f → slice_get fl.blocks f ≡ Some to
    → block_numbered fl (callee_in (block_of fl c) n) ≡ Some to
invoked_block fl c b n f line to eb el ek e =
    ap (λ o. block_numbered fl (callee_in o n)) eb ∙ ap (λ o. block_numbered fl (callee_of o)) el ∙ ap (block_numbered fl) ek ∙ e

-- WHERE THE SOURCES OF A NODE HAVE VALUES, the inputs of what it invokes arrive

abbrev pub SourcesHave : Rested → Context → Node ℕ → Type 0
SourcesHave z c line = (i : ℕ) (s : Source) → slice_get line.sources i ≡ Some s → Given z c s.node s.port

module _ (z : Rested) (c : Context) (b : Block ℕ) (eb : block_of z.flow c ≡ Some b) (n : ℕ) (line : Node ℕ) (el : node_at b n ≡ Some line)
    (sources : SourcesHave z c line) where
  -- the token of an operand
  pub operand_token : (i : ℕ) → i < length line.sources → (v : Value) × Came z (tagged c (AtNode n) (Operand i) v)
  operand_token i low =
      let s = get_some line.sources i low in
      let g = sources i s.0 s.1 in
      (g.0, operand_came z c b n i line s.0 g.0 eb el s.1 g.1)

  pub call_came : (f : ℕ) (to : Block ℕ) → line.kind ≡ Call f → to.inputs ≡ length line.sources → InputsCame z (Called c n) to
  call_came f to kind ins i less =
      let x = operand_token i (omega (arith, less, ins)) in
      (x.0, passed_in z c b eb n line i x.0 (Called c n) el (ap (λ kind. passed c n i x.0 kind) kind) x.1)

  pub loop_came : (f k : ℕ) (to : Block ℕ) → line.kind ≡ Loop f k → to.inputs ≡ length line.sources → InputsCame z (Turned c n 0) to
  loop_came f k to kind ins i less =
      let x = operand_token i (omega (arith, less, ins)) in
      (x.0, passed_in z c b eb n line i x.0 (Turned c n 0) el (ap (λ kind. passed c n i x.0 kind) kind) x.1)

  pub strict_came : (f : ℕ) (to : Block ℕ) → line.kind ≡ StrictCall f → to.inputs ≡ length line.sources
      → ((vs : List Value) × Contains z.run (Fires c n vs)) × InputsCame z (Called c n) to
  strict_came f to kind ins =
      let ops = operands z c line.sources sources in
      let a : Activity = Fires c n ops.values in
      let y : Message = Enters (Called c n) 0 ops.values in
      let e : deed z.flow a ≡ Some (Says y) = fires_line z.flow c b eb n line ops.values el ops.long ∙ ap (λ kind. fired z.flow c n kind ops.values) kind in
      let ran : Within a z.run = z.happens a (Says y) e (operands_stand z c b eb n line ops el) in (
        (ops.values, within_to a z.run ran),
        λ i less.
            let v = get_some ops.values i (omega (arith, less, ins, ops.long)) in
            let at : 0 + i ≡ i = omega arith in (
              v.0,
              said_came z a (Says y) y ran e refl _
                  (subst (λ j. Within (tagged (Called c n) (AtNode j) (Operand 0) v.0) (entering (Called c n) 0 ops.values)) at
                  (entering_within (Called c n) 0 ops.values i v.0 v.1)),
            ),
      )

pub merge_form : (fl : Flow) (b : Block ℕ) (r : Region) (k : ℕ) (ss : List Source) → HasForm fl b r (Merge k) ss
    → (s : Source) × (t : Source) × (ss ≡ s ∷ t ∷ []) × IsCondAt b k × (arm_of (node_at b k) ≡ r) × (arm_of (node_at b s.node) ≡ Arm k true)
    × (arm_of (node_at b t.node) ≡ Arm k false)
merge_form fl b r k [] h = absurd h
merge_form fl b r k (s ∷ []) h = absurd h
merge_form fl b r k (s ∷ t ∷ []) h = (s, t, refl, h.0, h.1, h.2, h.3)
merge_form fl b r k (s ∷ t ∷ u ∷ ss) h = absurd h

-- ONE INVOCATION, where all that lie deeper are done
module _ (z : Rested) (fuel : ℕ) (ih : Progress z fuel) (c : Context) (b : Block ℕ) (eb : block_of z.flow c ≡ Some b) (due : IsDueIn z c)
    (bound : length z.run < depth c + suc fuel) (inputs : InputsCame z c b) where
  abbrev Before : ℕ → Type 0
  Before n = (m p : ℕ) → m < n → RegionTaken z c b (arm_of (node_at b m)) → p < ports_in z.flow (Some b) m → Given z c m p

  its_line : (n : ℕ) (line : Node ℕ) → node_at b n ≡ Some line → IsLine z.flow b n line
  its_line n line el = (block_shaped z c b eb).lines n line el

  pub own_sources : (n : ℕ) (line : Node ℕ) (r : Region) → node_at b n ≡ Some line → Before n → InRegion b r line.sources → RegionTaken z c b r
      → SourcesHave z c line
  own_sources n line r el before lie h i s e =
      let early = (its_line n line el).earlier i s e in
      before s.node s.port early.0 (subst (λ r. RegionTaken z c b r) (sym (lie i s e)) h) early.1

  enter_step : (n k : ℕ) (side : Bool) (line : Node ℕ) → node_at b n ≡ Some line → line.region ≡ Arm k side → line.kind ≡ Enter → length line.sources ≡ 1
      → InRegion b (arm_of (node_at b k)) line.sources → Before n
      → RegionTaken z c b line.region → Given z c n 0
  enter_step n k side line el er kind long lie before h =
      let low = line_below b n line el in
      let round = (its_line n line el).round k side er in
      let out = outside z c b eb k side (omega (arith, low, round.0)) (subst (λ r. RegionTaken z c b r) er h) in
      let s = get_some line.sources 0 (omega (arith, long)) in
      let g = own_sources n line (arm_of (node_at b k)) el before lie out.0 0 s.0 s.1 in
      let v = operand_came z c b n 0 line s.0 g.0 eb el s.1 g.1 in
      let q = out.1 in
      let cond = round.1 in
      enter_given z c b eb n k side line g.0 q.0 el er kind v (predicate_came z c b eb k cond.0 q.0 n side line cond.1 cond.2 q.1 el er kind) q.2

  merge_step : (n k : ℕ) (line : Node ℕ) → node_at b n ≡ Some line → line.kind ≡ Merge k → HasForm z.flow b line.region (Merge k) line.sources → Before n
      → RegionTaken z c b line.region → Given z c n 0
  merge_step n k line el kind form before h =
      let f = merge_form z.flow b line.region k line.sources form in
      let cond = f.3 in
      let low = (its_line n line el).joins k kind in
      let round : RegionTaken z c b (arm_of (node_at b k)) = subst (λ r. RegionTaken z c b r) (sym f.4) h in
      let cform = subst (λ kind. HasForm z.flow b cond.0.region kind cond.0.sources) cond.2 (its_line k cond.0 cond.1).form in
      let s = get_some cond.0.sources 0 (omega (arith, cform.0)) in
      let own : RegionTaken z c b cond.0.region = subst (λ o. RegionTaken z c b (arm_of o)) cond.1 round in
      let g = own_sources k cond.0 cond.0.region cond.1 (λ m p l t e. before m p (omega (arith, l, low)) t e) cform.1 own 0 s.0 s.1 in
      let q = operand_came z c b k 0 cond.0 s.0 g.0 eb cond.1 s.1 g.1 in
      go f.0 f.1 f.2 f.5 f.6 g.0 q round (truth g.0) refl
    where
      take : (i : ℕ) (x : Source) (side : Bool) → slice_get line.sources i ≡ Some x → arm_of (node_at b x.node) ≡ Arm k side → RegionTaken z c b (Arm k side)
          → Given z c n 0
      take i x side e arm t =
          let early = (its_line n line el).earlier i x e in
          let g = before x.node x.port early.0 (subst (λ r. RegionTaken z c b r) (sym arm) t) early.1 in
          merge_given z c b eb n k line i g.0 el kind (operand_came z c b n i line x g.0 eb el e g.1)

      go : (s t : Source) → line.sources ≡ s ∷ t ∷ [] → arm_of (node_at b s.node) ≡ Arm k true → arm_of (node_at b t.node) ≡ Arm k false → (q : Value)
          → Came z (tagged c (AtNode k) (Operand 0) q)
          → RegionTaken z c b (arm_of (node_at b k)) → (side : Bool) → truth q ≡ side → Given z c n 0
      go s t e sa ta q h round true f = take 0 s true (ap (λ ss. slice_get ss 0) e) sa (inside z c b eb k true q h f round)
      go s t e sa ta q h round false f = take 1 t false (ap (λ ss. slice_get ss 1) e) ta (inside z c b eb k false q h f round)

  -- the results of a call
  call_results : (n f : ℕ) (line : Node ℕ) (to : Block ℕ) → node_at b n ≡ Some line → callee line.kind ≡ Some f → slice_get z.flow.blocks f ≡ Some to
      → IsDueIn z (Called c n) → InputsCame z (Called c n) to
      → (p : ℕ) → p < to.outputs → Given z c n p
  call_results n f line to el ek et called came p low =
      let d : Context = Called c n in
      let ed = invoked_block z.flow c b n f line to eb el ek et in
      let all = ih d to ed called (omega (arith, bound)) came in
      let count = (block_shaped z d to ed).count in
      let s = get_some to.results p (omega (arith, count, low)) in
      let g = result_given z d to ed all p s.0 s.1 in
      let h = result_came z d to p s.0 g.0 ed s.1 (λ h. h) g.1 in
      (g.0, gives_said z c b eb (Returns c n p g.0) n p g.0 (z.happens (Returns c n p g.0) (Says (Sends c n p g.0)) refl (h, tt)) refl)

  -- the turns of a loop, from one on
  module _ (n f k : ℕ) (line : Node ℕ) (to : Block ℕ) (el : node_at b n ≡ Some line) (kind : line.kind ≡ Loop f k) (et : slice_get z.flow.blocks f ≡ Some to)
      (ins : to.inputs ≡ length line.sources) (outs : to.outputs ≡ length line.sources + 1) where
    pub turn_block : (t : ℕ) → block_of z.flow (Turned c n t) ≡ Some to
    turn_block t = invoked_block z.flow c b n f line to eb el (ap callee kind) et

    -- what a turn does once its results are there
    pub turn_goes : (t : ℕ) → IsDueIn z (Turned c n t) → AllHave z (Turned c n t) to → (q : Value)
        → ((j : ℕ) → 1 ≤ j → j ≤ to.inputs → Came z (tagged (Turned c n t) (AtTurn j) Flag q))
        → (j : ℕ) → j < to.inputs → (v : Value) × Came z (tagged (Turned c n t) (AtTurn (suc j)) Flag q)
        × Came z (tagged (Turned c n t) (AtTurn (suc j)) Carried v)
    turn_goes t turned all q flags j low =
        let d : Context = Turned c n t in
        let count = (block_shaped z d to (turn_block t)).count in
        let s = get_some to.results (suc j) (omega (arith, count, low, ins, outs)) in
        let g = result_given z d to (turn_block t) all (suc j) s.0 s.1 in
        (g.0, flags (suc j) (omega arith) (omega (arith, low)), carried_came z c n t to j s.0 g.0 (turn_block t) s.1 g.1)

    pub turn_flag : (t : ℕ) → AllHave z (Turned c n t) to → (q : Value) × ((j : ℕ) → 1 ≤ j → j ≤ to.inputs → Came z (tagged (Turned c n t) (AtTurn j) Flag q))
    turn_flag t all =
        let d : Context = Turned c n t in
        let count = (block_shaped z d to (turn_block t)).count in
        let s = get_some to.results 0 (omega (arith, count, outs)) in
        let g = result_given z d to (turn_block t) all 0 s.0 s.1 in
        (g.0, λ j low high. flag_came z c n t to j s.0 g.0 (turn_block t) s.1 low high g.1)

    turn_deed : (t j : ℕ) (q v : Value) (on : Bool) → truth q ≡ on
        → deed z.flow (Turns c n t (suc j) q v) ≡ Some (Says (if on then Enters (Turned c n (t + 1)) (suc j - 1) (v ∷ []) else Sends c n (suc j - 1) v))
    turn_deed t j q v on e = ap (λ (on : Bool). Some (Says (if on then Enters (Turned c n (t + 1)) (suc j - 1) (v ∷ []) else Sends c n (suc j - 1) v))) e

    pub next_inputs : (t : ℕ) → IsDueIn z (Turned c n t) → AllHave z (Turned c n t) to → (q : Value)
        → ((j : ℕ) → 1 ≤ j → j ≤ to.inputs → Came z (tagged (Turned c n t) (AtTurn j) Flag q)) → truth q ≡ true → InputsCame z (Turned c n (t + 1)) to
    next_inputs t turned all q flags on j low =
        let g = turn_goes t turned all q flags j low in
        let a : Activity = Turns c n t (suc j) q g.0 in
        let y : Message = Enters (Turned c n (t + 1)) (suc j - 1) (g.0 ∷ []) in
        let e : deed z.flow a ≡ Some (Says y) = turn_deed t j q g.0 true on in
        let at : suc j - 1 + 0 ≡ j = omega arith in (
          g.0,
          said_came z a (Says y) y (z.happens a (Says y) e (g.1, (g.2, tt))) e refl _
              (subst (λ i. Within (tagged (Turned c n (t + 1)) (AtNode i) (Operand 0) g.0) (entering (Turned c n (t + 1)) (suc j - 1) (g.0 ∷ []))) at
              (entering_within (Turned c n (t + 1)) (suc j - 1) (g.0 ∷ []) 0 g.0 refl)),
        )

    last_given : (t : ℕ) → IsDueIn z (Turned c n t) → AllHave z (Turned c n t) to → (q : Value)
        → ((j : ℕ) → 1 ≤ j → j ≤ to.inputs → Came z (tagged (Turned c n t) (AtTurn j) Flag q)) → truth q ≡ false → (p : ℕ) → p < length line.sources
        → Given z c n p
    last_given t turned all q flags off p low =
        let g = turn_goes t turned all q flags p (omega (arith, low, ins)) in
        let a : Activity = Turns c n t (suc p) q g.0 in
        let at : suc p - 1 ≡ p = omega arith in
        let e : deed z.flow a ≡ Some (Says (Sends c n p g.0)) = turn_deed t p q g.0 false off ∙ ap (λ i. Some (Says (Sends c n i g.0))) at in
        (g.0, gives_said z c b eb a n p g.0 (z.happens a (Says (Sends c n p g.0)) e (g.1, (g.2, tt))) e)

    next_due : (t : ℕ) → IsDueIn z (Turned c n t) → HadTrueFlag (Came z) (Turned c n t) → IsDueIn z (Turned c n (t + 1))
    next_due t turned flag = (turned.0, turned.1, turned.2, λ j low. go j low (nat_lt j t) refl)
      where
        go : (j : ℕ) → j < t + 1 → (x : Bool) → nat_lt j t ≡ x → HadTrueFlag (Came z) (Turned c n j)
        go j low true e = turned.3 j (ltb-true j t e)
        go j low false e =
            let past = ltb-false j t e in let same : t ≡ j = omega (arith, low, past) in subst (λ j. HadTrueFlag (Came z) (Turned c n j)) same flag

    loop_from : (left t : ℕ) → IsDueIn z (Turned c n t) → length z.run < depth (Turned c n t) + left → InputsCame z (Turned c n t) to → (p : ℕ)
        → p < length line.sources → Given z c n p
    loop_from zero t turned low came p less =
        let x = came 0 (omega (arith, less, ins)) in
        let s = shallow z _ x.1 in
        absurd (omega (arith, low, s))
    loop_from (suc left) t turned low came p less =
        let all = ih (Turned c n t) to (turn_block t) turned (omega (arith, bound)) came in
        let q = turn_flag t all in
        go all q.0 q.1 (truth q.0) refl (λ next came. loop_from left (t + 1) next (omega (arith, low)) came p less)
      where
        go : AllHave z (Turned c n t) to → (q : Value) → ((j : ℕ) → 1 ≤ j → j ≤ to.inputs → Came z (tagged (Turned c n t) (AtTurn j) Flag q)) → (on : Bool)
            → truth q ≡ on
            → (IsDueIn z (Turned c n (t + 1)) → InputsCame z (Turned c n (t + 1)) to → Given z c n p) → Given z c n p
        go all q flags true on more =
            more (next_due t turned (1, q, flags 1 (omega arith) (omega (arith, less, ins)), on)) (next_inputs t turned all q flags on)
        go all q flags false off more = last_given t turned all q flags off p less

-- ONE NODE

outputs_below : (fl : Flow) (f p : ℕ) (to : Block ℕ) → slice_get fl.blocks f ≡ Some to → p < outputs_in (slice_get fl.blocks f) → p < to.outputs
outputs_below fl f p to e low = let same : outputs_in (slice_get fl.blocks f) ≡ to.outputs = ap outputs_in e in omega (arith, same, low)

module _ (z : Rested) (fuel : ℕ) (ih : Progress z fuel) (c : Context) (b : Block ℕ) (eb : block_of z.flow c ≡ Some b) (due : IsDueIn z c)
    (bound : length z.run < depth c + suc fuel) (inputs : InputsCame z c b)
    (n : ℕ) (before : Before z fuel ih c b eb due bound inputs n) where
  node_is : (line : Node ℕ) → node_at b n ≡ Some line → node_of z.flow c n ≡ Some line
  node_is line el = ap (λ o. node_in o n) eb ∙ el

  zeroth : (p : ℕ) → p < 1 → Given z c n 0 → Given z c n p
  zeroth p low h = let same : 0 ≡ p = omega (arith, low) in subst (λ p. Given z c n p) same h

  call_step : (f : ℕ) (line : Node ℕ) → node_at b n ≡ Some line → line.kind ≡ Call f → (to : Block ℕ) → slice_get z.flow.blocks f ≡ Some to
      → to.inputs ≡ length line.sources → SourcesHave z c line → TakenIn z c n
      → (p : ℕ) → p < to.outputs → Given z c n p
  call_step f line el kind to et ins sources taken p low =
      call_results z fuel ih c b eb due bound inputs n f line to el (ap callee kind) et
      (due, (line, node_is line el, subst IsCall (sym kind) tt, subst (λ kind. StartsWhenStrict z.run c n kind) (sym kind) tt), taken)
      (call_came z c b eb n line el sources f to kind ins) p low

  strict_step : (f : ℕ) (line : Node ℕ) → node_at b n ≡ Some line → line.kind ≡ StrictCall f → (to : Block ℕ) → slice_get z.flow.blocks f ≡ Some to
      → to.inputs ≡ length line.sources → SourcesHave z c line → TakenIn z c n
      → (p : ℕ) → p < to.outputs → Given z c n p
  strict_step f line el kind to et ins sources taken p low =
      let came = strict_came z c b eb n line el sources f to kind ins in
      call_results z fuel ih c b eb due bound inputs n f line to el (ap callee kind) et
      (due, (line, node_is line el, subst IsCall (sym kind) tt, subst (λ kind. StartsWhenStrict z.run c n kind) (sym kind) came.0), taken)
      came.1 p low

  loop_step : (f k : ℕ) (line : Node ℕ) → node_at b n ≡ Some line → line.kind ≡ Loop f k → (to : Block ℕ) → slice_get z.flow.blocks f ≡ Some to
      → to.inputs ≡ length line.sources → to.outputs ≡ length line.sources + 1
      → SourcesHave z c line → TakenIn z c n → (p : ℕ) → p < length line.sources → Given z c n p
  loop_step f k line el kind to et ins outs sources taken p low =
      loop_from z fuel ih c b eb due bound inputs n f k line to el kind et ins outs (suc fuel) 0
      (due, (line, node_is line el, subst IsLoop (sym kind) tt), taken, λ j less. absurd (omega (arith, less)))
      (omega (arith, bound)) (loop_came z c b eb n line el sources f k to kind ins) p low

  kind_step : (line : Node ℕ) (kind : Kind ℕ) → node_at b n ≡ Some line → line.kind ≡ kind → HasForm z.flow b line.region kind line.sources
      → RegionTaken z c b line.region → TakenIn z c n
      → (p : ℕ) → p < ports_of z.flow kind line.sources → Given z c n p
  kind_step line kind el ek form h taken p low = go kind ek form low
    where
      plain : IsPlain line.kind → InRegion b line.region line.sources → Given z c n 0
      plain is lie =
          plain_given z c b eb n line el is ((block_shaped z c b eb).lines n line el).form
          (own_sources z fuel ih c b eb due bound inputs n line line.region el before lie h)

      go : (kind : Kind ℕ) → line.kind ≡ kind → HasForm z.flow b line.region kind line.sources → p < ports_of z.flow kind line.sources → Given z c n p
      go (Lit w) e f l = zeroth p l (plain (subst IsPlain (sym e) tt) f.1)
      go (Apply1 op) e f l = zeroth p l (plain (subst IsPlain (sym e) tt) f.1)
      go (Apply2 op) e f l = zeroth p l (plain (subst IsPlain (sym e) tt) f.1)
      go (Fetch a) e f l = zeroth p l (plain (subst IsPlain (sym e) tt) f.1)
      go (Store a) e f l = zeroth p l (plain (subst IsPlain (sym e) tt) f.1)
      go Cond e f l = absurd (omega (arith, l))
      go Enter e f l = let r = f.1 in zeroth p l (enter_step z fuel ih c b eb due bound inputs n r.0 r.1 line el r.2 e f.0 r.3 before h)
      go (Merge k) e f l = zeroth p l (merge_step z fuel ih c b eb due bound inputs n k line el e f before h)
      go (Call g) e f l =
          call_step g line el e f.0.0 f.0.1 f.0.2 (own_sources z fuel ih c b eb due bound inputs n line line.region el before f.1 h) taken p
          (outputs_below z.flow g p f.0.0 f.0.1 l)
      go (StrictCall g) e f l =
          strict_step g line el e f.0.0 f.0.1 f.0.2 (own_sources z fuel ih c b eb due bound inputs n line line.region el before f.1 h) taken p
          (outputs_below z.flow g p f.0.0 f.0.1 l)
      go (Loop g k) e f l =
          loop_step g k line el e f.0.0 f.0.1 f.0.2 f.0.3 (own_sources z fuel ih c b eb due bound inputs n line line.region el before f.1 h) taken p l

  node_step : RegionTaken z c b (arm_of (node_at b n)) → (p : ℕ) → p < ports_in z.flow (Some b) n → Given z c n p
  node_step h p low = go (nat_lt n b.inputs) refl low
    where
      line_step : (o : Option (Node ℕ)) → node_at b n ≡ o → p < ports_line z.flow o → Given z c n p
      line_step None e l = absurd (omega (arith, l))
      line_step (Some line) e l =
          kind_step line line.kind e refl ((block_shaped z c b eb).lines n line e).form (subst (λ o. RegionTaken z c b (arm_of o)) e h)
          (in_taken z c b eb n h) p l

      go : (t : Bool) → nat_lt n b.inputs ≡ t → p < (if t then 1 else ports_line z.flow (node_at b n)) → Given z c n p
      go true e l = let x = inputs n (ltb-true n b.inputs e) in zeroth p l (input_given z c b eb n x.0 (ltb-true n b.inputs e) x.1)
      go false e l = line_step (node_at b n) refl l

-- ALL NODES, from the earlier ones on
module _ (z : Rested) (fuel : ℕ) (ih : Progress z fuel) (c : Context) (b : Block ℕ) (eb : block_of z.flow c ≡ Some b) (due : IsDueIn z c)
    (bound : length z.run < depth c + suc fuel) (inputs : InputsCame z c b) where
  below : (n : ℕ) → Before z fuel ih c b eb due bound inputs n
  below zero m p low h l = absurd (omega (arith, low))
  below (suc n) m p low h l = go (below n) (nat_lt m n) refl
    where
      go : Before z fuel ih c b eb due bound inputs n → (t : Bool) → nat_lt m n ≡ t → Given z c m p
      go rest true e = rest m p (ltb-true m n e) h l
      go rest false e =
          let past = ltb-false m n e in
          let same : n ≡ m = omega (arith, past, low) in
          node_step z fuel ih c b eb due bound inputs m (subst (λ m. Before z fuel ih c b eb due bound inputs m) same rest) h p l

pub progress : (z : Rested) (fuel : ℕ) → Progress z fuel
progress z zero c b eb due bound inputs n p h low =
    let x = inputs 0 (block_shaped z c b eb).some_input in
    let s = shallow z _ x.1 in
    absurd (omega (arith, bound, s))
progress z (suc fuel) c b eb due bound inputs n p h low = below z fuel (progress z fuel) c b eb due bound inputs (suc n) n p (omega arith) h low

pub all_have : (z : Rested) (c : Context) (b : Block ℕ) → block_of z.flow c ≡ Some b → IsDueIn z c → InputsCame z c b → AllHave z c b
all_have z c b eb due inputs = progress z (suc (length z.run)) c b eb due (omega arith) inputs
