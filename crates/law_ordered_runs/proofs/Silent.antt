-- IN AN ARM THAT IS NOT TAKEN nothing happens but that its enters shut; and a merge takes the side that is chosen alone.
use Rattle.std.proofs.Common.{◌≡◌, ℕ, zero, suc, ◌+◌, ◌<◌, ℤ, Bool, true, false, List, [], ◌∷◌, length, Option, Some, None, Contains, refl, sym}
use Rattle.std.proofs.Common.{ap, ◌∙◌, subst, arith, if◌then◌else◌}
use Rattle.std.specs.Prelude.{slice_get}
use Rattle.std.proofs.lemmas.Option.{same_Some}
use Rattle.tags.specs.declared.value.Value.{Value}
use Rattle.operators.specs.Values.{truth}
use Rattle.semantics.specs.declared.graph.Region.{Region}
use Rattle.semantics.specs.declared.graph.Region.TheVariants.{Root, Arm}
use Rattle.semantics.specs.declared.graph.Source.{Source}
use Rattle.semantics.specs.declared.graph.Kind.{Kind}
use Rattle.semantics.specs.declared.graph.Kind.TheVariants.{Lit, Apply1, Apply2, Cond, Enter, Merge, Fetch, Store, Call, StrictCall, Loop}
use Rattle.semantics.specs.Graph.{Graph, Node, Block, Flow, flow_of, node_at, node_count, array_names, block_names, resolved_kind}
use Rattle.semantics.specs.WellFormed.{WellFormed}
use Rattle.semantics.specs.Meaning.{Context, Called, Turned, AtNode, Operand, Tagged, tagged, Activity, Fires, Gates, Passes, Deed, Sends, taken, fired}
use Rattle.semantics.specs.Meaning.{passed, gated, block_of, block_number, block_numbered, ArmsTaken, arm_of, arms_round, arms_at}
use Rattle.lemmas.proofs.Permutations.{Each, put_first}
use Rattle.law_confluence.specs.Outcome.{AreInputsOf}
use Rattle.law_confluence.proofs.ActivityRows.{Gate, Join, Steering, class_of, class_node, class_in, class_at, region_node, region_in, region_at, region_is_arm, RowMerges}
use Rattle.law_confluence.proofs.HistoryGrounds.{class_line, node_class, own_arm, row_grounded}
use Rattle.law_confluence.proofs.HistoryLaws.{ArmLaw}
use Rattle.law_confluence.proofs.OutcomeResolved.{flow_well}
use Rattle.law_confluence.proofs.EquationsGraphForms.{IsBlock, IsCondAt, HasForm, line_below}
use Rattle.law_confluence.proofs.EquationsGraphFormed.{shaped}
use Rattle.law_confluence.proofs.EquationsProgressInvocations.{merge_form}
use Rattle.source.specs.Tree.{Name, Program}
use Rattle.source.specs.Lowered.{Made}
use Rattle.law_language.specs.MeansHolds.{resolved}
use Rattle.law_language.proofs.MeansLies.{Inside, Here, Further, LieIn, HoldsMade}
use Rattle.law_ordered_runs.proofs.EntersPast.{Past}
use Rattle.law_ordered_runs.proofs.Extending.{Going, Came, On}
use Rattle.law_ordered_runs.proofs.Origins.{Comes, some_operand, happened_at, operand_source, lawful, one_token, taken_came}
use Rattle.law_ordered_runs.proofs.Closing.{AtLine, AsFires, AsGates, AsPasses, fires_line, gates_line, passes_line, Closes, ClosesLine, closes_node}
use Rattle.law_ordered_runs.proofs.Closing.{closes_never, closes_none, closes_both}

pub block_shaped : (g : Graph) → WellFormed g → (c : Context) (b : Block ℕ) → block_of (flow_of g) c ≡ Some b → IsBlock (flow_of g) b
block_shaped g well c b e = go (block_number (flow_of g) c) e
  where
    go : (o : Option ℕ) → block_numbered (flow_of g) o ≡ Some b → IsBlock (flow_of g) b
    go None f = cc
    go (Some i) f = shaped g well i b f

fires_class : (fl : Flow) (c : Context) (n : ℕ) (vs : List Value) (kind : Kind ℕ) (d : Deed) → fired fl c n kind vs ≡ Some d
    → (class_of kind ≡ Gate → ⊥) × (class_of kind ≡ Join → ⊥)
fires_class fl c n vs (Lit w) d e = ((λ f. cc), (λ f. cc))
fires_class fl c n vs (Apply1 op) d e = ((λ f. cc), (λ f. cc))
fires_class fl c n vs (Apply2 op) d e = ((λ f. cc), (λ f. cc))
fires_class fl c n vs Cond d e = ((λ f. cc), (λ f. cc))
fires_class fl c n vs (Fetch a) d e = ((λ f. cc), (λ f. cc))
fires_class fl c n vs (Store a) d e = ((λ f. cc), (λ f. cc))
fires_class fl c n vs (StrictCall f) d e = ((λ f. cc), (λ f. cc))
fires_class fl c n vs kind d e = cc

module _ (g : Graph) (inputs : List ℤ) (well : WellFormed g) (count : AreInputsOf g inputs) (c : Context) (b : Block ℕ)
    (eb : block_of (flow_of g) c ≡ Some b) where
  abbrev fl : Flow
  fl = flow_of g

  shape : IsBlock fl b
  shape = block_shaped g well c b eb

  cond_at : (n k : ℕ) (side : Bool) → arm_of (node_at b n) ≡ Arm k side → IsCondAt b k
  cond_at n k side e = go (node_at b n) refl e
    where
      go : (o : Option (Node ℕ)) → node_at b n ≡ o → arm_of o ≡ Arm k side → IsCondAt b k
      go None f h = cc
      go (Some line) f h = ((shape.lines n line f).round k side h).1

  module _ (y : Going g inputs) where
    abbrev CameIn : Tagged → Type 0
    CameIn t = Came g inputs well count y t

    -- the conditional took a value of this truth
    abbrev pub Took : ℕ → Bool → Type 0
    Took k side = (v : Value) × CameIn (tagged c (AtNode k) (Operand 0) v) × (truth v ≡ side)

    region_here : (n : ℕ) → region_at fl c n ≡ arm_of (node_at b n)
    region_here n = ap (λ o. region_in o n) eb ∙ region_is_arm (node_at b n)

    cond_arm : (k : ℕ) (v : Value) → IsCondAt b k → CameIn (tagged c (AtNode k) (Operand 0) v) → ArmLaw CameIn c (arm_of (node_at b k))
    cond_arm k v h came =
        let class : class_at fl c k ≡ Steering = ap (λ o. class_in o k) eb ∙ node_class b k (ap class_node h.1 ∙ ap class_of h.2) in
        subst (λ r. ArmLaw CameIn c r) (region_here k)
        (own_arm fl (flow_well g well) CameIn (lawful g inputs well count y) c k 0 v came (λ e. cc) (λ e. cc))

    -- from an arm outwards
    chain : (k : ℕ) (side : Bool) (q : Region) → ((j : ℕ) (s : Bool) → q ≡ Arm j s → IsCondAt b j) → Inside b (Arm k side) q → ArmLaw CameIn c q → Took k side
    chain k side q conds (Here e) law = subst (λ q. ArmLaw CameIn c q) e law
    chain k side q conds (Further j s e i) law =
        let arm : ArmLaw CameIn c (Arm j s) = subst (λ q. ArmLaw CameIn c q) e law in
        chain k side (arm_of (node_at b j)) (λ m t f. cond_at j m t f) i (cond_arm j arm.0 (conds j s e) arm.1)

    module _ (n : ℕ) (line : Node ℕ) (el : node_at b n ≡ Some line) where
      class_here : class_at fl c n ≡ class_of line.kind
      class_here = ap (λ o. class_in o n) eb ∙ class_line b n line el

      own_region : ArmLaw CameIn c (region_at fl c n) → ArmLaw CameIn c line.region
      own_region h = subst (λ r. ArmLaw CameIn c r) (region_here n ∙ ap arm_of el) h

      conds_here : (j : ℕ) (s : Bool) → line.region ≡ Arm j s → IsCondAt b j
      conds_here j s e = cond_at n j s (ap arm_of el ∙ e)

      fires_arm : (vs : List Value) → Comes g inputs well count y (Fires c n vs) → ArmLaw CameIn c line.region
      fires_arm vs h = go vs h (some_operand g inputs well count y (Fires c n vs) h)
        where
          go : (vs : List Value) → Comes g inputs well count y (Fires c n vs) → 0 < length (taken (Fires c n vs)) → ArmLaw CameIn c line.region
          go [] h l = absurd (omega (arith, l))
          go (v ∷ vs) h l =
              let k = fires_class fl c n (v ∷ vs) line.kind h.does (fires_line fl c b eb n line el (v ∷ vs) h.does h.is_deed) in
              own_region (own_arm fl (flow_well g well) CameIn (lawful g inputs well count y) c n 0 v h.came.0 (λ e. k.0 (sym class_here ∙ e))
              (λ e. k.1 (sym class_here ∙ e)))

      passes_arm : (i : ℕ) (v : Value) → Comes g inputs well count y (Passes c n i v) → ArmLaw CameIn c line.region
      passes_arm i v h = go line.kind refl (passes_line fl c b eb n line el i v h.does h.is_deed)
        where
          plain : (class_of line.kind ≡ Gate → ⊥) → (class_of line.kind ≡ Join → ⊥) → ArmLaw CameIn c line.region
          plain gate join =
              own_region (own_arm fl (flow_well g well) CameIn (lawful g inputs well count y) c n i v h.came.0 (λ e. gate (sym class_here ∙ e))
              (λ e. join (sym class_here ∙ e)))

          go : (kind : Kind ℕ) → line.kind ≡ kind → passed c n i v kind ≡ Some h.does → ArmLaw CameIn c line.region
          go (Merge k) e f =
              own_region (row_grounded fl (flow_well g well) CameIn (lawful g inputs well count y) (Passes c n i v) (Sends c n 0 v)
              (RowMerges c n i v refl refl (class_here ∙ ap class_of e)) h.came).1
          go (Call a) e f = plain (λ x. (let p = ap class_of e in cc)) (λ x. (let p = ap class_of e in cc))
          go (Loop a k) e f = plain (λ x. (let p = ap class_of e in cc)) (λ x. (let p = ap class_of e in cc))
          go kind e f = cc

      -- a gate's predicate is told by its conditional
      told : (v w : Value) → Comes g inputs well count y (Gates c n v w) → (k : ℕ) (side : Bool) → line.region ≡ Arm k side
          → CameIn (tagged c (AtNode k) (Operand 0) w)
      told v w h k side e =
          let law = (lawful g inputs well count y _ h.came.1.0).1 in
          let bs : law.0 ≡ b = same_Some law.0 b (sym law.4 ∙ eb) in
          let lines : law.1 ≡ line = same_Some law.1 line (sym law.5 ∙ ap (λ (b : Block ℕ). node_at b n) bs ∙ el) in
          let arms : Arm law.2 law.3 ≡ Arm k side = sym law.6 ∙ ap (λ (l : Node ℕ). l.region) lines ∙ e in
          let same : law.2 ≡ k = cc in
          subst (λ k. CameIn (tagged c (AtNode k) (Operand 0) w)) same law.7

      -- WHAT IS AT A LINE of an arm, but an enter of that arm itself, happens where the arm is taken.
      pub line_took : (k : ℕ) (side : Bool) → Inside b (Arm k side) line.region → (line.kind ≡ Enter → line.region ≡ Arm k side → ⊥) → (a : Activity)
          → Comes g inputs well count y a → AtLine c n a → Took k side
      line_took k side i own a h (AsFires vs e) =
          chain k side line.region conds_here i (fires_arm vs (subst (λ a. Comes g inputs well count y a) e h))
      line_took k side i own a h (AsPasses j v e) =
          chain k side line.region conds_here i (passes_arm j v (subst (λ a. Comes g inputs well count y a) e h))
      line_took k side i own a h (AsGates v w e) = go i
        where
          it : Comes g inputs well count y (Gates c n v w)
          it = subst (λ a. Comes g inputs well count y a) e h

          kind : line.kind ≡ Enter
          kind = enter line.region line.kind (gates_line fl c b eb n line el v w it.does it.is_deed)
            where
              enter : (r : Region) (kind : Kind ℕ) → gated c n v w r kind ≡ Some it.does → kind ≡ Enter
              enter (Arm m s) Enter f = refl
              enter r kind f = cc

          go : Inside b (Arm k side) line.region → Took k side
          go (Here f) = absurd (own kind f)
          go (Further j s f l) = chain k side (arm_of (node_at b j)) (λ m t x. cond_at j m t x) l (cond_arm j w (conds_here j s f) (told v w it j s f))

      taken_arm : (depth : ℕ) → 0 < depth → (r : Region) → ArmsTaken CameIn c (arms_round depth b r) → ArmLaw CameIn c r
      taken_arm zero low r h = absurd (omega (arith, low))
      taken_arm (suc depth) low Root h = tt
      taken_arm (suc depth) low (Arm k side) h = h.0

      pub arms_took : (k : ℕ) (side : Bool) → Inside b (Arm k side) line.region → ArmsTaken CameIn c (arms_at (block_of fl c) n) → Took k side
      arms_took k side i arms =
          let here : ArmsTaken CameIn c (arms_round (node_count b) b (arm_of (node_at b n))) = subst (λ o. ArmsTaken CameIn c (arms_at o n)) eb arms in
          let low = line_below b n line el in
          chain k side line.region conds_here i
          (taken_arm (node_count b) (omega (arith, low)) line.region (subst (λ o. ArmsTaken CameIn c (arms_round (node_count b) b (arm_of o))) el here))

  -- WHERE A CONDITIONAL HAS FIRED, it took that value alone.
  pub other_side : (x y : Going g inputs) → On g inputs well count x y → (k : ℕ) (w : Value) → Contains x.run (Fires c k (w ∷ [])) → (side : Bool)
      → (truth w ≡ side → ⊥) → Took y k side → ⊥
  other_side x y on k w happened side other h =
      let mine = taken_came g inputs well count y (Fires c k (w ∷ [])) (on.kept _ happened) (tagged c (AtNode k) (Operand 0) w) (_, put_first _ _) in
      let same = one_token g inputs well count y (tagged c (AtNode k) (Operand 0) h.0) (tagged c (AtNode k) (Operand 0) w) h.1 mine (refl, refl, refl) in
      other (ap truth (sym (ap (λ (t : Tagged). t.value) same)) ∙ h.2)

  module _ (x : Going g inputs) (k : ℕ) (w : Value) (happened : Contains x.run (Fires c k (w ∷ []))) where
    -- A LINE OF THE OTHER ARM is closed.
    pub silent_line : (side : Bool) → (truth w ≡ side → ⊥) → (n : ℕ) (line : Node ℕ) → node_at b n ≡ Some line → Inside b (Arm k side) line.region
        → ClosesLine g inputs well count x c n → Closes g inputs well count x c n (n + 1)
    silent_line side other n line el i own =
        closes_node g inputs well count x c n own
        (closes_never g inputs well count x (Called c n)
        (λ y on due. other_side x y on k w happened side other (arms_took y n line el k side i due.2)))
        (λ t. closes_never g inputs well count x (Turned c n t)
        (λ y on due. other_side x y on k w happened side other (arms_took y n line el k side i due.2)))

    pub silent_own : (side : Bool) → (truth w ≡ side → ⊥) → (n : ℕ) (line : Node ℕ) → node_at b n ≡ Some line → Inside b (Arm k side) line.region
        → (line.kind ≡ Enter → line.region ≡ Arm k side → ⊥) → ClosesLine g inputs well count x c n
    silent_own side other n line el i enter y on a h l = absurd (other_side x y on k w happened side other (line_took y n line el k side i enter a h l))

    -- A MERGE that has passed a value from the side that was chosen
    pub merge_closed : (n : ℕ) (line : Node ℕ) → node_at b n ≡ Some line → line.kind ≡ Merge k → (on_side : Bool) → truth w ≡ on_side → (i : ℕ)
        → i ≡ (if on_side then 0 else 1) → (v : Value) → Contains x.run (Passes c n i v) → ClosesLine g inputs well count x c n
    merge_closed n line el kind on_side chooses i at v passed_it y on a h (AsFires vs e) =
        let f = sym (ap (λ kind. fired fl c n kind vs) kind)
        ∙ fires_line fl c b eb n line el vs (subst (λ a. Comes g inputs well count y a) e h).does (subst (λ a. Comes g inputs well count y a) e h).is_deed in
        absurd (cc)
    merge_closed n line el kind on_side chooses i at v passed_it y on a h (AsGates u q e) =
        let it = subst (λ a. Comes g inputs well count y a) e h in
        absurd (no_gate line.region (subst (λ kind. gated c n u q line.region kind ≡ Some it.does) kind (gates_line fl c b eb n line el u q it.does it.is_deed)))
      where
        no_gate : (r : Region) → gated c n u q r (Merge k) ≡ Some (subst (λ a. Comes g inputs well count y a) e h).does → ⊥
        no_gate Root f = cc
        no_gate (Arm j s) f = cc
    merge_closed n line el kind on_side chooses i at v passed_it y on a h (AsPasses j u e) =
        subst (λ a. Contains y.run a) (sym e) (side_is on_side chooses at s.0 s.1 s.2 j refl)
      where
        it : Comes g inputs well count y (Passes c n j u)
        it = subst (λ a. Comes g inputs well count y a) e h

        s : (s : Source) × (slice_get line.sources j ≡ Some s) × ArmLaw (CameIn y) c (region_node (node_at b s.node))
        s = operand_source g inputs well count y c b n j line u eb el it.came.0

        form : (s : Source) × (t : Source) × (line.sources ≡ s ∷ t ∷ []) × IsCondAt b k × (arm_of (node_at b k) ≡ line.region)
            × (arm_of (node_at b s.node) ≡ Arm k true) × (arm_of (node_at b t.node) ≡ Arm k false)
        form = merge_form fl b line.region k line.sources
            (subst (λ kind. HasForm fl b line.region kind line.sources) kind (shape.lines n line el).form)

        here : i ≡ j → Contains y.run (Passes c n j u)
        here same =
            happened_at g inputs well count y (Passes c n j u) (Passes c n i v) it (on.kept _ passed_it) (tagged c (AtNode n) (Operand i) v)
            (tagged c (AtNode n) (Operand j) u) (_, put_first _ _) (_, put_first _ _) (refl, refl, ap Operand same)

        not_here : (side : Bool) → (truth w ≡ side → ⊥) → (r : Source) → arm_of (node_at b r.node) ≡ Arm k side
            → ArmLaw (CameIn y) c (region_node (node_at b r.node)) → Contains y.run (Passes c n j u)
        not_here side other r at law =
            absurd (other_side x y on k w happened side other (subst (λ r. ArmLaw (CameIn y) c r) (region_is_arm (node_at b r.node) ∙ at) law))

        side_is : (on_side : Bool) → truth w ≡ on_side → i ≡ (if on_side then 0 else 1) → (r : Source) → slice_get line.sources j ≡ Some r
            → ArmLaw (CameIn y) c (region_node (node_at b r.node)) → (m : ℕ) → m ≡ j → Contains y.run (Passes c n j u)
        side_is true t at r er law zero ej = here (at ∙ ej)
        side_is true t at r er law (suc zero) ej =
            let same : form.1 ≡ r = same_Some form.1 r (sym (ap (λ ss. slice_get ss 1) form.2) ∙ ap (λ i. slice_get line.sources i) ej ∙ er) in
            not_here false (λ f. (let g = sym t ∙ f in cc)) r (subst (λ (r : Source). arm_of (node_at b r.node) ≡ Arm k false) same form.6) law
        side_is false t at r er law zero ej =
            let same : form.0 ≡ r = same_Some form.0 r (sym (ap (λ ss. slice_get ss 0) form.2) ∙ ap (λ i. slice_get line.sources i) ej ∙ er) in
            not_here true (λ f. (let g = sym t ∙ f in cc)) r (subst (λ (r : Source). arm_of (node_at b r.node) ≡ Arm k true) same form.5) law
        side_is false t at r er law (suc zero) ej = here (at ∙ ej)
        side_is on_side t at r er law (suc (suc m)) ej =
            let none = sym (ap (λ ss. slice_get ss (suc (suc m))) form.2) ∙ ap (λ i. slice_get line.sources i) ej ∙ er in absurd (cc)

-- MANY LINES of an arm that is not taken
resolved_enter : (arrays blocks : List Name) (kind : Kind Name) → resolved_kind arrays blocks kind ≡ Enter → kind ≡ Enter
resolved_enter arrays blocks Enter e = refl
resolved_enter arrays blocks (Lit z) e = cc
resolved_enter arrays blocks (Apply1 op) e = cc
resolved_enter arrays blocks (Apply2 op) e = cc
resolved_enter arrays blocks Cond e = cc
resolved_enter arrays blocks (Merge k) e = cc
resolved_enter arrays blocks (Fetch a) e = cc
resolved_enter arrays blocks (Store a) e = cc
resolved_enter arrays blocks (Call f) e = cc
resolved_enter arrays blocks (StrictCall f) e = cc
resolved_enter arrays blocks (Loop f k) e = cc

pub silent_lines : (g : Graph) (inputs : List ℤ) (well : WellFormed g) (count : AreInputsOf g inputs) (p : Program) (c : Context) (b : Block ℕ)
    (eb : block_of (flow_of g) c ≡ Some b) (x : Going g inputs) (k : ℕ) (w : Value) (happened : Contains x.run (Fires c k (w ∷ []))) (side : Bool)
    → (truth w ≡ side → ⊥) → (n : ℕ) (ms : List Made) → HoldsMade p g b n ms → LieIn b (Arm k side) ms → Each (Past p (k + 1)) ms
    → Closes g inputs well count x c n (n + length ms)
silent_lines g inputs well count p c b eb x k w happened side other n [] lines lies past =
    subst (λ hi. Closes g inputs well count x c n hi) (omega arith) (closes_none g inputs well count x c n)
silent_lines g inputs well count p c b eb x k w happened side other n (m ∷ ms) lines lies past =
    subst (λ hi. Closes g inputs well count x c n hi) (omega arith)
    (closes_both g inputs well count x c n (n + 1) (n + 1 + length ms)
    (silent_line g inputs well count c b eb x k w happened side other n (resolved g m) lines.0 lies.0
    (silent_own g inputs well count c b eb x k w happened side other n (resolved g m) lines.0 lies.0
    (λ e f. (let low = past.0 k side (resolved_enter (array_names g) (block_names g) m.node.kind e) f in omega (arith, low)))))
    (silent_lines g inputs well count p c b eb x k w happened side other (n + 1) ms lines.1 lies.1 past.1))
