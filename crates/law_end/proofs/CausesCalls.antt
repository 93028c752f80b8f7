-- Where the arms round a call or a loop are open, the meaning has taken them: so what is called for there is due.
use Rattle.std.proofs.Common.{◌≡◌, ℕ, zero, suc, ◌<◌, ℤ, Bool, true, false, ◌⊎◌, inl, inr, List, [], ◌∷◌, length, Option, Some, None, refl, sym, ap, ◌∙◌, subst}
use Rattle.std.proofs.Common.{arith}
use Rattle.std.specs.Prelude.{slice_get}
use Rattle.semantics.specs.declared.graph.Region.{Region}
use Rattle.semantics.specs.declared.graph.Region.TheVariants.{Root, Arm}
use Rattle.semantics.specs.declared.graph.Kind.{Kind}
use Rattle.semantics.specs.declared.graph.Kind.TheVariants.{Cond, Enter, Merge}
use Rattle.semantics.specs.declared.graph.Source.{Source}
use Rattle.semantics.specs.Graph.{Node, Block, Flow, node_at, node_count}
use Rattle.semantics.specs.Plan.{Plan}
use Rattle.semantics.specs.Meaning.{Context, block_of, block_number, block_numbered, arm_of, arms_round, arms_at, ArmsTaken, callee}
use Rattle.semantics.specs.Machine.{Machine}
use Rattle.law_confluence.proofs.ActivityRows.{Gate, Join, Steering, class_of, class_node, class_in, class_at, region_node, region_in, region_is_arm}
use Rattle.law_confluence.proofs.HistoryLaws.{ArmLaw, IsLineWell, well_at}
use Rattle.law_confluence.proofs.HistoryGrounds.{own_arm, node_class}
use Rattle.law_net.specs.ContextsBlocks.{is_kind, enter_kind, lies_in}
use Rattle.law_net.specs.Contexts.{Wires, block_in, IsContext}
use Rattle.law_net.specs.ContextsOperands.{HasOperands, SourcesAreEarlier}
use Rattle.law_net.specs.ContextsMirror.{Past}
use Rattle.law_net.specs.ContextsTheorem.{IsGood}
use Rattle.law_net.specs.ContextsPackages.{Keeps, InputsFit}
use Rattle.law_net_refines_meaning.proofs.FiringsNodes.{kind_of}
use Rattle.law_net_refines_meaning.proofs.FiringsSettles.{operands_in}
use Rattle.law_net.proofs.WiredInvoked.{block_here}
use Rattle.law_end.specs.Over.{IsOpen}
use Rattle.law_end.proofs.OverSorts.{laws}
use Rattle.law_end.proofs.OverOpen.{arm_decided, arm_round}
use Rattle.law_end.proofs.RestArms.{Ever, Stood', stood_of, lawful, enter_stood}
use Rattle.law_end.proofs.RestReached.{root_arm}

telling_cond : (k : Kind ℕ) → class_of k ≡ Steering → k ≡ Cond
telling_cond Cond e = refl
telling_cond k e = absurd (cc)

gate_enter : (k : Kind ℕ) → class_of k ≡ Gate → enter_kind k ≡ true
gate_enter Enter e = refl
gate_enter k e = absurd (cc)

data Classed (k : Kind ℕ) : Type 0 where
  IsGate : class_of k ≡ Gate → Classed k
  IsJoin : class_of k ≡ Join → Classed k
  IsOther : (class_of k ≡ Gate → ⊥) → (class_of k ≡ Join → ⊥) → Classed k

classed : (k : Kind ℕ) → Classed k
classed Enter = IsGate refl
classed (Merge n) = IsJoin refl
classed k = IsOther (λ e. cc) (λ e. cc)

first_there : {X : Type 0} (xs : List X) → 0 < length xs → (x : X) × (slice_get xs 0 ≡ Some x)
first_there [] h = absurd (omega (arith, h))
first_there (x ∷ xs) h = (x, refl)

module _ (fl : Flow) (p : Plan) (w : Wires) (inputs : List ℤ) (past : Past) (m : Machine) (good : IsGood fl p w) (fit : InputsFit fl inputs)
    (kept : Keeps fl p w inputs past m) (earlier : SourcesAreEarlier fl) where
  module _ (c : Context) (con : IsContext fl c) where
    abbrev b : Block ℕ
    b = block_in fl c

    eb : block_of fl c ≡ Some (block_in fl c)
    eb = block_here fl p w good c con

    source_low : (n l : ℕ) (line : Node ℕ) (s : Source) → node_at b n ≡ Some line → slice_get line.sources l ≡ Some s → s.node < n
    source_low n l line s e g = go (block_number fl c) eb
      where
        go : (o : Option ℕ) → block_numbered fl o ≡ Some (block_in fl c) → s.node < n
        go None f = absurd (cc)
        go (Some i) f = earlier i n l (block_in fl c) line s f e g

    node_there : (n k : ℕ) (t : Bool) → lies_in b n ≡ Arm k t → (line : Node ℕ) × (node_at b n ≡ Some line) × (line.region ≡ Arm k t)
    node_there n k t e = go (node_at b n) refl e
      where
        go : (o : Option (Node ℕ)) → node_at b n ≡ o → arm_of o ≡ Arm k t → (line : Node ℕ) × (node_at b n ≡ Some line) × (line.region ≡ Arm k t)
        go None f g = absurd (root_arm k t g)
        go (Some line) f g = (line, f, g)

    abbrev EnterIn : ℕ → Bool → Type 0
    EnterIn k t = (e : ℕ) × (is_kind enter_kind b e ≡ true) × (lies_in b e ≡ Arm k t)

    -- each node has a source
    sourced : (n : ℕ) (line : Node ℕ) → node_at b n ≡ Some line → 0 < length line.sources
    sourced n line e = go line.kind refl (operands_in fl good.operands c b n line eb e)
      where
        invoked : (f : ℕ) → callee line.kind ≡ Some f → 0 < length line.sources
        invoked f g = let x = (well_at fl good.well c b eb n line e).invokes f g in let same = x.2 in let some = x.3 in omega (arith, same, some)

        go : (k : Kind ℕ) → line.kind ≡ k → HasOperands line.region k (length line.sources) → 0 < length line.sources
        go (Kind.Lit z) g h = omega (arith, h)
        go (Kind.Apply1 o) g h = omega (arith, h)
        go (Kind.Apply2 o) g h = omega (arith, h)
        go Cond g h = omega (arith, h)
        go Enter g h = let x = h.0 in omega (arith, x)
        go (Merge j) g h = omega (arith, h)
        go (Kind.Fetch a) g h = omega (arith, h)
        go (Kind.Store a) g h = omega (arith, h)
        go (Kind.Call f) g h = invoked f (ap callee g)
        go (Kind.StrictCall f) g h = invoked f (ap callee g)
        go (Kind.Loop f x) g h = invoked f (ap callee g)

    -- into an arm in which a node lies leads an enter
    enter_from : (fuel n k : ℕ) (t : Bool) (line : Node ℕ) → n < fuel → node_at b n ≡ Some line → line.region ≡ Arm k t → EnterIn k t
    enter_from zero n k t line low e r = absurd (omega (arith, low))
    enter_from (suc fuel) n k t line low e r = by_class (classed line.kind) (enter_from fuel)
      where
        well : IsLineWell fl b line
        well = well_at fl good.well c b eb n line e

        by_sides : (j : ℕ) → class_node (node_at b j) ≡ Steering → region_node (node_at b j) ≡ line.region → (s : Source) → s.node < n
            → ((◌≡◌ {A = ℕ} 0 0) × (region_node (node_at b s.node) ≡ Arm j true)) ⊎ ((◌≡◌ {A = ℕ} 0 1) × (region_node (node_at b s.node) ≡ Arm j false))
            → ((n k : ℕ) (t : Bool) (line : Node ℕ) → n < fuel → node_at b n ≡ Some line → line.region ≡ Arm k t → EnterIn k t) → EnterIn k t
        by_sides j group region s s_low (inr (z, x)) more = absurd (omega (arith, z))
        by_sides j group region s s_low (inl (z, x)) more =
            let j_low = ((laws fl p w good c con).arms.rounds s.node j true (sym (region_is_arm (node_at b s.node)) ∙ x)).0 in
            let (other, at, lies) = node_there j k t (sym (region_is_arm (node_at b j)) ∙ region ∙ r) in
            more j k t other (omega (arith, low, s_low, j_low)) at lies

        by_class : Classed line.kind → ((n k : ℕ) (t : Bool) (line : Node ℕ) → n < fuel → node_at b n ≡ Some line → line.region ≡ Arm k t → EnterIn k t)
            → EnterIn k t
        by_class (IsGate g) more = (n, kind_of b enter_kind n line e ∙ gate_enter line.kind g, ap arm_of e ∙ r)
        by_class (IsJoin g) more =
            let (j, group, region, sides) = well.joins g in
            let (s, first) = first_there line.sources (sourced n line e) in
            by_sides j group region s (source_low n 0 line s e first) (sides 0 s first) more
        by_class (IsOther g j) more =
            let (s, first) = first_there line.sources (sourced n line e) in
            let s_low = source_low n 0 line s e first in
            let (other, at, lies) = node_there s.node k t (sym (region_is_arm (node_at b s.node)) ∙ well.plain g j 0 s first ∙ r) in
            more s.node k t other (omega (arith, low, s_low)) at lies

    -- THE ARMS round a node with a source were taken
    pub arm_law : (n : ℕ) (line : Node ℕ) → node_at b n ≡ Some line → IsOpen fl w kept.tracks.net.fired c (lies_in b n)
        → ArmLaw (Ever fl p w inputs past m good fit kept) c (lies_in b n)
    arm_law n line e o = go (lies_in b n) refl
      where
        go : (r : Region) → lies_in b n ≡ r → ArmLaw (Ever fl p w inputs past m good fit kept) c r
        go Root g = tt
        go (Arm k t) g =
            let cond = ((laws fl p w good c con).arms.rounds n k t g).1 in
            let mine = subst (IsOpen fl w kept.tracks.net.fired c) g o in
            let (en, here, lies) = enter_from (suc n) n k t line (omega arith) e (ap arm_of (sym e) ∙ g) in
            enter_stood fl p w inputs past m good fit kept c con en k t t here lies
            (arm_decided fl p w inputs past m good fit kept c con k t (inl cond) mine)
            (arm_round fl p w inputs past m good fit kept c con k t (inl cond) mine)

    -- and all further out
    taken_from : (depth : ℕ) (r : Region) → ((k : ℕ) (t : Bool) → r ≡ Arm k t → class_node (node_at b k) ≡ Steering)
        → ArmLaw (Ever fl p w inputs past m good fit kept) c r → ArmsTaken (Stood' fl p w inputs past m good fit kept) c (arms_round depth b r)
    taken_from zero r tells law = tt
    taken_from (suc depth) Root tells law = tt
    taken_from (suc depth) (Arm k t) tells law =
        let group : class_at fl c k ≡ Steering = ap (λ o. class_in o k) eb ∙ node_class b k (tells k t refl) in
        let out : ArmLaw (Ever fl p w inputs past m good fit kept) c (arm_of (node_at b k)) =
        subst (ArmLaw (Ever fl p w inputs past m good fit kept) c) (ap (λ o. region_in o k) eb ∙ region_is_arm (node_at b k))
        (own_arm fl good.well (Ever fl p w inputs past m good fit kept) (lawful fl p w inputs past m good fit kept) c k 0 law.0 law.1
        (λ e. absurd (cc)) (λ e. absurd (cc))) in
        ((law.0, stood_of fl p w inputs past m good fit kept _ law.1, law.2), taken_from depth (arm_of (node_at b k)) (λ j s e. round k j s e) out)
      where
        round : (n j : ℕ) (s : Bool) → arm_of (node_at b n) ≡ Arm j s → class_node (node_at b j) ≡ Steering
        round n j s e = let (line, at, region) = node_there n j s e in (well_at fl good.well c b eb n line at).round j s region

    pub arms_taken : (n : ℕ) (line : Node ℕ) → node_at b n ≡ Some line → IsOpen fl w kept.tracks.net.fired c (lies_in b n)
        → ArmsTaken (Stood' fl p w inputs past m good fit kept) c (arms_at (block_of fl c) n)
    arms_taken n line e o =
        subst (λ (x : Option (Block ℕ)). ArmsTaken (Stood' fl p w inputs past m good fit kept) c (arms_at x n)) (sym eb)
        (taken_from (node_count b) (arm_of (node_at b n))
        (λ j s g. let (other, at, region) = node_there n j s g in (well_at fl good.well c b eb n other at).round j s region) (arm_law n line e o))
