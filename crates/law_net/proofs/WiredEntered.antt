-- Only what lies in an arm, or a switch of its conditional on that side, leads into the arm; and a conditional's word comes from its
-- source.
use Rattle.std.proofs.Common.{◌≡◌, ℕ, suc, ◌+◌, ◌<◌, Bool, true, false, not, ◌&&◌, ℤ, List, refl, sym, ap, ◌∙◌, subst, inl, inr, ◌⊎◌, arith, true≢false}
use Rattle.std.proofs.Common.{ltb-true, Some, None, ◌==◌, if◌then◌else◌}
use Rattle.std.specs.Prelude.{Contains}
use Rattle.std.proofs.lemmas.Bool.{and_parts}
use Rattle.lemmas.proofs.Contains.{contains_none}
use Rattle.lemmas.proofs.Bools.{not_not}
use Rattle.tags.specs.declared.token.Port.TheVariants.{Right}
use Rattle.tags.specs.declared.value.Value.{Value}
use Rattle.operators.specs.Values.{truth}
use Rattle.semantics.specs.declared.graph.Region.{Region}
use Rattle.semantics.specs.declared.graph.Region.TheVariants.{Root, Arm}
use Rattle.semantics.specs.Graph.{Block, Flow}
use Rattle.semantics.specs.Meaning.{Context, Main, Called, Turned}
use Rattle.semantics.specs.Cause.{is_turn}
use Rattle.semantics.specs.Plan.{Plan}
use Rattle.law_net.specs.ContextsParts.{Part, Line, Trigger, Gate, Merge, Framer, Linker, Sender, Landing, Giver, Taker, Drainer, Result, TurnCont, TurnFlag}
use Rattle.law_net.specs.ContextsParts.{TurnValue, Asker, NextFramer, NextSender, LastReturn, DrainReturn, CondEnd, End, Asked, NextAsked, InCell}
use Rattle.law_net.specs.ContextsParts.{Drained, Inlet}
use Rattle.law_net.specs.ContextsParts.{inlet, Note, Datum, Item, item, Firing, spot_of, role, role_of, turn_in}
use Rattle.law_net.specs.ContextsBlocks.{Side, side, is_switch, is_kind, cond_kind, merge_cond, is_cell, is_loop, source_count, there_in, waits_in, lies_in}
use Rattle.law_net.specs.ContextsBlocks.{entered, leaves_in, arm_round, outside, flag}
use Rattle.law_net.specs.Contexts.{Wires, block_in, site_in, wiring_in, IsContext, child}
use Rattle.law_net.specs.ContextsWires.{is_unwired, predicate_at, cond_round, decider}
use Rattle.law_net.specs.ContextsAround.{Choice, Way, way, ways_round}
use Rattle.law_net.specs.ContextsFirings.{takes, sent_word, truth_of, right_way}
use Rattle.law_net.specs.ContextsLaws.{maker_of, in_region, flag_arm, landing_arms, arms_of, InArm, IsPredicate, source}
use Rattle.law_net.specs.ContextsTheorem.{IsGood}
use Rattle.law_net.specs.ContextsPackages.{InputsFit, AllFit, Shows, ArmsAreEntered}
use Rattle.law_net.proofs.WiredSends.{side_by, IsSent, SideOf, sent_facts, in_context, first_taken, takes_first, takes_right, first_context}
use Rattle.law_net.proofs.WiredInvoked.{not_loop, Child, ByCall, ByLoop, child_cases, child_here, lawful_at}
use Rattle.law_net.proofs.WiredRounds.{flag_root, root_region, input_root, under, round_node, round_turn, round_next, IsChoice, choice_round, choice_cases}
use Rattle.law_net.proofs.WiredRounds.{end_choice}
use Rattle.law_net.proofs.WiredGifts.{Gift, GHeld, GAsked, GArgument, GFanned, GEntry, GInput, GShown, GLanding, GLeaves, GDrains, GFreed, GDone, GCallDone}
use Rattle.law_net.proofs.WiredGifts.{GGiver, GTaker, GNextFramer, GNextAsked, GNextFanned, GNextEntry, GNextInput, GLoopDone, there_as, there_in_context}
use Rattle.law_net.proofs.WiredWords.{Begins, AtEntry, AtInput, begin_cases, input_below}
use Rattle.law_net.proofs.WiredFed.{MadeAt, ByGift, ByWire, made_at, turn_none}

abbrev choice_way : Choice → Bool → Way
choice_way k t = record { choice = k; side = t }

-- the arms of a wire's inlet are those of its region
wired_arms : (fl : Flow) (c : Context) (r : Part) (way : ℕ) → is_unwired (block_in fl c) r ≡ false
    → arms_of fl c r way ≡ in_region fl c (entered (block_in fl c) r way)
wired_arms fl c (Landing n j) way g = absurd (true≢false g)
wired_arms fl c (Drainer n) way g = absurd (true≢false g)
wired_arms fl c (Giver n) way g = absurd (true≢false g)
wired_arms fl c (Taker n) way g = absurd (true≢false g)
wired_arms fl c r way g = refl

module _ (fl : Flow) (p : Plan) (w : Wires) (good : IsGood fl p w) (inputs : List ℤ) where
  -- A FIRING SHOWS an arm by where it takes its first word
  module _ (f : Firing) (all : AllFit fl w (takes fl f)) where
    here : IsContext fl f.context
    here = in_context fl w f all

    abbrev FirstArms : Part → Way → Type 0
    FirstArms r x = Contains (arms_of fl f.context (first_taken fl w f r).inlet.part (first_taken fl w f r).inlet.way) x

    by_first : (r : Part) → f.part ≡ r → (k : Choice) (s : Bool) → FirstArms r (choice_way k s) → Shows fl w inputs f k s
    by_first r e k s a = inl (
      first_taken fl w f f.part,
      takes_first fl w f,
      subst (λ (c : Context). Contains (arms_of fl c (first_taken fl w f f.part).inlet.part (first_taken fl w f f.part).inlet.way) (choice_way k s))
          (sym (first_context fl w f f.part))
          (subst (λ (r : Part). FirstArms r (choice_way k s)) (sym e) a),
    )

    -- or by a conditional's word
    by_word : (r : Part) → f.part ≡ r → waits_in (block_in fl f.context) r ≡ true → (n : ℕ) → predicate_at (block_in fl f.context) r Right ≡ Some n
        → (v : Value) → f.right ≡ Datum v → Shows fl w inputs f (record { context = f.context; cond = n }) (truth v)
    by_word r e h n g v q = inr (
      item f.context (inlet f.part Right (right_way fl f.context f.part)) f.right,
      takes_right fl w f (subst (λ (r : Part). waits_in (block_in fl f.context) r ≡ true) (sym e) h),
      (refl, subst (λ (r : Part). predicate_at (block_in fl f.context) r Right ≡ Some n) (sym e) g),
      ap truth_of q,
    )

    -- after a switch
    behind : (r : Part) → f.part ≡ r → waits_in (block_in fl f.context) r ≡ true → (n : ℕ) → IsChoice fl p w good f.context n
        → predicate_at (block_in fl f.context) r Right ≡ Some n → (v : Value) → f.right ≡ Datum v
        → (k : Choice) (s : Bool) → (Contains (in_region fl f.context (lies_in (block_in fl f.context) n)) (choice_way k s) → FirstArms r (choice_way k s))
        → (u : Bool) → u ≡ truth v → Contains (in_region fl f.context (Arm n u)) (choice_way k s) → Shows fl w inputs f k s
    behind r e h n cond g v q k s first u t m = pick (choice_cases fl p w good f.context n u (choice_way k s) here cond m)
      where
        pick : (way f.context n u ≡ choice_way k s) ⊎ Contains (in_region fl f.context (lies_in (block_in fl f.context) n)) (choice_way k s)
            → Shows fl w inputs f k s
        pick (inr d) = by_first r e k s (first d)
        pick (inl d) =
            let a : record { context = f.context; cond = n } ≡ k = ap (λ (x : Way). x.choice) d in let b : u ≡ s = ap (λ (x : Way). x.side) d in
            subst (λ (k : Choice). Shows fl w inputs f k s) a
            (subst (λ (s : Bool). Shows fl w inputs f (record { context = f.context; cond = n }) s) (sym t ∙ b) (by_word r e h n g v q))

    abbrev Behind : Side → Choice → Bool → Type 0
    Behind t k s = Contains (in_region fl f.context (leaves_in (block_in fl f.context) t.part t.second)) (choice_way k s)

    gate_shows : (n : ℕ) (r : Region) → lies_in (block_in fl f.context) n ≡ r → f.part ≡ Gate n → (u : Bool) (v : Value) → f.right ≡ Datum v → u ≡ truth v
        → (k : Choice) (s : Bool)
        → Contains (in_region fl f.context (arm_round r u)) (choice_way k s) → Shows fl w inputs f k s
    gate_shows n Root g e u v q t k s m =
        by_first (Gate n) e k s (subst (λ (r : Region). Contains (in_region fl f.context (outside (block_in fl f.context) r)) (choice_way k s)) (sym g) m)
    gate_shows n (Arm j side) g e u v q t k s m =
        behind (Gate n) e refl j (inl ((lawful_at fl p w good f.context here).arms.rounds n j side g).1) (ap cond_round g) v q k s
        (λ d. subst (λ (r : Region). Contains (in_region fl f.context (outside (block_in fl f.context) r)) (choice_way k s)) (sym g) d) u t m

    -- the flag's switches
    flag_shows : (r : Part) → f.part ≡ r → waits_in (block_in fl f.context) r ≡ true → is_turn f.context ≡ true
        → predicate_at (block_in fl f.context) r Right ≡ Some (flag (block_in fl f.context)) → (v : Value) → f.right ≡ Datum v
        → (k : Choice) (s : Bool) → (Contains (in_region fl f.context Root) (choice_way k s) → FirstArms r (choice_way k s)) → (second : Bool)
        → second ≡ not (truth v) → Contains (in_region fl f.context (Arm (flag (block_in fl f.context)) (not second))) (choice_way k s)
        → Shows fl w inputs f k s
    flag_shows r e h turn g v q k s first second t m = behind r e h (flag (block_in fl f.context)) (inr (turn, refl)) g v q k s
        (λ d. first (subst (λ (r : Region). Contains (in_region fl f.context r) (choice_way k s)) (flag_root (block_in fl f.context)) d)) (not second)
        (ap not t ∙ not_not (truth v)) m

    -- an answer, or any other word of a line
    line_shows : (n : ℕ) (t : Bool) → (if t then InCell n else Line n) ≡ f.part → (k : Choice) (s : Bool)
        → Contains (in_region fl f.context (lies_in (block_in fl f.context) n)) (choice_way k s) → Shows fl w inputs f k s
    line_shows n false e k s m = by_first (Line n) (sym e) k s m
    line_shows n true e k s m = by_first (InCell n) (sym e) k s (subst (λ (r : Part). Contains (arms_of fl f.context r 0) (choice_way k s)) e m)

    -- a landing's word, by the turn that sent it
    landing_shows : (n t : ℕ) (s : Bool) (x : Way) → Contains (in_region fl f.context (lies_in (block_in fl f.context) n)) x
        → Contains (landing_arms fl f.context n t s) x
    landing_shows n t false x m = m
    landing_shows n t true x m =
        under fl (Turned f.context n t) (flag_arm fl (Turned f.context n t) false) x (round_turn fl p w good f.context n t x here m)

    -- what leaves a side shows the arms that it lies in
    shows_by : (q : Part) (second : Bool) → there_in fl (site_in fl w f.context) (wiring_in fl w f.context) q ≡ true
        → maker_of (block_in fl f.context) q ≡ f.part → side_by fl f f.part ≡ Some (side q second)
        → (is_switch q ≡ true → (q ≡ f.part) × ((v : Value) × (f.right ≡ Datum v) × (second ≡ not (truth v))))
        → (k : Choice) (s : Bool) → Behind (side q second) k s → Shows fl w inputs f k s
    shows_by (Line n) second h e o sw k s m = line_shows n (is_cell (block_in fl f.context) n) e k s m
    shows_by (Gate n) second h e o sw k s m =
        let x = sw refl in let v = x.1.0 in gate_shows n (lies_in (block_in fl f.context) n) refl (sym e) (not second) v x.1.1
        (ap not x.1.2 ∙ not_not (truth v)) k s m
    shows_by (Trigger n) second h e o sw k s m = let x = sw refl in let v = x.1.0 in
        behind (Trigger n) (sym e) refl n (inl (trigger_cond h)) refl v x.1.1 k s (λ d. d) (not second) (ap not x.1.2 ∙ not_not (truth v)) m
      where
        trigger_cond : (is_kind cond_kind (block_in fl f.context) n && (wiring_in fl w f.context).triggers n) ≡ true
            → is_kind cond_kind (block_in fl f.context) n ≡ true
        trigger_cond h = (and_parts _ _ h).0
    shows_by (Merge n) second h e o sw k s m =
        let merge = (lawful_at fl p w good f.context here).arms.merges n h in
        by_first (Merge n) (sym e) k s (choice_round fl p w good f.context (merge_cond (block_in fl f.context) n) (f.way == 0) (choice_way k s) here
        (inl merge.0) (subst (λ (r : Region). Contains (in_region fl f.context r) (choice_way k s)) merge.1 m))
    shows_by (CondEnd n) second h e o sw k s m =
        by_first (CondEnd n) (sym e) k s (choice_round fl p w good f.context n (f.way == 0) (choice_way k s) here
        (end_choice fl p w good f.context n h) m)
    shows_by (Landing n j) second h e o sw k s m =
        by_first (Landing n j) (sym e) k s (landing_shows n f.way (is_loop (block_in fl f.context) n) (choice_way k s) m)
    shows_by TurnCont second h e o sw k s m = let x = sw refl in flag_shows TurnCont (sym e) refl h refl x.1.0 x.1.1 k s (λ d. d) second x.1.2 m
    shows_by TurnFlag second h e o sw k s m = let x = sw refl in flag_shows TurnFlag (sym e) refl h refl x.1.0 x.1.1 k s (λ d. d) second x.1.2 m
    shows_by (TurnValue j) second h e o sw k s m =
        let x = sw refl in flag_shows (TurnValue j) (sym e) refl (and_parts _ _ h).0 refl x.1.0 x.1.1 k s (λ d. d) second x.1.2 m
    shows_by (Giver n) second h e o sw k s m = let none = ap (side_by fl f) e in absurd (cc)
    shows_by (Taker n) second h e o sw k s m = let none = ap (side_by fl f) e in absurd (cc)
    shows_by (Drainer n) second h e o sw k s m = let none = ap (side_by fl f) e in absurd (cc)
    shows_by (InCell n) second h e o sw k s m = absurd (true≢false (sym h))
    shows_by (Drained n) second h e o sw k s m = absurd (true≢false (sym h))
    shows_by q second h e o sw k s m = by_first q (sym e) k s m

    sent_shows : (i : Item) → IsSent fl w f i → (k : Choice) (s : Bool) → InArm fl (spot_of i) k s → Shows fl w inputs f k s
    sent_shows i t k s a = go (ap (λ (i : Item). i.context) t.is) a
      where
        facts : SideOf fl w f t.from f.part
        facts = sent_facts fl w f all t.from t.along

        given : is_unwired (block_in fl f.context) i.inlet.part ≡ false
        given = ((lawful_at fl p w good f.context here).fed.inlets t.from i.inlet facts.there t.wire).3

        go : i.context ≡ f.context → Contains (arms_of fl i.context i.inlet.part i.inlet.way) (choice_way k s) → Shows fl w inputs f k s
        go e a = shows_by t.from.part t.from.second facts.there facts.maker t.along facts.switches k s
            (subst (λ (r : Region). Contains (in_region fl f.context r) (choice_way k s))
            ((lawful_at fl p w good f.context here).arms.arms t.from i.inlet facts.there t.wire)
            (subst (λ (l : List Way). Contains l (choice_way k s)) (wired_arms fl f.context i.inlet.part i.inlet.way given)
            (subst (λ (c : Context). Contains (arms_of fl c i.inlet.part i.inlet.way) (choice_way k s)) e a)))

    -- GIFTS lie round no more than what gives them
    gift_by_first : (i : Item) (c : Context) (x : Inlet) (note : Note) → i ≡ item c x note → (r : Part) → f.part ≡ r → (k : Choice) (s : Bool)
        → (Contains (arms_of fl c x.part x.way) (choice_way k s) → FirstArms r (choice_way k s)) → InArm fl (spot_of i) k s → Shows fl w inputs f k s
    gift_by_first i c x note e r g k s h a = by_first r g k s (h (subst (λ (i : Item). InArm fl (spot_of i) k s) e a))

    -- round the root of what a node invokes lies what lies round the node
    root_child : (n : ℕ) (d : Context) (x : Way) → Child fl p w good f.context n d → Contains (in_region fl d Root) x
        → Contains (in_region fl f.context (lies_in (block_in fl f.context) n)) x
    root_child n d x (ByCall h e) m =
        subst (λ (l : List Way). Contains l x) (sym (round_node fl p w good f.context n here))
        (subst (λ (d : Context). Contains (ways_round fl d) x) e (subst (λ (l : List Way). Contains l x) (root_region fl d) m))
    root_child n d x (ByLoop h e) m =
        subst (λ (l : List Way). Contains l x) (sym (round_node fl p w good f.context n here))
        (subst (λ (d : Context). Contains (ways_round fl d) x) e (subst (λ (l : List Way). Contains l x) (root_region fl d) m))

    -- an input's line lies in the root
    input_here : (c : Context) (m : ℕ) (x : Way) → m < (block_in fl c).inputs → Contains (in_region fl c (lies_in (block_in fl c) m)) x
        → Contains (in_region fl c Root) x
    input_here c m x h k = subst (λ (r : Region). Contains (in_region fl c r) x) (input_root (block_in fl c) m h) k

    -- what lies round a call lies round its block
    called_root : (d : Context) (n : ℕ) (x : Way) → f.context ≡ Called d n → Contains (in_region fl d (lies_in (block_in fl d) n)) x
        → Contains (in_region fl f.context Root) x
    called_root d n x c m = let h = subst (IsContext fl) c here in
        subst (λ (c : Context). Contains (in_region fl c Root) x) (sym c)
        (under fl (Called d n) Root x (subst (λ (l : List Way). Contains l x) (round_node fl p w good d n h.0) m))

    landing_of_call : (d : Context) (n : ℕ) (t : Bool) (x : Way) → t ≡ false → Contains (landing_arms fl d n 0 t) x
        → Contains (in_region fl d (lies_in (block_in fl d) n)) x
    landing_of_call d n false x e m = m
    landing_of_call d n true x e m = absurd (true≢false e)

    landing_of_turn : (d : Context) (n t : ℕ) (s : Bool) (x : Way) → s ≡ true → Contains (landing_arms fl d n t s) x
        → Contains (in_region fl (Turned d n t) (flag_arm fl (Turned d n t) false)) x
    landing_of_turn d n t true x e m = m
    landing_of_turn d n t false x e m = absurd (true≢false (sym e))

    gift_shows : (i : Item) → Gift fl w f i → (k : Choice) (s : Bool) → InArm fl (spot_of i) k s → Shows fl w inputs f k s
    gift_shows i (GHeld n e h g) k s a = by_first (Line n) e k s (subst (λ (i : Item). InArm fl (spot_of i) k s) g a)
    gift_shows i (GAsked n e g) k s a = gift_by_first i _ _ _ g (Framer n) e k s (λ x. x) a
    gift_shows i (GArgument n m v e t c g) k s a = gift_by_first i _ _ _ g (Framer n) e k s (λ x. x) a
    gift_shows i (GFanned n e g) k s a = gift_by_first i _ _ _ g (Asked n) e k s (λ x. x) a
    gift_shows i (GEntry n e g) k s a =
        gift_by_first i _ _ _ g (Linker n) e k s
        (λ x. root_child n (child fl f.context n) (choice_way k s) (child_cases fl p w good f.context n (there_as fl w f all (Linker n) e refl)) x) a
    gift_shows i (GInput n m e g) k s a =
        let sends = and_parts _ _ (there_as fl w f all (Sender n m) e refl) in
        let cases = child_cases fl p w good f.context n sends.0 in
        let same = (child_here fl p w good f.context n (child fl f.context n) here cases).1.inputs in
        let low = ltb-true m (source_count (block_in fl f.context) n) sends.1 in
        gift_by_first i _ _ _ g (Sender n m) e k s
        (λ x. root_child n (child fl f.context n) (choice_way k s) cases (input_here (child fl f.context n) m (choice_way k s) (omega (arith, same, low)) x)) a
    gift_shows i (GShown j e c g) k s a =
        gift_by_first i _ _ _ g (Result j) e k s (λ x. subst (λ (c : Context). Contains (in_region fl c Root) (choice_way k s)) (sym c) x) a
    gift_shows i (GLanding d n j e c g) k s a = gift_by_first i _ _ _ g (Result j) e k s
        (λ x. called_root d n (choice_way k s) c
        (landing_of_call d n (is_loop (block_in fl d) n) (choice_way k s) (not_loop (block_in fl d) n (subst (IsContext fl) c here).1) x)) a
    gift_shows i (GLeaves d n t j e c g) k s a = gift_by_first i _ _ _ g (LastReturn j) e k s
        (λ x. subst (λ (c : Context). Contains (in_region fl c (Arm (flag (block_in fl c)) false)) (choice_way k s)) (sym c)
        (landing_of_turn d n t (is_loop (block_in fl d) n) (choice_way k s) (subst (IsContext fl) c here).1 x)) a
    gift_shows i (GDrains d n t e c g) k s a =
        gift_by_first i _ _ _ g DrainReturn e k s
        (λ x. subst (λ (c : Context). Contains (in_region fl c (Arm (flag (block_in fl c)) false)) (choice_way k s)) (sym c) x) a
    gift_shows i (GFreed e g) k s a = gift_by_first i _ _ _ g End e k s (λ x. x) a
    gift_shows i (GDone e c g) k s a =
        gift_by_first i _ _ _ g End e k s (λ x. subst (λ (c : Context). Contains (in_region fl c Root) (choice_way k s)) (sym c) x) a
    gift_shows i (GCallDone d n e c g) k s a = gift_by_first i _ _ _ g End e k s (λ x. called_root d n (choice_way k s) c x) a
    gift_shows i (GGiver d n t e c g) k s a =
        gift_by_first i _ _ _ g End e k s (λ x. subst (λ (c : Context). Contains (in_region fl c Root) (choice_way k s)) (sym c)
        (under fl (Turned d n t) Root (choice_way k s) x)) a
    gift_shows i (GTaker d n t e c g) k s a =
        gift_by_first i _ _ _ g Asker e k s (λ x. subst (λ (c : Context). Contains (in_region fl c (Arm (flag (block_in fl c)) true)) (choice_way k s))
        (sym c) x) a
    gift_shows i (GNextFramer n t e u g) k s a =
        gift_by_first i _ _ _ g (Taker n) e k s (λ x. subst (λ (v : ℕ). Contains (arms_of fl f.context (Taker n) v) (choice_way k s)) (sym u) x) a
    gift_shows i (GNextAsked e g) k s a = gift_by_first i _ _ _ g NextFramer e k s (λ x. x) a
    gift_shows i (GNextFanned e g) k s a = gift_by_first i _ _ _ g NextAsked e k s (λ x. x) a
    gift_shows i (GNextEntry d n t e c g) k s a = gift_by_first i _ _ _ g (NextSender 0) e k s
        (λ x. subst (λ (c : Context). Contains (in_region fl c (Arm (flag (block_in fl c)) true)) (choice_way k s)) (sym c)
        (round_next fl p w good d n t (choice_way k s) (subst (IsContext fl) c here)
        (subst (λ (l : List Way). Contains l (choice_way k s)) (root_region fl (Turned d n (suc t))) x))) a
    gift_shows i (GNextInput d n t j e c g) k s a =
        let low = ltb-true (suc j) ((block_in fl (Turned d n t)).inputs + 1) (there_in_context fl w f all (NextSender (suc j)) e refl (Turned d n t) c) in
        gift_by_first i _ _ _ g (NextSender (suc j)) e k s
        (λ x. subst (λ (c : Context). Contains (in_region fl c (Arm (flag (block_in fl c)) true)) (choice_way k s)) (sym c)
        (round_next fl p w good d n t (choice_way k s) (subst (IsContext fl) c here)
        (subst (λ (l : List Way). Contains l (choice_way k s)) (root_region fl (Turned d n (suc t)))
        (input_here (Turned d n (suc t)) j (choice_way k s) (omega (arith, low)) x)))) a
    gift_shows i (GLoopDone n e g) k s a = gift_by_first i _ _ _ g (Drained n) e k s
        (λ x. under fl (Turned f.context n f.turns) (flag_arm fl (Turned f.context n f.turns) false) (choice_way k s)
        (round_turn fl p w good f.context n f.turns (choice_way k s) here x)) a

    -- no gift is a conditional's word
    no_word : (i : Item) (c : Context) (x : Inlet) (note : Note) → i ≡ item c x note → (k : Choice) → ((b : Block ℕ) → predicate_at b x.part x.port ≡ None)
        → IsPredicate fl (spot_of i) k → ⊥
    no_word i c x note e k h a =
        let q = sym (h (block_in fl i.context)) ∙ ap (λ (i' : Item). predicate_at (block_in fl i.context) i'.inlet.part i'.inlet.port) (sym e) ∙ a.1 in
        absurd (cc)

    gift_wordless : (i : Item) → Gift fl w f i → (k : Choice) → IsPredicate fl (spot_of i) k → ⊥
    gift_wordless i (GHeld n e h g) k a =
        let q = ap (λ (i' : Item). predicate_at (block_in fl i.context) i'.inlet.part i'.inlet.port) (sym g) ∙ a.1 in absurd (cc)
    gift_wordless i (GAsked n e g) k a = no_word i _ _ _ g k (λ b. refl) a
    gift_wordless i (GArgument n m v e t c g) k a = no_word i _ _ _ g k (λ b. refl) a
    gift_wordless i (GFanned n e g) k a = no_word i _ _ _ g k (λ b. refl) a
    gift_wordless i (GEntry n e g) k a = no_word i _ _ _ g k (λ b. refl) a
    gift_wordless i (GInput n m e g) k a = no_word i _ _ _ g k (λ b. refl) a
    gift_wordless i (GShown j e c g) k a = no_word i _ _ _ g k (λ b. refl) a
    gift_wordless i (GLanding d n j e c g) k a = no_word i _ _ _ g k (λ b. refl) a
    gift_wordless i (GLeaves d n t j e c g) k a = no_word i _ _ _ g k (λ b. refl) a
    gift_wordless i (GDrains d n t e c g) k a = no_word i _ _ _ g k (λ b. refl) a
    gift_wordless i (GFreed e g) k a = no_word i _ _ _ g k (λ b. refl) a
    gift_wordless i (GDone e c g) k a = no_word i _ _ _ g k (λ b. refl) a
    gift_wordless i (GCallDone d n e c g) k a = no_word i _ _ _ g k (λ b. refl) a
    gift_wordless i (GGiver d n t e c g) k a = no_word i _ _ _ g k (λ b. refl) a
    gift_wordless i (GTaker d n t e c g) k a = no_word i _ _ _ g k (λ b. refl) a
    gift_wordless i (GNextFramer n t e u g) k a = no_word i _ _ _ g k (λ b. refl) a
    gift_wordless i (GNextAsked e g) k a = no_word i _ _ _ g k (λ b. refl) a
    gift_wordless i (GNextFanned e g) k a = no_word i _ _ _ g k (λ b. refl) a
    gift_wordless i (GNextEntry d n t e c g) k a = no_word i _ _ _ g k (λ b. refl) a
    gift_wordless i (GNextInput d n t j e c g) k a = no_word i _ _ _ g k (λ b. refl) a
    gift_wordless i (GLoopDone n e g) k a = no_word i _ _ _ g k (λ b. refl) a

    made_shows : (i : Item) (k : Choice) (s : Bool) → MadeAt fl p w good f i → InArm fl (spot_of i) k s → Shows fl w inputs f k s
    made_shows i k s (ByGift g) a = gift_shows i g k s a
    made_shows i k s (ByWire t) a = sent_shows i t k s a

    -- a conditional's word comes from its source, as it is sent
    pub made_says : (i : Item) (k : Choice) → MadeAt fl p w good f i → IsPredicate fl (spot_of i) k
        → (role_of f ≡ source fl w k) × (i.word ≡ sent_word fl f f.part)
    made_says i k (ByGift g) h = absurd (gift_wordless i g k h)
    made_says i k (ByWire t) h = (
      λ u. role (same u) (part_is u) (turn_is u),
      ap (λ (i : Item). i.word) t.is,
    )
      where
        context_is : i.context ≡ f.context
        context_is = ap (λ (i : Item). i.context) t.is

        same : f.context ≡ k.context
        same = sym context_is ∙ h.0

        facts : SideOf fl w f t.from f.part
        facts = sent_facts fl w f all t.from t.along

        from_is : t.from ≡ decider (block_in fl f.context) (wiring_in fl w f.context) k.cond
        from_is =
            (lawful_at fl p w good f.context here).arms.agree t.from i.inlet k.cond facts.there t.wire
            (subst (λ (c : Context). predicate_at (block_in fl c) i.inlet.part i.inlet.port ≡ Some k.cond) context_is h.1)

        part_is : f.part ≡ maker_of (block_in fl k.context) (decider (block_in fl k.context) (wiring_in fl w k.context) k.cond).part
        part_is = sym facts.maker ∙ ap (λ (t : Side). maker_of (block_in fl f.context) t.part) from_is
            ∙ ap (λ (c : Context). maker_of (block_in fl c) (decider (block_in fl c) (wiring_in fl w c) k.cond).part) same

        turn_is : turn_in f.part f.way ≡ 0
        turn_is = turn_none fl p w good f i t

  module _ (fit : InputsFit fl inputs) where
    -- nothing lies round the root of the main context
    none_round : (x : Way) → Contains (in_region fl Main Root) x → ⊥
    none_round x c = contains_none x (subst (λ (l : List Way). Contains l x) (root_region fl Main) c)

    pub first_free : (i : Item) → Begins inputs i → ((k : Choice) (s : Bool) → InArm fl (spot_of i) k s → ⊥) × ((k : Choice) → IsPredicate fl (spot_of i) k → ⊥)
    first_free i (AtEntry e) = (
      λ k s a. none_round (choice_way k s) (subst (λ (x : Item). InArm fl (spot_of x) k s) e a),
      λ k h. let q = ap (λ (x : Item). predicate_at (block_in fl i.context) x.inlet.part x.inlet.port) (sym e) ∙ h.1 in absurd (cc),
    )
    first_free i (AtInput m z l e) = (
      λ k s a. none_round (choice_way k s)
          (subst (λ (r : Region). Contains (in_region fl Main r) (choice_way k s))
          (input_root (block_in fl Main) m (input_below fl p w good inputs fit m l)) (subst (λ (x : Item). InArm fl (spot_of x) k s) e a)),
      λ k h. let q = ap (λ (x : Item). predicate_at (block_in fl i.context) x.inlet.part x.inlet.port) (sym e) ∙ h.1 in absurd (cc),
    )

    pub arms_are_entered : ArmsAreEntered fl w inputs
    arms_are_entered = record {
      enters = λ f i k t all c a. made_shows f all i k t (made_at fl p w good f i all c) a;
      words = λ f i k all c h. let m = made_says f all i k (made_at fl p w good f i all c) h in (m.0, sym (ap truth_of m.1));
      none_first = λ i c. first_free i (begin_cases inputs i c);
    }
