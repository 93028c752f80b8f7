-- In a context of a sound net: which arms are open, what a firing there took, and what has fired before it along wires.
use Rattle.std.proofs.Common.{◌≡◌, ℕ, zero, suc, ℤ, Bool, true, false, ◌⊎◌, inl, inr, List, nat_lt, ◌==◌, if◌then◌else◌, refl, sym, ap, ◌∙◌, subst, arith}
use Rattle.std.proofs.Common.{true≢false, eqb-true, ltb-true}
use Rattle.std.specs.Prelude.{Contains}
use Rattle.std.proofs.lemmas.List.Elements.{Contains-append_right}
use Rattle.tags.specs.declared.value.Value.{Value}
use Rattle.tags.specs.declared.token.Port.{Port}
use Rattle.tags.specs.declared.token.Port.TheVariants.{Left, Right}
use Rattle.semantics.specs.declared.graph.Region.{Region}
use Rattle.semantics.specs.declared.graph.Region.TheVariants.{Root, Arm}
use Rattle.semantics.specs.Graph.{Flow}
use Rattle.semantics.specs.Meaning.{Context, Turned}
use Rattle.semantics.specs.Plan.{Plan}
use Rattle.semantics.specs.Machine.{Machine}
use Rattle.law_net.specs.ContextsParts.{Part, Sender, Landing, Giver, Taker, Drainer, Inlet, inlet, Item, item, Firing}
use Rattle.law_net.specs.ContextsBlocks.{Side, there_in, waits_in, is_loop, lies_in, region_of, entered}
use Rattle.law_net.specs.Contexts.{Wires, block_in, site_in, wiring_in, IsContext, is_strict_in}
use Rattle.law_net.specs.ContextsWires.{wired_way, wired_port, is_unwired}
use Rattle.law_net.specs.ContextsAround.{Choice, Way, way}
use Rattle.law_net.specs.ContextsFirings.{own_takes, renewed, left_way, right_way, HasFired}
use Rattle.law_net.specs.ContextsLaws.{in_region, arms_of, says, maker_of, way_fits, landing_arms, flag_arm}
use Rattle.law_net.specs.ContextsMirror.{Past}
use Rattle.law_net.specs.ContextsTheorem.{IsGood}
use Rattle.law_net.specs.ContextsPackages.{InputsFit, Keeps}
use Rattle.law_net.proofs.WiredSends.{first_taken, takes_first, takes_right, first_context, sent_facts}
use Rattle.law_net.proofs.WiredGifts.{argument, Gift, GHeld, GAsked, GArgument, GFanned, GEntry, GInput, GShown, GLanding, GLeaves, GDrains, GFreed, GDone}
use Rattle.law_net.proofs.WiredGifts.{GCallDone, GGiver, GTaker, GNextFramer, GNextAsked, GNextFanned, GNextEntry, GNextInput, GLoopDone}
use Rattle.law_net.proofs.WiredFed.{one_feeder, Unwired, UWay}
use Rattle.law_net.proofs.WiredNets.{taken_in}
use Rattle.law_net.proofs.WiredRounds.{IsChoice, choice_in, choice_round, choice_cases, root_region, under, round_turn}
use Rattle.law_end.specs.Over.{IsDecided, IsOpen, is_turning}
use Rattle.law_end.proofs.OverSorts.{IsHere, Joined, Sort, Last, Joins, Switches, Others, sort, Taking, ByArm, ByOne, taking, first_item}
use Rattle.law_end.proofs.OverPaths.{Wire}
use Rattle.law_end.proofs.OverMade.{is_first, fired, taken, Mirrors, taken_stands, fits, allowed, fit_of, sent_by, gift_by}

-- a strict call's argument that is sent was taken by the call as it fired
gift_argument : (fl : Flow) (w : Wires) (h : Firing) (i : Item) → Gift fl w h i → (n l : ℕ) → i.inlet.part ≡ Sender n l
    → (v : Value) × (i.context ≡ h.context) × Contains (renewed fl h h.part) (argument h.context n l 0 v)
gift_argument fl w h i (GArgument n l v e s c g) a b d = let same : Sender n l ≡ Sender a b = sym (ap (λ (i : Item). i.inlet.part) g) ∙ d in
    let x : n ≡ a = cc in let y : l ≡ b = cc in (
      v,
      ap (λ (i : Item). i.context) g,
      subst (λ (l : ℕ). Contains (renewed fl h h.part) (argument h.context a l 0 v)) y
          (subst (λ (n : ℕ). Contains (renewed fl h h.part) (argument h.context n l 0 v)) x c),
    )
gift_argument fl w h i (GHeld n e t g) a b d = let q = sym (ap (λ (i : Item). i.inlet.part) g) ∙ d in absurd (cc)
gift_argument fl w h i (GAsked n e g) a b d = let q = sym (ap (λ (i : Item). i.inlet.part) g) ∙ d in absurd (cc)
gift_argument fl w h i (GFanned n e g) a b d = let q = sym (ap (λ (i : Item). i.inlet.part) g) ∙ d in absurd (cc)
gift_argument fl w h i (GEntry n e g) a b d = let q = sym (ap (λ (i : Item). i.inlet.part) g) ∙ d in absurd (cc)
gift_argument fl w h i (GInput n t e g) a b d = let q = sym (ap (λ (i : Item). i.inlet.part) g) ∙ d in absurd (cc)
gift_argument fl w h i (GShown j e c g) a b d = let q = sym (ap (λ (i : Item). i.inlet.part) g) ∙ d in absurd (cc)
gift_argument fl w h i (GLanding c n j e x g) a b d = let q = sym (ap (λ (i : Item). i.inlet.part) g) ∙ d in absurd (cc)
gift_argument fl w h i (GLeaves c n t j e x g) a b d = let q = sym (ap (λ (i : Item). i.inlet.part) g) ∙ d in absurd (cc)
gift_argument fl w h i (GDrains c n t e x g) a b d = let q = sym (ap (λ (i : Item). i.inlet.part) g) ∙ d in absurd (cc)
gift_argument fl w h i (GFreed e g) a b d = let q = sym (ap (λ (i : Item). i.inlet.part) g) ∙ d in absurd (cc)
gift_argument fl w h i (GDone e x g) a b d = let q = sym (ap (λ (i : Item). i.inlet.part) g) ∙ d in absurd (cc)
gift_argument fl w h i (GCallDone c n e x g) a b d = let q = sym (ap (λ (i : Item). i.inlet.part) g) ∙ d in absurd (cc)
gift_argument fl w h i (GGiver c n t e x g) a b d = let q = sym (ap (λ (i : Item). i.inlet.part) g) ∙ d in absurd (cc)
gift_argument fl w h i (GTaker c n t e x g) a b d = let q = sym (ap (λ (i : Item). i.inlet.part) g) ∙ d in absurd (cc)
gift_argument fl w h i (GNextFramer n t e x g) a b d = let q = sym (ap (λ (i : Item). i.inlet.part) g) ∙ d in absurd (cc)
gift_argument fl w h i (GNextAsked e g) a b d = let q = sym (ap (λ (i : Item). i.inlet.part) g) ∙ d in absurd (cc)
gift_argument fl w h i (GNextFanned e g) a b d = let q = sym (ap (λ (i : Item). i.inlet.part) g) ∙ d in absurd (cc)
gift_argument fl w h i (GNextEntry c n t e x g) a b d = let q = sym (ap (λ (i : Item). i.inlet.part) g) ∙ d in absurd (cc)
gift_argument fl w h i (GNextInput c n t j e x g) a b d = let q = sym (ap (λ (i : Item). i.inlet.part) g) ∙ d in absurd (cc)
gift_argument fl w h i (GLoopDone n e g) a b d = let q = sym (ap (λ (i : Item). i.inlet.part) g) ∙ d in absurd (cc)

lt_two : (s t : ℕ) → nat_lt s 2 ≡ true → nat_lt t 2 ≡ true → (s == 0) ≡ (t == 0) → s ≡ t
lt_two zero zero a d e = refl
lt_two zero (suc t) a d e = let f = eqb-true (suc t) 0 (sym e) in absurd (omega (arith, f))
lt_two (suc s) zero a d e = let f = eqb-true (suc s) 0 e in absurd (omega (arith, f))
lt_two (suc s) (suc t) a d e = let f = ltb-true (suc s) 2 a in let g = ltb-true (suc t) 2 d in omega (arith, f, g)

module _ (fl : Flow) (p : Plan) (w : Wires) (inputs : List ℤ) (past : Past) (m : Machine) (good : IsGood fl p w) (fit : InputsFit fl inputs)
    (kept : Keeps fl p w inputs past m) where
  abbrev done : List Firing
  done = fired fl p w inputs past m good fit kept

  abbrev Here : (c : Context) → IsContext fl c → Part → Type 0
  Here c con r = IsHere fl p w good c con r

  abbrev Stood : Item → Type 0
  Stood i = Mirrors fl p w inputs past m good fit kept i

  abbrev gone : List Item
  gone = taken fl p w inputs past m good fit kept

  pub one_side : (k : Choice) (s t : Bool) → IsDecided fl w done k s → IsDecided fl w done k t → s ≡ t
  one_side k s t a d = sym a.3 ∙ ap (says fl) (kept.sound.once a.0 d.0 a.1 d.1 (a.2 ∙ sym d.2)) ∙ d.3

  -- OPEN ARMS
  module _ (c : Context) (con : IsContext fl c) where
    abbrev pub Opens : Region → Type 0
    Opens r = IsOpen fl w (fired fl p w inputs past m good fit kept) c r

    abbrev pub cond_of : ℕ → Choice
    cond_of j = record { context = c; cond = j }

    abbrev pub Chosen : ℕ → Type 0
    Chosen j = IsChoice fl p w good c j

    pub arm_decided : (j : ℕ) (t : Bool) → Chosen j → Opens (Arm j t) → IsDecided fl w done (cond_of j) t
    arm_decided j t e a = a (way c j t) (choice_in fl p w good c j t con e)

    pub arm_round : (j : ℕ) (t : Bool) → Chosen j → Opens (Arm j t) → Opens (lies_in (block_in fl c) j)
    arm_round j t e a x d = a x (choice_round fl p w good c j t x con e d)

    pub arm_open : (j : ℕ) (t : Bool) → Chosen j → IsDecided fl w done (cond_of j) t → Opens (lies_in (block_in fl c) j) → Opens (Arm j t)
    arm_open j t e d a x h = pick (choice_cases fl p w good c j t x con e h)
      where
        pick : (way c j t ≡ x) ⊎ Contains (in_region fl c (lies_in (block_in fl c) j)) x → IsDecided fl w done x.choice x.side
        pick (inl g) = subst (λ (x : Way). IsDecided fl w done x.choice x.side) g d
        pick (inr g) = a x g

    -- round all of it lies what lies round the context
    pub root_open : (r : Region) → Opens r → Opens Root
    root_open r a x d = a x (under fl c r x (subst (λ (l : List Way). Contains l x) (root_region fl c) d))

    -- what lies round the place of an item
    landing_round : (n t : ℕ) (l : Bool) (x : Way) → Contains (in_region fl c (lies_in (block_in fl c) n)) x → Contains (landing_arms fl c n t l) x
    landing_round n t false x d = d
    landing_round n t true x d = under fl (Turned c n t) (flag_arm fl (Turned c n t) false) x (round_turn fl p w good c n t x con d)

    taker_round : (n t : ℕ) → nat_lt 0 t ≡ true → (x : Way) → Contains (in_region fl c (lies_in (block_in fl c) n)) x → Contains (arms_of fl c (Taker n) t) x
    taker_round n zero e x d = let f = ltb-true 0 0 e in absurd (omega (arith, f))
    taker_round n (suc t) e x d = under fl (Turned c n t) (flag_arm fl (Turned c n t) true) x (round_turn fl p w good c n t x con d)

    arms_round : (r : Part) (q : Port) (t : ℕ) → way_fits fl c r q t ≡ true → (x : Way) → Contains (in_region fl c (entered (block_in fl c) r t)) x
        → Contains (arms_of fl c r t) x
    arms_round (Landing n j) q t e x d = landing_round n t (is_loop (block_in fl c) n) x d
    arms_round (Giver n) q t e x d = round_turn fl p w good c n t x con d
    arms_round (Drainer n) q t e x d = landing_round n t true x d
    arms_round (Taker n) q t e x d = taker_round n t e x d
    arms_round r q t e x d = d

    pub stands_open : (i : Item) → Stood i → i.context ≡ c → Opens (entered (block_in fl c) i.inlet.part i.inlet.way)
    stands_open i s e x d = (allowed fl p w inputs past m good fit kept i s).arms x.choice x.side
        (subst (λ (c : Context). Contains (arms_of fl c i.inlet.part i.inlet.way) x) (sym e)
        (arms_round i.inlet.part i.inlet.port i.inlet.way
        (subst (λ (c : Context). way_fits fl c i.inlet.part i.inlet.port i.inlet.way ≡ true) e (fits fl p w inputs past m good fit kept i s).way) x d))

    pub region_open : (r : Part) (t : ℕ) → Here c con r → is_turning r ≡ false → Opens (entered (block_in fl c) r t) → Opens (region_of (block_in fl c) r)
    region_open r t h turns a = by_sort (sort fl p w good c con r h turns)
      where
        by_sort : Sort fl p w good c con r → Opens (region_of (block_in fl c) r)
        by_sort (Last e) = subst (λ (r : Part). Opens (region_of (block_in fl c) r)) (sym e) (root_open (entered (block_in fl c) r t) a)
        by_sort (Joins j x) = subst Opens (sym x.region) (arm_round j (t == 0) x.choice (subst Opens (x.enters t) a))
        by_sort (Switches j x) = subst Opens (x.enters t ∙ sym x.region) a
        by_sort (Others o) = subst Opens (o.enters t) a

    -- WHAT A FIRING TOOK
    pub first_of : (r : Part) → Here c con r → HasFired c r done
        → (i : Item) × Contains gone i × (i.context ≡ c) × (f : ℕ) × (i.inlet ≡ inlet r Left (left_way r f))
    first_of r here (h, d, a, e) = (
      first_taken fl w h h.part,
      taken_in fl done h (first_taken fl w h h.part) d (takes_first fl w h),
      first_context fl w h h.part ∙ a,
      h.way,
      ap (λ (r : Part). (first_taken fl w h r).inlet) e ∙ ap (λ (i : Item). i.inlet) (first_item fl p w good c con h r here),
    )

    -- what joins two arms shows which of them was taken
    pub join_decided : (j : ℕ) (r : Part) → Here c con r → Joined fl p w good c con j r → HasFired c r done
        → (t : Bool) × IsDecided fl w done (cond_of j) t
    join_decided j r here join f =
        let (i, d, a, u, g) = first_of r here f in
        let open' = stands_open i (taken_stands fl p w inputs past m good fit kept i d) a in (
          i.inlet.way == 0,
          arm_decided j (i.inlet.way == 0) join.choice
              (subst Opens (ap (λ (x : Inlet). entered (block_in fl c) x.part i.inlet.way) g ∙ join.enters i.inlet.way) open'),
        )

    -- the first item's way is that of any open inlet
    left_taken : (x : Inlet) → HasFired c x.part done → Here c con x.part → wired_way x.part x.way ≡ true → is_unwired (block_in fl c) x.part ≡ false
        → x.port ≡ Left → Opens (entered (block_in fl c) x.part x.way)
        → (i : Item) × Contains gone i × (i.context ≡ c) × (i.inlet ≡ x)
    left_taken x f here way given left open' = go (taking fl p w good c con x.part here given)
      where
        first : (i : Item) × Contains gone i × (i.context ≡ c) × (u : ℕ) × (i.inlet ≡ inlet x.part Left (left_way x.part u))
        first = first_of x.part here f

        with_way : (t : ℕ) → left_way x.part first.3 ≡ t → t ≡ x.way → (i : Item) × Contains gone i × (i.context ≡ c) × (i.inlet ≡ x)
        with_way t a e = (first.0, first.1, first.2, first.4 ∙ (λ k. inlet x.part (sym left k) ((a ∙ e) k)))

        by_arm : (j : ℕ) → Joined fl p w good c con j x.part → (i : Item) × Contains gone i × (i.context ≡ c) × (i.inlet ≡ x)
        by_arm j join =
            let u = first.3 in
            let at : first.0.inlet ≡ inlet x.part Left u = first.4 ∙ ap (inlet x.part Left) (join.left u) in
            let stood = taken_stands fl p w inputs past m good fit kept first.0 first.1 in
            let mine : Opens (entered (block_in fl c) x.part u) =
            subst (λ (y : Inlet). Opens (entered (block_in fl c) y.part y.way)) at (stands_open first.0 stood first.2) in
            let two : way_fits fl c x.part Left u ≡ true = subst (λ (y : Inlet). way_fits fl c y.part y.port y.way ≡ true) at
            (subst (λ (c : Context). way_fits fl c first.0.inlet.part first.0.inlet.port first.0.inlet.way ≡ true) first.2
            (fits fl p w inputs past m good fit kept first.0 stood).way) in
            let mine' = arm_decided j (u == 0) join.choice (subst Opens (join.enters u) mine) in
            let theirs = arm_decided j (x.way == 0) join.choice (subst Opens (join.enters x.way) open') in
            with_way u (join.left u) (lt_two u x.way (sym (join.fits u) ∙ two) (sym (join.way x.way) ∙ way)
            (one_side (cond_of j) (u == 0) (x.way == 0) mine' theirs))

        go : Taking fl p w good c con x.part → (i : Item) × Contains gone i × (i.context ≡ c) × (i.inlet ≡ x)
        go (ByOne zeros one) = with_way 0 (zeros first.3) (sym (eqb-true x.way 0 (sym (one x.way) ∙ way)))
        go (ByArm j join) = by_arm j join

    right_zero : (r : Part) → (right_way fl c r ≡ 0) ⊎ ((n : ℕ) × (l : ℕ) × (r ≡ Sender n l) × (right_way fl c r ≡ 1))
    right_zero (Sender n l) = go (is_strict_in fl c n) refl
      where
        go : (t : Bool) → is_strict_in fl c n ≡ t
            → (right_way fl c (Sender n l) ≡ 0) ⊎ ((n' : ℕ) × (l' : ℕ) × (Sender n l ≡ Sender n' l') × (right_way fl c (Sender n l) ≡ 1))
        go false e = inl (ap (λ (t : Bool). if t then 1 else 0) e)
        go true e = inr (n, l, refl, ap (λ (t : Bool). if t then 1 else 0) e)
    right_zero r = inl refl

    -- the right one, and where a strict call fired before, that which it renewed
    pub right_first : (r : Part) → HasFired c r done → waits_in (block_in fl c) r ≡ true
        → (i : Item) × Contains gone i × (i.context ≡ c) × (i.inlet ≡ inlet r Right (right_way fl c r))
    right_first r (h, d, a, e) two =
        let i = item h.context (inlet h.part Right (right_way fl h.context h.part)) h.right in (
          i,
          taken_in fl done h i d (takes_right fl w h
              (subst (λ (r : Part). waits_in (block_in fl h.context) r ≡ true) (sym e) (ap (λ (c : Context). waits_in (block_in fl c) r) a ∙ two))),
          a,
          (λ k. inlet (e k) Right (right_way fl (a k) (e k))),
        )

    pub renewed_too : (n l : ℕ) (i : Item) → Contains gone i → i.context ≡ c → i.inlet ≡ inlet (Sender n l) Right 1
        → (j : Item) × Contains gone j × (j.context ≡ c) × (j.inlet ≡ inlet (Sender n l) Right 0)
    renewed_too n l i d a e =
        let none : Unwired fl p w good i.context i.inlet = subst (λ (x : Inlet). Unwired fl p w good i.context x) (sym e) (UWay refl) in
        let (h, b, g) = gift_by fl p w inputs past m good fit kept i (taken_stands fl p w inputs past m good fit kept i d) none
        (λ x y. true≢false (sym y ∙ ap (λ (x : Inlet). is_first x.part) e)) in
        let (v, f, o) = gift_argument fl w h i g n l (ap (λ (x : Inlet). x.part) e) in
        let j = argument h.context n l 0 v in
        (j, taken_in fl done h j b (Contains-append_right (own_takes fl h h.part) (renewed fl h h.part) j o), sym f ∙ a, refl)

    right_taken : (x : Inlet) → HasFired c x.part done → Here c con x.part → wired_way x.part x.way ≡ true → is_unwired (block_in fl c) x.part ≡ false
        → x.port ≡ Right → waits_in (block_in fl c) x.part ≡ true
        → (i : Item) × Contains gone i × (i.context ≡ c) × (i.inlet ≡ x)
    right_taken x f here way given right two = go (taking fl p w good c con x.part here given) (right_zero x.part)
      where
        first : (i : Item) × Contains gone i × (i.context ≡ c) × (i.inlet ≡ inlet x.part Right (right_way fl c x.part))
        first = right_first x.part f two

        go : Taking fl p w good c con x.part → (right_way fl c x.part ≡ 0) ⊎ ((n : ℕ) × (l : ℕ) × (x.part ≡ Sender n l) × (right_way fl c x.part ≡ 1))
            → (i : Item) × Contains gone i × (i.context ≡ c) × (i.inlet ≡ x)
        go (ByArm j join) t = absurd (true≢false (sym two ∙ join.waits))
        go (ByOne zeros one) (inl e) =
            (first.0, first.1, first.2, first.3 ∙ (λ k. inlet x.part (sym right k) ((e ∙ sym (eqb-true x.way 0 (sym (one x.way) ∙ way))) k)))
        go (ByOne zeros one) (inr (n, l, s, e)) =
            let (j, d, a, g) = renewed_too n l first.0 first.1 first.2 (first.3 ∙ (λ k. inlet (s k) Right (e k))) in
            (j, d, a, g ∙ (λ k. inlet (sym s k) (sym right k) (sym (eqb-true x.way 0 (sym (one x.way) ∙ way)) k)))

    -- a part that fired took its open inlets
    pub takes_inlet : (s : Side) (x : Inlet) → Wire fl p w good c con s x → HasFired c x.part done → Opens (entered (block_in fl c) x.part x.way)
        → (i : Item) × Contains gone i × (i.context ≡ c) × (i.inlet ≡ x)
    takes_inlet s x wire f open' = by_port x.port refl
      where
        by_port : (r : Port) → x.port ≡ r → (i : Item) × Contains gone i × (i.context ≡ c) × (i.inlet ≡ x)
        by_port Left g = left_taken x f wire.here wire.way wire.given g open'
        by_port Right g = right_taken x f wire.here wire.way wire.given g (sym (ap (wired_port (block_in fl c) x.part) g) ∙ wire.port)

    -- ALONG WIRES: what arrived was sent by its part
    pub along_wire : (s : Side) (x : Inlet) → Wire fl p w good c con s x → (i : Item) → Stood i → i.context ≡ c → i.inlet ≡ x
        → HasFired c (maker_of (block_in fl c) s.part) done
    along_wire s x wire i stood a e =
        let here : there_in fl (site_in fl w i.context) (wiring_in fl w i.context) i.inlet.part ≡ true =
        (λ k. there_in fl (site_in fl w (a k)) (wiring_in fl w (a k)) (e k).part) ∙ wire.here in
        let (h, d, sent) = sent_by fl p w inputs past m good fit kept i stood here ((λ k. is_unwired (block_in fl (a k)) (e k).part) ∙ wire.given)
        (ap (λ (y : Inlet). wired_way y.part y.way) e ∙ wire.way) in
        let at : h.context ≡ c = sym (ap (λ (i : Item). i.context) sent.is) ∙ a in
        let facts = sent_facts fl w h (fit_of fl p w inputs past m good fit kept h d) sent.from sent.along in
        let there : Here c con sent.from.part = subst (λ (c : Context). there_in fl (site_in fl w c) (wiring_in fl w c) sent.from.part ≡ true) at facts.there in
        let goes : Contains ((wiring_in fl w c).wire sent.from) x =
        subst (λ (y : Inlet). Contains ((wiring_in fl w c).wire sent.from) y) e
        (subst (λ (c : Context). Contains ((wiring_in fl w c).wire sent.from) i.inlet) at sent.wire) in
        let same : sent.from ≡ s = one_feeder fl p w good c con sent.from s x there wire.from goes wire.goes in
        (h, d, at, sym facts.maker ∙ (λ k. maker_of (block_in fl (at k)) (same k).part))

    -- a part has fired, if one has to which it leads
    pub through : (s : Side) (x : Inlet) → Wire fl p w good c con s x → HasFired c x.part done → Opens (entered (block_in fl c) x.part x.way)
        → HasFired c (maker_of (block_in fl c) s.part) done
    through s x wire f open' =
        let (i, d, a, g) = takes_inlet s x wire f open' in
        along_wire s x wire i (taken_stands fl p w inputs past m good fit kept i d) a g
