-- Two firings of a part take one inlet, or go with different sides of a conditional.
use Rattle.std.proofs.Common.{◌≡◌, ℕ, zero, suc, ◌+◌, ◌<◌, Bool, true, false, not, ◌||◌, ℤ, List, ◌++◌, refl, sym, ap, ◌∙◌, subst, inl, inr, ◌⊎◌, arith}
use Rattle.std.proofs.Common.{ltb-true, ltb-false, eqb-true, ne_eqb, nat_lt, ◌==◌}
use Rattle.std.specs.Prelude.{Contains}
use Rattle.std.proofs.lemmas.Bool.{cases_eq, cases_Bool}
use Rattle.std.proofs.lemmas.List.Elements.{Contains-append_left}
use Rattle.lemmas.proofs.Contains.{contains_head, contains_tail}
use Rattle.tags.specs.declared.token.Port.TheVariants.{Left}
use Rattle.semantics.specs.Graph.{Flow}
use Rattle.semantics.specs.Meaning.{Context, Turned}
use Rattle.semantics.specs.Plan.{Plan}
use Rattle.law_net.specs.ContextsParts.{Part, Merge, CondEnd, Landing, Taker, Giver, Drainer, InCell, Drained, Inlet, inlet, signal, Item, item, Firing, Spot}
use Rattle.law_net.specs.ContextsParts.{spot_of, Role, turn_in}
use Rattle.law_net.specs.ContextsBlocks.{is_kind, merge_kind, merge_cond, is_loop, flag}
use Rattle.law_net.specs.Contexts.{Wires, block_in, IsContext}
use Rattle.law_net.specs.ContextsAround.{Choice}
use Rattle.law_net.specs.ContextsFirings.{takes, own_takes, renewed, given_back}
use Rattle.law_net.specs.ContextsLaws.{spot_there, way_fits, InArm, landing_arms, flag_arm}
use Rattle.law_net.specs.ContextsTheorem.{IsGood}
use Rattle.law_net.specs.ContextsPackages.{AllFit, Shows, RivalsAreApart}
use Rattle.law_net.proofs.ContextsSames.{hits_at, hit_counted, spot_is}
use Rattle.law_net.proofs.WiredSends.{first_taken, takes_first, first_fits, first_context, in_context}
use Rattle.law_net.proofs.WiredInvoked.{is_turned, lawful_at}
use Rattle.law_net.proofs.WiredRounds.{choice_in, end_choice, earlier_flag, under}

-- a way of two is one or the other
pub two_ways : (t u : ℕ) → nat_lt t 2 ≡ true → nat_lt u 2 ≡ true → (t ≡ u) ⊎ ((u == 0) ≡ not (t == 0))
two_ways zero zero h g = inl refl
two_ways zero (suc u) h g = inr (ne_eqb (suc u) 0 (λ e. omega (arith, e)))
two_ways (suc t) zero h g = inr (sym (ap not (ne_eqb (suc t) 0 (λ e. omega (arith, e)))))
two_ways (suc t) (suc u) h g = let a = ltb-true (suc t) 2 h in let b = ltb-true (suc u) 2 g in inl (omega (arith, a, b))

pub data Order (t u : ℕ) : Type 0 where
  Same : t ≡ u → Order t u
  Before : t < u → Order t u
  After : u < t → Order t u

pub order : (t u : ℕ) → Order t u
order t u = pick (cases_eq t u) (cases_Bool (nat_lt t u))
  where
    pick : (t ≡ u) ⊎ (t ≡ u → ⊥) → (nat_lt t u ≡ true) ⊎ (nat_lt t u ≡ false) → Order t u
    pick (inl e) k = Same e
    pick (inr n) (inl h) = Before (ltb-true t u h)
    pick (inr n) (inr h) = let g = ltb-false t u h in After (omega (arith, n, g))

module _ (fl : Flow) (p : Plan) (w : Wires) (good : IsGood fl p w) where
  -- the conditional whose arms meet at a part
  module _ (c : Context) (here : IsContext fl c) (n : ℕ) where
    pub merge_arm : (t : ℕ) → is_kind merge_kind (block_in fl c) n ≡ true
        → InArm fl (record { context = c; inlet = inlet (Merge n) Left t }) (record { context = c; cond = merge_cond (block_in fl c) n }) (t == 0)
    merge_arm t h = choice_in fl p w good c (merge_cond (block_in fl c) n) (t == 0) here (inl ((lawful_at fl p w good c here).arms.merges n h).0)

    pub end_arm : (t : ℕ) → spot_there fl w c (CondEnd n) ≡ true
        → InArm fl (record { context = c; inlet = inlet (CondEnd n) Left t }) (record { context = c; cond = n }) (t == 0)
    end_arm t h = choice_in fl p w good c n (t == 0) here (end_choice fl p w good c n h)

    -- what a turn sends out is there only after its flag was false, and after the flags before it were true
    abbrev pub flag_at : ℕ → Choice
    flag_at t = record { context = Turned c n t; cond = flag (block_in fl (Turned c n t)) }

    pub turn_last : (t : ℕ) → is_loop (block_in fl c) n ≡ true → Contains (landing_arms fl c n t true) (record { choice = flag_at t; side = false })
    turn_last t l =
        choice_in fl p w good (Turned c n t) (flag (block_in fl (Turned c n t))) false (is_turned fl p w good c n t here l) (inr (refl, refl))

    pub turn_later : (t u : ℕ) → is_loop (block_in fl c) n ≡ true → t < u → Contains (landing_arms fl c n u true) (record { choice = flag_at t; side = true })
    turn_later t u l h =
        under fl (Turned c n u) (flag_arm fl (Turned c n u) false) (record { choice = flag_at t; side = true })
        (earlier_flag fl p w good c n t u (is_turned fl p w good c n t here l) h)

    pub landing_arm : (j t : ℕ) (k : Choice) (s : Bool) → is_loop (block_in fl c) n ≡ true
        → Contains (landing_arms fl c n t true) (record { choice = k; side = s }) → InArm fl (record { context = c; inlet = inlet (Landing n j) Left t }) k s
    landing_arm j t k s l a = subst (λ (x : Bool). Contains (landing_arms fl c n t x) (record { choice = k; side = s })) (sym l) a

  module _ (inputs : List ℤ) where
    abbrev Meet : Firing → Firing → Type 0
    Meet f h =
        ((x : Spot) × (0 < hits_at x (takes fl f)) × (0 < hits_at x (takes fl h)))
        ⊎ ((k : Choice) × (t : Bool) × Shows fl w inputs f k t × Shows fl w inputs h k (not t))

    meet_at : (f h : Firing) (i j : Item) → Contains (takes fl f) i → Contains (takes fl h) j → spot_of i ≡ spot_of j → Meet f h
    meet_at f h i j a b e =
        inl (spot_of i, hit_counted (takes fl f) i a, subst (λ (x : Spot). 0 < hits_at x (takes fl h)) (sym e) (hit_counted (takes fl h) j b))

    -- a part's first inlet
    first_is : (f : Firing) (c : Context) → f.context ≡ c → (r : Part) → f.part ≡ r
        → spot_of (first_taken fl w f f.part) ≡ record { context = c; inlet = (first_taken fl w f r).inlet }
    first_is f c m r e =
        spot_is (spot_of (first_taken fl w f f.part)) (record { context = c; inlet = (first_taken fl w f r).inlet }) (first_context fl w f f.part ∙ m)
        (ap (λ (r : Part). (first_taken fl w f r).inlet) e)

    -- one inlet, where the way is one
    same_way : (f h : Firing) (c : Context) → f.context ≡ c → h.context ≡ c → (r : Part) → f.part ≡ r → h.part ≡ r
        → (first_taken fl w f r).inlet ≡ (first_taken fl w h r).inlet → Meet f h
    same_way f h c a b r d e same = meet_at f h (first_taken fl w f f.part) (first_taken fl w h h.part) (takes_first fl w f) (takes_first fl w h)
        (first_is f c a r d ∙ ap (λ (x : Inlet). record { context = c; inlet = x }) same ∙ sym (first_is h c b r e))

    arm_of_first : (f : Firing) (c : Context) → f.context ≡ c → (r : Part) → f.part ≡ r → (k : Choice) (t : Bool)
        → InArm fl (record { context = c; inlet = (first_taken fl w f r).inlet }) k t → Shows fl w inputs f k t
    arm_of_first f c m r e k t a = inl (first_taken fl w f f.part, takes_first fl w f, subst (λ (x : Spot). InArm fl x k t) (sym (first_is f c m r e)) a)

    first_way : (f : Firing) → AllFit fl w (takes fl f) → (c : Context) → f.context ≡ c → (r : Part) → f.part ≡ r
        → way_fits fl c (first_taken fl w f r).inlet.part (first_taken fl w f r).inlet.port (first_taken fl w f r).inlet.way ≡ true
    first_way f all c m r e =
        subst (λ (x : Spot). way_fits fl x.context x.inlet.part x.inlet.port x.inlet.way ≡ true) (first_is f c m r e) (first_fits fl w f all).way

    first_there : (f : Firing) → AllFit fl w (takes fl f) → (c : Context) → f.context ≡ c → (r : Part) → f.part ≡ r
        → spot_there fl w c (first_taken fl w f r).inlet.part ≡ true
    first_there f all c m r e = subst (λ (x : Spot). spot_there fl w x.context x.inlet.part ≡ true) (first_is f c m r e) (first_fits fl w f all).there

    -- the credit of the first turn is always given back
    first_credit : (c : Context) (n t : ℕ) → Contains (given_back c n (t + 1)) (item c (inlet (Giver n) Left 0) signal)
    first_credit c n t =
        let up : suc t ≡ t + 1 = omega arith in subst (λ (u : ℕ). Contains (given_back c n u) (item c (inlet (Giver n) Left 0) signal)) up (go t)
      where
        go : (t : ℕ) → Contains (given_back c n (suc t)) (item c (inlet (Giver n) Left 0) signal)
        go zero = contains_head (item c (inlet (Giver n) Left 0) signal) (given_back c n zero)
        go (suc t) = contains_tail (item c (inlet (Giver n) Left (suc t)) signal) (given_back c n (suc t)) (item c (inlet (Giver n) Left 0) signal) (go t)

    takes_credit : (f : Firing) (n : ℕ) → f.part ≡ Drained n → Contains (takes fl f) (item f.context (inlet (Giver n) Left 0) signal)
    takes_credit f n e = subst (λ (r : Part). Contains (own_takes fl f r ++ renewed fl f r) (item f.context (inlet (Giver n) Left 0) signal)) (sym e)
        (Contains-append_left (own_takes fl f (Drained n)) (renewed fl f (Drained n)) (item f.context (inlet (Giver n) Left 0) signal)
        (contains_tail (item f.context (inlet (Drainer n) Left f.turns) f.left) (given_back f.context n (f.turns + 1))
        (item f.context (inlet (Giver n) Left 0) signal) (first_credit f.context n f.turns)))

    module _ (f h : Firing) (mine : AllFit fl w (takes fl f)) (theirs : AllFit fl w (takes fl h)) (c : Context) (a : f.context ≡ c) (b : h.context ≡ c) where
      here : IsContext fl c
      here = subst (IsContext fl) a (in_context fl w f mine)

      opposed_at : (r : Part) → f.part ≡ r → h.part ≡ r → (k : Choice) (t : Bool) → InArm fl (record { context = c; inlet = (first_taken fl w f r).inlet }) k t
          → InArm fl (record { context = c; inlet = (first_taken fl w h r).inlet }) k (not t) → Meet f h
      opposed_at r d e k t x y = inr (k, t, arm_of_first f c a r d k t x, arm_of_first h c b r e k (not t) y)

      landings_meet : (n j : ℕ) → f.part ≡ Landing n j → h.part ≡ Landing n j → (l : Bool) → is_loop (block_in fl c) n ≡ l → (l || (f.way == 0)) ≡ true
          → (l || (h.way == 0)) ≡ true → Order f.way h.way → Meet f h
      landings_meet n j d e false l x y o =
          let one = eqb-true f.way 0 x in let two = eqb-true h.way 0 y in
          same_way f h c a b (Landing n j) d e (ap (λ (t : ℕ). inlet (Landing n j) Left t) (one ∙ sym two))
      landings_meet n j d e true l x y (Same k) = same_way f h c a b (Landing n j) d e (ap (λ (t : ℕ). inlet (Landing n j) Left t) k)
      landings_meet n j d e true l x y (Before k) = opposed_at (Landing n j) d e (flag_at c here n f.way) false
          (landing_arm c here n j f.way (flag_at c here n f.way) false l (turn_last c here n f.way l))
          (landing_arm c here n j h.way (flag_at c here n f.way) true l (turn_later c here n f.way h.way l k))
      landings_meet n j d e true l x y (After k) = opposed_at (Landing n j) d e (flag_at c here n h.way) true
          (landing_arm c here n j f.way (flag_at c here n h.way) true l (turn_later c here n h.way f.way l k))
          (landing_arm c here n j h.way (flag_at c here n h.way) false l (turn_last c here n h.way l))

      by_part : (r : Part) → f.part ≡ r → h.part ≡ r → turn_in r f.way ≡ turn_in r h.way → Meet f h
      by_part (Merge n) d e u = pick (two_ways f.way h.way (first_way f mine c a (Merge n) d) (first_way h theirs c b (Merge n) e))
        where
          pick : (f.way ≡ h.way) ⊎ ((h.way == 0) ≡ not (f.way == 0)) → Meet f h
          pick (inl k) = same_way f h c a b (Merge n) d e (ap (λ (t : ℕ). inlet (Merge n) Left t) k)
          pick (inr k) = let q : Choice = record { context = c; cond = merge_cond (block_in fl c) n } in let s = first_there f mine c a (Merge n) d in
              opposed_at (Merge n) d e q (f.way == 0) (merge_arm c here n f.way s)
              (subst (λ (t : Bool). InArm fl (record { context = c; inlet = inlet (Merge n) Left h.way }) q t) k (merge_arm c here n h.way s))
      by_part (CondEnd n) d e u = pick (two_ways f.way h.way (first_way f mine c a (CondEnd n) d) (first_way h theirs c b (CondEnd n) e))
        where
          pick : (f.way ≡ h.way) ⊎ ((h.way == 0) ≡ not (f.way == 0)) → Meet f h
          pick (inl k) = same_way f h c a b (CondEnd n) d e (ap (λ (t : ℕ). inlet (CondEnd n) Left t) k)
          pick (inr k) = let q : Choice = record { context = c; cond = n } in let s = first_there f mine c a (CondEnd n) d in
              opposed_at (CondEnd n) d e q (f.way == 0) (end_arm c here n f.way s)
              (subst (λ (t : Bool). InArm fl (record { context = c; inlet = inlet (CondEnd n) Left h.way }) q t) k (end_arm c here n h.way s))
      by_part (Landing n j) d e u =
          landings_meet n j d e (is_loop (block_in fl c) n) refl (first_way f mine c a (Landing n j) d) (first_way h theirs c b (Landing n j) e)
          (order f.way h.way)
      by_part (Taker n) d e u = same_way f h c a b (Taker n) d e (ap (λ (t : ℕ). inlet (Taker n) Left t) u)
      by_part (InCell n) d e u = same_way f h c a b (InCell n) d e (ap (λ (r : Part). inlet r Left 0) (d ∙ sym e))
      by_part (Drained n) d e u =
          meet_at f h (item f.context (inlet (Giver n) Left 0) signal) (item h.context (inlet (Giver n) Left 0) signal) (takes_credit f n d)
          (takes_credit h n e)
          (ap (λ (c : Context). record { context = c; inlet = inlet (Giver n) Left 0 }) (a ∙ sym b))
      by_part r d e u = same_way f h c a b r d e refl

    pub rivals_are_apart : RivalsAreApart fl w inputs
    rivals_are_apart f h mine theirs e =
        let part : h.part ≡ f.part = ap (λ (r : Role). r.part) (sym e) in
        let turn : turn_in f.part f.way ≡ turn_in f.part h.way = ap (λ (r : Role). r.turn) e ∙ ap (λ (r : Part). turn_in r h.way) part in
        by_part f h mine theirs f.context refl (ap (λ (r : Role). r.context) (sym e)) f.part refl part turn
