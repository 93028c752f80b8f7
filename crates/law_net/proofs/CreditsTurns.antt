-- What has happened in a loop: once its credits are all back, no more turns are asked for, and so few were granted.
use Rattle.std.proofs.Common.{◌≡◌, ℕ, zero, suc, ◌+◌, ◌<◌, ◌≤◌, Bool, true, false, ℤ, List, [], ◌∷◌, ◌++◌, refl, sym, ap, ◌∙◌, subst, inl, inr, ◌⊎◌, arith}
use Rattle.std.proofs.Common.{true≢false, ltb-true, eqb-true, nat_lt}
use Rattle.std.specs.Prelude.{Contains, flat_map}
use Rattle.std.proofs.lemmas.Bool.{cases_eq}
use Rattle.std.proofs.lemmas.List.Elements.{Contains-append_left, Contains-append_right}
use Rattle.lemmas.proofs.Contains.{contains_cases, contains_head, contains_none, contains_tail}
use Rattle.tags.specs.declared.token.Port.{Port}
use Rattle.tags.specs.declared.token.Port.TheVariants.{Left, Right}
use Rattle.semantics.specs.Graph.{Flow}
use Rattle.semantics.specs.Meaning.{Context, Turned}
use Rattle.semantics.specs.Plan.{Plan}
use Rattle.semantics.specs.Machine.{Machine}
use Rattle.law_confluence.specs.OrdersTotals.{one, total}
use Rattle.law_confluence.proofs.Orders.{total-append}
use Rattle.law_confluence.proofs.Net.{Waits, Fires}
use Rattle.law_net.specs.ContextsParts.{Part, Opener, Giver, Taker, Drainer, Drained, inlet, signal, Item, item, Firing, Spot, spot_of, same_spot}
use Rattle.law_net.specs.ContextsBlocks.{is_loop, flag, waits_in}
use Rattle.law_net.specs.Contexts.{Wires, block_in, IsContext}
use Rattle.law_net.specs.ContextsAround.{Choice}
use Rattle.law_net.specs.ContextsFirings.{Config, Move, begin, takes, own_takes, renewed, ProperAt, given_back, times, IsProperMove, ProperMoves, Still, Then}
use Rattle.law_net.specs.ContextsLaws.{InArm, arms_of, flag_arm, way_fits, port_fits}
use Rattle.law_net.specs.ContextsMirror.{Past, came, is_item_at, items_at, granted_of}
use Rattle.law_net.specs.ContextsTheorem.{IsGood}
use Rattle.law_net.specs.ContextsPackages.{Keeps}
use Rattle.law_net.proofs.ContextsSames.{hits_at, spot_is, inlet_is}
use Rattle.law_net.proofs.WiredSends.{first_taken, takes_first, first_context}
use Rattle.law_net.proofs.WiredInvoked.{is_turned}
use Rattle.law_net.proofs.WiredRounds.{choice_in, earlier_flag, under}
use Rattle.law_net.proofs.WiredRivals.{flag_at, turn_last, Order, Same, Before, After, order}
use Rattle.law_net.proofs.WiredNets.{taken_in, not_opposed, once_all}
use Rattle.law_net.proofs.RunsArrives.{net, all_here, fits_in}
use Rattle.law_net.proofs.RunsPigeons.{few_pigeons, items_total, item_there, item_here, times_total, times_items}

-- HOW MANY TURNS: a firing that has all credits back says how many takes had fired
turns_then : (fl : Flow) (w : Wires) (c d : Config) → ProperMoves fl w c d
    → ((h : Firing) (n : ℕ) → Contains c.fired h → h.part ≡ Drained n → h.turns ≤ times h.context (Taker n) c.fired)
    → (h : Firing) (n : ℕ) → Contains d.fired h → h.part ≡ Drained n → h.turns ≤ times h.context (Taker n) d.fired
turns_then fl w c d (Still e) old = old
turns_then fl w c d (Then a mid b m proper more) old = turns_then fl w mid d more (step a mid m proper old)
  where
    later : (r : Part) (x : Context) (f : Firing) (fired : List Firing) → times x r fired ≤ times x r (f ∷ fired)
    later r x f fired = let s = times_total x r fired in let t = times_total x r (f ∷ fired) in omega (arith, s, t)

    step : (c d : Config) (m : Move fl w c d) → IsProperMove fl w c.fired c d m
        → ((h : Firing) (n : ℕ) → Contains c.fired h → h.part ≡ Drained n → h.turns ≤ times h.context (Taker n) c.fired)
        → (h : Firing) (n : ℕ) → Contains d.fired h → h.part ≡ Drained n → h.turns ≤ times h.context (Taker n) d.fired
    step c d (Waits i rest a e) proper old h n =
        subst (λ (d : Config). Contains d.fired h → h.part ≡ Drained n → h.turns ≤ times h.context (Taker n) d.fired) (sym e) (old h n)
    step c d (Fires f now kept rest others a b both e) proper old h n =
        subst (λ (d : Config). Contains d.fired h → h.part ≡ Drained n → h.turns ≤ times h.context (Taker n) d.fired) (sym e)
        (λ x g. pick (contains_cases f c.fired h x) g)
      where
        pick : (f ≡ h) ⊎ Contains c.fired h → h.part ≡ Drained n → h.turns ≤ times h.context (Taker n) (f ∷ c.fired)
        pick (inr x) g = let o = old h n x g in let l = later (Taker n) h.context f c.fired in omega (arith, o, l)
        pick (inl same) g =
            let p : f.turns ≡ times f.context (Taker n) c.fired = subst (λ (r : Part). ProperAt fl c.fired f r) (ap (λ (f : Firing). f.part) same ∙ g) proper in
            let l = later (Taker n) f.context f c.fired in
            subst (λ (h : Firing). h.turns ≤ times h.context (Taker n) (f ∷ c.fired)) same (omega (arith, p, l))

module _ (fl : Flow) (p : Plan) (w : Wires) (inputs : List ℤ) (q : Past) (m : Machine) (good : IsGood fl p w)
    (k : Keeps fl p w inputs q m) where
  abbrev here : Config
  here = net fl p w inputs q m good k

  abbrev fired : List Firing
  fired = here.fired

  abbrev all : List Item
  all = all_here fl p w inputs q m good k

  abbrev taken : List Item
  taken = flat_map (takes fl) fired

  pub taken_all : (i : Item) → Contains taken i → Contains all i
  taken_all i c = Contains-append_right here.pending (here.waiting ++ taken) i (Contains-append_right here.waiting taken i c)

  pub few_taken : (x : Spot) → hits_at x taken ≤ 1
  few_taken x =
      let a = total-append (λ (i : Item). one (same_spot x (spot_of i))) here.pending (here.waiting ++ taken) in
      let b = total-append (λ (i : Item). one (same_spot x (spot_of i))) here.waiting taken in let f = once_all fl w inputs here k.sound x in
      omega (arith, a, b, f)

  pub turns_now : (h : Firing) (n : ℕ) → Contains fired h → h.part ≡ Drained n → h.turns ≤ times h.context (Taker n) fired
  turns_now = turns_then fl w (begin inputs) here k.tracks.moves (λ h n c e. absurd (contains_none h c))

  -- A LOOP
  module _ (c : Context) (con : IsContext fl c) (n : ℕ) (l : is_loop (block_in fl c) n ≡ true) where
    -- what arrives at a loop's instruction arrives at its left port
    pub left_at : (i : Item) → Contains all i → i.context ≡ c → (r : Part) → i.inlet.part ≡ r → waits_in (block_in fl c) r ≡ false → i.inlet.port ≡ Left
    left_at i h a r e none =
        go i.inlet.port refl (subst (λ (d : Context). port_fits fl d r i.inlet.port ≡ true) a
        (subst (λ (r : Part). port_fits fl i.context r i.inlet.port ≡ true) e (fits_in fl p w inputs q m good k i h).port))
      where
        go : (x : Port) → i.inlet.port ≡ x → port_fits fl c r x ≡ true → i.inlet.port ≡ Left
        go Left g t = g
        go Right g t = absurd (true≢false (sym t ∙ none))

    pub spot_at : (i : Item) → Contains all i → i.context ≡ c → (r : Part) → i.inlet.part ≡ r → waits_in (block_in fl c) r ≡ false → (t : ℕ) → i.inlet.way ≡ t
        → spot_of i ≡ record { context = c; inlet = inlet r Left t }
    spot_at i h a r e none t g =
        spot_is (spot_of i) (record { context = c; inlet = inlet r Left t }) a (inlet_is i.inlet (inlet r Left t) e (left_at i h a r e none) g)

    -- a credit is asked for a turn after the first
    pub taker_way : (i : Item) → Contains all i → i.context ≡ c → i.inlet.part ≡ Taker n → (t : ℕ) × (i.inlet.way ≡ suc t)
    taker_way i h a e = go i.inlet.way refl
      where
        low : nat_lt 0 i.inlet.way ≡ true
        low = subst (λ (r : Part). way_fits fl i.context r i.inlet.port i.inlet.way ≡ true) e (fits_in fl p w inputs q m good k i h).way

        go : (t : ℕ) → i.inlet.way ≡ t → (t : ℕ) × (i.inlet.way ≡ suc t)
        go zero g = let x = ltb-true 0 i.inlet.way low in absurd (omega (arith, x, g))
        go (suc t) g = (t, g)

    arm_at : (i : Item) → i.context ≡ c → (r : Part) → i.inlet.part ≡ r → (t : ℕ) → i.inlet.way ≡ t → (d : Choice) (s : Bool)
        → Contains (arms_of fl c r t) (record { choice = d; side = s }) → InArm fl (spot_of i) d s
    arm_at i a r e t g d s h = subst (λ (c : Context). Contains (arms_of fl c i.inlet.part i.inlet.way) (record { choice = d; side = s })) (sym a)
        (subst (λ (r : Part). Contains (arms_of fl c r i.inlet.way) (record { choice = d; side = s })) (sym e)
        (subst (λ (t : ℕ). Contains (arms_of fl c r t) (record { choice = d; side = s })) (sym g) h))

    abbrev turn_flag : ℕ → Choice
    turn_flag t = flag_at fl p w good c con n t

    -- an item that asks for turn t+1 is there only after true flags, and one that drains after turn u only after a false one
    pub asked_before : (i j : Item) → Contains all i → Contains all j → i.context ≡ c → j.context ≡ c → i.inlet.part ≡ Taker n → j.inlet.part ≡ Drainer n
        → i.inlet.way ≤ j.inlet.way
    asked_before i j a b ic jc ip jp = go (taker_way i a ic ip)
      where
        go : (t : ℕ) × (i.inlet.way ≡ suc t) → i.inlet.way ≤ j.inlet.way
        go (t, g) = by (order t j.inlet.way)
          where
            opposed : (u : ℕ) → j.inlet.way ≡ u → Contains (arms_of fl c (Taker n) (suc t)) (record { choice = turn_flag u; side = true }) → ⊥
            opposed u e h = not_opposed fl w inputs here k.sound i j (turn_flag u) true a b (arm_at i ic (Taker n) ip (suc t) g (turn_flag u) true h)
                (arm_at j jc (Drainer n) jp u e (turn_flag u) false (turn_last fl p w good c con n u l))

            by : Order t j.inlet.way → i.inlet.way ≤ j.inlet.way
            by (Before h) = omega (arith, g, h)
            by (Same h) =
                absurd (opposed t (sym h) (choice_in fl p w good (Turned c n t) (flag (block_in fl (Turned c n t))) true
                (is_turned fl p w good c n t con l) (inr (refl, refl))))
            by (After h) =
                absurd (opposed j.inlet.way refl (under fl (Turned c n t) (flag_arm fl (Turned c n t) true)
                (record { choice = turn_flag j.inlet.way; side = true })
                (earlier_flag fl p w good c n j.inlet.way t (is_turned fl p w good c n j.inlet.way con l) h)))

    -- what a firing of one of a loop's instructions took
    took : (r : Part) → ((f : Firing) → (first_taken fl w f r).inlet.part ≡ r) → (f : Firing) → f.context ≡ c → f.part ≡ r
        → (i : Item) × Contains (takes fl f) i × (i.context ≡ c) × (i.inlet.part ≡ r)
    took r same f a e =
        (first_taken fl w f f.part, takes_first fl w f, first_context fl w f f.part ∙ a, ap (λ (r : Part). (first_taken fl w f r).inlet.part) e ∙ same f)

    pub opened_once : times c (Opener n) fired ≤ 1
    opened_once =
        let a = times_items c (Opener n) (takes fl) fired (took (Opener n) (λ f. refl)) in
        let b = few_pigeons (is_item_at c (Opener n)) (λ t. record { context = c; inlet = inlet (Opener n) Left 0 }) 1 taken few_taken
        (λ i h e. let x = item_there c (Opener n) i e in let s = taken_all i h in (0, omega arith, spot_at i s x.0 (Opener n) x.1 refl 0 (zero_way i s x.1))) in
        omega (arith, a, b)
      where
        zero_way : (i : Item) → Contains all i → i.inlet.part ≡ Opener n → i.inlet.way ≡ 0
        zero_way i h e =
            eqb-true i.inlet.way 0 (subst (λ (r : Part). way_fits fl i.context r i.inlet.port i.inlet.way ≡ true) e
            (fits_in fl p w inputs q m good k i h).way)

    -- once all credits are back
    module _ (h : Firing) (arrive : Contains fired h) (hc : h.context ≡ c) (hp : h.part ≡ Drained n) where
      drained_item : Item
      drained_item = item h.context (inlet (Drainer n) Left h.turns) h.left

      pub drained_taken : Contains taken (item h.context (inlet (Drainer n) Left h.turns) h.left)
      drained_taken = taken_in fl fired h (item h.context (inlet (Drainer n) Left h.turns) h.left) arrive
          (subst (λ (r : Part). Contains (takes fl h) (first_taken fl w h r)) hp (takes_first fl w h))

      pub no_later : (i : Item) → Contains all i → i.context ≡ c → i.inlet.part ≡ Taker n → i.inlet.way ≤ h.turns
      no_later i x a e = asked_before i (item h.context (inlet (Drainer n) Left h.turns) h.left) x (taken_all _ drained_taken) a hc e refl

      few_taken_turns : times c (Taker n) fired ≤ h.turns
      few_taken_turns =
          let a = times_items c (Taker n) (takes fl) fired (took (Taker n) (λ f. refl)) in
          let b = few_pigeons (is_item_at c (Taker n)) (λ t. record { context = c; inlet = inlet (Taker n) Left (suc t) }) h.turns taken few_taken
          (λ i d e. let x = item_there c (Taker n) i e in let s = taken_all i d in let t = taker_way i s x.0 x.1 in let low = no_later i s x.0 x.1 in
          let way = t.1 in
          (t.0, omega (arith, low, way), spot_at i s x.0 (Taker n) x.1 refl (suc t.0) t.1)) in omega (arith, a, b)

      pub granted_few : granted_of here c n ≤ h.turns + 1
      granted_few = let a = opened_once in let b = few_taken_turns in omega (arith, a, b)

      -- all were given back
      pub credit_taken : (u : ℕ) → u ≤ h.turns → Contains taken (item h.context (inlet (Giver n) Left u) signal)
      credit_taken u low = taken_in fl fired h (item h.context (inlet (Giver n) Left u) signal) arrive
          (subst (λ (r : Part). Contains (own_takes fl h r ++ renewed fl h r) (item h.context (inlet (Giver n) Left u) signal)) (sym hp)
          (Contains-append_left (own_takes fl h (Drained n)) (renewed fl h (Drained n)) (item h.context (inlet (Giver n) Left u) signal)
          (contains_tail (item h.context (inlet (Drainer n) Left h.turns) h.left) (given_back h.context n (h.turns + 1))
          (item h.context (inlet (Giver n) Left u) signal) (back (h.turns + 1) (omega (arith, low))))))
        where
          back : (t : ℕ) → u < t → Contains (given_back h.context n t) (item h.context (inlet (Giver n) Left u) signal)
          back zero g = absurd (omega (arith, g))
          back (suc t) g = pick (cases_eq u t) (back t)
            where
              pick : (u ≡ t) ⊎ (u ≡ t → ⊥) → (u < t → Contains (given_back h.context n t) (item h.context (inlet (Giver n) Left u) signal))
                  → Contains (given_back h.context n (suc t)) (item h.context (inlet (Giver n) Left u) signal)
              pick (inl e) more =
                  subst (λ (v : ℕ). Contains (given_back h.context n (suc t)) (item h.context (inlet (Giver n) Left v) signal)) (sym e)
                  (contains_head (item h.context (inlet (Giver n) Left t) signal) (given_back h.context n t))
              pick (inr x) more =
                  contains_tail (item h.context (inlet (Giver n) Left t) signal) (given_back h.context n t) (item h.context (inlet (Giver n) Left u) signal)
                  (more (omega (arith, g, x)))

      given_many : h.turns + 1 ≤ total (λ (i : Item). one (is_item_at c (Giver n) i)) (own_takes fl h h.part)
      given_many =
          subst (λ (r : Part). h.turns + 1 ≤ total (λ (i : Item). one (is_item_at c (Giver n) i)) (own_takes fl h r)) (sym hp)
          (let b = back (h.turns + 1) in omega (arith, b))
        where
          back : (t : ℕ) → t ≤ total (λ (i : Item). one (is_item_at c (Giver n) i)) (given_back h.context n t)
          back zero = omega arith
          back (suc t) =
              let o = ap one (item_here c (Giver n) (item h.context (inlet (Giver n) Left t) signal) hc refl) in let more = back t in omega (arith, o, more)

      pub given_enough : h.turns + 1 ≤ items_at c (Giver n) (came fl here)
      given_enough =
          let g : Item → ℕ = λ (i : Item). one (is_item_at c (Giver n) i) in
          let s = items_total c (Giver n) (came fl here) in
          let a = total-append g here.pending (here.waiting ++ flat_map (λ (f : Firing). own_takes fl f f.part) fired) in
          let b = total-append g here.waiting (flat_map (λ (f : Firing). own_takes fl f f.part) fired) in
          let o = within g fired h arrive in let e = given_many in omega (arith, s, a, b, o, e)
        where
          within : (g : Item → ℕ) (fs : List Firing) (h : Firing) → Contains fs h
              → total g (own_takes fl h h.part) ≤ total g (flat_map (λ (f : Firing). own_takes fl f f.part) fs)
          within g [] h c = absurd (contains_none h c)
          within g (f ∷ fs) h c = pick (contains_cases f fs h c) (λ d. within g fs h d)
            where
              pick : (f ≡ h) ⊎ Contains fs h → (Contains fs h → total g (own_takes fl h h.part) ≤ total g (flat_map (λ (f : Firing). own_takes fl f f.part) fs))
                  → total g (own_takes fl h h.part) ≤ total g (flat_map (λ (f : Firing). own_takes fl f f.part) (f ∷ fs))
              pick (inl e) more =
                  let a = total-append g (own_takes fl f f.part) (flat_map (λ (f : Firing). own_takes fl f f.part) fs) in
                  let s = ap (λ (f : Firing). total g (own_takes fl f f.part)) e in omega (arith, a, s)
              pick (inr d) more =
                  let a = total-append g (own_takes fl f f.part) (flat_map (λ (f : Firing). own_takes fl f f.part) fs) in let x = more d in omega (arith, a, x)
