-- What a turn of a loop gives to the loop's credits, by the turns before it.
use Rattle.std.proofs.Common.{◌≡◌, ℕ, zero, suc, ◌+◌, ◌<◌, ◌≤◌, Bool, true, false, ◌&&◌, List, [], ◌∷◌, ◌++◌, refl, sym, ap, ◌∙◌, subst, inl, inr, ◌⊎◌, arith}
use Rattle.std.proofs.Common.{true≢false, nat_lt, lt-ltb, le-ltb, ◌==◌, eq-eqb, ne_eqb}
use Rattle.std.specs.Prelude.{Contains, flat_map}
use Rattle.std.proofs.lemmas.Bool.{cases_eq}
use Rattle.std.proofs.lemmas.List.Elements.{Contains-append_right}
use Rattle.std.proofs.lemmas.List.Sorted.{IsPermutation-sym, Contains-permutation}
use Rattle.lemmas.proofs.Contains.{contains_cases, contains_head, contains_none}
use Rattle.tags.specs.declared.token.Port.{Port}
use Rattle.tags.specs.declared.token.Port.TheVariants.{Left, Right}
use Rattle.semantics.specs.Meaning.{Context, Turned}
use Rattle.law_confluence.specs.OrdersTotals.{one, total}
use Rattle.law_net.specs.ContextsParts.{Part, Entry, Line, Opener, Asker, DrainReturn, Taker, Drainer, inlet, Item, item, Firing, Role, spot_of}
use Rattle.law_net.specs.ContextsBlocks.{is_loop, flag, waits_in}
use Rattle.law_net.specs.Contexts.{block_in, IsContext}
use Rattle.law_net.specs.ContextsWires.{is_unwired}
use Rattle.law_net.specs.ContextsAround.{Choice}
use Rattle.law_net.specs.ContextsFirings.{Config, begins, takes, makes, right_way, times, is_firing}
use Rattle.law_net.specs.ContextsLaws.{InArm, arms_of, flag_arm, way_fits}
use Rattle.law_net.specs.ContextsMirror.{is_item_at, items_at, granted_of}
use Rattle.law_net.proofs.ContextsSames.{spot_is, inlet_is}
use Rattle.law_net.proofs.WiredSends.{first_taken, takes_first, takes_right, first_context}
use Rattle.law_net.proofs.WiredInvoked.{is_turned}
use Rattle.law_net.proofs.WiredWords.{Begins, AtEntry, AtInput, begin_cases}
use Rattle.law_net.proofs.WiredFed.{MadeAt, ByGift, ByWire, made_at, sent_there, giver_of, gift_role}
use Rattle.law_net.proofs.WiredRounds.{choice_in, earlier_flag, under}
use Rattle.law_net.proofs.WiredRivals.{flag_at, turn_last, Order, Same, Before, order}
use Rattle.law_net.proofs.WiredRivals as Rivals
use Rattle.law_net.proofs.WiredNets.{all_of, all_born, taken_in, some_of, not_opposed, not_twice}
use Rattle.law_net.proofs.RunsArrives.{fired_fit}
use Rattle.law_net.proofs.RunsPigeons.{few_pigeons, items_total, item_there, firing_here, times_total, times_items}
use Rattle.law_net.proofs.CreditsTurns.{few_taken, taken_all, spot_at, taker_way, opened_once}
use Rattle.law_net.proofs.CreditsOpened.{Under, NUnder}
use Rattle.law_net.proofs.Credits.{near_opened}
use Rattle.law_machine_refines_net.specs.MovesCases.{Taking, net_of}
use Rattle.law_machine_refines_net.proofs.MovesFitted.{fits, among, taken_here, plain_way}
use Rattle.law_machine_refines_net.proofs.OutwardsGranted as Granted
use Rattle.law_machine_refines_net.proofs.OutwardsGranted.{Later, LAfter, HasTaken, all_granted}

-- SO MANY TAKES, where there is one of each way
module _ (c : Context) (n : ℕ) where
  abbrev below : ℕ → Firing → ℕ
  below t f = one (is_firing c (Taker n) f && nat_lt f.way (suc t))

  abbrev exactly : ℕ → Firing → ℕ
  exactly t f = one (is_firing c (Taker n) f && (f.way == suc t))

  one_more : (a : Bool) (v t : ℕ) → one (a && nat_lt v (suc t)) + one (a && (v == suc t)) ≤ one (a && nat_lt v (suc (suc t)))
  one_more false v t = omega arith
  one_more true v t = pick (order v (suc t))
    where
      pick : Order v (suc t) → one (nat_lt v (suc t)) + one (v == suc t) ≤ one (nat_lt v (suc (suc t)))
      pick (Same e) =
          let a = ap one (le-ltb v (suc t) (omega (arith, e))) in let b = ap one (eq-eqb v (suc t) e) in
          let d = ap one (lt-ltb v (suc (suc t)) (omega (arith, e))) in omega (arith, a, b, d)
      pick (Before h) =
          let a = ap one (lt-ltb v (suc t) h) in let b = ap one (ne_eqb v (suc t) (λ e. omega (arith, e, h))) in
          let d = ap one (lt-ltb v (suc (suc t)) (omega (arith, h))) in omega (arith, a, b, d)
      pick (Rivals.After h) =
          let a = ap one (le-ltb v (suc t) (omega (arith, h))) in let b = ap one (ne_eqb v (suc t) (λ e. omega (arith, e, h))) in omega (arith, a, b)

  steps : (t : ℕ) (fired : List Firing) → total (below t) fired + total (exactly t) fired ≤ total (below (suc t)) fired
  steps t [] = omega arith
  steps t (f ∷ fired) = let a = one_more (is_firing c (Taker n) f) f.way t in let more = steps t fired in omega (arith, a, more)

  both_one : (a b : Bool) → a ≡ true → b ≡ true → one (a && b) ≡ 1
  both_one true b e g = ap one g
  both_one false b e g = absurd (true≢false (sym e))

  found : (t : ℕ) (fired : List Firing) (f : Firing) → Contains fired f → f.context ≡ c → f.part ≡ Taker n → f.way ≡ suc t → 0 < total (exactly t) fired
  found t [] f h a e v = absurd (contains_none f h)
  found t (g ∷ fired) f h a e v = pick (contains_cases g fired f h) (λ d. found t fired f d a e v)
    where
      pick : (g ≡ f) ⊎ Contains fired f → (Contains fired f → 0 < total (exactly t) fired) → 0 < total (exactly t) (g ∷ fired)
      pick (inl same) more =
          let k = firing_here c (Taker n) g (ap (λ (f : Firing). f.context) same ∙ a) (ap (λ (f : Firing). f.part) same ∙ e) in
          let o = both_one (is_firing c (Taker n) g) (g.way == suc t) k (eq-eqb g.way (suc t) (ap (λ (f : Firing). f.way) same ∙ v)) in omega (arith, o)
      pick (inr d) more = let m = more d in omega (arith, m)

  many : (fired : List Firing) (t : ℕ) → ((u : ℕ) → u < t → HasTaken c n (suc u) fired) → t ≤ total (below t) fired
  many fired zero h = omega arith
  many fired (suc t) h =
      let more = many fired t (λ u l. h u (omega (arith, l))) in let k = h t (omega arith) in
      let s = steps t fired in let o = found t fired k.0 k.1 k.2 k.3 k.4 in omega (arith, more, s, o)

  all_below : (t : ℕ) (fired : List Firing) → total (below t) fired ≤ total (λ (f : Firing). one (is_firing c (Taker n) f)) fired
  all_below t [] = omega arith
  all_below t (f ∷ fired) = let a = each (is_firing c (Taker n) f) (nat_lt f.way (suc t)) in let more = all_below t fired in omega (arith, a, more)
    where
      each : (a b : Bool) → one (a && b) ≤ one a
      each true true = omega arith
      each true false = omega arith
      each false b = omega arith

  pub takes_many : (fired : List Firing) (t : ℕ) → ((u : ℕ) → u < t → HasTaken c n (suc u) fired) → t ≤ times c (Taker n) fired
  takes_many fired t h = let a = many fired t h in let b = all_below t fired in let d = times_total c (Taker n) fired in omega (arith, a, b, d)

-- THE TURN of the item that arrives
module _ (s : Taking) (c : Context) (n t : ℕ) (in_turn : s.i.context ≡ Turned c n t) where
  abbrev net : Config
  net = net_of s

  abbrev done : List Firing
  done = net.fired

  abbrev all : List Item
  all = all_of s.fl net

  abbrev taken : List Item
  taken = flat_map (takes s.fl) done

  turned : IsContext s.fl (Turned c n t)
  turned = subst (IsContext s.fl) in_turn (fits s s.i (taken_here s)).is_context

  pub owner : IsContext s.fl c
  owner = turned.0

  pub loops : is_loop (block_in s.fl c) n ≡ true
  loops = turned.1

  mine : Contains all s.i
  mine = among s s.i (taken_here s)

  pending : Contains net.pending s.i
  pending = Contains-permutation _ _ s.i (IsPermutation-sym _ _ s.perm) (contains_head s.i s.others)

  here_all : (j : Item) → Contains (net.pending ++ net.waiting) j → Contains all j
  here_all j h = among s j h

  granted_before : (u : ℕ) → (j : Item) → Contains all j → Later c n u j → HasTaken c n (suc u) done
  granted_before u j h near =
      all_granted s.fl s.p s.w s.good c n u s.inputs net s.keeps.tracks.moves (fired_fit s.fl s.p s.w s.inputs s.q s.m s.good s.keeps) j h near

  -- THE CREDITS SO FAR are no fewer than its turns
  at_least : t ≤ times c (Taker n) done
  at_least = takes_many c n done t (λ u l. granted_before u s.i mine (LAfter (subst (Granted.After c n u) (sym in_turn) (inl (refl, refl, l)))))

  opened : 0 < times c (Opener n) done
  opened = near_opened s.fl s.p s.w s.inputs s.q s.m s.good s.keeps c owner n loops s.i mine (NUnder (subst (Under c n) (sym in_turn) (inl (refl, refl))))

  -- what a turn gives back was granted
  pub gives_granted : t < granted_of net c n
  gives_granted = let a = at_least in let b = opened in omega (arith, a, b)

  -- and no more, where all takes are of turns before it
  exactly_so : ((j : Item) → Contains taken j → j.context ≡ c → j.inlet.part ≡ Taker n → j.inlet.way ≤ t) → granted_of net c n ≡ t + 1
  exactly_so low =
      let a = at_least in let b = opened in let d = opened_once s.fl s.p s.w s.inputs s.q s.m s.good s.keeps c owner n loops in
      let e = times_items c (Taker n) (takes s.fl) done took in
      let g = few_pigeons (is_item_at c (Taker n)) (λ u. record { context = c; inlet = inlet (Taker n) Left (suc u) }) t taken
      (few_taken s.fl s.p s.w s.inputs s.q s.m s.good s.keeps)
      (λ j h x. let o = item_there c (Taker n) j x in let k = taken_all s.fl s.p s.w s.inputs s.q s.m s.good s.keeps j h in
      let v = taker_way s.fl s.p s.w s.inputs s.q s.m s.good s.keeps c owner n loops j k o.0 o.1 in
      let y = low j h o.0 o.1 in let way = v.1 in
      (v.0, omega (arith, y, way), spot_at s.fl s.p s.w s.inputs s.q s.m s.good s.keeps c owner n loops j k o.0 (Taker n) o.1 refl (suc v.0) v.1)) in
      omega (arith, a, b, d, e, g)
    where
      took : (f : Firing) → f.context ≡ c → f.part ≡ Taker n → (i : Item) × Contains (takes s.fl f) i × (i.context ≡ c) × (i.inlet.part ≡ Taker n)
      took f a e = (
        first_taken s.fl s.w f f.part,
        takes_first s.fl s.w f,
        first_context s.fl s.w f f.part ∙ a,
        ap (λ (r : Part). (first_taken s.fl s.w f r).inlet.part) e,
      )

  -- ARMS
  abbrev turn_flag : ℕ → Choice
  turn_flag u = flag_at s.fl s.p s.w s.good c owner n u

  arm_at : (j : Item) (d : Context) → j.context ≡ d → (r : Part) → j.inlet.part ≡ r → (v : ℕ) → j.inlet.way ≡ v → (k : Choice) (x : Bool)
      → Contains (arms_of s.fl d r v) (record { choice = k; side = x }) → InArm s.fl (spot_of j) k x
  arm_at j d a r e v g k x h = subst (λ (c : Context). Contains (arms_of s.fl c j.inlet.part j.inlet.way) (record { choice = k; side = x })) (sym a)
      (subst (λ (r : Part). Contains (arms_of s.fl d r j.inlet.way) (record { choice = k; side = x })) (sym e)
      (subst (λ (v : ℕ). Contains (arms_of s.fl d r v) (record { choice = k; side = x })) (sym g) h))

  -- a take for turn u+1 is there only after the flag of turn u, and the flags before it, were true
  taker_arm : (j : Item) → j.context ≡ c → j.inlet.part ≡ Taker n → (v u : ℕ) → j.inlet.way ≡ suc v → u ≤ v → InArm s.fl (spot_of j) (turn_flag u) true
  taker_arm j a e v u g l = arm_at j c a (Taker n) e (suc v) g (turn_flag u) true (go (order u v))
    where
      go : Order u v → Contains (arms_of s.fl c (Taker n) (suc v)) (record { choice = turn_flag u; side = true })
      go (Same x) = subst (λ (u : ℕ). Contains (arms_of s.fl c (Taker n) (suc v)) (record { choice = turn_flag u; side = true })) (sym x)
          (choice_in s.fl s.p s.w s.good (Turned c n v) (flag (block_in s.fl (Turned c n v))) true (is_turned s.fl s.p s.w s.good c n v owner loops)
          (inr (refl, refl)))
      go (Before h) =
          under s.fl (Turned c n v) (flag_arm s.fl (Turned c n v) true) (record { choice = turn_flag u; side = true })
          (earlier_flag s.fl s.p s.w s.good c n u v (is_turned s.fl s.p s.w s.good c n u owner loops) h)
      go (Rivals.After h) = absurd (omega (arith, h, l))

  -- THE LAST TURN gives its drain back
  module _ (e : s.i.inlet.part ≡ DrainReturn) where
    drains_false : InArm s.fl (spot_of s.i) (turn_flag t) false
    drains_false =
        arm_at s.i (Turned c n t) in_turn DrainReturn e s.i.inlet.way refl (turn_flag t) false (turn_last s.fl s.p s.w s.good c owner n t loops)

    no_later : (j : Item) → Contains all j → j.context ≡ c → j.inlet.part ≡ Taker n → j.inlet.way ≤ t
    no_later j h a g = go (taker_way s.fl s.p s.w s.inputs s.q s.m s.good s.keeps c owner n loops j h a g)
      where
        go : (v : ℕ) × (j.inlet.way ≡ suc v) → j.inlet.way ≤ t
        go (v, way) = by (order v t)
          where
            by : Order v t → j.inlet.way ≤ t
            by (Before x) = omega (arith, x, way)
            by (Same x) =
                absurd (not_opposed s.fl s.w s.inputs net s.keeps.sound j s.i (turn_flag t) true h mine
                (taker_arm j a g v t way (omega (arith, x))) drains_false)
            by (Rivals.After x) =
                absurd (not_opposed s.fl s.w s.inputs net s.keeps.sound j s.i (turn_flag t) true h mine
                (taker_arm j a g v t way (omega (arith, x))) drains_false)

    pub drains_granted : t + 1 ≡ granted_of net c n
    drains_granted = sym (exactly_so (λ j h a g. no_later j (taken_all s.fl s.p s.w s.inputs s.q s.m s.good s.keeps j h) a g))

    pub none_asked : items_at c (Taker n) (net.pending ++ net.waiting) ≡ 0
    none_asked = go (cases_eq (items_at c (Taker n) (net.pending ++ net.waiting)) 0)
      where
        go : (items_at c (Taker n) (net.pending ++ net.waiting) ≡ 0) ⊎ (items_at c (Taker n) (net.pending ++ net.waiting) ≡ 0 → ⊥)
            → items_at c (Taker n) (net.pending ++ net.waiting) ≡ 0
        go (inl x) = x
        go (inr x) =
            let k = items_total c (Taker n) (net.pending ++ net.waiting) in
            let o = some_of (is_item_at c (Taker n)) (net.pending ++ net.waiting) (omega (arith, x, k)) in
            let at = item_there c (Taker n) o.0 o.2 in let way = (s.keeps.tracks.credits c n owner loops).takes o.0 o.1 at.0 at.1 in
            let low = no_later o.0 (here_all o.0 o.1) at.0 at.1 in let all_of_them = drains_granted in absurd (omega (arith, way, low, all_of_them))

  -- A TURN ASKS for the next one
  module _ (e : s.i.inlet.part ≡ Asker) where
    -- so its asker has not fired
    not_asked : (h : Firing) → Contains done h → h.context ≡ Turned c n t → h.part ≡ Asker → ⊥
    not_asked h x a g = by_port s.i.inlet.port refl
      where
        way : s.i.inlet.way ≡ 0
        way =
            plain_way s.fl s.i.context Asker s.i.inlet.port s.i.inlet.way refl
            (subst (λ (r : Part). way_fits s.fl s.i.context r s.i.inlet.port s.i.inlet.way ≡ true) e (fits s s.i (taken_here s)).way)

        twice : (j : Item) → Contains (takes s.fl h) j → spot_of s.i ≡ spot_of j → ⊥
        twice j y same =
            not_twice s.fl s.w s.inputs net s.keeps.sound s.i j pending (Contains-append_right net.waiting taken j (taken_in s.fl done h j x y)) same

        by_port : (q : Port) → s.i.inlet.port ≡ q → ⊥
        by_port Left k = twice (first_taken s.fl s.w h h.part) (takes_first s.fl s.w h)
            (spot_is (spot_of s.i) (spot_of (first_taken s.fl s.w h h.part)) (in_turn ∙ sym (first_context s.fl s.w h h.part ∙ a))
            (inlet_is s.i.inlet (inlet Asker Left 0) e k way ∙ sym (ap (λ (r : Part). (first_taken s.fl s.w h r).inlet) g)))
        by_port Right k = twice right (takes_right s.fl s.w h (ap (waits_in (block_in s.fl h.context)) g))
            (spot_is (spot_of s.i) (spot_of right) (in_turn ∙ sym a)
            (inlet_is s.i.inlet (inlet Asker Right 0) e k way ∙ sym (ap (λ (r : Part). inlet r Right (right_way s.fl h.context r)) g)))
          where
            right : Item
            right = item h.context (inlet h.part Right (right_way s.fl h.context h.part)) h.right

    -- a take is asked for by the turn before
    asked_by : (j : Item) → Contains all j → j.context ≡ c → j.inlet.part ≡ Taker n → (u : ℕ) → j.inlet.way ≡ suc u
        → (h : Firing) × Contains done h × (h.context ≡ Turned c n u) × (h.part ≡ Asker)
    asked_by j x a g u way = born (all_born s.fl s.w s.inputs net s.keeps.tracks.moves j x)
      where
        made : (h : Firing) → Contains done h → MadeAt s.fl s.p s.w s.good h j
            → (h : Firing) × Contains done h × (h.context ≡ Turned c n u) × (h.part ≡ Asker)
        made h y (ByWire k) =
            let o = sent_there s.fl s.p s.w s.good h j (fired_fit s.fl s.p s.w s.inputs s.q s.m s.good s.keeps h y) k in
            absurd (true≢false (sym (ap (is_unwired (block_in s.fl j.context)) g) ∙ o.2))
        made h y (ByGift k) =
            let r = gift_role s.fl s.p s.w s.good h (fired_fit s.fl s.p s.w s.inputs s.q s.m s.good s.keeps h y) j k
            ∙ (λ z. giver_of s.fl (a z) (g z) (way z)) in
            (h, y, ap (λ (r : Role). r.context) r, ap (λ (r : Role). r.part) r)

        first : Begins s.inputs j → ⊥
        first (AtEntry k) = let z : Entry ≡ Taker n = sym (ap (λ (j : Item). j.inlet.part) k) ∙ g in absurd (cc)
        first (AtInput m y o k) = let z : Line m ≡ Taker n = sym (ap (λ (j : Item). j.inlet.part) k) ∙ g in absurd (cc)

        born : Contains (begins s.inputs) j ⊎ ((h : Firing) × Contains done h × Contains (makes s.fl s.w h) j)
            → (h : Firing) × Contains done h × (h.context ≡ Turned c n u) × (h.part ≡ Asker)
        born (inl y) = absurd (first (begin_cases s.inputs j y))
        born (inr (h, y, m)) = made h y (made_at s.fl s.p s.w s.good h j (fired_fit s.fl s.p s.w s.inputs s.q s.m s.good s.keeps h y) m)

    not_now : (j : Item) → Contains all j → j.context ≡ c → j.inlet.part ≡ Taker n → j.inlet.way ≡ suc t → ⊥
    not_now j x a g way = let h = asked_by j x a g t way in not_asked h.0 h.1 h.2 h.3

    none_later : (j : Item) → Contains all j → j.context ≡ c → j.inlet.part ≡ Taker n → j.inlet.way ≤ t
    none_later j x a g = go (taker_way s.fl s.p s.w s.inputs s.q s.m s.good s.keeps c owner n loops j x a g)
      where
        -- a later turn is there only after the next one was granted
        later : (v : ℕ) → j.inlet.way ≡ suc v → t < v → ⊥
        later v way l =
            let h = asked_by j x a g v way in
            let first = first_taken s.fl s.w h.0 h.0.part in
            let there = taken_all s.fl s.p s.w s.inputs s.q s.m s.good s.keeps first (taken_in s.fl done h.0 first h.1 (takes_first s.fl s.w h.0)) in
            let turn : first.context ≡ Turned c n v = first_context s.fl s.w h.0 h.0.part ∙ h.2 in
            let o = granted_before t first there (LAfter (subst (Granted.After c n t) (sym turn) (inl (refl, refl, l)))) in
            let took = first_taken s.fl s.w o.0 o.0.part in
            not_now took (taken_all s.fl s.p s.w s.inputs s.q s.m s.good s.keeps took (taken_in s.fl done o.0 took o.1 (takes_first s.fl s.w o.0)))
            (first_context s.fl s.w o.0 o.0.part ∙ o.2)
            (ap (λ (r : Part). (first_taken s.fl s.w o.0 r).inlet.part) o.3) (ap (λ (r : Part). (first_taken s.fl s.w o.0 r).inlet.way) o.3 ∙ o.4)

        go : (v : ℕ) × (j.inlet.way ≡ suc v) → j.inlet.way ≤ t
        go (v, way) = by (order v t)
          where
            by : Order v t → j.inlet.way ≤ t
            by (Before y) = omega (arith, y, way)
            by (Same y) = absurd (not_now j x a g (way ∙ ap suc y))
            by (Rivals.After y) = absurd (later v way y)

    pub asks_granted : t + 1 ≡ granted_of net c n
    asks_granted = sym (exactly_so (λ j h a g. none_later j (taken_all s.fl s.p s.w s.inputs s.q s.m s.good s.keeps j h) a g))

    asks_true : InArm s.fl (spot_of s.i) (turn_flag t) true
    asks_true = arm_at s.i (Turned c n t) in_turn Asker e s.i.inlet.way refl (turn_flag t) true
        (choice_in s.fl s.p s.w s.good (Turned c n t) (flag (block_in s.fl (Turned c n t))) true turned (inr (refl, refl)))

    pub none_drains : items_at c (Drainer n) (net.pending ++ net.waiting) ≡ 0
    none_drains = go (cases_eq (items_at c (Drainer n) (net.pending ++ net.waiting)) 0)
      where
        go : (items_at c (Drainer n) (net.pending ++ net.waiting) ≡ 0) ⊎ (items_at c (Drainer n) (net.pending ++ net.waiting) ≡ 0 → ⊥)
            → items_at c (Drainer n) (net.pending ++ net.waiting) ≡ 0
        go (inl x) = x
        go (inr x) =
            let k = items_total c (Drainer n) (net.pending ++ net.waiting) in
            let o = some_of (is_item_at c (Drainer n)) (net.pending ++ net.waiting) (omega (arith, x, k)) in
            let at = item_there c (Drainer n) o.0 o.2 in let way = ((s.keeps.tracks.credits c n owner loops).drains o.0 o.1 at.0 at.1).0 in
            let now = asks_granted in let same : o.0.inlet.way ≡ t = omega (arith, way, now) in
            absurd (not_opposed s.fl s.w s.inputs net s.keeps.sound s.i o.0 (turn_flag t) true mine (here_all o.0 o.1) asks_true
            (arm_at o.0 c at.0 (Drainer n) at.1 t same (turn_flag t) false (turn_last s.fl s.p s.w s.good c owner n t loops)))
