-- Where a strict call asks for its frame, each of its arguments is on its way to its sender, or waits there.
use Rattle.std.proofs.Common.{◌≡◌, ℕ, zero, suc, ◌+◌, ◌<◌, ◌≤◌, Bool, true, false, ◌&&◌, lt-ltb, List, [], ◌∷◌, ◌++◌, refl, sym, ap, ◌∙◌, subst, inl, inr, ◌⊎◌}
use Rattle.std.proofs.Common.{arith, true≢false, Some, if◌then◌else◌, ◌==◌, ne_eqb, eq-eqb}
use Rattle.std.specs.Prelude.{Contains, flat_map}
use Rattle.std.proofs.lemmas.Bool.{cases_eq}
use Rattle.std.proofs.lemmas.List.Elements.{Contains-append_left, Contains-append_right, Contains-append_cases}
use Rattle.std.proofs.lemmas.List.Sorted.{IsPermutation-sym, Contains-permutation}
use Rattle.lemmas.proofs.Contains.{contains_cases, contains_head, contains_map, contains_none, contains_flat_mapped}
use Rattle.tags.specs.declared.value.Value.{Value}
use Rattle.tags.specs.declared.token.Port.{Port}
use Rattle.tags.specs.declared.token.Port.TheVariants.{Left, Right}
use Rattle.semantics.specs.Meaning.{Context}
use Rattle.law_confluence.specs.OrdersTotals.{one}
use Rattle.law_confluence.proofs.Orders.{total-append}
use Rattle.law_net.specs.ContextsParts.{Part, Framer, Strict, Sender, Drained, InCell, Drainer, Giver, Inlet, inlet, Datum, signal, Item, item, Firing, Spot}
use Rattle.law_net.specs.ContextsParts.{spot_of, same_spot}
use Rattle.law_net.specs.ContextsBlocks.{Side, side, waits_in, source_count, there_in}
use Rattle.law_net.specs.Contexts.{block_in, site_in, wiring_in, IsContext, is_strict_in}
use Rattle.law_net.specs.ContextsWires.{WaitsForAll, wait_after, wait_for, arrives_at, wired_way, wired_port, is_unwired}
use Rattle.law_net.specs.ContextsFirings.{Config, begins, takes, own_takes, renewed, makes, both_items, right_way, arguments_from, given_back, sent_word}
use Rattle.law_net.specs.ContextsFirings.{left_item, request_of}
use Rattle.law_net.specs.ContextsLaws.{WordAt, Carries, port_fits, way_fits}
use Rattle.law_net.specs.ContextsPackages.{AllFit}
use Rattle.law_net.specs.ContextsMirror.{is_in_cell}
use Rattle.law_machine_refines_net.specs.MovesCases.{Taking, net_of}
use Rattle.law_machine_refines_net.proofs.MovesLists.{contains_one}
use Rattle.law_machine_refines_net.proofs.MovesFitted.{fits, bare, taken_here, lone_port, plain_way}
use Rattle.law_machine_refines_net.proofs.SendsInwards.{carried}
use Rattle.law_net.proofs.ContextsSames.{hit_counted, hit_found}
use Rattle.law_net.proofs.WiredSends.{first_taken, takes_first, takes_right, sent_facts, sent_along, gives_by, side_by, splits}
use Rattle.law_net.proofs.WiredWords.{Begins, AtEntry, AtInput, begin_cases}
use Rattle.law_net.proofs.WiredFed.{MadeAt, ByGift, ByWire, made_at, gift_unwired, Unwired, UUnwired, UNot, UWay, one_feeder}
use Rattle.law_net.proofs.WiredNets.{all_of, all_born, not_twice, taken_in, total_flat, flat_contains}
use Rattle.law_net.proofs.WiredInvoked.{lawful_at}
use Rattle.law_net.proofs.Credits.{is_begin}
use Rattle.law_net.proofs.RunsArrives.{fired_fit}

-- WHAT TAKES AN ARGUMENT before the call has fired: the call itself
pub arguments_at : (c : Context) (n w i : ℕ) (vs : List Value) (j : Item) → Contains (arguments_from c n w i vs) j
    → (m : ℕ) × (v : Value) × (i ≤ m) × (j ≡ item c (inlet (Sender n m) Right w) (Datum v))
arguments_at c n w i [] j h = absurd (contains_none j h)
arguments_at c n w i (v ∷ vs) j h =
    pick (contains_cases (item c (inlet (Sender n i) Right w) (Datum v)) (arguments_from c n w (i + 1) vs) j h) (arguments_at c n w (i + 1) vs j)
  where
    pick : (item c (inlet (Sender n i) Right w) (Datum v) ≡ j) ⊎ Contains (arguments_from c n w (i + 1) vs) j
        → (Contains (arguments_from c n w (i + 1) vs) j → (m : ℕ) × (u : Value) × (i + 1 ≤ m) × (j ≡ item c (inlet (Sender n m) Right w) (Datum u)))
        → (m : ℕ) × (u : Value) × (i ≤ m) × (j ≡ item c (inlet (Sender n m) Right w) (Datum u))
    pick (inl e) more = (i, v, omega arith, sym e)
    pick (inr d) more = let k = more d in let low = k.2 in (k.0, k.1, omega (arith, low), k.3)

given_left : (c : Context) (n k : ℕ) (j : Item) → Contains (given_back c n k) j → j.inlet.port ≡ Left
given_left c n zero j h = absurd (contains_none j h)
given_left c n (suc k) j h = pick (contains_cases (item c (inlet (Giver n) Left k) signal) (given_back c n k) j h) (given_left c n k j)
  where
    pick : (item c (inlet (Giver n) Left k) signal ≡ j) ⊎ Contains (given_back c n k) j → (Contains (given_back c n k) j → j.inlet.port ≡ Left)
        → j.inlet.port ≡ Left
    pick (inl e) more = ap (λ (i : Item). i.inlet.port) (sym e)
    pick (inr d) more = more d

sides_apart : Left ≡ Right → ⊥
sides_apart e = absurd (cc)

module _ (s : Taking) where
  abbrev net : Config
  net = net_of s

  abbrev all : List Item
  all = all_of s.fl net

  fit_of : (h : Firing) → Contains net.fired h → AllFit s.fl s.w (takes s.fl h)
  fit_of h d = fired_fit s.fl s.p s.w s.inputs s.q s.m s.good s.keeps h d

  taken_all : (h : Firing) (j : Item) → Contains net.fired h → Contains (takes s.fl h) j → Contains all j
  taken_all h j d m =
      Contains-append_right net.pending (net.waiting ++ flat_map (takes s.fl) net.fired) j
      (Contains-append_right net.waiting (flat_map (takes s.fl) net.fired) j (taken_in s.fl net.fired h j d m))

  -- where something was made, something is there, or was taken
  made_stands : (h : Firing) (i : Item) → Contains net.fired h → Contains (makes s.fl s.w h) i → (j : Item) × Contains all j × (spot_of j ≡ spot_of i)
  made_stands h i d m =
      let x = spot_of i in
      let g : Item → ℕ = λ (j : Item). one (same_spot x (spot_of j)) in
      let k = s.keeps.sound.marked g in
      let a = total-append g net.pending (net.waiting ++ flat_map (takes s.fl) net.fired) in
      let b = total-append g net.waiting (flat_map (takes s.fl) net.fired) in
      let t = total_flat g (takes s.fl) net.fired in let u = total_flat g (makes s.fl s.w) net.fired in
      let here = hit_counted (flat_map (makes s.fl s.w) net.fired) i (flat_contains (makes s.fl s.w) net.fired h i d m) in
      hit_found x all (omega (arith, k, a, b, t, u, here))

  -- A WIRE: what is at its end was sent along its side
  module _ (c : Context) (con : IsContext s.fl c) where
    abbrev IsHere : Part → Type 0
    IsHere r = there_in s.fl (site_in s.fl s.w c) (wiring_in s.fl s.w c) r ≡ true

    abbrev At : Inlet → Spot
    At x = record { context = c; inlet = x }

    abbrev FiredAlong : Side → Type 0
    FiredAlong t = (h : Firing) × Contains net.fired h × (h.context ≡ c) × (side_by s.fl h h.part ≡ Some t)

    sent_from : (t : Side) (x : Inlet) → IsHere t.part → Contains ((wiring_in s.fl s.w c).wire t) x → is_begin x.part ≡ false → (j : Item) → Contains all j
        → spot_of j ≡ At x → FiredAlong t
    sent_from t x here wire first j a e = born (all_born s.fl s.w s.inputs net s.keeps.tracks.moves j a)
      where
        unwired : Unwired s.fl s.p s.w s.good c x → ⊥
        unwired u = go u ((lawful_at s.fl s.p s.w s.good c con).fed.inlets t x here wire)
          where
            go : Unwired s.fl s.p s.w s.good c x
                → (IsHere x.part) × (wired_way x.part x.way ≡ true) × (wired_port (block_in s.fl c) x.part x.port ≡ true)
                × (is_unwired (block_in s.fl c) x.part ≡ false) → ⊥
            go (UUnwired u) k = true≢false (sym u ∙ k.3)
            go (UNot u) k = true≢false (sym k.0 ∙ u)
            go (UWay u) k = true≢false (sym k.1 ∙ u)

        made : (f : Firing) → Contains net.fired f → AllFit s.fl s.w (takes s.fl f) → MadeAt s.fl s.p s.w s.good f j → FiredAlong t
        made f d fit (ByGift g) =
            absurd (unwired (subst (λ (y : Spot). Unwired s.fl s.p s.w s.good y.context y.inlet) e (gift_unwired s.fl s.p s.w s.good f fit j g)))
        made f d fit (ByWire q) =
            let facts = sent_facts s.fl s.w f fit q.from q.along in
            let fc : f.context ≡ c = sym (ap (λ (i : Item). i.context) q.is) ∙ ap (λ (y : Spot). y.context) e in
            let there = subst (λ (c : Context). there_in s.fl (site_in s.fl s.w c) (wiring_in s.fl s.w c) q.from.part ≡ true) fc facts.there in
            let along = subst (λ (x : Inlet). Contains ((wiring_in s.fl s.w c).wire q.from) x) (ap (λ (y : Spot). y.inlet) e)
            (subst (λ (c : Context). Contains ((wiring_in s.fl s.w c).wire q.from) j.inlet) fc q.wire) in
            let same = one_feeder s.fl s.p s.w s.good c con q.from t x there here along wire in
            (f, d, fc, q.along ∙ ap (λ (t : Side). Some t) same)

        at_start : Begins s.inputs j → ⊥
        at_start (AtEntry g) = true≢false (ap (λ (i : Item). is_begin i.inlet.part) (sym g) ∙ ap (λ (y : Spot). is_begin y.inlet.part) e ∙ first)
        at_start (AtInput m z y g) = true≢false (ap (λ (i : Item). is_begin i.inlet.part) (sym g) ∙ ap (λ (y : Spot). is_begin y.inlet.part) e ∙ first)

        born : Contains (begins s.inputs) j ⊎ ((f : Firing) × Contains net.fired f × Contains (makes s.fl s.w f) j) → FiredAlong t
        born (inl d) = absurd (at_start (begin_cases s.inputs j d))
        born (inr (f, d, m)) = made f d (fit_of f d) (made_at s.fl s.p s.w s.good f j (fit_of f d) m)

    -- and something at its other ends
    also_sent : (t : Side) (y : Inlet) → Contains ((wiring_in s.fl s.w c).wire t) y → FiredAlong t → (j : Item) × Contains all j × (spot_of j ≡ At y)
    also_sent t y wire (h, d, a, along) =
        let k = sent_word s.fl h h.part in
        let wire' = subst (λ (c : Context). Contains ((wiring_in s.fl s.w c).wire t) y) (sym a) wire in
        let sent = subst (λ o. Contains (sent_along s.fl s.w h o) (item h.context y k)) (sym along)
        (contains_map (λ (x : Inlet). item h.context x k) ((wiring_in s.fl s.w h.context).wire t) y wire') in
        let made = subst (λ l. Contains l (item h.context y k)) (sym (splits s.fl s.w h))
        (Contains-append_right (gives_by s.fl s.w h h.part) (sent_along s.fl s.w h (side_by s.fl h h.part)) (item h.context y k) sent) in
        let j = made_stands h (item h.context y k) d made in (j.0, j.1, j.2 ∙ (λ u. At' (a u)))
      where
        At' : Context → Spot
        At' c = record { context = c; inlet = y }

    -- A STRICT CALL at node n
    module _ (n : ℕ) (strict : is_strict_in s.fl c n ≡ true) where
      abbrev count : ℕ
      count = source_count (block_in s.fl c) n

      law : WaitsForAll s.fl (site_in s.fl s.w c) (wiring_in s.fl s.w c) n
      law = (lawful_at s.fl s.p s.w s.good c con).leads.waits n strict

      abbrev Come : ℕ → Type 0
      Come m = (j : Item) × Contains all j × (spot_of j ≡ At (inlet (Sender n m) Right 0))

      after_later : (m : ℕ) → is_begin (wait_after n count m).part ≡ false
      after_later m = go (m + 1 == count)
        where
          go : (t : Bool) → is_begin (if t then inlet (Framer n) Left 0 else inlet (Strict n (m + 1)) Left 0).part ≡ false
          go true = refl
          go false = refl

      for_later : (m : ℕ) → is_begin (wait_for n count m).part ≡ false
      for_later zero = after_later 0
      for_later (suc m) = refl

      argument_arrive : (m : ℕ) → m < count → (j : Item) → Contains all j → spot_of j ≡ At (wait_for n count m) → Come m
      argument_arrive m l j a e =
          let k = law.arguments m l in also_sent k.0 (inlet (Sender n m) Right 0) k.2 (sent_from k.0 (wait_for n count m) k.1 k.3 (for_later m) j a e)

      -- a join
      module _ (i : ℕ) (l : suc i < count) where
        join_there : IsHere (Strict n (suc i))
        join_there = let some : 0 < suc i = omega arith in λ t. strict t && (lt-ltb 0 (suc i) some t && lt-ltb (suc i) count l t)

        join_fired : (j : Item) → Contains all j → spot_of j ≡ At (wait_after n count (suc i))
            → (h : Firing) × Contains net.fired h × (h.context ≡ c) × (h.part ≡ Strict n (suc i))
        join_fired j a e =
            let h = sent_from (side (Strict n (suc i)) false) (wait_after n count (suc i)) join_there (law.joins (suc i) (omega arith) l)
            (after_later (suc i)) j a e in
            (h.0, h.1, h.2, sym (sent_facts s.fl s.w h.0 (fit_of h.0 h.1) (side (Strict n (suc i)) false) h.3).maker)

        after_is : wait_after n count i ≡ inlet (Strict n (suc i)) Left 0
        after_is =
            let up : i + 1 ≡ suc i = omega arith in
            ap (λ t. if t then inlet (Framer n) Left 0 else inlet (Strict n (i + 1)) Left 0) (ne_eqb (i + 1) count (λ e. omega (arith, l, e)))
            ∙ ap (λ m. inlet (Strict n m) Left 0) up

        join_left : (h : Firing) → Contains net.fired h → h.context ≡ c → h.part ≡ Strict n (suc i)
            → (j : Item) × Contains all j × (spot_of j ≡ At (wait_after n count i))
        join_left h d a e = (
          first_taken s.fl s.w h h.part,
          taken_all h (first_taken s.fl s.w h h.part) d (takes_first s.fl s.w h),
          ap (λ (r : Part). spot_of (first_taken s.fl s.w h r)) e ∙ (λ t. record { context = a t; inlet = sym after_is t }),
        )

        join_right : (h : Firing) → Contains net.fired h → h.context ≡ c → h.part ≡ Strict n (suc i)
            → (j : Item) × Contains all j × (spot_of j ≡ At (inlet (Strict n (suc i)) Right 0))
        join_right h d a e =
            let j = item h.context (inlet h.part Right (right_way s.fl h.context h.part)) h.right in (
              j,
              taken_all h j d (takes_right s.fl s.w h (ap (waits_in (block_in s.fl h.context)) e)),
              (λ t. record { context = a t; inlet = inlet (e t) Right (right_way s.fl h.context (e t)) }),
            )

      all_arrive : (i : ℕ) → i < count → (j : Item) → Contains all j → spot_of j ≡ At (wait_after n count i) → (m : ℕ) → m ≤ i → Come m
      all_arrive zero l j a e m low = let z : 0 ≡ m = omega (arith, low) in subst Come z (argument_arrive 0 l j a e)
      all_arrive (suc i) l j a e m low =
          let h = join_fired i l j a e in
          let left = join_left i l h.0 h.1 h.2 h.3 in let right = join_right i l h.0 h.1 h.2 h.3 in
          pick (cases_eq (suc i) m) (λ m low. all_arrive i (omega (arith, l)) left.0 left.1 left.2 m low) (argument_arrive (suc i) l right.0 right.1 right.2)
        where
          pick : (suc i ≡ m) ⊎ (suc i ≡ m → ⊥) → ((m : ℕ) → m ≤ i → Come m) → Come (suc i) → Come m
          pick (inl z) more last = subst Come z last
          pick (inr z) more last = more m (omega (arith, low, z))

  -- WHERE THE CALL ASKS
  module _ (n : ℕ) (e : s.i.inlet.part ≡ Framer n) (strict : is_strict_in s.fl s.i.context n ≡ true) where
    abbrev c : Context
    c = s.i.context

    con : IsContext s.fl c
    con = (fits s s.i (taken_here s)).is_context

    abbrev many : ℕ
    many = source_count (block_in s.fl s.i.context) n

    framer_spot : spot_of s.i ≡ record { context = s.i.context; inlet = inlet (Framer n) Left 0 }
    framer_spot =
        let k = fits s s.i (taken_here s) in
        let left = lone_port s.fl c (Framer n) s.i.inlet.port refl (subst (λ (r : Part). port_fits s.fl c r s.i.inlet.port ≡ true) e k.port) in
        let way = plain_way s.fl c (Framer n) s.i.inlet.port s.i.inlet.way refl
        (subst (λ (r : Part). way_fits s.fl c r s.i.inlet.port s.i.inlet.way ≡ true) e k.way) in
        λ t. record { context = c; inlet = record { part = e t; port = left t; way = way t } }

    pending_here : Contains net.pending s.i
    pending_here = Contains-permutation _ _ s.i (IsPermutation-sym _ _ s.perm) (contains_head s.i s.others)

    -- it has not fired
    not_fired : (h : Firing) → Contains net.fired h → h.context ≡ c → h.part ≡ Framer n → ⊥
    not_fired h d a b = not_twice s.fl s.w s.inputs net s.keeps.sound s.i (first_taken s.fl s.w h h.part) pending_here
        (Contains-append_right net.waiting (flat_map (takes s.fl) net.fired) (first_taken s.fl s.w h h.part)
        (taken_in s.fl net.fired h (first_taken s.fl s.w h h.part) d (takes_first s.fl s.w h)))
        (framer_spot ∙ sym (ap (λ (r : Part). spot_of (first_taken s.fl s.w h r)) b ∙ (λ t. record { context = a t; inlet = inlet (Framer n) Left 0 })))

    -- AN ARGUMENT that arrived was not taken
    module _ (m : ℕ) (j : Item) (at : spot_of j ≡ record { context = s.i.context; inlet = inlet (Sender n m) Right 0 }) where
      jc : j.context ≡ c
      jc = ap (λ (y : Spot). y.context) at

      jp : j.inlet.part ≡ Sender n m
      jp = ap (λ (y : Spot). y.inlet.part) at

      jr : j.inlet.port ≡ Right
      jr = ap (λ (y : Spot). y.inlet.port) at

      jw : j.inlet.way ≡ 0
      jw = ap (λ (y : Spot). y.inlet.way) at

      on_left : j.inlet.port ≡ Left → ⊥
      on_left l = sides_apart (sym l ∙ jr)

      module _ (h : Firing) where
        right_taken : (r : Part) → item h.context (inlet r Right (right_way s.fl h.context r)) h.right ≡ j → ⊥
        right_taken r d =
            let hc : h.context ≡ c = ap (λ (i : Item). i.context) d ∙ jc in
            let hr : r ≡ Sender n m = ap (λ (i : Item). i.inlet.part) d ∙ jp in
            let way : right_way s.fl c (Sender n m) ≡ 0 = sym (λ t. right_way s.fl (hc t) (hr t)) ∙ ap (λ (i : Item). i.inlet.way) d ∙ jw in
            let one : right_way s.fl c (Sender n m) ≡ 1 = ap (λ t. if t then 1 else 0) strict in omega (arith, way, one)

        both_taken : (r : Part) (two : Bool)
            → (left_item h.context r h.way h.left ≡ j)
            ⊎ Contains (if two then item h.context (inlet r Right (right_way s.fl h.context r)) h.right ∷ [] else []) j → ⊥
        both_taken r two (inl d) = on_left (ap (λ (i : Item). i.inlet.port) (sym d))
        both_taken r true (inr d) = right_taken r (contains_one (item h.context (inlet r Right (right_way s.fl h.context r)) h.right) j d)
        both_taken r false (inr d) = contains_none j d

        pair_taken : (r : Part) → Contains (both_items s.fl h.context r h.way h.left h.right) j → ⊥
        pair_taken r d =
            both_taken r (waits_in (block_in s.fl h.context) r)
            (contains_cases (left_item h.context r h.way h.left)
            (if waits_in (block_in s.fl h.context) r then item h.context (inlet r Right (right_way s.fl h.context r)) h.right ∷ [] else []) j d)

        own_taken : (r : Part) → Contains (own_takes s.fl h r) j → ⊥
        own_taken (InCell k) d = on_left (ap (λ (i : Item). i.inlet.port) (sym (contains_one (request_of h) j d)))
        own_taken (Drained k) d = drained (contains_cases (item h.context (inlet (Drainer k) Left h.turns) h.left) (given_back h.context k (h.turns + 1)) j d)
          where
            drained : (item h.context (inlet (Drainer k) Left h.turns) h.left ≡ j) ⊎ Contains (given_back h.context k (h.turns + 1)) j → ⊥
            drained (inl d) = on_left (ap (λ (i : Item). i.inlet.port) (sym d))
            drained (inr d) = on_left (given_left h.context k (h.turns + 1) j d)
        own_taken r d = pair_taken r d

        renewed_taken : (r : Part) → Contains net.fired h → h.part ≡ r → Contains (renewed s.fl h r) j → ⊥
        renewed_taken (Framer k) f b d = go (is_strict_in s.fl h.context k) d
          where
            go : (t : Bool) → Contains (if t then arguments_from h.context k 0 0 h.operands else []) j → ⊥
            go false d = contains_none j d
            go true d =
                let a = arguments_at h.context k 0 0 h.operands j d in
                let hc : h.context ≡ c = sym (ap (λ (i : Item). i.context) a.3) ∙ jc in
                let hp : Sender k a.0 ≡ Sender n m = sym (ap (λ (i : Item). i.inlet.part) a.3) ∙ jp in
                let same : k ≡ n = cc in not_fired h f hc (b ∙ ap Framer same)
        renewed_taken r f b d = contains_none j d

        not_taken : Contains net.fired h → Contains (takes s.fl h) j → ⊥
        not_taken f d = pick (Contains-append_cases (own_takes s.fl h h.part) (renewed s.fl h h.part) j d)
          where
            pick : Contains (own_takes s.fl h h.part) j ⊎ Contains (renewed s.fl h h.part) j → ⊥
            pick (inl d) = own_taken h.part d
            pick (inr d) = renewed_taken h.part f refl d

      still_here : Contains all j → Contains (net.pending ++ net.waiting) j
      still_here a = first (Contains-append_cases net.pending (net.waiting ++ flat_map (takes s.fl) net.fired) j a)
        where
          second : Contains net.waiting j ⊎ Contains (flat_map (takes s.fl) net.fired) j → Contains (net.pending ++ net.waiting) j
          second (inl d) = Contains-append_right net.pending net.waiting j d
          second (inr d) = let h = contains_flat_mapped (takes s.fl) net.fired j d in absurd (not_taken h.0 h.1 h.2)

          first : Contains net.pending j ⊎ Contains (net.waiting ++ flat_map (takes s.fl) net.fired) j → Contains (net.pending ++ net.waiting) j
          first (inl d) = Contains-append_left net.pending net.waiting j d
          first (inr d) = second (Contains-append_cases net.waiting (flat_map (takes s.fl) net.fired) j d)

      is_argument : Contains (net.pending ++ net.waiting) j → (v : Value) × (j ≡ item s.i.context (inlet (Sender n m) Right 0) (Datum v))
      is_argument here =
          let a : WordAt s.fl s.w j (Sender n m) = subst (λ (r : Part). WordAt s.fl s.w j r) jp (carried s j here) in
          let b : Carries s.fl s.w j.context j.inlet.way (arrives_at (Sender n m) Right) j.word =
          subst (λ (q : Port). Carries s.fl s.w j.context j.inlet.way (arrives_at (Sender n m) q) j.word) jr a in
          let none = bare s j here (ap is_in_cell jp) in
          (b.0, λ t. record { context = jc t; inlet = record { part = jp t; port = jr t; way = jw t }; word = b.1 t; held = none t })

    pub argument_here : (m : ℕ) → m < many → (v : Value) × Contains (net.pending ++ net.waiting) (item s.i.context (inlet (Sender n m) Right 0) (Datum v))
    argument_here m l = go many refl
      where
        go : (k : ℕ) → many ≡ k → (v : Value) × Contains (net.pending ++ net.waiting) (item s.i.context (inlet (Sender n m) Right 0) (Datum v))
        go zero z = absurd (omega (arith, l, z))
        go (suc k) z =
            let up : k + 1 ≡ many = omega (arith, z) in
            let last : wait_after n many k ≡ inlet (Framer n) Left 0 =
            ap (λ t. if t then inlet (Framer n) Left 0 else inlet (Strict n (k + 1)) Left 0) (eq-eqb (k + 1) many up) in
            let arrive = all_arrive c con n strict k (omega (arith, z)) s.i
            (Contains-append_left net.pending (net.waiting ++ flat_map (takes s.fl) net.fired) s.i pending_here)
            (framer_spot ∙ (λ t. record { context = c; inlet = sym last t })) m (omega (arith, l, z)) in
            let here = still_here m arrive.0 arrive.2 arrive.1 in
            let a = is_argument m arrive.0 arrive.2 here in
            (a.0, subst (Contains (net.pending ++ net.waiting)) a.1 here)
