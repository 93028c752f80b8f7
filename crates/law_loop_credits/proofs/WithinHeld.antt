-- Where the credit for an iteration waits a token stands: in the iteration that asks, or in the one that is asked for.
use Rattle.std.proofs.Common.{◌≡◌, refl, sym, ap, ◌∙◌, subst, ℕ, zero, suc, ◌+◌, ◌<◌, ◌⊎◌, inl, inr, ℤ, Bool, true, false, true≢false, List, [], ◌∷◌, ◌++◌}
use Rattle.std.proofs.Common.{◌&&◌, arith, lt-ltb, ltb-true}
use Rattle.std.specs.Prelude.{Contains}
use Rattle.std.proofs.lemmas.List.Elements.{Contains-append_right}
use Rattle.std.proofs.lemmas.List.Sorted.{Contains-permutation, IsPermutation-sym}
use Rattle.lemmas.proofs.Contains.{contains_head}
use Rattle.tags.specs.declared.value.Value.{Value}
use Rattle.tags.specs.declared.token.Port.{Port}
use Rattle.tags.specs.declared.token.Port.TheVariants.{Left, Right}
use Rattle.semantics.specs.declared.graph.Region.TheVariants.{Root, Arm}
use Rattle.semantics.specs.Graph.{Flow}
use Rattle.semantics.specs.Meaning.{Context, Turned, AtNode, AtTurn, Operand, Flag, Tagged, tagged}
use Rattle.semantics.specs.Machine.{Machine, Resting}
use Rattle.semantics.specs.Plan.{Plan}
use Rattle.law_net.specs.ContextsParts.{Part, Sender, Taker, TurnValue, Asker, NextSender, Entry, Inlet, inlet, Datum, Item, Firing, spot_of}
use Rattle.law_net.specs.ContextsBlocks.{side, flag}
use Rattle.law_net.specs.Contexts.{Wires, block_in, IsContext}
use Rattle.law_net.specs.ContextsWires.{arrives_at}
use Rattle.law_net.specs.ContextsMeant.{meant, meant_by}
use Rattle.law_net.specs.ContextsFirings.{takes, HasFired}
use Rattle.law_net.specs.ContextsLaws.{Carries, way_fits, port_fits}
use Rattle.law_net.specs.ContextsMirror.{Past}
use Rattle.law_net.specs.ContextsTheorem.{IsGood}
use Rattle.law_net.specs.ContextsPackages.{InputsFit, Keeps}
use Rattle.law_net.proofs.ContextsSames.{spot_is}
use Rattle.law_net.proofs.Credits.{keeps}
use Rattle.law_net.proofs.WiredFed.{UUnwired}
use Rattle.law_net.proofs.WiredInvoked.{loop_invoked, code_at}
use Rattle.law_net.proofs.WiredNets.{flat_contains}
use Rattle.law_end.specs.Over.{IsOpen}
use Rattle.law_end.proofs.OverSorts.{IsHere, laws}
use Rattle.law_end.proofs.OverPaths.{wire_of}
use Rattle.law_end.proofs.OverMade.{Mirrors, fits, left_stands, taken_stands, given_by, first_in, next_asked_by, next_framer_by, credit_gone, twice}
use Rattle.law_end.proofs.OverOpen.{arm_decided}
use Rattle.law_end.proofs.OverBack.{context_of, fanned_by_sender}
use Rattle.law_end.proofs.RestWaits.{is_credit, Takes, Own, OfCredits, Renewed, taken_as, waits_or_taken, carries}
use Rattle.law_end.proofs.RestForward.{At, feeder, along, decided_arrives}
use Rattle.law_end.proofs.RestReached.{fired_open, entered_at}
use Rattle.law_end.proofs.RestStory.{story}
use Rattle.law_loop_credits.specs.NetsWait.{TakeWaits}
use Rattle.law_loop_credits.specs.WithinParts.{TokenOfTurn, HeldHasToken}
use Rattle.law_loop_credits.proofs.WaitsNet.{waiting_take}

abbrev is_sent : Part → Bool
is_sent (Sender n l) = true
is_sent r = false

module _ (fl : Flow) (p : Plan) (w : Wires) (inputs : List ℤ) (past : Past) (m : Machine) (good : IsGood fl p w) (fit : InputsFit fl inputs)
    (kept : Keeps fl p w inputs past m) where
  abbrev done : List Firing
  done = kept.tracks.net.fired

  abbrev Waits' : Item → Type 0
  Waits' i = Contains kept.tracks.net.waiting i

  abbrev Stood : Item → Type 0
  Stood i = Mirrors fl p w inputs past m good fit kept i

  left_of : (i : Item) → Waits' i → Contains (kept.tracks.net.pending ++ kept.tracks.net.waiting) i
  left_of i c = Contains-append_right kept.tracks.net.pending kept.tracks.net.waiting i c

  stood_of : (i : Item) → Waits' i → Stood i
  stood_of i c = left_stands fl p w inputs past m good fit kept i (left_of i c)

  -- what an item that waits stands for is a token of the state
  pub token_in : (i : Item) → Contains kept.tracks.net.waiting i → (x : Tagged) → Contains (meant fl i) x
      → Contains (story fl p w inputs past m good fit kept).state.tokens x
  token_in i c x d =
      Contains-permutation _ _ x (IsPermutation-sym _ _ (story fl p w inputs past m good fit kept).tokens)
      (flat_contains (meant fl) (kept.tracks.net.pending ++ kept.tracks.net.waiting) i x (left_of i c) d)

  -- what was taken at a part of which nothing else takes
  own_fired : (c : Context) (r : Part) (j : Item) → j.context ≡ c → j.inlet.part ≡ r → is_credit r ≡ false → is_sent r ≡ false
      → (h : Firing) → Contains done h → (j.context ≡ h.context) × Takes h j → HasFired c r done
  own_fired c r j a e credit sent h o (b, Own g) = (h, o, sym b ∙ a, sym g ∙ e)
  own_fired c r j a e credit sent h o (b, OfCredits g) = absurd (true≢false (sym g ∙ ap is_credit e ∙ credit))
  own_fired c r j a e credit sent h o (b, Renewed n l g x y) = absurd (true≢false (sym (ap is_sent (sym e ∙ g)) ∙ sent))

  module _ (rest : Resting m) (calm : m.store.requests ≡ []) (c : Context) (n u : ℕ) (T : TakeWaits fl w m kept.tracks.net c n u) where
    take : (i : Item) × Contains kept.tracks.net.waiting i × (i.context ≡ c) × (i.inlet.part ≡ Taker n)
    take = waiting_take fl p w inputs past m good fit kept c n u T

    abbrev i : Item
    i = take.0

    stood : Stood i
    stood = stood_of i take.1

    way : i.inlet.way ≡ u
    way = (keeps fl p w inputs past m good kept c T.is_context n T.is_loop').takes i (left_of i take.1) take.2 take.3 ∙ T.number

    port : i.inlet.port ≡ Left
    port = go i.inlet.port refl
      where
        go : (x : Port) → i.inlet.port ≡ x → i.inlet.port ≡ Left
        go Left e = e
        go Right e =
            absurd (true≢false (sym (fits fl p w inputs past m good fit kept i stood).port ∙ (λ k. port_fits fl i.context (take.3 k) (e k))))

    pub asked : (h : ℕ) × (u ≡ suc h)
    asked = go u way
      where
        go : (v : ℕ) → i.inlet.way ≡ v → (h : ℕ) × (v ≡ suc h)
        go (suc h) e = (h, refl)
        go zero e =
            let more = ltb-true 0 i.inlet.way ((λ k. way_fits fl i.context (sym take.3 k) i.inlet.port i.inlet.way)
            ∙ (fits fl p w inputs past m good fit kept i stood).way) in
            absurd (omega (arith, more, e))

    abbrev h : ℕ
    h = asked.0

    abbrev d : Context
    d = Turned c n h

    at : i.inlet ≡ inlet (Taker n) Left (suc h)
    at = λ k. inlet (take.3 k) (port k) ((way ∙ asked.1) k)

    -- THE ITERATION THAT ASKS
    asker : HasFired d Asker done
    asker =
        let (f, o, a, g, t) = given_by fl p w inputs past m good fit kept c (inlet (Taker n) Left (suc h)) (UUnwired refl) (λ a b. true≢false (sym b)) d Asker 0
        refl i stood take.2 at in
        (f, o, a, g)

    con : IsContext fl d
    con = context_of fl p w inputs past m good fit kept d Asker asker

    going : IsOpen fl w done d (Arm (flag (block_in fl d)) true)
    going = fired_open fl p w inputs past m good fit kept rest calm d con Asker refl refl asker

    pub entry : HasFired (Turned c n asked.0) Entry kept.tracks.net.fired
    entry =
        let (j, o, a, e) = first_in fl p w inputs past m good fit kept d Asker asker in
        subst (λ (c : Context). HasFired c Entry done) a
        (entered_at fl p w inputs past m good fit kept rest calm j (taken_stands fl p w inputs past m good fit kept j o))

    root : IsOpen fl w done d Root
    root = fired_open fl p w inputs past m good fit kept rest calm d con Entry refl refl entry

    some : 0 < (block_in fl d).inputs
    some = (loop_invoked fl p w good c n h con.0 con.1).0.some_input

    value_here : IsHere fl p w good d con (TurnValue 1)
    value_here = let low = some in (λ k. lt-ltb 0 1 (omega arith) k && lt-ltb 1 ((block_in fl d).inputs + 1) (omega (arith, low)) k)

    sender_here : IsHere fl p w good d con (NextSender 1)
    sender_here = let low = some in lt-ltb 1 ((block_in fl d).inputs + 1) (omega (arith, low))

    abbrev AtSpot : Inlet → Type 0
    AtSpot x = At fl p w inputs past m good fit kept d con x

    flagged : AtSpot (inlet (TurnValue 1) Right 0)
    flagged =
        let x = inlet (TurnValue 1) Right 0 in
        let (from, wire) = feeder fl p w inputs past m good fit kept d con x value_here refl refl refl in
        decided_arrives fl p w inputs past m good fit kept d con (flag (block_in fl d)) true from x wire
        ((laws fl p w good d con).arms.agree from x (flag (block_in fl d)) wire.from wire.goes refl)
        (arm_decided fl p w inputs past m good fit kept d con (flag (block_in fl d)) true (inr (refl, refl)) going)
        (subst (IsOpen fl w done d) wire.region root)

    value_at : (j : Item) → Stood j → j.context ≡ d → (x : Inlet) → j.inlet ≡ x → Carries fl w d x.way (arrives_at x.part x.port) j.word
    value_at j s a x e =
        subst (λ (y : Inlet). Carries fl w d y.way (arrives_at y.part y.port) j.word) e
        (subst (λ (c : Context). Carries fl w c j.inlet.way (arrives_at j.inlet.part j.inlet.port) j.word) a (carries fl p w inputs past m good fit kept j s))

    abbrev Stands : Type 0
    Stands = TokenOfTurn (story fl p w inputs past m good fit kept).state c n u

    -- its flag waits for a value,
    by_flag : (j : Item) → Waits' j → j.context ≡ d → j.inlet ≡ inlet (TurnValue 1) Right 0 → Stands
    by_flag j o a e =
        let word : (v : Value) × (j.word ≡ Datum v) = value_at j (stood_of j o) a (inlet (TurnValue 1) Right 0) e in
        let tells : meant fl j ≡ tagged d (AtTurn 1) Flag word.0 ∷ [] =
        (λ k. meant_by fl (record { context = a k; inlet = e k; word = word.1 k; held = j.held }) (e k).part) in
        record {
          before = h;
          next = asked.1;
          token = tagged d (AtTurn 1) Flag word.0;
          stands =
              token_in j o (tagged d (AtTurn 1) Flag word.0)
              (subst (λ (l : List Tagged). Contains l (tagged d (AtTurn 1) Flag word.0)) (sym tells) (contains_head (tagged d (AtTurn 1) Flag word.0) []));
          place = inl refl;
        }

    -- or the value waits for the frame of the next
    by_value : (j : Item) → Waits' j → j.context ≡ d → j.inlet ≡ inlet (NextSender 1) Right 0 → Stands
    by_value j o a e =
        let word : (v : Value) × (j.word ≡ Datum v) = value_at j (stood_of j o) a (inlet (NextSender 1) Right 0) e in
        let token : Tagged = tagged (Turned c n (h + 1)) (AtNode 0) (Operand 0) word.0 in
        let tells : meant fl j ≡ token ∷ [] =
        (λ k. meant_by fl (record { context = a k; inlet = e k; word = word.1 k; held = j.held }) (e k).part) in
        let up : h + 1 ≡ suc h = omega arith in
        record {
          before = h;
          next = asked.1;
          token = token;
          stands = token_in j o token (subst (λ (l : List Tagged). Contains l token) (sym tells) (contains_head token []));
          place = inr (ap (Turned c n) (up ∙ sym asked.1));
        }

    -- which would have come with the credit
    never_sent : HasFired d (NextSender 1) done → ⊥
    never_sent f =
        let framer = next_framer_by fl p w inputs past m good fit kept d
        (next_asked_by fl p w inputs past m good fit kept d (fanned_by_sender fl p w inputs past m good fit kept d con 1 sender_here f)) in
        let (j, o, b, z) = credit_gone fl p w inputs past m good fit kept c n h framer in
        twice fl p w inputs past m good fit kept i j (left_of i take.1) o (spot_is (spot_of j) (spot_of i) (b ∙ sym take.2) (z ∙ sym at))

    sent : HasFired d (TurnValue 1) done → AtSpot (inlet (NextSender 1) Right 0)
    sent f =
        let x = inlet (NextSender 1) Right 0 in
        let goes = subst (λ (l : List Inlet). Contains l x) (sym ((code_at fl p w good d con).uses.turn_value 0 value_here).0) (contains_head x []) in
        along fl p w inputs past m good fit kept d con (side (TurnValue 1) false) x
        (wire_of fl p w good d con (side (TurnValue 1) false) x value_here goes) f going

    pub token_stands : TokenOfTurn (story fl p w inputs past m good fit kept).state c n u
    token_stands = let (j, s, a, e) = flagged in first j a e (waits_or_taken fl p w inputs past m good fit kept rest calm j s)
      where
        second : (j : Item) → j.context ≡ d → j.inlet ≡ inlet (NextSender 1) Right 0
            → Waits' j ⊎ ((f : Firing) × Contains done f × Contains (takes fl f) j) → Stands
        second j a e (inl o) = by_value j o a e
        second j a e (inr (f, o, t)) =
            absurd (never_sent (own_fired d (NextSender 1) j a (ap (λ (x : Inlet). x.part) e) refl refl f o (taken_as fl f j t)))

        first : (j : Item) → j.context ≡ d → j.inlet ≡ inlet (TurnValue 1) Right 0
            → Waits' j ⊎ ((f : Firing) × Contains done f × Contains (takes fl f) j) → Stands
        first j a e (inl o) = by_flag j o a e
        first j a e (inr (f, o, t)) =
            let (k, s, b, g) = sent (own_fired d (TurnValue 1) j a (ap (λ (x : Inlet). x.part) e) refl refl f o (taken_as fl f j t)) in
            second k b g (waits_or_taken fl p w inputs past m good fit kept rest calm k s)

pub held_has_token : HeldHasToken
held_has_token fl p w inputs past m good fit kept rest calm c n u T = token_stands fl p w inputs past m good fit kept rest calm c n u T
