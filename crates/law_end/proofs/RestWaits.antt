-- At rest, where no frame is wanted: what arrived at a part that takes one word was taken, and two words of a part do not both wait. Credits may be
-- wanted.
use Rattle.std.proofs.Common.{◌≡◌, ℕ, zero, suc, ◌+◌, ◌<◌, ◌≤◌, ℤ, Bool, true, false, ◌⊎◌, inl, inr, List, [], ◌∷◌, ◌++◌, map, Option, Some, if◌then◌else◌}
use Rattle.std.proofs.Common.{nat_lt, refl, sym, ap, ◌∙◌, subst, arith, true≢false, lt-ltb, le-ltb}
use Rattle.std.specs.Prelude.{Contains, flat_map}
use Rattle.std.proofs.lemmas.Bool.{cases_eq}
use Rattle.std.proofs.lemmas.List.Sorted.{IsPermutation-sym}
use Rattle.std.proofs.lemmas.List.Elements.{Contains-append_right, Contains-append_cases}
use Rattle.lemmas.proofs.Contains.{contains_cases, contains_head, contains_none, contains_flat_mapped}
use Rattle.tags.specs.declared.value.Value.{Value}
use Rattle.tags.specs.declared.token.Port.{Port}
use Rattle.tags.specs.declared.token.Port.TheVariants.{Left, Right}
use Rattle.tags.specs.declared.token.Cont.{Cont}
use Rattle.tags.specs.declared.slot.SlotState.{SlotState}
use Rattle.tags.specs.declared.slot.SlotState.TheVariants as Slot
use Rattle.tags.specs.declared.slot.SlotState.TheVariants.{Waiter}
use Rattle.semantics.specs.Graph.{Flow}
use Rattle.semantics.specs.Plan.{Plan}
use Rattle.semantics.specs.Meaning.{Context}
use Rattle.semantics.specs.Machine.{Machine, Resting, Wants}
use Rattle.law_confluence.proofs.Orders.{empty_list}
use Rattle.law_net.specs.ContextsParts.{Part, Opener, Framer, NextFramer, Sender, Taker, Giver, Drainer, Asked, NextAsked, InCell, Drained, inlet, Note, Datum}
use Rattle.law_net.specs.ContextsParts.{BackTo, signal, Item, item, Firing}
use Rattle.law_net.specs.ContextsBlocks.{waits_in, is_loop}
use Rattle.law_net.specs.Contexts.{Wires, block_in, wiring_in, IsContext, is_strict_in}
use Rattle.law_net.specs.ContextsWires.{arrives_at}
use Rattle.law_net.specs.ContextsCredits.{waits_or}
use Rattle.law_net.specs.ContextsFirings.{takes, own_takes, renewed, request_of, given_back, arguments_from, left_item, right_way, times, turn_before, frame_at}
use Rattle.law_net.specs.ContextsFirings.{HasFired}
use Rattle.law_net.specs.ContextsLaws.{spot_there, port_fits, Carries}
use Rattle.law_net.specs.ContextsMirror.{Past, cont_in, frame_of, word_of, slot_of, in_slot, on_side, is_asked, is_in_cell, only, conts_of}
use Rattle.law_net.specs.ContextsMirror.{is_item_at, token_of}
use Rattle.law_net.specs.ContextsMirror.{granted_of}
use Rattle.law_net.specs.ContextsTheorem.{IsGood}
use Rattle.law_net.specs.ContextsPackages.{Keeps, InputsFit}
use Rattle.law_net.proofs.ContextsWords.{carries_of}
use Rattle.law_net.proofs.ContextsBlocks.{first_cont_some}
use Rattle.law_net.proofs.WiredNets.{only_has, flat_contains}
use Rattle.law_net.proofs.RunsPigeons.{item_here}
use Rattle.law_net.proofs.CreditsOpened.{NTaker}
use Rattle.law_net.proofs.CreditsTurns.{no_later, turns_now}
use Rattle.law_net.proofs.Credits.{firing_of, near_opened, keeps, slot_is, open_form}
use Rattle.law_end.specs.Over.{is_turning}
use Rattle.law_end.proofs.OverMade.{fits, word, left_stands, Mirrors}
use Rattle.law_end.proofs.RestCells.{one_of, map_empty}

-- where nothing is wanted no frame is
pub calm_of : (m : Machine) → (Wants m → ⊥) → m.store.requests ≡ []
calm_of m wants = go m.store.requests (λ some. wants (inl some))
  where
    go : (cs : List Cont) → ((cs ≡ [] → ⊥) → ⊥) → cs ≡ []
    go [] h = refl
    go (c ∷ cs) h = absurd (h (λ e. contains_none c (subst (λ (l : List Cont). Contains l c) e (contains_head c cs))))

-- what a firing takes for another part than its own: credits, and the arguments of a strict call
abbrev pub is_credit : Part → Bool
is_credit (Giver n) = true
is_credit (Drainer n) = true
is_credit r = false

credit_turns : (r : Part) → is_credit r ≡ true → is_turning r ≡ true
credit_turns (Giver n) e = refl
credit_turns (Drainer n) e = refl
credit_turns r e = absurd (true≢false (sym e))

pub data Takes (h : Firing) (i : Item) : Type 0 where
  Own : i.inlet.part ≡ h.part → Takes h i
  OfCredits : is_credit i.inlet.part ≡ true → Takes h i
  Renewed : (n l : ℕ) → i.inlet.part ≡ Sender n l → i.inlet.port ≡ Right → h.part ≡ Framer n → Takes h i

module _ (fl : Flow) (h : Firing) (i : Item) where
  by_given : (n t : ℕ) → Contains (given_back h.context n t) i → (i.context ≡ h.context) × Takes h i
  by_given n zero c = absurd (contains_none i c)
  by_given n (suc t) c = pick (contains_cases (item h.context (inlet (Giver n) Left t) signal) (given_back h.context n t) i c) (by_given n t)
    where
      pick : (item h.context (inlet (Giver n) Left t) signal ≡ i) ⊎ Contains (given_back h.context n t) i
          → (Contains (given_back h.context n t) i → (i.context ≡ h.context) × Takes h i) → (i.context ≡ h.context) × Takes h i
      pick (inl e) more = (ap (λ (i : Item). i.context) (sym e), OfCredits (ap (λ (i : Item). is_credit i.inlet.part) (sym e)))
      pick (inr d) more = more d

  by_arguments : (n l : ℕ) (vs : List Value) → h.part ≡ Framer n → Contains (arguments_from h.context n 0 l vs) i → (i.context ≡ h.context) × Takes h i
  by_arguments n l [] e c = absurd (contains_none i c)
  by_arguments n l (v ∷ vs) e c =
      pick (contains_cases (item h.context (inlet (Sender n l) Right 0) (Datum v)) (arguments_from h.context n 0 (l + 1) vs) i c) (by_arguments n (l + 1) vs e)
    where
      pick : (item h.context (inlet (Sender n l) Right 0) (Datum v) ≡ i) ⊎ Contains (arguments_from h.context n 0 (l + 1) vs) i
          → (Contains (arguments_from h.context n 0 (l + 1) vs) i → (i.context ≡ h.context) × Takes h i) → (i.context ≡ h.context) × Takes h i
      pick (inl g) more =
          (ap (λ (i : Item). i.context) (sym g), Renewed n l (ap (λ (i : Item). i.inlet.part) (sym g)) (ap (λ (i : Item). i.inlet.port) (sym g)) e)
      pick (inr d) more = more d

  both : (r : Part) (t : Bool) → h.part ≡ r
      → Contains (left_item h.context r h.way h.left ∷ (if t then item h.context (inlet r Right (right_way fl h.context r)) h.right ∷ [] else [])) i
      → (i.context ≡ h.context) × Takes h i
  both r true e c = pick (contains_cases (left_item h.context r h.way h.left) (item h.context (inlet r Right (right_way fl h.context r)) h.right ∷ []) i c)
    where
      pick : (left_item h.context r h.way h.left ≡ i) ⊎ Contains (item h.context (inlet r Right (right_way fl h.context r)) h.right ∷ []) i
          → (i.context ≡ h.context) × Takes h i
      pick (inl g) = (ap (λ (i : Item). i.context) (sym g), Own (ap (λ (i : Item). i.inlet.part) (sym g) ∙ sym e))
      pick (inr d) =
          let g = one_of (item h.context (inlet r Right (right_way fl h.context r)) h.right) i d in
          (ap (λ (i : Item). i.context) g, Own (ap (λ (i : Item). i.inlet.part) g ∙ sym e))
  both r false e c =
      let g = one_of (left_item h.context r h.way h.left) i c in (ap (λ (i : Item). i.context) g, Own (ap (λ (i : Item). i.inlet.part) g ∙ sym e))

  owned : (r : Part) → h.part ≡ r → Contains (own_takes fl h r) i → (i.context ≡ h.context) × Takes h i
  owned (InCell n) e c = let g = one_of (request_of h) i c in (ap (λ (i : Item). i.context) g, Own (ap (λ (i : Item). i.inlet.part) g))
  owned (Drained n) e c = pick (contains_cases (item h.context (inlet (Drainer n) Left h.turns) h.left) (given_back h.context n (h.turns + 1)) i c)
    where
      pick : (item h.context (inlet (Drainer n) Left h.turns) h.left ≡ i) ⊎ Contains (given_back h.context n (h.turns + 1)) i
          → (i.context ≡ h.context) × Takes h i
      pick (inl g) = (ap (λ (i : Item). i.context) (sym g), OfCredits (ap (λ (i : Item). is_credit i.inlet.part) (sym g)))
      pick (inr d) = by_given n (h.turns + 1) d
  owned r e c = both r (waits_in (block_in fl h.context) r) e c

  anew : (r : Part) → h.part ≡ r → Contains (renewed fl h r) i → (i.context ≡ h.context) × Takes h i
  anew (Framer n) e c = go (is_strict_in fl h.context n) c
    where
      go : (t : Bool) → Contains (if t then arguments_from h.context n 0 0 h.operands else []) i → (i.context ≡ h.context) × Takes h i
      go true c = by_arguments n 0 h.operands e c
      go false c = absurd (contains_none i c)
  anew r e c = absurd (contains_none i c)

  pub taken_as : Contains (takes fl h) i → (i.context ≡ h.context) × Takes h i
  taken_as c = pick (Contains-append_cases (own_takes fl h h.part) (renewed fl h h.part) i c)
    where
      pick : Contains (own_takes fl h h.part) i ⊎ Contains (renewed fl h h.part) i → (i.context ≡ h.context) × Takes h i
      pick (inl d) = owned h.part refl d
      pick (inr d) = anew h.part refl d

in_waiter : (t : Bool) (D : SlotState) (o : Option Cont) (d : Cont) (s : SlotState) → t ≡ false → o ≡ Some d → (if t then D else waits_or o s) ≡ Waiter d
in_waiter true D o d s e f = absurd (true≢false e)
in_waiter false D o d s e f = ap (λ (o : Option Cont). waits_or o s) f

module _ (fl : Flow) (p : Plan) (w : Wires) (inputs : List ℤ) (past : Past) (m : Machine) (good : IsGood fl p w) (fit : InputsFit fl inputs)
    (kept : Keeps fl p w inputs past m) where
  abbrev pub Waiting : Item → Type 0
  Waiting i = Contains kept.tracks.net.waiting i

  abbrev done : List Firing
  done = kept.tracks.net.fired

  abbrev Stood : Item → Type 0
  Stood i = Mirrors fl p w inputs past m good fit kept i

  pub left_of : (i : Item) → Waiting i → Contains (kept.tracks.net.pending ++ kept.tracks.net.waiting) i
  left_of i c = Contains-append_right kept.tracks.net.pending kept.tracks.net.waiting i c

  pub stood_of : (i : Item) → Waiting i → Stood i
  stood_of i c = left_stands fl p w inputs past m good fit kept i (left_of i c)

  pub carries : (i : Item) → Stood i → Carries fl w i.context i.inlet.way (arrives_at i.inlet.part i.inlet.port) i.word
  carries i c = carries_of fl w i (word fl p w inputs past m good fit kept i c)

  -- TWO WORDS of one part do not both wait
  abbrev slotted : Item → SlotState
  slotted i = on_side i.inlet.port (word_of fl p w done i.word)

  pub apart : (i j : Item) → Waiting i → Waiting j → i.context ≡ j.context → i.inlet.part ≡ j.inlet.part → i.inlet.port ≡ Left → j.inlet.port ≡ Right → ⊥
  apart i j c d at part left right =
      let theirs : waits_in (block_in fl j.context) j.inlet.part ≡ true = ap (port_fits fl j.context j.inlet.part) (sym right)
      ∙ (fits fl p w inputs past m good fit kept j (stood_of j d)).port in
      let mine : waits_in (block_in fl i.context) i.inlet.part ≡ true = (λ t. waits_in (block_in fl (at t)) (part t)) ∙ theirs in
      let a = kept.tracks.stands.slots.waits i (only_has (in_slot fl) kept.tracks.net.waiting i c mine) in
      let e = kept.tracks.stands.slots.waits j (only_has (in_slot fl) kept.tracks.net.waiting j d theirs) in
      let place : m.store.slots (frame_of fl done i.context) (slot_of fl w i) ≡ m.store.slots (frame_of fl done j.context) (slot_of fl w j) =
      (λ t. m.store.slots (frame_of fl done (at t)) ((wiring_in fl w (at t)).slot (part t))) in
      let two : Slot.Left (word_of fl p w done i.word) ≡ Slot.Right (word_of fl p w done j.word) =
      ap (λ (r : Port). on_side r (word_of fl p w done i.word)) (sym left) ∙ sym a ∙ place ∙ e
      ∙ ap (λ (r : Port). on_side r (word_of fl p w done j.word)) right in
      absurd (cc)

  -- WHAT WANTS: a request for a frame, and one for a credit
  request_word : (c : Context) (t : ℕ) (r : Part) (x : Port) (k : Note) → is_asked r ≡ true → Carries fl w c t (arrives_at r x) k
      → (d : Cont) × (cont_in (word_of fl p w done k) ≡ d ∷ [])
  request_word c t (Asked n) x k e h = (_, ap (λ (k : Note). cont_in (word_of fl p w done k)) h)
  request_word c t NextAsked x k e h = (_, ap (λ (k : Note). cont_in (word_of fl p w done k)) h)
  request_word c t r x k e h = absurd (true≢false (sym e))

  conts_has : (test : Item → Bool) (i : Item) (d : Cont) → Waiting i → test i ≡ true → cont_in (word_of fl p w done i.word) ≡ d ∷ []
      → Contains (conts_of fl p w done (only test kept.tracks.net.waiting)) d
  conts_has test i d c e g =
      flat_contains (λ (i : Item). cont_in (word_of fl p w done i.word)) (only test kept.tracks.net.waiting) i d (only_has test kept.tracks.net.waiting i c e)
      (subst (λ (l : List Cont). Contains l d) (sym g) (contains_head d []))

  pub asked_wants : (i : Item) → Waiting i → is_asked i.inlet.part ≡ true → m.store.requests ≡ [] → ⊥
  asked_wants i c e none =
      let (d, g) = request_word i.context i.inlet.way i.inlet.part i.inlet.port i.word e (carries i (stood_of i c)) in
      contains_none d (subst (λ (l : List Cont). Contains l d)
      (empty_list (conts_of fl p w done (only (λ (i : Item). is_asked i.inlet.part) kept.tracks.net.waiting)) m.store.requests
      (IsPermutation-sym _ _ kept.tracks.stands.requests) none) (conts_has (λ (i : Item). is_asked i.inlet.part) i d c e g))

  pub taker_asks : (i : Item) (n : ℕ) → Waiting i → i.inlet.part ≡ Taker n
      → (g : ℕ) × (frame_at fl kept.tracks.net.fired i.context ≡ Some g) × (d : Cont)
      × (m.store.slots g ((wiring_in fl w i.context).slot (Opener n)) ≡ Waiter d)
  taker_asks i n c e =
      let con = (fits fl p w inputs past m good fit kept i (stood_of i c)).is_context in
      let loop : is_loop (block_in fl i.context) n ≡ true = ap (spot_there fl w i.context) (sym e)
      ∙ (fits fl p w inputs past m good fit kept i (stood_of i c)).there in
      let (g, at) = kept.tracks.stands.known i (stood_of i c) in
      let opened = near_opened fl p w inputs past m good kept i.context con n loop i (stood_of i c) (NTaker refl e) in
      let law = keeps fl p w inputs past m good kept i.context con n loop in
      let back : i.word ≡ BackTo (turn_before i.context n i.inlet.way) (inlet NextFramer Left 0) =
      subst (λ (r : Part). Carries fl w i.context i.inlet.way (arrives_at r i.inlet.port) i.word) e (carries i (stood_of i c)) in
      let (d, first) = first_cont_some (conts_of fl p w done (only (is_item_at i.context (Taker n)) kept.tracks.net.waiting)) _
      (conts_has (is_item_at i.context (Taker n)) i _ c (item_here i.context (Taker n) i refl e) (ap (λ (k : Note). cont_in (word_of fl p w done k)) back)) in
      let way = law.takes i (left_of i c) refl e in
      let over : nat_lt 0 (times i.context (Drained n) done) ≡ false =
      le-ltb 0 (times i.context (Drained n) done) (none_over con loop opened way (cases_eq (times i.context (Drained n) done) 0)) in
      let draining = (law.law.waits d first).1 in (
        g,
        at,
        d,
        slot_is fl p w inputs past m good kept i.context con n loop g at
            ∙ open_form fl p w inputs past m good kept i.context con n loop (lt-ltb 0 (times i.context (Opener n) done) opened) over
            ∙ in_waiter _ _ _ d _ draining first,
      )
    where
      none_over : (con : IsContext fl i.context) → is_loop (block_in fl i.context) n ≡ true → 0 < times i.context (Opener n) done
          → i.inlet.way ≡ granted_of kept.tracks.net i.context n → (times i.context (Drained n) done ≡ 0) ⊎ (times i.context (Drained n) done ≡ 0 → ⊥)
          → times i.context (Drained n) done ≤ 0
      none_over con loop opened way (inl z) = omega (arith, z)
      none_over con loop opened way (inr x) =
          let (h, arrive, a, b) = firing_of i.context (Drained n) done (omega (arith, x)) in
          let low = no_later fl p w inputs past m good kept i.context con n loop h arrive a b i (stood_of i c) refl e in
          let turns = subst (λ (c : Context). h.turns ≤ times c (Taker n) done) a (turns_now fl p w inputs past m good kept h n arrive b) in
          absurd (omega (arith, low, turns, opened, way))

  pub taker_wants : (i : Item) (n : ℕ) → Waiting i → i.inlet.part ≡ Taker n → Wants m
  taker_wants i n c e =
      let (g, at, d, slot) = taker_asks i n c e in inr (g, (wiring_in fl w i.context).slot (Opener n), d, slot)

  -- the credit for the iteration after number t waits
  abbrev pub Held : Context → ℕ → ℕ → Type 0
  Held d n t = (j : Item) × Contains kept.tracks.net.waiting j × (j.context ≡ d) × (j.inlet.part ≡ Taker n) × (j.inlet.way ≡ suc t)

  pub held_wants : (d : Context) (n t : ℕ) → Held d n t → Wants m
  held_wants d n t (j, c, a, e, way) = taker_wants j n c e

  -- AT REST
  module _ (rests : Resting m) (calm : m.store.requests ≡ []) where
    pub rests_net : kept.tracks.net.pending ≡ []
    rests_net =
        map_empty (token_of fl p w done) kept.tracks.net.pending
        (empty_list (map (token_of fl p w done) kept.tracks.net.pending) m.pool (IsPermutation-sym _ _ kept.tracks.stands.pool) rests)

    -- what is there waits, or was taken
    pub waits_or_taken : (i : Item) → Stood i → Waiting i ⊎ ((h : Firing) × Contains kept.tracks.net.fired h × Contains (takes fl h) i)
    waits_or_taken i c = first (Contains-append_cases kept.tracks.net.pending (kept.tracks.net.waiting ++ flat_map (takes fl) done) i c)
      where
        second : Waiting i ⊎ Contains (flat_map (takes fl) done) i → Waiting i ⊎ ((h : Firing) × Contains done h × Contains (takes fl h) i)
        second (inl d) = inl d
        second (inr d) = inr (contains_flat_mapped (takes fl) done i d)

        first : Contains kept.tracks.net.pending i ⊎ Contains (kept.tracks.net.waiting ++ flat_map (takes fl) done) i
            → Waiting i ⊎ ((h : Firing) × Contains done h × Contains (takes fl h) i)
        first (inl d) = absurd (contains_none i (subst (λ (l : List Item). Contains l i) rests_net d))
        first (inr d) = second (Contains-append_cases kept.tracks.net.waiting (flat_map (takes fl) done) i d)

    -- WHAT WAITS: for another word, at a cell, or of a loop's credits
    pub data Waits (i : Item) : Type 0 where
      InSlot : waits_in (block_in fl i.context) i.inlet.part ≡ true → Waits i
      AtCell : (n : ℕ) → i.inlet.part ≡ InCell n → Waits i
      OfLoop : is_turning i.inlet.part ≡ true → Waits i

    held_part : (r : Part) → is_in_cell r ≡ true → (n : ℕ) × (r ≡ InCell n)
    held_part (InCell n) e = (n, refl)
    held_part r e = absurd (true≢false (sym e))

    pub waits : (i : Item) → Waiting i → Waits i
    waits i c = pick (kept.tracks.stands.waits i c)
      where
        pick : (in_slot fl i ≡ true) ⊎ ((is_asked i.inlet.part ≡ true)
            ⊎ ((is_in_cell i.inlet.part ≡ true) ⊎ ((n : ℕ) × ((i.inlet.part ≡ Giver n) ⊎ ((i.inlet.part ≡ Taker n) ⊎ (i.inlet.part ≡ Drainer n)))))) → Waits i
        pick (inl e) = InSlot e
        pick (inr (inl e)) = absurd (asked_wants i c e calm)
        pick (inr (inr (inl e))) = let (n, g) = held_part i.inlet.part e in AtCell n g
        pick (inr (inr (inr (n, inl e)))) = OfLoop (ap is_turning e)
        pick (inr (inr (inr (n, inr (inl e))))) = OfLoop (ap is_turning e)
        pick (inr (inr (inr (n, inr (inr e))))) = OfLoop (ap is_turning e)

    -- A PART that takes one word: what arrived there was taken
    pub fires_alone : (i : Item) → Stood i → waits_in (block_in fl i.context) i.inlet.part ≡ false → is_in_cell i.inlet.part ≡ false
        → is_turning i.inlet.part ≡ false → HasFired i.context i.inlet.part done
    fires_alone i c single cell credit = pick (waits_or_taken i c)
      where
        no_wait : Waits i → ⊥
        no_wait (InSlot e) = true≢false (sym e ∙ single)
        no_wait (AtCell n e) = true≢false (ap is_in_cell (sym e) ∙ cell)
        no_wait (OfLoop e) = true≢false (sym e ∙ credit)

        by_taking : (h : Firing) → Contains done h → (i.context ≡ h.context) × Takes h i → HasFired i.context i.inlet.part done
        by_taking h d (a, Own e) = (h, d, sym a, sym e)
        by_taking h d (a, OfCredits e) = absurd (true≢false (sym (credit_turns i.inlet.part e) ∙ credit))
        by_taking h d (a, Renewed n l e g x) = absurd (true≢false (ap (waits_in (block_in fl i.context)) (sym e) ∙ single))

        pick : Waiting i ⊎ ((h : Firing) × Contains done h × Contains (takes fl h) i) → HasFired i.context i.inlet.part done
        pick (inl d) = absurd (no_wait (waits i d))
        pick (inr (h, d, t)) = by_taking h d (taken_as fl h i t)

    -- one that takes two: where both arrived they were taken
    abbrev pub is_sender : Part → Bool
    is_sender (Sender n l) = true
    is_sender r = false

    taken_own : (i : Item) (h : Firing) → Contains done h → waits_in (block_in fl i.context) i.inlet.part ≡ true → is_sender i.inlet.part ≡ false
        → (i.context ≡ h.context) × Takes h i → HasFired i.context i.inlet.part done
    taken_own i h d two other (a, Own e) = (h, d, sym a, sym e)
    taken_own i h d two other (a, OfCredits e) = absurd (no_credit i.inlet.part e two)
      where
        no_credit : (r : Part) → is_credit r ≡ true → waits_in (block_in fl i.context) r ≡ true → ⊥
        no_credit (Giver n) e f = true≢false (sym f)
        no_credit (Drainer n) e f = true≢false (sym f)
        no_credit r e f = true≢false (sym e)
    taken_own i h d two other (a, Renewed n l e g x) = absurd (true≢false (ap is_sender (sym e) ∙ other))

    pub fires_both : (c : Context) (r : Part) (i j : Item) → Stood i → Stood j → i.context ≡ c → j.context ≡ c → i.inlet.part ≡ r → j.inlet.part ≡ r
        → i.inlet.port ≡ Left → j.inlet.port ≡ Right → waits_in (block_in fl c) r ≡ true → is_sender r ≡ false → HasFired c r done
    fires_both c r i j si sj ic jc ir jr left right two other = pick (waits_or_taken i si) (waits_or_taken j sj)
      where
        fired_as : (o : Item) → o.context ≡ c → o.inlet.part ≡ r → (h : Firing) × Contains done h × Contains (takes fl h) o → HasFired c r done
        fired_as o oc er (h, d, t) =
            let (f, x, a, e) = taken_own o h d ((λ k. waits_in (block_in fl (oc k)) (er k)) ∙ two) (ap is_sender er ∙ other) (taken_as fl h o t) in
            (f, x, a ∙ oc, e ∙ er)

        pick : Waiting i ⊎ ((h : Firing) × Contains done h × Contains (takes fl h) i) → Waiting j ⊎ ((h : Firing) × Contains done h × Contains (takes fl h) j)
            → HasFired c r done
        pick (inr t) other = fired_as i ic ir t
        pick (inl a) (inr t) = fired_as j jc jr t
        pick (inl a) (inl d) = absurd (apart i j a d (ic ∙ sym jc) (ir ∙ sym jr) left right)
