-- The four instructions of a loop's credits take what arrives at them: the slot is as the loop's ledger says.
use Rattle.std.proofs.Common.{◌≡◌, ℕ, ◌-◌, ◌<◌, ◌≤◌, Bool, true, false, ℤ, List, [], ◌∷◌, ◌++◌, refl, sym, ap, ◌∙◌, subst, inl, inr, ◌⊎◌, arith, true≢false}
use Rattle.std.proofs.Common.{le-ltb, ◌==◌, Option, Some, None, if◌then◌else◌}
use Rattle.std.specs.Prelude.{Contains, flat_map}
use Rattle.std.proofs.lemmas.Bool.{cases_eq, false_from_ne_true}
use Rattle.std.proofs.lemmas.List.Elements.{Contains-append_left, Contains-append_right}
use Rattle.lemmas.proofs.Contains.{contains_cases, contains_head, contains_none, contains_tail}
use Rattle.tags.specs.declared.token.Port.TheVariants.{Left}
use Rattle.tags.specs.declared.token.Cont.{Cont}
use Rattle.tags.specs.declared.slot.SlotState.TheVariants.{Empty, Waiter, Draining}
use Rattle.tags.specs.declared.slot.SlotState.TheVariants as Slot
use Rattle.semantics.specs.Graph.{Flow}
use Rattle.semantics.specs.Meaning.{Context, Turned}
use Rattle.semantics.specs.Plan.{Plan}
use Rattle.semantics.specs.Machine.{Machine}
use Rattle.law_confluence.specs.OrdersTotals.{one, total}
use Rattle.law_net.specs.ContextsParts.{Part, Entry, Line, Opener, Framer, Taker, Drainer, Drained, Inlet, inlet, Item, Firing, spot_of, Role, role}
use Rattle.law_net.specs.ContextsBlocks.{Side, side, is_loop, waits_in, bound_at, there_in}
use Rattle.law_net.specs.Contexts.{Wires, or_zero, block_in, site_in, wiring_in, IsContext}
use Rattle.law_net.specs.ContextsCredits.{Ledger, slot_for, waits_or}
use Rattle.law_net.specs.ContextsWires.{is_unwired}
use Rattle.law_net.specs.ContextsFirings.{Config, begins, takes, makes, times, is_firing, frame_at}
use Rattle.law_net.specs.ContextsLaws.{maker_of}
use Rattle.law_net.specs.ContextsMirror.{Past, only, is_item_at, items_at, is_over, ledger, conts_of, first_cont, frame_of, in_slot, KeepsCredits}
use Rattle.law_net.specs.ContextsTheorem.{IsGood}
use Rattle.law_net.specs.ContextsPackages.{AllFit, Keeps}
use Rattle.law_net.proofs.WiredSends.{sent_facts, first_taken, takes_first, first_context}
use Rattle.law_net.proofs.WiredInvoked.{lawful_at}
use Rattle.law_net.proofs.WiredWords.{Begins, AtEntry, AtInput, begin_cases}
use Rattle.law_net.proofs.WiredFed.{MadeAt, ByGift, ByWire, made_at, sent_there, giver_of, gift_role, one_feeder}
use Rattle.law_net.proofs.WiredNets.{some_of, all_born, not_twice, taken_in, only_contains}
use Rattle.law_net.proofs.RunsArrives.{net, all_here, there_at, fired_fit, one_spot, laid}
use Rattle.law_net.proofs.RunsPigeons.{items_total, item_there, some_item, times_total, firing_here, firing_there}
use Rattle.law_net.proofs.CreditsTurns.{taken_all, left_at, spot_at}
use Rattle.law_net.proofs.CreditsOpened.{Under, Near, NUnder, framed, never_gift}
use Rattle.law_net.proofs.RunsMatching.{pending_in, waiting_in, wait_there, wait_holds}

-- where the graph begins
abbrev pub is_begin : Part → Bool
is_begin Entry = true
is_begin (Line n) = true
is_begin r = false

pub some_firing : (c : Context) (r : Part) (fired : List Firing) (f : Firing) → Contains fired f → f.context ≡ c → f.part ≡ r → 0 < times c r fired
some_firing c r fired f d a b = let t = times_total c r fired in let m = go fired d in omega (arith, t, m)
  where
    go : (fired : List Firing) → Contains fired f → 0 < total (λ (f : Firing). one (is_firing c r f)) fired
    go [] d = absurd (contains_none f d)
    go (h ∷ fired) d = pick (contains_cases h fired f d) (go fired)
      where
        pick : (h ≡ f) ⊎ Contains fired f → (Contains fired f → 0 < total (λ (f : Firing). one (is_firing c r f)) fired)
            → 0 < total (λ (f : Firing). one (is_firing c r f)) (h ∷ fired)
        pick (inl e) more = let o = ap one (firing_here c r h (ap (λ (f : Firing). f.context) e ∙ a) (ap (λ (f : Firing). f.part) e ∙ b)) in omega (arith, o)
        pick (inr x) more = let m = more x in omega (arith, m)

pub firing_of : (c : Context) (r : Part) (fired : List Firing) → 0 < times c r fired → (f : Firing) × Contains fired f × (f.context ≡ c) × (f.part ≡ r)
firing_of c r fired h =
    let t = times_total c r fired in let s = some_of (is_firing c r) fired (omega (arith, h, t)) in let k = firing_there c r s.0 s.2 in (s.0, s.1, k.0, k.1)

pub none_passes : (test : Item → Bool) (items : List Item) → ((i : Item) → Contains items i → test i ≡ true → ⊥) → only test items ≡ []
none_passes test [] h = refl
none_passes test (i ∷ items) h =
    let no = false_from_ne_true (test i) (λ e. h i (contains_head i items) e) in
    let more = none_passes test items (λ j c e. h j (contains_tail i items j c) e) in
    λ t. (if no t then i ∷ [] else []) ++ more t

module _ (fl : Flow) (p : Plan) (w : Wires) (inputs : List ℤ) (q : Past) (m : Machine) (good : IsGood fl p w)
    (k : Keeps fl p w inputs q m) where
  abbrev pub here : Config
  here = net fl p w inputs q m good k

  abbrev pub fired : List Firing
  fired = here.fired

  abbrev all : List Item
  all = all_here fl p w inputs q m good k

  abbrev first_item : Firing → Item
  first_item h = first_taken fl w h h.part

  first_in : (h : Firing) → Contains fired h → Contains all (first_taken fl w h h.part)
  first_in h d = taken_all fl p w inputs q m good k (first_taken fl w h h.part) (taken_in fl fired h (first_taken fl w h h.part) d (takes_first fl w h))

  -- THE LOOP AT NODE n of c
  module _ (c : Context) (con : IsContext fl c) (n : ℕ) (l : is_loop (block_in fl c) n ≡ true) where
    -- its framer fires after it was opened
    framer_opened : (h : Firing) → Contains fired h → h.context ≡ c → h.part ≡ Framer n → 0 < times c (Opener n) fired
    framer_opened h d a e = born (all_born fl w inputs here k.tracks.moves (first_item h) (first_in h d))
      where
        ic : (first_item h).context ≡ c
        ic = first_context fl w h h.part ∙ a

        inlet_is' : (first_item h).inlet ≡ inlet (Framer n) Left 0
        inlet_is' = ap (λ (r : Part). (first_taken fl w h r).inlet) e

        made : (f : Firing) → Contains fired f → AllFit fl w (takes fl f) → MadeAt fl p w good f (first_item h) → 0 < times c (Opener n) fired
        made f x fit (ByGift g) =
            absurd (never_gift fl p w good c n f fit (first_item h) g (Framer n) (ap (λ (x : Inlet). x.part) inlet_is') (λ b. refl) (λ d h. h)
            (ap (λ (x : Inlet). x.way == 0) inlet_is'))
        made f x fit (ByWire s) =
            let facts = sent_facts fl w f fit s.from s.along in
            let fc : f.context ≡ c = sym (ap (λ (i : Item). i.context) s.is) ∙ ic in
            let opens = (lawful_at fl p w good c con).leads.opens n l in
            let there = subst (λ (c : Context). there_in fl (site_in fl w c) (wiring_in fl w c) s.from.part ≡ true) fc facts.there in
            let wire = subst (λ (x : Inlet). Contains ((wiring_in fl w c).wire s.from) x) inlet_is'
            (subst (λ (c : Context). Contains ((wiring_in fl w c).wire s.from) (first_item h).inlet) fc s.wire) in
            let same = one_feeder fl p w good c con s.from (side (Opener n) false) (inlet (Framer n) Left 0) there l wire opens in
            let part : Opener n ≡ f.part = ap (λ (t : Side). maker_of (block_in fl f.context) t.part) (sym same) ∙ facts.maker in
            some_firing c (Opener n) fired f x fc (sym part)

        born : Contains (begins inputs) (first_item h) ⊎ ((f : Firing) × Contains fired f × Contains (makes fl w f) (first_item h))
            → 0 < times c (Opener n) fired
        born (inl x) = first (begin_cases inputs (first_item h) x)
          where
            first : Begins inputs (first_item h) → 0 < times c (Opener n) fired
            first (AtEntry g) = let x = sym (ap (λ (x : Inlet). x.part) inlet_is') ∙ ap (λ (i : Item). i.inlet.part) g in absurd (cc)
            first (AtInput m z y g) = let x = sym (ap (λ (x : Inlet). x.part) inlet_is') ∙ ap (λ (i : Item). i.inlet.part) g in absurd (cc)
        born (inr (f, x, y)) = let fit = fired_fit fl p w inputs q m good k f x in made f x fit (made_at fl p w good f (first_item h) fit y)

    pub near_opened : (i : Item) → Contains all i → Near c n i → 0 < times c (Opener n) fired
    near_opened i h near = let f = framed fl p w inputs q m good k c n i h near in framer_opened f.0 f.1 f.2 f.3

    -- what a turn gives to the loop is there only after the loop was opened
    pub given_opened : (r : Part) (x : Part) → ((t : ℕ) → giver_of fl c r t ≡ role (Turned c n t) x 0) → ((b : _) → is_unwired b r ≡ true)
        → (is_begin r ≡ false)
        → (i : Item) → Contains all i → i.context ≡ c → i.inlet.part ≡ r → 0 < times c (Opener n) fired
    given_opened r x giver always begin' i h a e = born (all_born fl w inputs here k.tracks.moves i h)
      where
        made : (f : Firing) → Contains fired f → AllFit fl w (takes fl f) → MadeAt fl p w good f i → 0 < times c (Opener n) fired
        made f d fit (ByWire s) =
            let t = sent_there fl p w good f i fit s in
            absurd (true≢false (sym (ap (is_unwired (block_in fl i.context)) e ∙ always (block_in fl i.context)) ∙ t.2))
        made f d fit (ByGift g) =
            let role' = gift_role fl p w good f fit i g ∙ (λ u. giver_of fl (a u) (e u) i.inlet.way) ∙ giver i.inlet.way in
            near_opened (first_taken fl w f f.part) (first_in f d)
            (NUnder (subst (Under c n) (sym (first_context fl w f f.part ∙ ap (λ (r : Role). r.context) role')) (inl (refl, refl))))

        born : Contains (begins inputs) i ⊎ ((f : Firing) × Contains fired f × Contains (makes fl w f) i) → 0 < times c (Opener n) fired
        born (inl x) = first (begin_cases inputs i x)
          where
            first : Begins inputs i → 0 < times c (Opener n) fired
            first (AtEntry g) = absurd (true≢false (ap is_begin (sym (ap (λ (i : Item). i.inlet.part) g) ∙ e) ∙ begin'))
            first (AtInput m z y g) = absurd (true≢false (ap is_begin (sym (ap (λ (i : Item). i.inlet.part) g) ∙ e) ∙ begin'))
        born (inr (f, d, y)) = let fit = fired_fit fl p w inputs q m good k f d in made f d fit (made_at fl p w good f i fit y)

    pub keeps : KeepsCredits fl p w here c n
    keeps = k.tracks.credits c n con l

    abbrev pub book : Ledger
    book = ledger fl p w here c n

    abbrev pub bound : ℕ
    bound = bound_at (block_in fl c) n

    -- THE ITEM that arrives
    module _ (i : Item) (pending : Contains here.pending i) (ic : i.context ≡ c) (r : Part) (ir : i.inlet.part ≡ r) where
      pub stands : Contains all i
      stands = pending_in fl p w inputs q m good k i pending

      pub held : Contains (here.pending ++ here.waiting) i
      held = Contains-append_left here.pending here.waiting i pending

      pub held_too : (j : Item) → Contains here.waiting j → Contains (here.pending ++ here.waiting) j
      held_too j d = Contains-append_right here.pending here.waiting j d

      pub not_taken : (j : Item) → Contains (flat_map (takes fl) fired) j → spot_of i ≡ spot_of j → ⊥
      not_taken j d e = not_twice fl w inputs here k.sound i j pending (Contains-append_right here.waiting (flat_map (takes fl) fired) j d) e

      pub not_waiting : (j : Item) → Contains here.waiting j → spot_of i ≡ spot_of j → ⊥
      not_waiting j d e = not_twice fl w inputs here k.sound i j pending (Contains-append_left here.waiting (flat_map (takes fl) fired) j d) e

      pub in_spot : waits_in (block_in fl c) r ≡ false → spot_of i ≡ record { context = c; inlet = inlet r Left i.inlet.way }
      in_spot none = spot_at fl p w inputs q m good k c con n l i stands ic r ir none i.inlet.way refl

      pub waits_spot : (j : Item) → Contains here.waiting j → j.context ≡ c → j.inlet.part ≡ r → waits_in (block_in fl c) r ≡ false → j.inlet.way ≡ i.inlet.way
          → spot_of i ≡ spot_of j
      waits_spot j d a e none g =
          in_spot none ∙ sym (spot_at fl p w inputs q m good k c con n l j (waiting_in fl p w inputs q m good k j d) a r e none i.inlet.way g)

      pub over_by : ((h : Firing) → Contains fired h → h.context ≡ c → h.part ≡ Drained n → ⊥) → is_over here c n ≡ false
      over_by none = le-ltb 0 (times c (Drained n) fired) (go (cases_eq (times c (Drained n) fired) 0))
        where
          go : (times c (Drained n) fired ≡ 0) ⊎ (times c (Drained n) fired ≡ 0 → ⊥) → times c (Drained n) fired ≤ 0
          go (inl e) = omega (arith, e)
          go (inr x) = let f = firing_of c (Drained n) fired (omega (arith, x)) in absurd (none f.0 f.1 f.2 f.3)

      pub draining_by : ((j : Item) → Contains here.waiting j → j.context ≡ c → j.inlet.part ≡ Drainer n → ⊥) → book.draining ≡ false
      draining_by none = le-ltb 0 (items_at c (Drainer n) here.waiting) (go (cases_eq (items_at c (Drainer n) here.waiting) 0))
        where
          go : (items_at c (Drainer n) here.waiting ≡ 0) ⊎ (items_at c (Drainer n) here.waiting ≡ 0 → ⊥) → items_at c (Drainer n) here.waiting ≤ 0
          go (inl e) = omega (arith, e)
          go (inr x) =
              let t = items_total c (Drainer n) here.waiting in let s = some_of (is_item_at c (Drainer n)) here.waiting (omega (arith, x, t)) in
              let at = item_there c (Drainer n) s.0 s.2 in absurd (none s.0 s.1 at.0 at.1)

      pub waiter_by : ((j : Item) → Contains here.waiting j → j.context ≡ c → j.inlet.part ≡ Taker n → ⊥) → book.waiter ≡ None
      waiter_by none =
          ap (λ (items : List Item). first_cont (conts_of fl p w fired items))
          (none_passes (is_item_at c (Taker n)) here.waiting (λ j d e. let at = item_there c (Taker n) j e in none j d at.0 at.1))

      -- no take is on its way or waits where a drain is
      pub no_take : (j : Item) → Contains (here.pending ++ here.waiting) j → j.context ≡ c → j.inlet.part ≡ Drainer n → (o : Item)
          → Contains (here.pending ++ here.waiting) o → o.context ≡ c → o.inlet.part ≡ Taker n → ⊥
      no_take j d a e o x b g =
          let none = (keeps.drains j d a e).1 in let t = items_total c (Taker n) (here.pending ++ here.waiting) in
          let s = some_item c (Taker n) (here.pending ++ here.waiting) o x b g in omega (arith, none, t, s)

      -- two drains are one
      pub drains_meet : r ≡ Drainer n → (j : Item) → Contains all j → j.context ≡ c → j.inlet.part ≡ Drainer n → spot_of i ≡ spot_of j
      drains_meet e j d a g = one_spot fl p w inputs q m good k i j stands d (ic ∙ sym a) (ir ∙ e ∙ sym g)
          (left_at fl p w inputs q m good k c con n l i stands ic (Drainer n) (ir ∙ e) refl
          ∙ sym (left_at fl p w inputs q m good k c con n l j d a (Drainer n) g refl)) (record {
            giver = λ x y. let z = sym g ∙ y in absurd (cc);
            taker = λ x y. let z = sym g ∙ y in absurd (cc);
            sender = λ x o y. let z = sym g ∙ y in absurd (cc);
          })

    -- WHAT THE SLOT IS
    pub slot_is : (g : ℕ) → frame_at fl fired c ≡ Some g → m.store.slots g ((wiring_in fl w c).slot (Opener n)) ≡ slot_for bound book
    slot_is g at = pick (k.tracks.stands.slots.empty g ((wiring_in fl w c).slot (Opener n)))
      where
        no_item : (j : Item) → Contains (only (in_slot fl) here.waiting) j → frame_of fl fired j.context ≡ g
            → (wiring_in fl w j.context).slot j.inlet.part ≡ (wiring_in fl w c).slot (Opener n) → ⊥
        no_item j x f y =
            let o = only_contains (in_slot fl) here.waiting j x in
            let arrive = waiting_in fl p w inputs q m good k j o.0 in
            let known = k.tracks.stands.known j arrive in
            let frame : known.0 ≡ g = sym (ap or_zero known.1) ∙ f in
            let one = k.tracks.stands.apart j.context c g (known.1 ∙ ap Some frame) at in
            let two : waits_in (block_in fl c) j.inlet.part ≡ true = subst (λ (d : Context). waits_in (block_in fl d) j.inlet.part ≡ true) one o.1 in
            let there = wait_there fl w c j.inlet.part two (there_at fl p w inputs q m good k j arrive c one j.inlet.part refl) in
            let same = subst (λ (d : Context). (wiring_in fl w d).slot j.inlet.part ≡ (wiring_in fl w c).slot (Opener n)) one y in
            let part = (laid fl p w inputs q m good k c con).holders j.inlet.part (Opener n) there l
            (wait_holds (block_in fl c) j.inlet.part two) refl same in
            true≢false (sym two ∙ ap (waits_in (block_in fl c)) part)

        pick : (m.store.slots g ((wiring_in fl w c).slot (Opener n)) ≡ k.tracks.stands.base g ((wiring_in fl w c).slot (Opener n)))
            ⊎ ((j : Item) × Contains (only (in_slot fl) here.waiting) j × (frame_of fl fired j.context ≡ g)
            × ((wiring_in fl w j.context).slot j.inlet.part ≡ (wiring_in fl w c).slot (Opener n)))
            → m.store.slots g ((wiring_in fl w c).slot (Opener n)) ≡ slot_for bound book
        pick (inl e) = e ∙ k.tracks.stands.loops c n g con l at
        pick (inr (j, x, a, d)) = absurd (no_item j x a d)

    -- the ledger's forms
    pub closed_form : book.opened ≡ false → slot_for bound book ≡ Empty
    closed_form e =
        ap (λ (t : Bool). if t then (if book.over then Empty else if book.draining then Draining (book.granted - book.given)
        else waits_or book.waiter (Slot.Credits (bound - (book.granted - book.given)))) else Empty) e

    pub open_form : book.opened ≡ true → book.over ≡ false
        → slot_for bound book ≡ (if book.draining then Draining (book.granted - book.given)
        else waits_or book.waiter (Slot.Credits (bound - (book.granted - book.given))))
    open_form e o =
        ap (λ (t : Bool). if t then (if book.over then Empty else if book.draining then Draining (book.granted - book.given)
        else waits_or book.waiter (Slot.Credits (bound - (book.granted - book.given)))) else Empty) e
        ∙ ap (λ (t : Bool). if t then Empty else if book.draining then Draining (book.granted - book.given)
        else waits_or book.waiter (Slot.Credits (bound - (book.granted - book.given)))) o

    pub free_form : book.opened ≡ true → book.over ≡ false → book.draining ≡ false → book.waiter ≡ None
        → slot_for bound book ≡ Slot.Credits (bound - (book.granted - book.given))
    free_form e o d v =
        open_form e o ∙ ap (λ (t : Bool). if t then Draining (book.granted - book.given)
        else waits_or book.waiter (Slot.Credits (bound - (book.granted - book.given)))) d
        ∙ ap (λ (x : Option Cont). waits_or x (Slot.Credits (bound - (book.granted - book.given)))) v
