-- No token is excluded that arrives at one of the four instructions of a loop's credits.
use Rattle.std.proofs.Common.{◌≡◌, ℕ, zero, suc, ◌+◌, ◌-◌, ◌<◌, ◌≤◌, Bool, true, false, ℤ, List, [], ◌++◌, refl, sym, ap, ◌∙◌, subst, inl, inr, ◌⊎◌, arith}
use Rattle.std.proofs.Common.{true≢false, lt-ltb, le-ltb, eqb-true, eq-eqb, ne_eqb, nat_lt, Option, Some, None, if◌then◌else◌, append_assoc}
use Rattle.std.specs.Prelude.{Contains, flat_map}
use Rattle.std.proofs.lemmas.Bool.{cases_eq}
use Rattle.std.proofs.lemmas.List.Elements.{Contains-append_left}
use Rattle.tags.specs.declared.token.Port.{Port}
use Rattle.tags.specs.declared.token.Port.TheVariants.{Left}
use Rattle.tags.specs.declared.token.Cont.{Cont}
use Rattle.tags.specs.declared.token.Word.{Word}
use Rattle.tags.specs.declared.token.To.{To}
use Rattle.tags.specs.declared.slot.SlotState.{SlotState}
use Rattle.tags.specs.declared.slot.SlotState.TheVariants.{Empty, Waiter, Draining}
use Rattle.tags.specs.declared.slot.SlotState.TheVariants as Slot
use Rattle.semantics.specs.declared.program.Op.{Op}
use Rattle.semantics.specs.Graph.{Flow}
use Rattle.semantics.specs.Meaning.{Context}
use Rattle.semantics.specs.Plan.{Plan}
use Rattle.semantics.specs.Program.{Instr}
use Rattle.semantics.specs.Rule.{Point, opens, gives, drains, on_left, outcome_of, rule_at, slot_of}
use Rattle.semantics.specs.Rule as Rule
use Rattle.semantics.specs.Machine.{Machine, slot_in, slot_used, excluded_by, stuck_rule}
use Rattle.law_confluence.specs.OrdersTotals.{one}
use Rattle.law_confluence.proofs.Orders.{total-append}
use Rattle.law_net.specs.ContextsParts.{Part, Opener, Giver, Taker, Drainer, Drained, DrainReturn, End, NextFramer, inlet, signal, Note, BackTo, Item, item}
use Rattle.law_net.specs.ContextsParts.{Firing, Spot, spot_of, same_spot}
use Rattle.law_net.specs.ContextsBlocks.{is_loop, waits_in, op_of, there_in}
use Rattle.law_net.specs.Contexts.{Wires, or_zero, block_in, site_in, wiring_in, IsContext}
use Rattle.law_net.specs.ContextsCredits.{Ledger, slot_for, waits_or}
use Rattle.law_net.specs.ContextsWires.{IsInstr}
use Rattle.law_net.specs.ContextsFirings.{Config, takes, times, frame_at, turn_before}
use Rattle.law_net.specs.ContextsLaws.{spot_there, way_fits}
use Rattle.law_net.specs.ContextsMirror.{Past, is_item_at, items_at, granted_of, frame_of, ip_of, word_of, to_of}
use Rattle.law_net.specs.ContextsTheorem.{IsGood}
use Rattle.law_net.specs.ContextsPackages.{Keeps}
use Rattle.law_net.specs.Credits.{is_credit_part}
use Rattle.law_net.proofs.ContextsSames.{hits_at, spot_is}
use Rattle.law_net.proofs.WiredSends.{first_taken, takes_first, first_context}
use Rattle.law_net.proofs.WiredNets.{all_of, once_all, taken_in}
use Rattle.law_net.proofs.RunsArrives.{fits_in, laid, instr_here}
use Rattle.law_net.proofs.RunsPigeons.{few_pigeons, items_total, item_there, some_item}
use Rattle.law_net.proofs.CreditsTurns.{taken_all, turns_now, left_at, spot_at, no_later, drained_taken, credit_taken, granted_few}
use Rattle.law_net.proofs.CreditsOpened.{NTaker}
use Rattle.law_net.proofs.Credits.{here, firing_of, near_opened, given_opened, keeps, book, bound, stands, held, held_too, not_taken, not_waiting, in_spot}
use Rattle.law_net.proofs.Credits.{waits_spot, over_by, draining_by, waiter_by, no_take, drains_meet, slot_is, closed_form, open_form, free_form}
use Rattle.law_net.proofs.RunsMatching.{pending_in, waiting_in, word_at}

module _ (fl : Flow) (p : Plan) (w : Wires) (inputs : List ℤ) (q : Past) (m : Machine) (good : IsGood fl p w)
    (k : Keeps fl p w inputs q m) where
  abbrev net : Config
  net = here fl p w inputs q m good k

  abbrev done : List Firing
  done = net.fired

  module _ (c : Context) (con : IsContext fl c) (n : ℕ) (l : is_loop (block_in fl c) n ≡ true) (i : Item) (pending : Contains net.pending i)
      (ic : i.context ≡ c) where
    abbrev log : Ledger
    log = book fl p w inputs q m good k c con n l

    abbrev most : ℕ
    most = bound fl p w inputs q m good k c con n l

    arrive : Contains (all_of fl net) i
    arrive = stands fl p w inputs q m good k c con n l i pending ic i.inlet.part refl

    -- AN INSTRUCTION of the loop
    module _ (g : ℕ) (at : frame_at fl done c ≡ Some g) (r : Part) (ir : i.inlet.part ≡ r) (h : there_in fl (site_in fl w c) (wiring_in fl w c) r ≡ true)
        (none : waits_in (block_in fl c) r ≡ false)
        (own : (wiring_in fl w c).slot r ≡ (wiring_in fl w c).slot (Opener n)) where
      abbrev instr : Instr
      instr = ((laid fl p w inputs q m good k c con).here r h).0

      instr_is : IsInstr fl p w.variant (site_in fl w c) (wiring_in fl w c) r instr
      instr_is = ((laid fl p w inputs q m good k c con).here r h).2

      abbrev point : Point
      point = record { frame = g; ip = ip_of fl p w c r }

      abbrev op : Op
      op = op_of w.variant (site_in fl w c) r

      left : i.inlet.port ≡ Left
      left = left_at fl p w inputs q m good k c con n l i arrive ic r ir none

      free_by : ((y : Instr) → slot_of y op ≡ Some y.slot) → (v : Word)
          → ((a : Point) (y : Instr) → excluded_by (outcome_of p.program a y op (slot_for most log) Left v) ≡ None)
          → stuck_rule p.program m.store (To.Instr g (ip_of fl p w c r) i.inlet.port) v ≡ None
      free_by slotted v ok =
          ap (λ (x : Port). stuck_rule p.program m.store (To.Instr g (ip_of fl p w c r) x) v) left
          ∙ ap (λ (o : Option Instr). excluded_by (rule_at p.program point o (slot_in m.store g (slot_used o)) Left v))
          (instr_here fl p w inputs q m good k c con r h)
          ∙ ap (λ (o : Op). excluded_by (outcome_of p.program point instr o (slot_in m.store g (slot_of instr o)) Left v)) instr_is.op
          ∙ ap (λ (o : Option ℕ). excluded_by (outcome_of p.program point instr op (slot_in m.store g o) Left v)) (slotted instr
          ∙ ap Some (instr_is.slot ∙ own))
          ∙ ap (λ (s : SlotState). excluded_by (outcome_of p.program point instr op s Left v)) (slot_is fl p w inputs q m good k c con n l g at)
          ∙ ok point instr

    abbrev Free : ℕ → Part → Word → Type 0
    Free g r v = stuck_rule p.program m.store (To.Instr g (ip_of fl p w c r) i.inlet.port) v ≡ None

    rows : ((wiring_in fl w c).slot (Giver n) ≡ (wiring_in fl w c).slot (Opener n)) × ((wiring_in fl w c).slot (Taker n) ≡ (wiring_in fl w c).slot (Opener n))
        × ((wiring_in fl w c).slot (Drainer n) ≡ (wiring_in fl w c).slot (Opener n))
    rows = (laid fl p w inputs q m good k c con).loops n l

    -- open: it has not fired
    pub closed : i.inlet.part ≡ Opener n → log.opened ≡ false
    closed ir = le-ltb 0 (times c (Opener n) done) (go (cases_eq (times c (Opener n) done) 0))
      where
        fired_spot : (f : Firing) → f.context ≡ c → f.part ≡ Opener n
            → spot_of (first_taken fl w f f.part) ≡ record { context = c; inlet = inlet (Opener n) Left 0 }
        fired_spot f a e =
            spot_is (spot_of (first_taken fl w f f.part)) (record { context = c; inlet = inlet (Opener n) Left 0 }) (first_context fl w f f.part ∙ a)
            (ap (λ (r : Part). (first_taken fl w f r).inlet) e)

        way : i.inlet.way ≡ 0
        way =
            eqb-true i.inlet.way 0 (subst (λ (r : Part). way_fits fl i.context r i.inlet.port i.inlet.way ≡ true) ir
            (fits_in fl p w inputs q m good k i arrive).way)

        here_spot : spot_of i ≡ record { context = c; inlet = inlet (Opener n) Left 0 }
        here_spot = spot_at fl p w inputs q m good k c con n l i arrive ic (Opener n) ir refl 0 way

        go : (times c (Opener n) done ≡ 0) ⊎ (times c (Opener n) done ≡ 0 → ⊥) → times c (Opener n) done ≤ 0
        go (inl e) = omega (arith, e)
        go (inr x) =
            let f = firing_of c (Opener n) done (omega (arith, x)) in
            absurd (not_taken fl p w inputs q m good k c con n l i pending ic (Opener n) ir (first_taken fl w f.0 f.0.part)
            (taken_in fl done f.0 (first_taken fl w f.0 f.0.part) f.1 (takes_first fl w f.0)) (here_spot ∙ sym (fired_spot f.0 f.2 f.3)))

    opener_free : (g : ℕ) → frame_at fl done c ≡ Some g → i.inlet.part ≡ Opener n → (v : Word) → Free g (Opener n) v
    opener_free g at ir v =
        free_by g at (Opener n) ir l refl refl (λ y. refl) v
        (λ a y. ap (λ (s : SlotState). excluded_by (opens a y most s)) (closed_form fl p w inputs q m good k c con n l (closed ir)))

    -- a firing that has all credits back
    abbrev IsOver : Firing → Type 0
    IsOver h = Contains done h × (h.context ≡ c) × (h.part ≡ Drained n)

    opened_by : 0 < times c (Opener n) done → log.opened ≡ true
    opened_by h = lt-ltb 0 (times c (Opener n) done) h

    granted_sum : log.granted ≡ times c (Opener n) done + times c (Taker n) done
    granted_sum = refl

    -- take
    takes_ok : (x : ℕ) (b : Cont) → excluded_by (Rule.takes (Slot.Credits x) (Word.Back b)) ≡ None
    takes_ok zero b = refl
    takes_ok (suc x) b = refl

    -- A TAKE that arrives
    module _ (ir : i.inlet.part ≡ Taker n) where
      pub taker_opened : 0 < times c (Opener n) done
      taker_opened = near_opened fl p w inputs q m good k c con n l i arrive (NTaker ic ir)

      pub taker_turn : i.inlet.way ≡ granted_of net c n
      taker_turn = (keeps fl p w inputs q m good k c con n l).takes i (held fl p w inputs q m good k c con n l i pending ic (Taker n) ir) ic ir

      pub taker_over : log.over ≡ false
      taker_over = over_by fl p w inputs q m good k c con n l i pending ic (Taker n) ir (λ h d a e.
          let late = no_later fl p w inputs q m good k c con n l h d a e i arrive ic ir in
          let turns = turns_now fl p w inputs q m good k h n d e in let same = ap (λ (x : Context). times x (Taker n) done) a in
          let way = taker_turn in let opened = taker_opened in omega (arith, late, turns, same, way, opened))

      pub taker_draining : log.draining ≡ false
      taker_draining = draining_by fl p w inputs q m good k c con n l i pending ic (Taker n) ir (λ j d a e.
          no_take fl p w inputs q m good k c con n l i pending ic (Taker n) ir j
          (held_too fl p w inputs q m good k c con n l i pending ic (Taker n) ir j d) a e i
          (held fl p w inputs q m good k c con n l i pending ic (Taker n) ir) ic ir)

      pub taker_waiter : log.waiter ≡ None
      taker_waiter = waiter_by fl p w inputs q m good k c con n l i pending ic (Taker n) ir (λ j d a e.
          let other = (keeps fl p w inputs q m good k c con n l).takes j
          (held_too fl p w inputs q m good k c con n l i pending ic (Taker n) ir j d) a e in
          not_waiting fl p w inputs q m good k c con n l i pending ic (Taker n) ir j d
          (waits_spot fl p w inputs q m good k c con n l i pending ic (Taker n) ir j d a e refl (other ∙ sym taker_turn)))

    taker_free : (g : ℕ) → frame_at fl done c ≡ Some g → i.inlet.part ≡ Taker n → Free g (Taker n) (word_of fl p w done i.word)
    taker_free g at ir =
        let left = left_at fl p w inputs q m good k c con n l i arrive ic (Taker n) ir refl in
        let word = word_at fl p w inputs q m good k i arrive c ic (Taker n) ir Left left in
        subst (λ (x : Note). Free g (Taker n) (word_of fl p w done x)) (sym word)
        (free_by g at (Taker n) ir l refl rows.1 (λ y. refl) (word_of fl p w done (BackTo (turn_before c n i.inlet.way) (inlet NextFramer Left 0)))
        (λ a y. ap (λ (s : SlotState). excluded_by (Rule.takes s (word_of fl p w done (BackTo (turn_before c n i.inlet.way) (inlet NextFramer Left 0)))))
        (free_form fl p w inputs q m good k c con n l (opened_by (taker_opened ir)) (taker_over ir) (taker_draining ir) (taker_waiter ir))
        ∙ takes_ok (most - (log.granted - log.given)) _))

    -- drain
    drains_ok : (a : Point) (y : Instr) (x : ℕ) → x ≤ most → excluded_by (drains a y most (Slot.Credits x)) ≡ None
    drains_ok a y x h = go (cases_eq x most)
      where
        go : (x ≡ most) ⊎ (x ≡ most → ⊥) → excluded_by (drains a y most (Slot.Credits x)) ≡ None
        go (inl e) =
            ap (λ (t : Bool). excluded_by (if t then Rule.Becomes Empty (Rule.to_all a Rule.signal y) else if nat_lt x most
            then Rule.Becomes (Draining (most - x)) [] else Rule.Excluded 3)) (eq-eqb x most e)
        go (inr n') =
            ap (λ (t : Bool). excluded_by (if t then Rule.Becomes Empty (Rule.to_all a Rule.signal y) else if nat_lt x most
            then Rule.Becomes (Draining (most - x)) [] else Rule.Excluded 3)) (ne_eqb x most n')
            ∙ ap (λ (t : Bool). excluded_by (if t then Rule.Becomes (Draining (most - x)) [] else Rule.Excluded 3)) (lt-ltb x most (omega (arith, h, n')))

    -- A DRAIN that arrives
    module _ (ir : i.inlet.part ≡ Drainer n) where
      pub drainer_opened : 0 < times c (Opener n) done
      drainer_opened = given_opened fl p w inputs q m good k c con n l (Drainer n) DrainReturn (λ t. refl) (λ b. refl) refl i arrive ic ir

      pub drainer_over : log.over ≡ false
      drainer_over = over_by fl p w inputs q m good k c con n l i pending ic (Drainer n) ir (λ h d a e.
          let j = drained_taken fl p w inputs q m good k c con n l h d a e in
          not_taken fl p w inputs q m good k c con n l i pending ic (Drainer n) ir (item h.context (inlet (Drainer n) Left h.turns) h.left) j
          (drains_meet fl p w inputs q m good k c con n l i pending ic (Drainer n) ir refl (item h.context (inlet (Drainer n) Left h.turns) h.left)
          (taken_all fl p w inputs q m good k (item h.context (inlet (Drainer n) Left h.turns) h.left) j) a refl))

      pub drainer_draining : log.draining ≡ false
      drainer_draining = draining_by fl p w inputs q m good k c con n l i pending ic (Drainer n) ir (λ j d a e.
          not_waiting fl p w inputs q m good k c con n l i pending ic (Drainer n) ir j d
          (drains_meet fl p w inputs q m good k c con n l i pending ic (Drainer n) ir refl j (waiting_in fl p w inputs q m good k j d) a e))

      pub drainer_waiter : log.waiter ≡ None
      drainer_waiter = waiter_by fl p w inputs q m good k c con n l i pending ic (Drainer n) ir (λ j d a e.
          no_take fl p w inputs q m good k c con n l i pending ic (Drainer n) ir i
          (held fl p w inputs q m good k c con n l i pending ic (Drainer n) ir) ic ir j
          (held_too fl p w inputs q m good k c con n l i pending ic (Drainer n) ir j d) a e)

    drainer_free : (g : ℕ) → frame_at fl done c ≡ Some g → i.inlet.part ≡ Drainer n → (v : Word) → Free g (Drainer n) v
    drainer_free g at ir v = free_by g at (Drainer n) ir l refl rows.2 (λ y. refl) v
        (λ a y. ap (λ (s : SlotState). excluded_by (drains a y most s))
        (free_form fl p w inputs q m good k c con n l (opened_by (drainer_opened ir)) (drainer_over ir) (drainer_draining ir) (drainer_waiter ir))
        ∙ drains_ok a y (most - (log.granted - log.given)) (omega arith))

    -- give
    draining_ok : (a : Point) (y : Instr) (d : ℕ) → 0 < d → excluded_by (gives a y most (Draining d)) ≡ None
    draining_ok a y zero h = absurd (omega (arith, h))
    draining_ok a y (suc zero) h = refl
    draining_ok a y (suc (suc d)) h = refl

    credits_ok : (a : Point) (y : Instr) (x : ℕ) → x < most → excluded_by (gives a y most (Slot.Credits x)) ≡ None
    credits_ok a y x h = ap (λ (t : Bool). excluded_by (if t then Rule.Becomes (Slot.Credits (x + 1)) [] else Rule.Excluded 3)) (lt-ltb x most h)

    waits_ok : (a : Point) (y : Instr) (o : Option Cont) (x : ℕ) → x < most → excluded_by (gives a y most (waits_or o (Slot.Credits x))) ≡ None
    waits_ok a y None x h = credits_ok a y x h
    waits_ok a y (Some b) x h = refl

    gives_ok : (a : Point) (y : Instr) (t : Bool) (d x : ℕ) → 0 < d → x < most
        → excluded_by (gives a y most (if t then Draining d else waits_or log.waiter (Slot.Credits x))) ≡ None
    gives_ok a y true d x h g = draining_ok a y d h
    gives_ok a y false d x h g = waits_ok a y log.waiter x g

    -- A GIVE that arrives
    module _ (ir : i.inlet.part ≡ Giver n) where
      pub giver_opened : 0 < times c (Opener n) done
      giver_opened = given_opened fl p w inputs q m good k c con n l (Giver n) End (λ t. refl) (λ b. refl) refl i arrive ic ir

      pub given_low : (j : Item) → Contains (net.pending ++ net.waiting) j → j.context ≡ c → j.inlet.part ≡ Giver n → j.inlet.way < granted_of net c n
      given_low j d a e = (keeps fl p w inputs q m good k c con n l).gives j d a e

      pub giver_held : Contains (net.pending ++ net.waiting) i
      giver_held = held fl p w inputs q m good k c con n l i pending ic (Giver n) ir

      pub giver_over : log.over ≡ false
      giver_over = over_by fl p w inputs q m good k c con n l i pending ic (Giver n) ir (λ h d a e.
          let low = given_low i giver_held ic ir in let few = granted_few fl p w inputs q m good k c con n l h d a e in
          let j = credit_taken fl p w inputs q m good k c con n l h d a e i.inlet.way (omega (arith, low, few)) in
          not_taken fl p w inputs q m good k c con n l i pending ic (Giver n) ir (item h.context (inlet (Giver n) Left i.inlet.way) signal) j
          (in_spot fl p w inputs q m good k c con n l i pending ic (Giver n) ir refl
          ∙ sym (ap (λ (x : Context). record { context = x; inlet = inlet (Giver n) Left i.inlet.way }) a)))

      -- those that wait and the one that arrives are fewer than were granted
      pub giver_counted : items_at c (Giver n) net.waiting + 1 ≤ granted_of net c n
      giver_counted =
          let test : Item → Bool = is_item_at c (Giver n) in
          let both = few_pigeons test (λ t. record { context = c; inlet = inlet (Giver n) Left t }) (granted_of net c n) (net.pending ++ net.waiting) few
          (λ j d e. let x = item_there c (Giver n) j e in
          (j.inlet.way, given_low j d x.0 x.1, spot_at fl p w inputs q m good k c con n l j (standing j d) x.0 (Giver n) x.1 refl j.inlet.way refl)) in
          let sum = total-append (λ (j : Item). one (test j)) net.pending net.waiting in
          let this = some_item c (Giver n) net.pending i pending ic ir in let waits = items_total c (Giver n) net.waiting in
          omega (arith, both, sum, this, waits)
        where
          standing : (j : Item) → Contains (net.pending ++ net.waiting) j → Contains (all_of fl net) j
          standing j d =
              subst (λ (l : List Item). Contains l j) (append_assoc net.pending net.waiting (flat_map (takes fl) done))
              (Contains-append_left (net.pending ++ net.waiting) (flat_map (takes fl) done) j d)

          few : (x : Spot) → hits_at x (net.pending ++ net.waiting) ≤ 1
          few x =
              let f : Item → ℕ = λ (j : Item). one (same_spot x (spot_of j)) in
              let a = total-append f net.pending (net.waiting ++ flat_map (takes fl) done) in let b = total-append f net.waiting (flat_map (takes fl) done) in
              let e = total-append f net.pending net.waiting in let o = once_all fl w inputs net k.sound x in omega (arith, a, b, e, o)

      pub given_is : log.given ≡ items_at c (Giver n) net.waiting
      given_is = ap (λ (t : Bool). if t then granted_of net c n else items_at c (Giver n) net.waiting) giver_over

      pub given_more : log.given < log.granted
      given_more = let a = given_is in let b = giver_counted in omega (arith, a, b)

      pub granted_within : log.granted ≤ log.given + most
      granted_within = (keeps fl p w inputs q m good k c con n l).law.bound

    giver_free : (g : ℕ) → frame_at fl done c ≡ Some g → i.inlet.part ≡ Giver n → (v : Word) → Free g (Giver n) v
    giver_free g at ir v = free_by g at (Giver n) ir l refl rows.0 (λ y. refl) v
        (λ a y. ap (λ (s : SlotState). excluded_by (gives a y most s))
        (open_form fl p w inputs q m good k c con n l (opened_by (giver_opened ir)) (giver_over ir))
        ∙ gives_ok a y log.draining (log.granted - log.given) (most - (log.granted - log.given)) (let more = given_more ir in omega (arith, more))
        (let more = given_more ir in let within = granted_within ir in omega (arith, more, within)))

  -- EACH OF THEM
  context : (i : Item) → Contains net.pending i → IsContext fl i.context
  context i d = (fits_in fl p w inputs q m good k i (pending_in fl p w inputs q m good k i d)).is_context

  at_frame : (i : Item) (g : ℕ) → frame_at fl done i.context ≡ Some g → (r : Part)
      → stuck_rule p.program m.store (To.Instr g (ip_of fl p w i.context r) i.inlet.port) (word_of fl p w done i.word) ≡ None
      → stuck_rule p.program m.store (To.Instr (frame_of fl done i.context) (ip_of fl p w i.context r) i.inlet.port) (word_of fl p w done i.word) ≡ None
  at_frame i g at r h =
      ap (λ (f : ℕ). stuck_rule p.program m.store (To.Instr f (ip_of fl p w i.context r) i.inlet.port) (word_of fl p w done i.word)) (ap or_zero at) ∙ h

  part_free : (i : Item) → Contains net.pending i → (r : Part) → i.inlet.part ≡ r → is_credit_part r ≡ true → spot_there fl w i.context r ≡ true → (g : ℕ)
      → frame_at fl done i.context ≡ Some g
      → stuck_rule p.program m.store (to_of fl p w done i r) (word_of fl p w done i.word) ≡ None
  part_free i d (Opener n) e u h g at = at_frame i g at (Opener n) (opener_free i.context (context i d) n h i d refl g at e (word_of fl p w done i.word))
  part_free i d (Giver n) e u h g at = at_frame i g at (Giver n) (giver_free i.context (context i d) n h i d refl g at e (word_of fl p w done i.word))
  part_free i d (Taker n) e u h g at = at_frame i g at (Taker n) (taker_free i.context (context i d) n h i d refl g at e)
  part_free i d (Drainer n) e u h g at = at_frame i g at (Drainer n) (drainer_free i.context (context i d) n h i d refl g at e (word_of fl p w done i.word))
  part_free i d r e u h g at = absurd (true≢false (sym u))

  pub credits_take_them : (i : Item) → Contains net.pending i → is_credit_part i.inlet.part ≡ true
      → stuck_rule p.program m.store (to_of fl p w done i i.inlet.part) (word_of fl p w done i.word) ≡ None
  credits_take_them i d u =
      let g = k.tracks.stands.known i (pending_in fl p w inputs q m good k i d) in
      part_free i d i.inlet.part refl u (fits_in fl p w inputs q m good k i (pending_in fl p w inputs q m good k i d)).there g.0 g.1
