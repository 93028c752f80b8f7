-- When the last part of a context has fired, nothing of the context is left: no item of its code, no request, nothing held by a cell.
use Rattle.std.proofs.Common.{◌≡◌, ℕ, zero, suc, ◌<◌, ◌≤◌, ℤ, Bool, true, false, List, nat_lt, if◌then◌else◌, refl, sym, ap, ◌∙◌, subst, arith, true≢false}
use Rattle.std.proofs.Common.{eqb-true, ltb-true}
use Rattle.std.specs.Prelude.{Contains}
use Rattle.tags.specs.declared.token.Port.{Port}
use Rattle.tags.specs.declared.token.Port.TheVariants.{Left, Right}
use Rattle.semantics.specs.declared.graph.Region.TheVariants.{Root, Arm}
use Rattle.semantics.specs.Graph.{Flow}
use Rattle.semantics.specs.Meaning.{Context, Turned}
use Rattle.semantics.specs.Cause.{is_turn}
use Rattle.semantics.specs.Plan.{Plan}
use Rattle.semantics.specs.Machine.{Machine}
use Rattle.law_net.specs.ContextsParts.{Part, Line, Fanned, Sender, Giver, Taker, Drainer, LoopDone, NextFanned, End, Asked, NextAsked, InCell, Drained, Shown}
use Rattle.law_net.specs.ContextsParts.{Done, Freed, Inlet, inlet, signal, Item, item, Firing, spot_of}
use Rattle.law_net.specs.ContextsBlocks.{waits_in, invokes, is_cell, is_loop, lies_in, region_of, entered, flag}
use Rattle.law_net.specs.Contexts.{Wires, block_in, IsContext, is_strict_in}
use Rattle.law_net.specs.ContextsFirings.{right_way, HasFired}
use Rattle.law_net.specs.ContextsAround.{Way, ways_round}
use Rattle.law_net.specs.ContextsLaws.{spot_there, way_fits, port_fits, sender_way, arms_of, landing_arms}
use Rattle.law_net.specs.ContextsMirror.{Past}
use Rattle.law_net.specs.ContextsTheorem.{IsGood}
use Rattle.law_net.specs.ContextsPackages.{InputsFit, Keeps}
use Rattle.law_net.proofs.ContextsSames.{spot_is, inlet_is}
use Rattle.law_net.proofs.WiredSends.{first_taken, cell_plain}
use Rattle.law_net.proofs.RunsArrives.{one_spot}
use Rattle.law_net.proofs.WiredInvoked.{is_turned}
use Rattle.law_net.proofs.WiredRounds.{earlier_flag, under}
use Rattle.law_net.proofs.WiredRivals.{flag_at, turn_last, Order, Same, Before, After, order}
use Rattle.law_net.proofs.CreditsTurns.{credit_taken, drained_taken, no_later, taker_way, left_at, spot_at}
use Rattle.law_end.specs.Over.{IsDecided, IsOpen, is_turning, is_leaving, EndIsLast, EndsAreLast, CallsAreOver, LoopsAreOver, OfNets}
use Rattle.law_end.proofs.OverSorts.{IsHere}
use Rattle.law_end.proofs.OverMade.{fired, taken, Mirrors, taken_stands, left_stands, fits, allowed, twice, first_in, asked_by, next_asked_by, credit_gone}
use Rattle.law_end.proofs.OverMade.{call_by, drained_by}
use Rattle.law_end.proofs.OverOpen.{one_side, first_of, right_first, renewed_too, stands_open, root_open, region_open}
use Rattle.law_end.proofs.OverBack.{context_of, turn_ended, turn_asked}
use Rattle.law_end.proofs.Over.{all_over, maker_over}

module _ (fl : Flow) (p : Plan) (w : Wires) (inputs : List ℤ) (past : Past) (m : Machine) (good : IsGood fl p w) (fit : InputsFit fl inputs)
    (kept : Keeps fl p w inputs past m) where
  abbrev done : List Firing
  done = fired fl p w inputs past m good fit kept

  abbrev gone : List Item
  gone = taken fl p w inputs past m good fit kept

  abbrev Stood : Item → Type 0
  Stood i = Mirrors fl p w inputs past m good fit kept i

  -- THE SAME SPOT was taken
  abbrev Taken : Item → Type 0
  Taken i = (j : Item) × Contains gone j × (spot_of j ≡ spot_of i)

  abbrev strays : Part → Bool
  strays (Giver n) = true
  strays (Taker n) = true
  strays (Sender n l) = true
  strays r = false

  same_spot_by : (i j : Item) → Stood i → Stood j → i.context ≡ j.context → i.inlet.part ≡ j.inlet.part → i.inlet.port ≡ j.inlet.port
      → strays j.inlet.part ≡ false → spot_of i ≡ spot_of j
  same_spot_by i j a d context part port apart = one_spot fl p w inputs past m good kept i j a d context part port (record {
    giver = λ n e. absurd (true≢false (ap strays (sym e) ∙ apart));
    taker = λ n e. absurd (true≢false (ap strays (sym e) ∙ apart));
    sender = λ n l e. absurd (true≢false (ap strays (sym e) ∙ apart));
  })

  module _ (c : Context) where
    way_here : (i : Item) → Stood i → i.context ≡ c → (r : Part) → i.inlet.part ≡ r → (x : Port) → i.inlet.port ≡ x → way_fits fl c r x i.inlet.way ≡ true
    way_here i s a r e x g =
        subst (λ (c : Context). way_fits fl c r x i.inlet.way ≡ true) a (subst (λ (x : Port). way_fits fl i.context r x i.inlet.way ≡ true) g
        (subst (λ (r : Part). way_fits fl i.context r i.inlet.port i.inlet.way ≡ true) e (fits fl p w inputs past m good fit kept i s).way))

    port_here : (i : Item) → Stood i → i.context ≡ c → (r : Part) → i.inlet.part ≡ r → port_fits fl c r i.inlet.port ≡ true
    port_here i s a r e =
        subst (λ (c : Context). port_fits fl c r i.inlet.port ≡ true) a
        (subst (λ (r : Part). port_fits fl i.context r i.inlet.port ≡ true) e (fits fl p w inputs past m good fit kept i s).port)

    pub there_here : (i : Item) → Stood i → i.context ≡ c → (r : Part) → i.inlet.part ≡ r → spot_there fl w c r ≡ true
    there_here i s a r e =
        subst (λ (c : Context). spot_there fl w c r ≡ true) a
        (subst (λ (r : Part). spot_there fl w i.context r ≡ true) e (fits fl p w inputs past m good fit kept i s).there)

    module _ (con : IsContext fl c) where
      abbrev Here : Part → Type 0
      Here r = IsHere fl p w good c con r

      -- an argument of a call
      sender_left : (n l : ℕ) → Here (Sender n l) → HasFired c (Sender n l) done → (i : Item) → Stood i → i.context ≡ c → i.inlet.part ≡ Sender n l
          → i.inlet.port ≡ Left → Taken i
      sender_left n l h f i s a e x =
          let (j, d, b, u, g) = first_of fl p w inputs past m good fit kept c con (Sender n l) h f in
          let way = way_here i s a (Sender n l) e Left x in
          (j, d, spot_is (spot_of j) (spot_of i) (b ∙ sym a) (g ∙ sym (inlet_is i.inlet (inlet (Sender n l) Left 0) e x (eqb-true i.inlet.way 0 way))))

      sender_right : (n l : ℕ) → HasFired c (Sender n l) done → (i : Item) → Stood i → i.context ≡ c → i.inlet.part ≡ Sender n l → i.inlet.port ≡ Right
          → Taken i
      sender_right n l f i s a e x = by_strict (is_strict_in fl c n) refl
        where
          first : (j : Item) × Contains gone j × (j.context ≡ c) × (j.inlet ≡ inlet (Sender n l) Right (right_way fl c (Sender n l)))
          first = right_first fl p w inputs past m good fit kept c con (Sender n l) f refl

          at_way : (j : Item) → Contains gone j → j.context ≡ c → (t : ℕ) → j.inlet ≡ inlet (Sender n l) Right t → i.inlet.way ≡ t → Taken i
          at_way j d b t g u = (j, d, spot_is (spot_of j) (spot_of i) (b ∙ sym a) (g ∙ sym (inlet_is i.inlet (inlet (Sender n l) Right t) e x u)))

          by_way : (j : Item) → Contains gone j → j.context ≡ c → j.inlet ≡ inlet (Sender n l) Right 1 → (t : ℕ) → i.inlet.way ≡ t → nat_lt t 2 ≡ true → Taken i
          by_way j d b g zero u v = let o = renewed_too fl p w inputs past m good fit kept c con n l j d b g in at_way o.0 o.1 o.2 0 o.3 u
          by_way j d b g (suc zero) u v = at_way j d b 1 g u
          by_way j d b g (suc (suc t)) u v = let k = ltb-true (suc (suc t)) 2 v in absurd (omega (arith, k))

          by_strict : (t : Bool) → is_strict_in fl c n ≡ t → Taken i
          by_strict false g = at_way first.0 first.1 first.2 0 (first.3 ∙ ap (λ (t : Bool). inlet (Sender n l) Right (if t then 1 else 0)) g)
              (eqb-true i.inlet.way 0 (subst (λ (t : Bool). sender_way t Right i.inlet.way ≡ true) g (way_here i s a (Sender n l) e Right x)))
          by_strict true g = by_way first.0 first.1 first.2 (first.3 ∙ ap (λ (t : Bool). inlet (Sender n l) Right (if t then 1 else 0)) g) i.inlet.way refl
              (subst (λ (t : Bool). sender_way t Right i.inlet.way ≡ true) g (way_here i s a (Sender n l) e Right x))

      plain_left : (r : Part) → Here r → strays r ≡ false → HasFired c r done → (i : Item) → Stood i → i.context ≡ c → i.inlet.part ≡ r → i.inlet.port ≡ Left
          → Taken i
      plain_left r h apart f i s a e x =
          let (j, d, b, u, g) = first_of fl p w inputs past m good fit kept c con r h f in (
            j,
            d,
            same_spot_by j i (taken_stands fl p w inputs past m good fit kept j d) s (b ∙ sym a) (ap (λ (x : Inlet). x.part) g ∙ sym e)
                (ap (λ (x : Inlet). x.port) g ∙ sym x) (ap strays e ∙ apart),
          )

      plain_right : (r : Part) → strays r ≡ false → HasFired c r done → (i : Item) → Stood i → i.context ≡ c → i.inlet.part ≡ r → i.inlet.port ≡ Right → Taken i
      plain_right r apart f i s a e x =
          let two : waits_in (block_in fl c) r ≡ true = subst (λ (x : Port). port_fits fl c r x ≡ true) x (port_here i s a r e) in
          let (j, d, b, g) = right_first fl p w inputs past m good fit kept c con r f two in (
            j,
            d,
            same_spot_by j i (taken_stands fl p w inputs past m good fit kept j d) s (b ∙ sym a) (ap (λ (x : Inlet). x.part) g ∙ sym e)
                (ap (λ (x : Inlet). x.port) g ∙ sym x) (ap strays e ∙ apart),
          )

      at_port : (r : Part) → Here r → strays r ≡ false → HasFired c r done → (i : Item) → Stood i → i.context ≡ c → i.inlet.part ≡ r → (x : Port)
          → i.inlet.port ≡ x → Taken i
      at_port r h apart f i s a e Left x = plain_left r h apart f i s a e x
      at_port r h apart f i s a e Right x = plain_right r apart f i s a e x

      sender_at : (n l : ℕ) → Here (Sender n l) → HasFired c (Sender n l) done → (i : Item) → Stood i → i.context ≡ c → i.inlet.part ≡ Sender n l → (x : Port)
          → i.inlet.port ≡ x → Taken i
      sender_at n l h f i s a e Left x = sender_left n l h f i s a e x
      sender_at n l h f i s a e Right x = sender_right n l f i s a e x

      -- what was at a part that fired was taken
      pub taken_at : (r : Part) → Here r → is_turning r ≡ false → HasFired c r done → (i : Item) → Stood i → i.context ≡ c → i.inlet.part ≡ r → Taken i
      taken_at (Sender n l) h t f i s a e = sender_at n l h f i s a e i.inlet.port refl
      taken_at (Giver n) h t f i s a e = absurd (true≢false t)
      taken_at (Taker n) h t f i s a e = absurd (true≢false t)
      taken_at r h t f i s a e = at_port r h refl f i s a e i.inlet.port refl

      -- or where no instruction is
      answer_taken : (r : Part) → (f : HasFired c r done) → (first_taken fl w f.0 r).inlet ≡ inlet r Left 0 → strays r ≡ false
          → waits_in (block_in fl c) r ≡ false → (i : Item) → Stood i → i.context ≡ c → i.inlet.part ≡ r → Taken i
      answer_taken r f first apart none i s a e =
          let (j, d, b, g) = first_in fl p w inputs past m good fit kept c r f in (
            j,
            d,
            same_spot_by j i (taken_stands fl p w inputs past m good fit kept j d) s (b ∙ sym a) (ap (λ (x : Inlet). x.part) (g ∙ first) ∙ sym e)
                (ap (λ (x : Inlet). x.port) (g ∙ first) ∙ sym (left i.inlet.port refl (port_here i s a r e))) (ap strays e ∙ apart),
          )
        where
          left : (x : Port) → i.inlet.port ≡ x → port_fits fl c r x ≡ true → i.inlet.port ≡ Left
          left Left g h = g
          left Right g h = absurd (true≢false (sym h ∙ none))

      -- A LOOP whose credits are all back
      module _ (n : ℕ) (l : is_loop (block_in fl c) n ≡ true) (h : Firing) (arrive : Contains done h) (hc : h.context ≡ c) (hp : h.part ≡ Drained n) where
        last_flag : IsDecided fl w done (flag_at fl p w good c con n h.turns) false
        last_flag =
            let i = item h.context (inlet (Drainer n) Left h.turns) h.left in
            (allowed fl p w inputs past m good fit kept i
            (taken_stands fl p w inputs past m good fit kept i (drained_taken fl p w inputs past m good kept c con n l h arrive hc hp))).arms
            (flag_at fl p w good c con n h.turns) false
            (subst (λ (d : Context). Contains (landing_arms fl d n h.turns true) (record { choice = flag_at fl p w good c con n h.turns; side = false }))
            (sym hc) (turn_last fl p w good c con n h.turns l))

        -- no turn is past the last
        no_turn_past : (t : ℕ) → h.turns < t → ((x : Way) → Contains (ways_round fl (Turned c n t)) x → IsDecided fl w done x.choice x.side) → ⊥
        no_turn_past t up all =
            let x = earlier_flag fl p w good c n h.turns t (is_turned fl p w good c n h.turns con l) up in
            true≢false (one_side fl p w inputs past m good fit kept (flag_at fl p w good c con n h.turns) true false
            (all (record { choice = flag_at fl p w good c con n h.turns; side = true }) x) last_flag)

        low_by : (t : ℕ) → (h.turns < t → ⊥) → Order t h.turns → t ≤ h.turns
        low_by t apart (Same e) = omega (arith, e)
        low_by t apart (Before e) = omega (arith, e)
        low_by t apart (After e) = absurd (apart e)

        pub turn_low : (i : Item) (t : ℕ) → Stood i → i.context ≡ Turned c n t → t ≤ h.turns
        turn_low i t s a = low_by t (λ up. no_turn_past t up (λ x d.
            root_open fl p w inputs past m good fit kept (Turned c n t) (is_turned fl p w good c n t con l)
            (entered (block_in fl (Turned c n t)) i.inlet.part i.inlet.way)
            (stands_open fl p w inputs past m good fit kept (Turned c n t) (is_turned fl p w good c n t con l) i s a) x
            (under fl (Turned c n t) Root x d))) (order t h.turns)

        giver_low : (i : Item) → Stood i → i.context ≡ c → i.inlet.part ≡ Giver n → i.inlet.way ≤ h.turns
        giver_low i s a e = low_by i.inlet.way (λ up. no_turn_past i.inlet.way up (λ x d.
            (allowed fl p w inputs past m good fit kept i s).arms x.choice x.side
            (subst (λ (d : Context). Contains (arms_of fl d i.inlet.part i.inlet.way) x) (sym a)
            (subst (λ (r : Part). Contains (arms_of fl c r i.inlet.way) x) (sym e) d)))) (order i.inlet.way h.turns)

        giver_taken : (i : Item) → Stood i → i.context ≡ c → i.inlet.part ≡ Giver n → Taken i
        giver_taken i s a e =
            let j = item h.context (inlet (Giver n) Left i.inlet.way) signal in (
              j,
              credit_taken fl p w inputs past m good kept c con n l h arrive hc hp i.inlet.way (giver_low i s a e),
              ap (λ (c : Context). record { context = c; inlet = inlet (Giver n) Left i.inlet.way }) hc
                  ∙ sym (spot_at fl p w inputs past m good kept c con n l i s a (Giver n) e refl i.inlet.way refl),
            )

        drainer_taken : (i : Item) → Stood i → i.context ≡ c → i.inlet.part ≡ Drainer n → Taken i
        drainer_taken i s a e =
            let j = item h.context (inlet (Drainer n) Left h.turns) h.left in
            let d = drained_taken fl p w inputs past m good kept c con n l h arrive hc hp in (
              j,
              d,
              same_spot_by j i (taken_stands fl p w inputs past m good fit kept j d) s (hc ∙ sym a) (sym e)
                  (sym (left_at fl p w inputs past m good kept c con n l i s a (Drainer n) e refl)) (ap strays e),
            )

        taker_taken : (i : Item) → Stood i → i.context ≡ c → i.inlet.part ≡ Taker n → Taken i
        taker_taken i s a e = by_way (taker_way fl p w inputs past m good kept c con n l i s a e)
          where
            by_item : (t : ℕ) → i.inlet.way ≡ suc t → (j : Item) × Contains gone j × (j.context ≡ c) × (j.inlet ≡ inlet (Taker n) Left (suc t)) → Taken i
            by_item t way (j, o, f, x) =
                let mine : spot_of j ≡ record { context = c; inlet = inlet (Taker n) Left (suc t) } =
                spot_is (spot_of j) (record { context = c; inlet = inlet (Taker n) Left (suc t) }) f x in
                (j, o, mine ∙ sym (spot_at fl p w inputs past m good kept c con n l i s a (Taker n) e refl (suc t) way))

            by_way : (t : ℕ) × (i.inlet.way ≡ suc t) → Taken i
            by_way (t, way) =
                let low = no_later fl p w inputs past m good kept c con n l h arrive hc hp i s a e in
                by_item t way (credit_gone fl p w inputs past m good fit kept c n t
                (turn_asked fl p w inputs past m good fit kept c con n l t
                (turn_ended fl p w inputs past m good fit kept c con n l h arrive hc hp (suc t) (omega (arith, low, way)))))

      -- THE LAST PART has fired
      module _ (last : HasFired c End done) where
        over : (r : Part) → Here r → is_turning r ≡ false → IsOpen fl w done c (region_of (block_in fl c) r) → HasFired c r done
        over r h t a = all_over fl p w inputs past m good fit kept c con last r h t a

        end_open : IsOpen fl w done c Root
        end_open =
            let (i, d, a, u, e) = first_of fl p w inputs past m good fit kept c con End refl last in
            root_open fl p w inputs past m good fit kept c con (entered (block_in fl c) i.inlet.part i.inlet.way)
            (stands_open fl p w inputs past m good fit kept c con i (taken_stands fl p w inputs past m good fit kept i d) a)

        asked_over : (n : ℕ) → invokes (block_in fl c) n ≡ true → IsOpen fl w done c (lies_in (block_in fl c) n) → HasFired c (Asked n) done
        asked_over n h a = asked_by fl p w inputs past m good fit kept c n (over (Fanned n) h refl a)

        next_asked_over : is_turn c ≡ true → IsOpen fl w done c (Arm (flag (block_in fl c)) true) → HasFired c NextAsked done
        next_asked_over h a = next_asked_by fl p w inputs past m good fit kept c (over NextFanned h refl a)

        held_over : (n : ℕ) → is_cell (block_in fl c) n ≡ true → IsOpen fl w done c (lies_in (block_in fl c) n) → HasFired c (InCell n) done
        held_over n h a =
            subst (λ (t : Bool). HasFired c (if t then InCell n else Line n) done) h
            (maker_over fl p w inputs past m good fit kept c con last (Line n) (cell_plain (block_in fl c) n h) refl refl refl a)

        drained_over : (n : ℕ) → is_loop (block_in fl c) n ≡ true → IsOpen fl w done c (lies_in (block_in fl c) n) → HasFired c (Drained n) done
        drained_over n h a = drained_by fl p w inputs past m good fit kept c n (over (LoopDone n) h refl a)

        -- its place is open
        stands_here : (i : Item) → Stood i → i.context ≡ c → (r : Part) → i.inlet.part ≡ r → IsOpen fl w done c (entered (block_in fl c) r i.inlet.way)
        stands_here i s a r e =
            subst (λ (r : Part). IsOpen fl w done c (entered (block_in fl c) r i.inlet.way)) e
            (stands_open fl p w inputs past m good fit kept c con i s a)

        code_taken : (r : Part) → Here r → is_turning r ≡ false → (i : Item) → Stood i → i.context ≡ c → i.inlet.part ≡ r → Taken i
        code_taken r h t i s a e =
            taken_at r h t (over r h t (region_open fl p w inputs past m good fit kept c con r i.inlet.way h t (stands_here i s a r e))) i s a e

        all_taken : (r : Part) → is_leaving r ≡ false → spot_there fl w c r ≡ true → (i : Item) → Stood i → i.context ≡ c → i.inlet.part ≡ r → Taken i
        all_taken (Asked n) v h i s a e = answer_taken (Asked n) (asked_over n h (stands_here i s a (Asked n) e)) refl refl refl i s a e
        all_taken NextAsked v h i s a e = answer_taken NextAsked (next_asked_over h (stands_here i s a NextAsked e)) refl refl refl i s a e
        all_taken (InCell n) v h i s a e =
            let f = held_over n h (stands_here i s a (InCell n) e) in answer_taken (InCell n) f (ap (λ (r : Part). inlet r Left 0) f.3) refl refl i s a e
        all_taken (Giver n) v h i s a e = let f = drained_over n h (stands_here i s a (Giver n) e) in giver_taken n h f.0 f.1 f.2 f.3 i s a e
        all_taken (Taker n) v h i s a e = let f = drained_over n h (stands_here i s a (Taker n) e) in taker_taken n h f.0 f.1 f.2 f.3 i s a e
        all_taken (Drainer n) v h i s a e = let f = drained_over n h (stands_here i s a (Drainer n) e) in drainer_taken n h f.0 f.1 f.2 f.3 i s a e
        all_taken (Drained n) v h i s a e = absurd (true≢false (sym h))
        all_taken (Shown j) v h i s a e = absurd (true≢false v)
        all_taken Done v h i s a e = absurd (true≢false v)
        all_taken Freed v h i s a e = absurd (true≢false v)
        all_taken r v h i s a e = code_taken r h refl i s a e

        end_is_last : EndIsLast fl w kept.tracks.net c
        end_is_last = record {
          opened = end_open;
          fired = over;
          asked = asked_over;
          next_asked = next_asked_over;
          held = held_over;
          drained = drained_over;
          none_left = λ i d a v.
              let s = left_stands fl p w inputs past m good fit kept i d in
              let (j, o, e) = all_taken i.inlet.part v (there_here i s a i.inlet.part refl) i s a refl in
              twice fl p w inputs past m good fit kept i j d o e;
        }

  pub ends_last : EndsAreLast fl w kept.tracks.net
  ends_last c last = end_is_last c (context_of fl p w inputs past m good fit kept c End last) last

  pub calls_over : CallsAreOver fl w kept.tracks.net
  calls_over c n f = call_by fl p w inputs past m good fit kept c n f

  pub loops_over : LoopsAreOver fl w kept.tracks.net
  loops_over c n f =
      let con = context_of fl p w inputs past m good fit kept c (LoopDone n) f in
      let (i, d, a, e) = first_in fl p w inputs past m good fit kept c (LoopDone n) f in
      let l : is_loop (block_in fl c) n ≡ true =
      there_here c i (taken_stands fl p w inputs past m good fit kept i d) a (LoopDone n) (ap (λ (x : Inlet). x.part) e) in
      let (h, b, x, y) = drained_by fl p w inputs past m good fit kept c n f in
      record {
        turns = h.turns;
        ended = λ t low. turn_ended fl p w inputs past m good fit kept c con n l h b x y t low;
        none_later = λ j t o v. turn_low c con n l h b x y j t (left_stands fl p w inputs past m good fit kept j o) v;
      }

pub ends_are_last : OfNets EndsAreLast
ends_are_last fl p w inputs past m good fit kept = ends_last fl p w inputs past m good fit kept

pub calls_are_over : OfNets CallsAreOver
calls_are_over fl p w inputs past m good fit kept = calls_over fl p w inputs past m good fit kept

pub loops_are_over : OfNets LoopsAreOver
loops_are_over fl p w inputs past m good fit kept = loops_over fl p w inputs past m good fit kept
