-- Each frame and each credit that a run asks for is for an invocation that the meaning calls for, and for each once.
use Rattle.std.proofs.Common.{◌≡◌, ◌≢◌, ℕ, zero, suc, ◌+◌, ℤ, true, false, ◌⊎◌, inl, inr, List, [], ◌∷◌, refl, sym, ap, ◌∙◌, subst, arith, true≢false, ltb-true}
use Rattle.std.proofs.Common.{eqb-true, ◌==◌}
use Rattle.std.specs.Prelude.{Contains}
use Rattle.lemmas.proofs.Contains.{contains_cases, contains_none}
use Rattle.tags.specs.declared.token.Port.{Port}
use Rattle.tags.specs.declared.token.Port.TheVariants.{Left, Right}
use Rattle.semantics.specs.Graph.{Flow}
use Rattle.semantics.specs.Plan.{Plan}
use Rattle.semantics.specs.Meaning as Meaning
use Rattle.semantics.specs.Meaning.{Context, Main, Called, Turned, Due}
use Rattle.semantics.specs.Machine.{Machine}
use Rattle.semantics.specs.Cause.{HasCause, SameSeen, is_turn}
use Rattle.law_net.specs.ContextsParts.{Part, turn_in, Framer, Opener, Taker, Asked, NextAsked, NextFramer, inlet, Item, Firing}
use Rattle.law_net.specs.ContextsBlocks.{is_loop}
use Rattle.law_net.specs.Contexts.{Wires, block_in, child, next}
use Rattle.law_net.specs.ContextsLaws.{spot_there, way_fits, port_fits}
use Rattle.law_net.specs.ContextsFirings.{HasFired, is_firing}
use Rattle.law_net.specs.ContextsMirror.{Past}
use Rattle.law_net.specs.ContextsTheorem.{IsGood}
use Rattle.law_net.specs.ContextsPackages.{Keeps, InputsFit}
use Rattle.law_net.proofs.WiredSends.{all_from, first_taken, takes_first}
use Rattle.law_net.proofs.WiredInvoked.{Child, ByCall, ByLoop, child_cases}
use Rattle.law_net.proofs.WiredNets.{count_total, some_of, taken_in}
use Rattle.law_net.proofs.RunsPigeons.{firing_there}
use Rattle.law_net.proofs.CreditsOpened.{NAsked}
use Rattle.law_net.proofs.Credits.{near_opened}
use Rattle.law_net.proofs.WiredFed.{UNot}
use Rattle.law_end.proofs.OverMade.{Mirrors, is_first, fits, taken_stands, given_by, taker_by}
use Rattle.law_end.specs.CausesCounted.{frame_for, credit_for, frames, credits}
use Rattle.law_end.specs.Rest.{AllCausedByMeaning}
use Rattle.law_end.proofs.RestStory.{story}
use Rattle.law_end.proofs.CausesDues.{IsDue}
use Rattle.law_end.proofs.CausesCalled.{asked_due, opened_due, taker_due}
use Rattle.law_end.proofs.CausesAsked.{counts}

alone : (c d : Context) → Contains (d ∷ []) c → c ≡ d
alone c d h = go (contains_cases d [] c h)
  where
    go : (d ≡ c) ⊎ Contains [] c → c ≡ d
    go (inl e) = sym e
    go (inr k) = absurd (contains_none c k)

turned_not_main : (c : Context) (n t : ℕ) → Turned c n t ≢ Main
turned_not_main c n t e = cc

called_not_main : (c : Context) (n : ℕ) → Called c n ≢ Main
called_not_main c n e = cc

module _ (fl : Flow) (p : Plan) (w : Wires) (inputs : List ℤ) (past : Past) (m : Machine) (good : IsGood fl p w) (fit : InputsFit fl inputs)
    (kept : Keeps fl p w inputs past m) where
  abbrev fired : List Firing
  fired = kept.tracks.net.fired

  abbrev Stood : Item → Type 0
  Stood i = Mirrors fl p w inputs past m good fit kept i

  abbrev DueHere : Context → Type 0
  DueHere c = IsDue fl p w inputs past m good fit kept good.earlier c × (c ≢ Main)

  there : (i : Item) → Stood i → (r : Part) → i.inlet.part ≡ r → spot_there fl w i.context r ≡ true
  there i s r e = ap (spot_there fl w i.context) (sym e) ∙ (fits fl p w inputs past m good fit kept i s).there

  -- what asks for a frame is at the one inlet of its part
  asked_inlet : (i : Item) → Stood i → (r : Part) → i.inlet.part ≡ r → port_fits fl i.context r Right ≡ false
      → ((t : ℕ) → way_fits fl i.context r Left t ≡ (t == 0)) → i.inlet ≡ inlet r Left 0
  asked_inlet i s r e none ways = λ j. record { part = e j; port = left j; way = zero_way j }
    where
      left : i.inlet.port ≡ Left
      left = go i.inlet.port refl
        where
          go : (x : Port) → i.inlet.port ≡ x → i.inlet.port ≡ Left
          go Left g = g
          go Right g =
              absurd (true≢false (sym ((λ j. port_fits fl i.context (sym e j) (sym g j)) ∙ (fits fl p w inputs past m good fit kept i s).port) ∙ none))

      zero_way : i.inlet.way ≡ 0
      zero_way =
          eqb-true i.inlet.way 0 (sym (ways i.inlet.way) ∙ (λ j. way_fits fl i.context (sym e j) (sym left j) i.inlet.way)
          ∙ (fits fl p w inputs past m good fit kept i s).way)

  only : (d : Context) (q : Part) (t : ℕ) → (h : Firing) × Contains fired h × (h.context ≡ d) × (h.part ≡ q) × (turn_in q h.way ≡ t) → HasFired d q fired
  only d q t (h, e, a, g, u) = (h, e, a, g)

  never : (r : Part) → is_first r ≡ false → (c : Context) → c ≡ Main → is_first r ≡ true → ⊥
  never r e c a g = true≢false (sym g ∙ e)

  -- a call's frame
  framer : (i : Item) (n : ℕ) → Stood i → i.inlet.part ≡ Asked n → HasFired i.context (Framer n) fired
  framer i n s e = only i.context (Framer n) 0
      (given_by fl p w inputs past m good fit kept i.context (inlet (Asked n) Left 0) (UNot refl) (never (Asked n) refl i.context) i.context
      (Framer n) 0 refl i s refl
      (asked_inlet i s (Asked n) e refl (λ t. refl)))

  -- a loop's first frame: its opener has fired before
  opener : (i : Item) (n : ℕ) → Stood i → i.inlet.part ≡ Asked n → is_loop (block_in fl i.context) n ≡ true → DueHere (Turned i.context n 0)
  opener i n s e loop =
      let some = near_opened fl p w inputs past m good kept i.context (fits fl p w inputs past m good fit kept i s).is_context n loop i s
      (NAsked refl e) in
      let f = some_of (is_firing i.context (Opener n)) fired (let a = count_total (is_firing i.context (Opener n)) fired in omega (arith, some, a)) in
      let at = firing_there i.context (Opener n) f.0 f.2 in
      by_firing f.0 f.1 at.0 at.1
    where
      by_firing : (h : Firing) → Contains fired h → h.context ≡ i.context → h.part ≡ Opener n → DueHere (Turned i.context n 0)
      by_firing h d a b =
          let x : Item = first_taken fl w h h.part in
          let stands = taken_stands fl p w inputs past m good fit kept x (taken_in fl fired h x d (takes_first fl w h)) in
          let part : x.inlet.part ≡ Opener n = ap (λ (r : Part). (first_taken fl w h r).inlet.part) b in
          let context : x.context ≡ i.context = ap (λ (r : Part). (first_taken fl w h r).context) b ∙ a in (
            subst (λ (c : Context). IsDue fl p w inputs past m good fit kept good.earlier (Turned c n 0)) context
                (opened_due fl p w inputs past m good fit kept good.earlier x stands n part),
            turned_not_main i.context n 0,
          )

  -- the frame of a turn after another: its credit was taken before
  next_turn : (i : Item) (d : Context) (n t : ℕ) → Stood i → i.inlet.part ≡ NextAsked → i.context ≡ Turned d n t → DueHere (Turned d n (suc t))
  next_turn i d n t s e g =
      let asked = only i.context NextFramer 0
      (given_by fl p w inputs past m good fit kept i.context (inlet NextAsked Left 0) (UNot refl)
      (never NextAsked refl i.context) i.context NextFramer 0 refl i s refl
      (asked_inlet i s NextAsked e refl (λ t. refl))) in
      let f = taker_by fl p w inputs past m good fit kept d n t (subst (λ (c : Context). HasFired c NextFramer fired) g asked) in
      by_firing f.0 f.1 f.2 f.3 f.4
    where
      by_firing : (h : Firing) → Contains fired h → h.context ≡ d → h.part ≡ Taker n → h.way ≡ suc t → DueHere (Turned d n (suc t))
      by_firing h c a b v =
          let x : Item = first_taken fl w h h.part in
          let stands = taken_stands fl p w inputs past m good fit kept x (taken_in fl fired h x c (takes_first fl w h)) in
          let part : x.inlet.part ≡ Taker n = ap (λ (r : Part). (first_taken fl w h r).inlet.part) b in
          let way : x.inlet.way ≡ suc t = ap (λ (r : Part). (first_taken fl w h r).inlet.way) b ∙ v in
          let context : x.context ≡ d = ap (λ (r : Part). (first_taken fl w h r).context) b ∙ a in (
            subst (λ (c : Context). IsDue fl p w inputs past m good fit kept good.earlier (Turned c n (suc t))) context
                (taker_due fl p w inputs past m good fit kept good.earlier x stands n t part way),
            turned_not_main d n (suc t),
          )

  frame_due : (c : Context) (i : Item) → Stood i → (r : Part) → i.inlet.part ≡ r → Contains (frame_for fl i.context r) c → DueHere c
  frame_due c i s (Asked n) e h =
      subst DueHere (sym (alone c (child fl i.context n) h))
      (by_child (child fl i.context n) (child_cases fl p w good i.context n (there i s (Asked n) e)))
    where
      by_child : (d : Context) → Child fl p w good i.context n d → DueHere d
      by_child d (ByCall call g) =
          subst DueHere (sym g) (asked_due fl p w inputs past m good fit kept good.earlier i s n e call (framer i n s e), called_not_main i.context n)
      by_child d (ByLoop loop g) = subst DueHere (sym g) (opener i n s e loop)
  frame_due c i s NextAsked e h = subst DueHere (sym (alone c (next i.context) h)) (by_context i.context refl (there i s NextAsked e))
    where
      by_context : (d : Context) → i.context ≡ d → is_turn d ≡ true → DueHere (next d)
      by_context (Turned d n t) g k = let same : suc t ≡ t + 1 = omega arith in subst (λ (u : ℕ). DueHere (Turned d n u)) same (next_turn i d n t s e g)
      by_context d g k = absurd (true≢false (sym k))
  frame_due c i s r e h = absurd (contains_none c h)

  credit_due : (c : Context) (i : Item) → Stood i → (r : Part) → i.inlet.part ≡ r → Contains (credit_for i.context r i.inlet.way) c → DueHere c
  credit_due c i s (Opener n) e h =
      subst DueHere (sym (alone c (Turned i.context n 0) h))
      (opened_due fl p w inputs past m good fit kept good.earlier i s n e, turned_not_main i.context n 0)
  credit_due c i s (Taker n) e h = subst DueHere (sym (alone c (Turned i.context n i.inlet.way) h)) (by_way i.inlet.way refl)
    where
      by_way : (t : ℕ) → i.inlet.way ≡ t → DueHere (Turned i.context n t)
      by_way zero g =
          let more = ltb-true 0 i.inlet.way (ap (λ (r : Part). way_fits fl i.context r i.inlet.port i.inlet.way) (sym e)
          ∙ (fits fl p w inputs past m good fit kept i s).way) in
          absurd (omega (arith, more, g))
      by_way (suc t) g = (taker_due fl p w inputs past m good fit kept good.earlier i s n t e g, turned_not_main i.context n (suc t))
  credit_due c i s r e h = absurd (contains_none c h)

  pub has_cause : HasCause fl p.program inputs past.events m
  has_cause =
      let asked = counts fl p w inputs past m good kept in
      let meant = story fl p w inputs past m good fit kept in
      record {
        run = meant.run;
        state = meant.state;
        is_run = meant.is_run;
        seen = subst (λ (s : Meaning.Memory). SameSeen m.store s) (sym meant.memory_is) kept.tracks.stands.seen;
        due = asked.due;
        are_due = (all_from DueHere asked.due (λ c h. let i = asked.arrives c h in by_item c i.0 i.1 i.2), asked.apart);
        enough = asked.enough;
        credits = asked.turns;
      }
    where
      by_item : (c : Context) (i : Item) → Stood i → Contains (frames fl i) c ⊎ Contains (credits i) c → DueHere c
      by_item c i s (inl h) = frame_due c i s i.inlet.part refl h
      by_item c i s (inr h) = credit_due c i s i.inlet.part refl h

pub all_caused_by_meaning : AllCausedByMeaning
all_caused_by_meaning fl p w inputs past m good fit kept = has_cause fl p w inputs past m good fit kept
