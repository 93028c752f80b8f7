-- What has fired before a part of a context, where its word comes from another context, or from a part of one kind alone.
use Rattle.std.proofs.Common.{◌≡◌, ℕ, suc, ◌≤◌, ℤ, Bool, true, false, not, ◌⊎◌, inl, inr, List, refl, sym, ap, ◌∙◌, subst, arith, true≢false, lt-ltb, ◌+◌}
use Rattle.std.specs.Prelude.{Contains}
use Rattle.tags.specs.declared.token.Port.TheVariants.{Left}
use Rattle.semantics.specs.declared.graph.Region.TheVariants.{Root, Arm}
use Rattle.semantics.specs.Graph.{Flow}
use Rattle.semantics.specs.Meaning.{Context, Main, Called, Turned}
use Rattle.semantics.specs.Cause.{is_turn}
use Rattle.semantics.specs.Plan.{Plan}
use Rattle.semantics.specs.Machine.{Machine}
use Rattle.law_net.specs.ContextsParts.{Part, Entry, Fanned, Linker, Giver, TurnCont, Asker, NextFramer, NextFanned, NextSender, End, Drained, Inlet, inlet}
use Rattle.law_net.specs.ContextsParts.{signal, Item, item, Firing}
use Rattle.law_net.specs.ContextsBlocks.{Side, there_in, is_loop, flag, leaves_in}
use Rattle.law_net.specs.Contexts.{Wires, block_in, site_in, wiring_in, IsContext}
use Rattle.law_net.specs.ContextsWires.{ItsReturn, ChildFrame, NextFrame, Suits, arrives_at, goes_from, is_unwired, wired_way}
use Rattle.law_net.specs.ContextsFirings.{HasFired}
use Rattle.law_net.specs.ContextsLaws.{maker_of}
use Rattle.law_net.specs.ContextsMirror.{Past}
use Rattle.law_net.specs.ContextsTheorem.{IsGood}
use Rattle.law_net.specs.ContextsPackages.{InputsFit, Keeps}
use Rattle.law_net.proofs.WiredSends.{in_context, sent_facts}
use Rattle.law_net.proofs.WiredFed.{UUnwired}
use Rattle.law_net.proofs.CreditsTurns.{credit_taken}
use Rattle.law_end.proofs.OverSorts.{IsHere, laws, Hands, HFramer, HNextFramer, HAsker, HCall, HLoop}
use Rattle.law_end.proofs.OverPaths.{Wire, wire_of}
use Rattle.law_end.proofs.OverMade.{fired, Mirrors, taken_stands, fit_of, sent_by, given_by, asked_by, framer_by, next_asked_by, next_framer_by, taker_by}
use Rattle.law_end.proofs.OverMade.{asker_by, call_by, drained_by, call_linked, loop_linked, turn_linked}
use Rattle.law_end.proofs.OverOpen.{first_of}

-- the parts from which continuations and frames go
pub return_from : (q : Part) → ItsReturn ≡ goes_from q → (q ≡ Entry) ⊎ (q ≡ TurnCont)
return_from Entry e = inl refl
return_from TurnCont e = inr refl
return_from (Fanned n) e = absurd (cc)
return_from NextFanned e = absurd (cc)
return_from q e = absurd (cc)

pub frame_from : (n : ℕ) (q : Part) → ChildFrame n ≡ goes_from q → q ≡ Fanned n
frame_from n (Fanned l) e = let same : n ≡ l = cc in ap Fanned (sym same)
frame_from n Entry e = absurd (cc)
frame_from n TurnCont e = absurd (cc)
frame_from n NextFanned e = absurd (cc)
frame_from n q e = absurd (cc)

pub next_frame_from : (q : Part) → NextFrame ≡ goes_from q → q ≡ NextFanned
next_frame_from NextFanned e = refl
next_frame_from Entry e = absurd (cc)
next_frame_from TurnCont e = absurd (cc)
next_frame_from (Fanned n) e = absurd (cc)
next_frame_from q e = absurd (cc)

module _ (fl : Flow) (p : Plan) (w : Wires) (inputs : List ℤ) (past : Past) (m : Machine) (good : IsGood fl p w) (fit : InputsFit fl inputs)
    (kept : Keeps fl p w inputs past m) where
  abbrev done : List Firing
  done = fired fl p w inputs past m good fit kept

  abbrev Stood : Item → Type 0
  Stood i = Mirrors fl p w inputs past m good fit kept i

  pub context_of : (c : Context) (r : Part) → HasFired c r done → IsContext fl c
  context_of c r (h, d, a, e) = subst (IsContext fl) a (in_context fl w h (fit_of fl p w inputs past m good fit kept h d))

  -- WHO SENT what arrived along a wire, and of which kind
  module _ (c : Context) (con : IsContext fl c) where
    pub record Sent (x : Inlet) : Type 0 where
      pub from : Side
      pub wire : Wire fl p w good c con from x
      pub maker : HasFired c (maker_of (block_in fl c) from.part) (fired fl p w inputs past m good fit kept)
      pub suits : Suits (arrives_at x.part x.port) (goes_from from.part)

    pub sender_of : (i : Item) → Stood i → i.context ≡ c → (x : Inlet) → i.inlet ≡ x → IsHere fl p w good c con x.part
        → is_unwired (block_in fl c) x.part ≡ false → wired_way x.part x.way ≡ true → Sent x
    sender_of i stood a x e here given way =
        let there : there_in fl (site_in fl w i.context) (wiring_in fl w i.context) i.inlet.part ≡ true =
        (λ k. there_in fl (site_in fl w (a k)) (wiring_in fl w (a k)) (e k).part) ∙ here in
        let (h, d, sent) = sent_by fl p w inputs past m good fit kept i stood there ((λ k. is_unwired (block_in fl (a k)) (e k).part) ∙ given)
        (ap (λ (y : Inlet). wired_way y.part y.way) e ∙ way) in
        let at : h.context ≡ c = sym (ap (λ (i : Item). i.context) sent.is) ∙ a in
        let facts = sent_facts fl w h (fit_of fl p w inputs past m good fit kept h d) sent.from sent.along in
        let from : IsHere fl p w good c con sent.from.part =
        subst (λ (c : Context). there_in fl (site_in fl w c) (wiring_in fl w c) sent.from.part ≡ true) at facts.there in
        let goes : Contains ((wiring_in fl w c).wire sent.from) x =
        subst (λ (y : Inlet). Contains ((wiring_in fl w c).wire sent.from) y) e
        (subst (λ (c : Context). Contains ((wiring_in fl w c).wire sent.from) i.inlet) at sent.wire) in
        record {
          from = sent.from;
          wire = wire_of fl p w good c con sent.from x from goes;
          maker = (h, d, at, sym facts.maker ∙ ap (λ (c : Context). maker_of (block_in fl c) sent.from.part) at);
          suits = (laws fl p w good c con).leads.suits sent.from x from goes;
        }

    no_root_arm : (j : ℕ) (t : Bool) → Root ≡ Arm j t → ⊥
    no_root_arm j t e = absurd (cc)

    -- the last part gets the continuation from the first
    entry_by_end : HasFired c End done → HasFired c Entry done
    entry_by_end f =
        let (i, d, a, u, e) = first_of fl p w inputs past m good fit kept c con End refl f in
        let s = sender_of i (taken_stands fl p w inputs past m good fit kept i d) a (inlet End Left 0) e refl refl refl in
        pick s (return_from s.from.part s.suits)
      where
        pick : (s : Sent (inlet End Left 0)) → (s.from.part ≡ Entry) ⊎ (s.from.part ≡ TurnCont) → HasFired c Entry done
        pick s (inl e) = subst (λ (r : Part). HasFired c (maker_of (block_in fl c) r) done) e s.maker
        pick s (inr e) =
            absurd (no_root_arm (flag (block_in fl c)) (not s.from.second) (s.wire.region ∙ ap (λ (r : Part). leaves_in (block_in fl c) r s.from.second) e))

    -- a turn's sender of the next frame got it from what fans it out
    pub fanned_by_sender : (j : ℕ) → IsHere fl p w good c con (NextSender j) → HasFired c (NextSender j) done → HasFired c NextFanned done
    fanned_by_sender j h f =
        let (i, d, a, u, e) = first_of fl p w inputs past m good fit kept c con (NextSender j) h f in
        let s = sender_of i (taken_stands fl p w inputs past m good fit kept i d) a (inlet (NextSender j) Left 0) e h refl refl in
        subst (λ (r : Part). HasFired c (maker_of (block_in fl c) r) done) (next_frame_from s.from.part s.suits) s.maker

    pub fanned_by_linker : (n : ℕ) → IsHere fl p w good c con (Linker n) → HasFired c (Linker n) done → HasFired c (Fanned n) done
    fanned_by_linker n h f =
        let (i, d, a, u, e) = first_of fl p w inputs past m good fit kept c con (Linker n) h f in
        let s = sender_of i (taken_stands fl p w inputs past m good fit kept i d) a (inlet (Linker n) Left 0) e h refl refl in
        subst (λ (r : Part). HasFired c (maker_of (block_in fl c) r) done) (frame_from n s.from.part s.suits) s.maker

  pub entered_by : (c : Context) → HasFired c End done → HasFired c Entry done
  entered_by c f = entry_by_end c (context_of c End f) f

  -- A LOOP whose credits are all back: each turn up to the last is over
  module _ (c : Context) (con : IsContext fl c) (n : ℕ) (l : is_loop (block_in fl c) n ≡ true) where
    pub turn_ended : (h : Firing) → Contains done h → h.context ≡ c → h.part ≡ Drained n → (t : ℕ) → t ≤ h.turns → HasFired (Turned c n t) End done
    turn_ended h d a e t low =
        let i = item h.context (inlet (Giver n) Left t) signal in
        let stood = taken_stands fl p w inputs past m good fit kept i (credit_taken fl p w inputs past m good kept c con n l h d a e t low) in
        let (g, b, x, y, u) = given_by fl p w inputs past m good fit kept c (inlet (Giver n) Left t) (UUnwired refl) (λ q v. true≢false (sym v))
        (Turned c n t) End 0 refl i stood a refl in
        (g, b, x, y)

    -- and each after the first was asked for
    pub turn_asked : (t : ℕ) → HasFired (Turned c n (suc t)) End done → HasFired (Turned c n t) NextFramer done
    turn_asked t f =
        let sends = turn_linked fl p w inputs past m good fit kept c n t (entered_by (Turned c n (suc t)) f) in
        let inner = context_of (Turned c n t) (NextSender 0) sends in
        next_framer_by fl p w inputs past m good fit kept (Turned c n t)
        (next_asked_by fl p w inputs past m good fit kept (Turned c n t)
        (fanned_by_sender (Turned c n t) inner 0 (lt-ltb 0 ((block_in fl (Turned c n t)).inputs + 1) (omega arith)) sends))

  -- WHERE a word is passed on without a wire
  asked_back : (c : Context) → is_turn c ≡ true → HasFired c NextFramer done → HasFired c Asker done
  asked_back Main t f = absurd (true≢false (sym t))
  asked_back (Called c n) t f = absurd (true≢false (sym t))
  asked_back (Turned c n u) t f =
      let (h, d, a, e, g) = taker_by fl p w inputs past m good fit kept c n u f in asker_by fl p w inputs past m good fit kept c n u h d a e g

  pub handed_back : (c : Context) (con : IsContext fl c) (r q : Part) → IsHere fl p w good c con q → Hands fl p w good c con r q → HasFired c q done
      → HasFired c r done
  handed_back c con r q h hands f = by_hand hands f
    where
      by_hand : Hands fl p w good c con r q → HasFired c q done → HasFired c r done
      by_hand (HFramer n a b) f =
          subst (λ (r : Part). HasFired c r done) (sym a)
          (framer_by fl p w inputs past m good fit kept c n
          (asked_by fl p w inputs past m good fit kept c n (subst (λ (q : Part). HasFired c q done) b f)))
      by_hand (HNextFramer a b) f =
          subst (λ (r : Part). HasFired c r done) (sym a)
          (next_framer_by fl p w inputs past m good fit kept c
          (next_asked_by fl p w inputs past m good fit kept c (subst (λ (q : Part). HasFired c q done) b f)))
      by_hand (HAsker a b) f =
          subst (λ (r : Part). HasFired c r done) (sym a)
          (asked_back c (subst (λ (q : Part). IsHere fl p w good c con q) b h) (subst (λ (q : Part). HasFired c q done) b f))
      by_hand (HCall n e a b) f = subst (λ (r : Part). HasFired c r done) (sym a)
          (call_linked fl p w inputs past m good fit kept c n
          (entered_by (Called c n) (call_by fl p w inputs past m good fit kept c n (subst (λ (q : Part). HasFired c q done) b f))))
      by_hand (HLoop n e a b) f =
          let (h, d, x, y) = drained_by fl p w inputs past m good fit kept c n (subst (λ (q : Part). HasFired c q done) b f) in
          subst (λ (r : Part). HasFired c r done) (sym a)
          (loop_linked fl p w inputs past m good fit kept c n (entered_by (Turned c n 0) (turn_ended c con n e h d x y 0 (omega arith))))
