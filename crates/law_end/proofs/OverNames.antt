-- When a context's last part has fired, no word that is left names it.
use Rattle.std.proofs.Common.{◌≡◌, ℕ, zero, suc, ◌+◌, ℤ, Bool, true, false, List, [], ◌∷◌, ◌++◌, Some, None, if◌then◌else◌, refl, sym, ap, ◌∙◌, subst, arith}
use Rattle.std.proofs.Common.{true≢false, ltb-true, lt-ltb, nat_lt}
use Rattle.std.specs.Prelude.{Contains, pos}
use Rattle.std.proofs.lemmas.Bool.{and_parts}
use Rattle.std.proofs.lemmas.Option.{same_Some}
use Rattle.tags.specs.declared.token.Port.{Port}
use Rattle.tags.specs.declared.token.Port.TheVariants.{Left, Right}
use Rattle.tags.specs.declared.value.Value.{Value}
use Rattle.tags.specs.declared.value.Value.TheVariants.{Int}
use Rattle.semantics.specs.Graph.{Flow}
use Rattle.semantics.specs.Meaning.{Context, Main, Called, Turned}
use Rattle.semantics.specs.Cause.{is_turn}
use Rattle.semantics.specs.Plan.{Plan}
use Rattle.semantics.specs.Machine.{Machine}
use Rattle.law_net.specs.ContextsParts.{Part, Entry, Line, Opener, Framer, Fanned, Linker, Sender, Taker, Strict, Result, TurnCont, Asker, NextFramer}
use Rattle.law_net.specs.ContextsParts.{NextFanned, NextSender, LastReturn, DrainReturn, Join, End, Asked, NextAsked, InCell, Drained, Inlet, inlet}
use Rattle.law_net.specs.ContextsParts.{Note, Datum}
use Rattle.law_net.specs.ContextsParts.{signal, Item, Firing, spot_of}
use Rattle.law_net.specs.ContextsBlocks.{there_in, Side, invokes, is_cell, source_count}
use Rattle.law_net.specs.Contexts.{Wires, block_in, site_in, wiring_in, IsContext, child, next, return_of}
use Rattle.law_net.specs.ContextsWires.{Carried, Anything, AValue, ItsReturn, Request, Reader, arrives_at, goes_from, is_frame, Suits, is_unwired, wired_way}
use Rattle.law_net.specs.ContextsFirings.{line_value, value_in, sent_word, turn_before, back_from, HasFired}
use Rattle.law_net.specs.ContextsLaws.{Carries, WordFits, way_fits, port_fits, spot_there, maker_of, arms_of}
use Rattle.law_net.specs.ContextsMirror.{Past, named_by}
use Rattle.law_net.specs.ContextsTheorem.{IsGood}
use Rattle.law_net.specs.ContextsPackages.{InputsFit, Keeps}
use Rattle.law_net.proofs.ContextsWords.{carries_of}
use Rattle.law_net.proofs.ContextsSames.{spot_is, inlet_is}
use Rattle.law_net.proofs.WiredSends.{side_by, first_taken, takes_first, sent_facts, in_context}
use Rattle.law_net.proofs.WiredInvoked.{lawful_at, Child, ByCall, ByLoop, child_cases}
use Rattle.law_net.proofs.WiredNets.{taken_in}
use Rattle.law_net.proofs.WiredFed.{Unwired, UUnwired}
use Rattle.law_net.proofs.WiredGifts.{Gift, GHeld, GAsked, GArgument, GFanned, GEntry, GInput, GShown, GLanding, GLeaves, GDrains, GFreed, GDone, GCallDone}
use Rattle.law_net.proofs.WiredGifts.{GGiver, GTaker, GNextFramer, GNextAsked, GNextFanned, GNextEntry, GNextInput, GLoopDone}
use Rattle.law_end.specs.Over.{is_leaving, is_turning}
use Rattle.law_end.proofs.OverSorts.{IsHere}
use Rattle.law_end.proofs.OverMade.{is_first, fired, taken, Mirrors, taken_stands, left_stands, fits, allowed, word, fit_of, twice, sent_by, gift_by}
use Rattle.law_end.proofs.OverMade.{credit_gone}
use Rattle.law_end.proofs.OverBack.{context_of, fanned_by_linker, fanned_by_sender}
use Rattle.law_end.proofs.OverLeft.{there_here, taken_at, ends_last}
use Rattle.law_end.proofs.OverKin.{called_over, turned_over, FrameUsed, call_sent, loop_sent, next_sent}

-- WHICH WORD arrives at an inlet
pub data Bears (r : Part) (x : Port) : Type 0 where
  BValue : arrives_at r x ≡ AValue → Bears r x
  BReturn : arrives_at r x ≡ ItsReturn → is_leaving r ≡ false → Bears r x
  BFanned : (n : ℕ) → r ≡ Fanned n → Bears r x
  BLinker : (n : ℕ) → r ≡ Linker n → Bears r x
  BSender : (n l : ℕ) → r ≡ Sender n l → x ≡ Left → Bears r x
  BNextFanned : r ≡ NextFanned → Bears r x
  BNextSender : (j : ℕ) → r ≡ NextSender j → x ≡ Left → Bears r x
  BCredit : (n : ℕ) → r ≡ Taker n → Bears r x
  BRequest : (q : Part) → arrives_at r x ≡ Request q → is_leaving r ≡ false → Bears r x
  BReader : (n : ℕ) → arrives_at r x ≡ Reader n → is_leaving r ≡ false → Bears r x
  BAsk : r ≡ NextFramer → Bears r x
  BAny : arrives_at r x ≡ Anything → is_leaving r ≡ false → ((b : _) → is_unwired b r ≡ false)
      → ((fl : Flow) (w : Wires) (c : Context) → spot_there fl w c r ≡ there_in fl (site_in fl w c) (wiring_in fl w c) r)
      → ((fl : Flow) (c : Context) (t : ℕ) → way_fits fl c r x t ≡ wired_way r t) → Bears r x

sends_next : (j : ℕ) → Bears (NextSender j) Right
sends_next zero = BReturn refl refl
sends_next (suc j) = BValue refl

pub bears : (r : Part) (x : Port) → Bears r x
bears Entry x = BReturn refl refl
bears (Framer n) x = BAny refl refl (λ b. refl) (λ fl w c. refl) (λ fl c t. refl)
bears (Opener n) x = BAny refl refl (λ b. refl) (λ fl w c. refl) (λ fl c t. refl)
bears NextFramer x = BAsk refl
bears (Strict n i) x = BAny refl refl (λ b. refl) (λ fl w c. refl) (λ fl c t. refl)
bears (Join r i) x = BAny refl refl (λ b. refl) (λ fl w c. refl) (λ fl c t. refl)
bears (Fanned n) x = BFanned n refl
bears (Linker n) x = BLinker n refl
bears (Sender n i) Left = BSender n i refl refl
bears (Result j) Left = BReturn refl refl
bears TurnCont Left = BReturn refl refl
bears Asker Left = BReturn refl refl
bears NextFanned x = BNextFanned refl
bears (NextSender j) Left = BNextSender j refl refl
bears (NextSender j) Right = sends_next j
bears (LastReturn j) Left = BReturn refl refl
bears DrainReturn Left = BReturn refl refl
bears End Left = BReturn refl refl
bears End Right = BAny refl refl (λ b. refl) (λ fl w c. refl) (λ fl c t. refl)
bears (Taker n) x = BCredit n refl
bears (Asked n) x = BRequest (Fanned n) refl refl
bears NextAsked x = BRequest NextFanned refl refl
bears (InCell n) x = BReader n refl refl
bears r x = BValue refl

-- A CONTEXT THAT A WORD NAMES
none_some : (d : Context) → None ≡ Some d → ⊥
none_some d e = absurd (cc)

value_not : (k : Note) (d : Context) → (v : Value) × (k ≡ Datum v) → named_by k ≡ Some d → ⊥
value_not k d (v, e) g = none_some d (ap named_by (sym e) ∙ g)

data Returns (c d : Context) : Type 0 where
  FromCall : (n : ℕ) → d ≡ Called c n → Returns c d
  FromTurn : (n t : ℕ) → d ≡ Turned c n t → Returns c d

returns_to : (d c : Context) → named_by (return_of d) ≡ Some c → Returns c d
returns_to Main c e = absurd (none_some c e)
returns_to (Called d n) c e = FromCall n (ap (λ (x : Context). Called x n) (same_Some d c e))
returns_to (Turned d n t) c e = FromTurn n t (ap (λ (x : Context). Turned x n t) (same_Some d c e))

data Goes (q : Part) : Type 0 where
  GoValue : goes_from q ≡ AValue → Goes q
  GoReturn : goes_from q ≡ ItsReturn → Goes q
  GoFrame : is_frame (goes_from q) ≡ true → Goes q

goes : (q : Part) → Goes q
goes Entry = GoReturn refl
goes TurnCont = GoReturn refl
goes (Fanned n) = GoFrame refl
goes NextFanned = GoFrame refl
goes q = GoValue refl

-- what is given to the part that asks for the next turn's frame is a signal
gift_asks : (fl : Flow) (w : Wires) (h : Firing) (i : Item) → Gift fl w h i → i.inlet.part ≡ NextFramer → i.word ≡ signal
gift_asks fl w h i (GNextFramer n t e x g) d = ap (λ (i : Item). i.word) g
gift_asks fl w h i (GArgument n l v e s c g) d = let q = sym (ap (λ (i : Item). i.inlet.part) g) ∙ d in absurd (cc)
gift_asks fl w h i (GHeld n e t g) d = let q = sym (ap (λ (i : Item). i.inlet.part) g) ∙ d in absurd (cc)
gift_asks fl w h i (GAsked n e g) d = let q = sym (ap (λ (i : Item). i.inlet.part) g) ∙ d in absurd (cc)
gift_asks fl w h i (GFanned n e g) d = let q = sym (ap (λ (i : Item). i.inlet.part) g) ∙ d in absurd (cc)
gift_asks fl w h i (GEntry n e g) d = let q = sym (ap (λ (i : Item). i.inlet.part) g) ∙ d in absurd (cc)
gift_asks fl w h i (GInput n t e g) d = let q = sym (ap (λ (i : Item). i.inlet.part) g) ∙ d in absurd (cc)
gift_asks fl w h i (GShown j e c g) d = let q = sym (ap (λ (i : Item). i.inlet.part) g) ∙ d in absurd (cc)
gift_asks fl w h i (GLanding c n j e x g) d = let q = sym (ap (λ (i : Item). i.inlet.part) g) ∙ d in absurd (cc)
gift_asks fl w h i (GLeaves c n t j e x g) d = let q = sym (ap (λ (i : Item). i.inlet.part) g) ∙ d in absurd (cc)
gift_asks fl w h i (GDrains c n t e x g) d = let q = sym (ap (λ (i : Item). i.inlet.part) g) ∙ d in absurd (cc)
gift_asks fl w h i (GFreed e g) d = let q = sym (ap (λ (i : Item). i.inlet.part) g) ∙ d in absurd (cc)
gift_asks fl w h i (GDone e x g) d = let q = sym (ap (λ (i : Item). i.inlet.part) g) ∙ d in absurd (cc)
gift_asks fl w h i (GCallDone c n e x g) d = let q = sym (ap (λ (i : Item). i.inlet.part) g) ∙ d in absurd (cc)
gift_asks fl w h i (GGiver c n t e x g) d = let q = sym (ap (λ (i : Item). i.inlet.part) g) ∙ d in absurd (cc)
gift_asks fl w h i (GTaker c n t e x g) d = let q = sym (ap (λ (i : Item). i.inlet.part) g) ∙ d in absurd (cc)
gift_asks fl w h i (GNextAsked e g) d = let q = sym (ap (λ (i : Item). i.inlet.part) g) ∙ d in absurd (cc)
gift_asks fl w h i (GNextFanned e g) d = let q = sym (ap (λ (i : Item). i.inlet.part) g) ∙ d in absurd (cc)
gift_asks fl w h i (GNextEntry c n t e x g) d = let q = sym (ap (λ (i : Item). i.inlet.part) g) ∙ d in absurd (cc)
gift_asks fl w h i (GNextInput c n t j e x g) d = let q = sym (ap (λ (i : Item). i.inlet.part) g) ∙ d in absurd (cc)
gift_asks fl w h i (GLoopDone n e g) d = let q = sym (ap (λ (i : Item). i.inlet.part) g) ∙ d in absurd (cc)

module _ (fl : Flow) (p : Plan) (w : Wires) (inputs : List ℤ) (past : Past) (m : Machine) (good : IsGood fl p w) (fit : InputsFit fl inputs)
    (kept : Keeps fl p w inputs past m) where
  abbrev done : List Firing
  done = fired fl p w inputs past m good fit kept

  abbrev IsLeft : Item → Type 0
  IsLeft i = Contains (kept.tracks.net.pending ++ kept.tracks.net.waiting) i

  stood : (i : Item) → IsLeft i → Mirrors fl p w inputs past m good fit kept i
  stood i d = left_stands fl p w inputs past m good fit kept i d

  carries : (i : Item) → IsLeft i → Carries fl w i.context i.inlet.way (arrives_at i.inlet.part i.inlet.port) i.word
  carries i d = carries_of fl w i (word fl p w inputs past m good fit kept i (stood i d))

  -- WHAT IS SENT along a wire is of the kind that goes from there
  module _ (h : Firing) (arrive : Contains done h) where
    first_carries : (r : Part) → r ≡ h.part → WordFits fl w (first_taken fl w h r)
    first_carries r e = subst (λ (r : Part). WordFits fl w (first_taken fl w h r)) (sym e)
        (word fl p w inputs past m good fit kept (first_taken fl w h h.part)
        (taken_stands fl p w inputs past m good fit kept (first_taken fl w h h.part)
        (taken_in fl done h (first_taken fl w h h.part) arrive (takes_first fl w h))))

    abbrev Sends : Part → Part → Type 0
    Sends q r = Carries fl w h.context 0 (goes_from q) (sent_word fl h r)

    carries_from : (u : Side) (q : Part) → side_by fl h h.part ≡ Some u → maker_of (block_in fl h.context) q ≡ h.part → Sends q h.part
    carries_from u (Line n) s e = subst (Sends (Line n)) e (go (is_cell (block_in fl h.context) n))
      where
        go : (x : Bool) → Sends (Line n) (if x then InCell n else Line n)
        go true = (h.answer, refl)
        go false = (line_value fl h.context n (value_in h.left) (value_in h.right), refl)
    carries_from u (Opener n) s e = subst (Sends (Opener n)) e (Int (pos 0), refl)
    carries_from u (Drained n) s e = subst (Sends (Drained n)) e (Int (pos 0), refl)
    carries_from u (Strict n i) s e = subst (Sends (Strict n i)) e (Int (pos 0), refl)
    carries_from u (Join r i) s e = subst (Sends (Join r i)) e (Int (pos 0), refl)
    carries_from u (Sender n i) s e = subst (Sends (Sender n i)) e (Int (pos 0), refl)
    carries_from u (NextSender j) s e = subst (Sends (NextSender j)) e (Int (pos 0), refl)
    carries_from u (Result j) s e = subst (Sends (Result j)) e (Int (pos 0), refl)
    carries_from u (LastReturn j) s e = subst (Sends (LastReturn j)) e (Int (pos 0), refl)
    carries_from u DrainReturn s e = subst (Sends DrainReturn) e (Int (pos 0), refl)
    carries_from u (InCell n) s e = subst (Sends (InCell n)) e (h.answer, refl)
    carries_from u (Framer n) s e = let none = ap (side_by fl h) e in absurd (cc)
    carries_from u NextFramer s e = let none = ap (side_by fl h) e in absurd (cc)
    carries_from u Asker s e = let none = ap (side_by fl h) e in absurd (cc)
    carries_from u End s e = let none = ap (side_by fl h) e in absurd (cc)
    carries_from u (Linker n) s e = let none = ap (side_by fl h) e in absurd (cc)
    carries_from u (Taker n) s e = let none = ap (side_by fl h) e in absurd (cc)
    carries_from u (Asked n) s e = let none = ap (side_by fl h) e in absurd (cc)
    carries_from u NextAsked s e = let none = ap (side_by fl h) e in absurd (cc)
    carries_from u q s e = subst (Sends q) e (first_carries q e)

  -- THE CONTEXT whose last part fired
  module _ (c : Context) (last : HasFired c End done) where
    con : IsContext fl c
    con = context_of fl p w inputs past m good fit kept c End last

    -- nothing is left of what it invoked
    kin_not : (i : Item) → IsLeft i → Returns c i.context → is_leaving i.inlet.part ≡ false → ⊥
    kin_not i d (FromCall n e) v =
        (ends_last fl p w inputs past m good fit kept (Called c n) (called_over fl p w inputs past m good fit kept c n last i d e)).none_left i d e
        v
    kin_not i d (FromTurn n t e) v =
        (ends_last fl p w inputs past m good fit kept (Turned c n t) (turned_over fl p w inputs past m good fit kept c n t last i d e)).none_left i
        d e v

    own_not : (i : Item) → IsLeft i → i.context ≡ c → is_leaving i.inlet.part ≡ false → ⊥
    own_not i d e v = (ends_last fl p w inputs past m good fit kept c last).none_left i d e v

    -- what was at a part that fired is not left
    fired_not : (i : Item) → IsLeft i → (e : Context) → i.context ≡ e → (r : Part) → i.inlet.part ≡ r → is_turning r ≡ false
        → ((x : IsContext fl e) → IsHere fl p w good e x r) → HasFired e r done → ⊥
    fired_not i d e a r g t here f =
        let x = context_of fl p w inputs past m good fit kept e r f in
        let (j, o, same) = taken_at fl p w inputs past m good fit kept e x r (here x) t f i (stood i d) a g in
        twice fl p w inputs past m good fit kept i j d o same

    at_part : (i : Item) → IsLeft i → (r : Part) → i.inlet.part ≡ r → spot_there fl w i.context r ≡ true
    at_part i d r g = there_here fl p w inputs past m good fit kept i.context i (stood i d) refl r g

    -- A FRAME'S WORD, in what invoked it
    used : (e : Context) (n : ℕ) → invokes (block_in fl e) n ≡ true → child fl e n ≡ c → FrameUsed fl p w inputs past m good fit kept e n
    used e n h same = pick (child_cases fl p w good e n h)
      where
        pick : Child fl p w good e n (child fl e n) → FrameUsed fl p w inputs past m good fit kept e n
        pick (ByCall l g) = call_sent fl p w inputs past m good fit kept e n (subst (λ (c : Context). HasFired c End done) (sym same ∙ g) last)
        pick (ByLoop l g) = loop_sent fl p w inputs past m good fit kept e n (subst (λ (c : Context). HasFired c End done) (sym same ∙ g) last)

    linker_not : (i : Item) → IsLeft i → (n : ℕ) → i.inlet.part ≡ Linker n → child fl i.context n ≡ c → ⊥
    linker_not i d n g same = let h = at_part i d (Linker n) g in fired_not i d i.context refl (Linker n) g refl (λ x. h) (used i.context n h same).linker

    fanned_not : (i : Item) → IsLeft i → (n : ℕ) → i.inlet.part ≡ Fanned n → child fl i.context n ≡ c → ⊥
    fanned_not i d n g same =
        let h = at_part i d (Fanned n) g in let f = (used i.context n h same).linker in
        fired_not i d i.context refl (Fanned n) g refl (λ x. h)
        (fanned_by_linker fl p w inputs past m good fit kept i.context (context_of fl p w inputs past m good fit kept i.context (Linker n) f) n h f)

    sender_not : (i : Item) → IsLeft i → (n l : ℕ) → i.inlet.part ≡ Sender n l → child fl i.context n ≡ c → ⊥
    sender_not i d n l g same =
        let h = at_part i d (Sender n l) g in let k = and_parts _ _ h in
        fired_not i d i.context refl (Sender n l) g refl (λ x. h)
        ((used i.context n k.0 same).senders l (ltb-true l (source_count (block_in fl i.context) n) k.1))

    -- and of the next turn, in the one before
    data Before (e : Context) : Type 0 where
      TurnOf : (d : Context) (n t : ℕ) → e ≡ Turned d n t → HasFired (Turned d n (suc t)) End done → Before e

    before : (e : Context) → is_turn e ≡ true → next e ≡ c → Before e
    before Main h same = absurd (true≢false (sym h))
    before (Called d n) h same = absurd (true≢false (sym h))
    before (Turned d n t) h same =
        let up : suc t ≡ t + 1 = omega arith in TurnOf d n t refl (subst (λ (c : Context). HasFired c End done) (sym (ap (Turned d n) up ∙ same)) last)

    next_fanned_not : (i : Item) → IsLeft i → i.inlet.part ≡ NextFanned → next i.context ≡ c → ⊥
    next_fanned_not i d g same = go (before i.context (at_part i d NextFanned g) same)
      where
        go : Before i.context → ⊥
        go (TurnOf e n t a f) =
            let first = next_sent fl p w inputs past m good fit kept e n t f 0 (omega arith) in
            let x = context_of fl p w inputs past m good fit kept (Turned e n t) (NextSender 0) first in
            fired_not i d (Turned e n t) a NextFanned g refl (λ x. refl)
            (fanned_by_sender fl p w inputs past m good fit kept (Turned e n t) x 0
            (lt-ltb 0 ((block_in fl (Turned e n t)).inputs + 1) (omega arith)) first)

    next_sender_not : (i : Item) → IsLeft i → (j : ℕ) → i.inlet.part ≡ NextSender j → next i.context ≡ c → ⊥
    next_sender_not i d j g same = go (before i.context (and_parts _ _ (at_part i d (NextSender j) g)).0 same)
      where
        go : Before i.context → ⊥
        go (TurnOf e n t a f) =
            let h : nat_lt j ((block_in fl (Turned e n t)).inputs + 1) ≡ true = ap (λ (e : Context). nat_lt j ((block_in fl e).inputs + 1)) (sym a)
            ∙ (and_parts _ _ (at_part i d (NextSender j) g)).1 in
            fired_not i d (Turned e n t) a (NextSender j) g refl (λ x. h)
            (next_sent fl p w inputs past m good fit kept e n t f j (ltb-true j ((block_in fl (Turned e n t)).inputs + 1) h))

    -- A CREDIT that a turn asked for
    taker_not : (i : Item) → IsLeft i → (n : ℕ) → i.inlet.part ≡ Taker n → (t : ℕ) → i.inlet.way ≡ t → turn_before i.context n t ≡ c → ⊥
    taker_not i d n g zero u same =
        let h : nat_lt 0 i.inlet.way ≡ true =
        subst (λ (r : Part). way_fits fl i.context r i.inlet.port i.inlet.way ≡ true) g (fits fl p w inputs past m good fit kept i (stood i d)).way in
        let k = ltb-true 0 i.inlet.way h in omega (arith, k, u)
    taker_not i d n g (suc t) u same =
        let e = i.context in
        let ended : HasFired (Turned e n t) End done = subst (λ (c : Context). HasFired c End done) (sym same) last in
        let asked = (ends_last fl p w inputs past m good fit kept (Turned e n t) ended).fired NextFramer refl refl (λ x v.
        (allowed fl p w inputs past m good fit kept i (stood i d)).arms x.choice x.side
        (subst (λ (r : Part). Contains (arms_of fl e r i.inlet.way) x) (sym g) (subst (λ (s : ℕ). Contains (arms_of fl e (Taker n) s) x) (sym u) v))) in
        by_item (credit_gone fl p w inputs past m good fit kept e n t asked)
      where
        left : (x : Port) → i.inlet.port ≡ x → i.inlet.port ≡ Left
        left Left e = e
        left Right e =
            absurd
            (true≢false (sym (subst (λ (x : Port). port_fits fl i.context (Taker n) x ≡ true) e
            (subst (λ (r : Part). port_fits fl i.context r i.inlet.port ≡ true) g (fits fl p w inputs past m good fit kept i (stood i d)).port))))

        by_item : (j : Item) × Contains (taken fl p w inputs past m good fit kept) j × (j.context ≡ i.context) × (j.inlet ≡ inlet (Taker n) Left (suc t))
            → ⊥
        by_item (j, o, a, z) =
            twice fl p w inputs past m good fit kept i j d o
            (spot_is (spot_of j) (spot_of i) a (z ∙ sym (inlet_is i.inlet (inlet (Taker n) Left (suc t)) g (left i.inlet.port refl) u)))

    -- A WORD OF NO KIND: a signal, or what goes along a wire
    any_not : (i : Item) → IsLeft i → arrives_at i.inlet.part i.inlet.port ≡ Anything → is_leaving i.inlet.part ≡ false
        → is_unwired (block_in fl i.context) i.inlet.part ≡ false → there_in fl (site_in fl w i.context) (wiring_in fl w i.context) i.inlet.part ≡ true
        → wired_way i.inlet.part i.inlet.way ≡ true → named_by i.word ≡ Some c → ⊥
    any_not i d any stays given here way names =
        let (h, arrive, sent) = sent_by fl p w inputs past m good fit kept i (stood i d) here given way in
        let all = fit_of fl p w inputs past m good fit kept h arrive in
        let facts = sent_facts fl w h all sent.from sent.along in
        let bears = carries_from h arrive sent.from sent.from.part sent.along facts.maker in
        let at : i.context ≡ h.context = ap (λ (i : Item). i.context) sent.is in
        let named : named_by (sent_word fl h h.part) ≡ Some c = ap (λ (i : Item). named_by i.word) (sym sent.is) ∙ names in
        go h sent.from (goes sent.from.part) bears named (in_context fl w h all) facts.there sent.wire at
      where
        go : (h : Firing) (t : Side) → Goes t.part → Carries fl w h.context 0 (goes_from t.part) (sent_word fl h h.part)
            → named_by (sent_word fl h h.part) ≡ Some c → IsContext fl h.context → there_in fl (site_in fl w h.context) (wiring_in fl w h.context) t.part ≡ true
            → Contains ((wiring_in fl w h.context).wire t) i.inlet → i.context ≡ h.context → ⊥
        go h t (GoValue e) bears named x there wire at =
            value_not (sent_word fl h h.part) c (subst (λ (k : Carried). Carries fl w h.context 0 k (sent_word fl h h.part)) e bears) named
        go h t (GoReturn e) bears named x there wire at =
            let back : sent_word fl h h.part ≡ return_of h.context = subst (λ (k : Carried). Carries fl w h.context 0 k (sent_word fl h h.part)) e bears in
            kin_not i d (subst (Returns c) (sym at) (returns_to h.context c (ap named_by (sym back) ∙ named))) stays
        go h t (GoFrame e) bears named x there wire at =
            true≢false (sym e ∙ subst (λ (k : Carried). Suits k (goes_from t.part)) any
            ((lawful_at fl p w good h.context x).leads.suits t i.inlet there wire))

    ask_not : (i : Item) → IsLeft i → i.inlet.part ≡ NextFramer → named_by i.word ≡ Some c → ⊥
    ask_not i d g names =
        let none : Unwired fl p w good i.context i.inlet = UUnwired (ap (is_unwired (block_in fl i.context)) g) in
        let (h, arrive, gift) = gift_by fl p w inputs past m good fit kept i (stood i d) none (λ x y. true≢false (sym y ∙ ap is_first g)) in
        none_some c (ap named_by (sym (gift_asks fl w h i gift g)) ∙ names)

    reader_not : (i : Item) → IsLeft i → is_leaving i.inlet.part ≡ false → (xs : List Inlet) → i.word ≡ back_from i.context xs → named_by i.word ≡ Some c → ⊥
    reader_not i d v [] e names = none_some c (ap named_by (sym e) ∙ names)
    reader_not i d v (x ∷ xs) e names = own_not i d (same_Some i.context c (ap named_by (sym e) ∙ names)) v

    -- NOTHING THAT IS LEFT names it
    pub nothing_names : (i : Item) → IsLeft i → named_by i.word ≡ Some c → ⊥
    nothing_names i d names = go (bears i.inlet.part i.inlet.port)
      where
        as_part : (r : Part) → i.inlet.part ≡ r → Carries fl w i.context i.inlet.way (arrives_at r i.inlet.port) i.word
        as_part r g = subst (λ (r : Part). Carries fl w i.context i.inlet.way (arrives_at r i.inlet.port) i.word) g (carries i d)

        as_left : (r : Part) → i.inlet.part ≡ r → i.inlet.port ≡ Left → Carries fl w i.context i.inlet.way (arrives_at r Left) i.word
        as_left r g x = subst (λ (x : Port). Carries fl w i.context i.inlet.way (arrives_at r x) i.word) x (as_part r g)

        as_kind : (k : Carried) → arrives_at i.inlet.part i.inlet.port ≡ k → Carries fl w i.context i.inlet.way k i.word
        as_kind k e = subst (λ (k : Carried). Carries fl w i.context i.inlet.way k i.word) e (carries i d)

        names_as : (e : Context) → named_by i.word ≡ Some e → e ≡ c
        names_as e g = same_Some e c (sym g ∙ names)

        go : Bears i.inlet.part i.inlet.port → ⊥
        go (BValue e) = value_not i.word c (as_kind AValue e) names
        go (BReturn e v) = kin_not i d (returns_to i.context c (ap named_by (sym (as_kind ItsReturn e)) ∙ names)) v
        go (BFanned n g) = fanned_not i d n g (names_as (child fl i.context n) (ap named_by (as_part (Fanned n) g)))
        go (BLinker n g) = linker_not i d n g (names_as (child fl i.context n) (ap named_by (as_part (Linker n) g)))
        go (BSender n l g x) = sender_not i d n l g (names_as (child fl i.context n) (ap named_by (as_left (Sender n l) g x)))
        go (BNextFanned g) = next_fanned_not i d g (names_as (next i.context) (ap named_by (as_part NextFanned g)))
        go (BNextSender j g x) = next_sender_not i d j g (names_as (next i.context) (ap named_by (as_left (NextSender j) g x)))
        go (BCredit n g) = taker_not i d n g i.inlet.way refl (names_as (turn_before i.context n i.inlet.way) (ap named_by (as_part (Taker n) g)))
        go (BRequest q e v) = own_not i d (names_as i.context (ap named_by (as_kind (Request q) e))) v
        go (BReader n e v) = reader_not i d v ((wiring_in fl w i.context).wire (record { part = Line n; second = false })) (as_kind (Reader n) e) names
        go (BAsk g) = ask_not i d g names
        go (BAny e v given there way) = any_not i d e v (given (block_in fl i.context)) (sym (there fl w i.context) ∙ at_part i d i.inlet.part refl)
            (sym (way fl i.context i.inlet.way) ∙ (fits fl p w inputs past m good fit kept i (stood i d)).way) names
