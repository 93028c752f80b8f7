-- Which tokens of the meaning the items stand for that wait at rest. No word waits to leave its context or to go into another, except the arguments
-- of a strict call.
use Rattle.std.proofs.Common.{◌≡◌, ℕ, zero, suc, ◌+◌, ◌-◌, ◌<◌, ℤ, Bool, true, false, ◌⊎◌, inl, inr, List, [], ◌∷◌, nat_lt, if◌then◌else◌, refl, sym, ap, ◌∙◌}
use Rattle.std.proofs.Common.{subst, arith, true≢false, lt-ltb, ltb-true, eqb-true, eq-eqb, ne_eqb}
use Rattle.std.specs.Prelude.{Contains, ◌&&◌}
use Rattle.std.proofs.lemmas.Bool.{and_parts, or_left, cases_Bool, or_cases}
use Rattle.lemmas.proofs.Contains.{contains_none}
use Rattle.lemmas.proofs.Lists.{one_element}
use Rattle.tags.specs.declared.value.Value.{Value}
use Rattle.tags.specs.declared.token.Port.{Port}
use Rattle.tags.specs.declared.token.Port.TheVariants.{Left, Right}
use Rattle.semantics.specs.Graph.{Flow, Block}
use Rattle.semantics.specs.Plan.{Plan}
use Rattle.semantics.specs.Meaning.{Context, Main, Called, Turned, AtNode, AtTurn, Operand, Predicate, Flag, Carried, Tagged, tagged, operands_from}
use Rattle.semantics.specs.Cause.{is_turn}
use Rattle.semantics.specs.Machine.{Machine, Resting}
use Rattle.law_net.specs.ContextsParts.{Part, Entry, Line, Answer, Merge, Landing, Giver, Taker, Drainer, Shown, Gate, Framer, Sender, Strict, Asker, NextFramer}
use Rattle.law_net.specs.ContextsParts.{NextSender, Result, TurnValue, LastReturn, InCell, Inlet, inlet, Note, Datum, Item, item, Firing, spot_of}
use Rattle.law_net.specs.ContextsBlocks.{side, waits_in, is_pair, is_cell, is_store, is_strict, is_call, is_loop, is_kind, enter_kind, entered, lies_in}
use Rattle.law_net.specs.ContextsBlocks.{source_count, there_in, invokes}
use Rattle.law_net.specs.Contexts.{Wires, block_in, site_in, wiring_in, IsContext}
use Rattle.law_net.specs.ContextsMeant.{meant, meant_by, meant_word, next_meant}
use Rattle.law_net.specs.ContextsFirings.{takes, right_way, HasFired}
use Rattle.law_net.specs.ContextsLaws.{spot_there, sender_way, way_fits}
use Rattle.law_net.specs.ContextsMirror.{Past, is_in_cell}
use Rattle.law_net.specs.ContextsTheorem.{IsGood}
use Rattle.law_net.specs.ContextsPackages.{Keeps, InputsFit}
use Rattle.law_net.proofs.ContextsWords.{holds_of}
use Rattle.law_net.proofs.ContextsSames.{spot_is}
use Rattle.law_net.proofs.WiredSends.{takes_right}
use Rattle.law_net.proofs.WiredNets.{taken_in}
use Rattle.law_net.proofs.WiredInvoked.{strict_call}
use Rattle.law_net.proofs.WiredFed.{UWay}
use Rattle.law_end.specs.Over.{IsOpen, is_turning}
use Rattle.law_end.proofs.OverPaths.{wire_of}
use Rattle.law_end.proofs.OverMade.{Mirrors, fits, word, given_by, twice}
use Rattle.law_end.proofs.OverOpen.{stands_open, renewed_too}
use Rattle.law_end.proofs.OverBack.{sender_of}
use Rattle.law_end.specs.RestStarts.{AllStart, join_after, join_of}
use Rattle.law_end.proofs.RestCells.{one_of}
use Rattle.law_end.proofs.RestWaits.{Waiting, stood_of, left_of, apart, is_credit, Takes, Own, OfCredits, Renewed, taken_as, waits_or_taken, Waits, InSlot, Held}
use Rattle.law_end.proofs.RestWaits.{AtCell, OfLoop, waits, fires_alone, fires_both}
use Rattle.law_end.proofs.RestForward.{along}
use Rattle.law_end.proofs.RestReached.{At, asked, fanned, next_fanned, next_asked, Granted, granted, entered_at, result_left, last_left, sender_left, next_left}
use Rattle.law_end.proofs.RestReached.{loop_framed, call_framed, goes_on}

abbrev nil_for : Note → List Tagged
nil_for (Datum v) = []
nil_for u = []

module _ (fl : Flow) (p : Plan) (w : Wires) (inputs : List ℤ) (past : Past) (m : Machine) (good : IsGood fl p w) (fit : InputsFit fl inputs)
    (kept : Keeps fl p w inputs past m) (rests : Resting m) (calm : m.store.requests ≡ []) (starts : AllStart fl w) where
  abbrev done : List Firing
  done = kept.tracks.net.fired

  abbrev Waits' : Item → Type 0
  Waits' i = Waiting fl p w inputs past m good fit kept i

  abbrev AtSpot : (c : Context) → IsContext fl c → Inlet → Type 0
  AtSpot c con x = At fl p w inputs past m good fit kept rests calm c con x

  -- A SECOND WORD does not wait where the first one arrived
  pub no_right : (i : Item) → Waits' i → (con : IsContext fl i.context) → (r : Part) → i.inlet.part ≡ r → i.inlet.port ≡ Right
      → i.inlet.way ≡ right_way fl i.context r → waits_in (block_in fl i.context) r ≡ true → AtSpot i.context con (inlet r Left 0) → ⊥
  no_right i c con r e right way two (j, s, a, x) = pick (waits_or_taken fl p w inputs past m good fit kept rests calm j s)
    where
      part : j.inlet.part ≡ r
      part = ap (λ (x : Inlet). x.part) x

      left : j.inlet.port ≡ Left
      left = ap (λ (x : Inlet). x.port) x

      by_taking : (h : Firing) → Contains done h → (j.context ≡ h.context) × Takes h j → ⊥
      by_taking h d (b, OfCredits g) = no_credit r (ap is_credit (sym part) ∙ g) two
        where
          no_credit : (r : Part) → is_credit r ≡ true → waits_in (block_in fl i.context) r ≡ true → ⊥
          no_credit (Giver n) e f = true≢false (sym f)
          no_credit (Drainer n) e f = true≢false (sym f)
          no_credit r e f = true≢false (sym e)
      by_taking h d (b, Renewed n l g q z) = let y : Left ≡ Right = sym left ∙ q in absurd (cc)
      by_taking h d (b, Own g) =
          let at : h.context ≡ i.context = sym b ∙ a in
          let hp : h.part ≡ r = sym g ∙ part in
          let o = item h.context (inlet h.part Right (right_way fl h.context h.part)) h.right in
          let took = taken_in fl done h o d (takes_right fl w h ((λ k. waits_in (block_in fl (at k)) (hp k)) ∙ two)) in
          twice fl p w inputs past m good fit kept i o (left_of fl p w inputs past m good fit kept i c) took
          (spot_is (spot_of o) (spot_of i) at ((λ k. inlet (hp k) Right (right_way fl (at k) (hp k))) ∙ (λ k. inlet (sym e k) (sym right k) (sym way k))))

      pick : Waits' j ⊎ ((h : Firing) × Contains done h × Contains (takes fl h) j) → ⊥
      pick (inl d) = apart fl p w inputs past m good fit kept j i d c a (part ∙ sym e) left right
      pick (inr (h, d, t)) = by_taking h d (taken_as fl h j t)

  module _ (i : Item) (c : Waits' i) where
    pub stood : Mirrors fl p w inputs past m good fit kept i
    stood = stood_of fl p w inputs past m good fit kept i c

    pub con : IsContext fl i.context
    con = (fits fl p w inputs past m good fit kept i (stood_of fl p w inputs past m good fit kept i c)).is_context

    pub there : (r : Part) → i.inlet.part ≡ r → spot_there fl w i.context r ≡ true
    there r e = ap (spot_there fl w i.context) (sym e) ∙ (fits fl p w inputs past m good fit kept i stood).there

    way_as : (r : Part) → i.inlet.part ≡ r → i.inlet.port ≡ Right → way_fits fl i.context r Right i.inlet.way ≡ true
    way_as r e g = (λ k. way_fits fl i.context (sym e k) (sym g k) i.inlet.way) ∙ (fits fl p w inputs past m good fit kept i stood).way

    opened : (r : Part) → i.inlet.part ≡ r → IsOpen fl w done i.context (entered (block_in fl i.context) r i.inlet.way)
    opened r e =
        subst (λ (r : Part). IsOpen fl w done i.context (entered (block_in fl i.context) r i.inlet.way)) e
        (stands_open fl p w inputs past m good fit kept i.context con i stood refl)

    entry : HasFired i.context Entry done
    entry = entered_at fl p w inputs past m good fit kept rests calm i stood

    -- a result
    result_not : (j : ℕ) → i.inlet.part ≡ Result j → i.inlet.port ≡ Right → ⊥
    result_not j e g =
        no_right i c con (Result j) e g (eqb-true i.inlet.way 0 (way_as (Result j) e g)) refl
        (result_left fl p w inputs past m good fit kept rests calm i.context con entry j (there (Result j) e))

    last_not : (j : ℕ) → i.inlet.part ≡ LastReturn j → i.inlet.port ≡ Right → ⊥
    last_not j e g =
        no_right i c con (LastReturn j) e g (eqb-true i.inlet.way 0 (way_as (LastReturn j) e g)) refl
        (last_left fl p w inputs past m good fit kept rests calm i.context con entry j (there (LastReturn j) e) (opened (LastReturn j) e))

    -- what goes to the next turn: its frame was asked for and came, unless its credit waits
    next_held : (j : ℕ) → i.inlet.part ≡ NextSender j → i.inlet.port ≡ Right
        → (d : Context) × (n : ℕ) × (t : ℕ) × (i.context ≡ Turned d n t) × Held fl p w inputs past m good fit kept d n t
    next_held j e g = go i.context refl
      where
        turning : is_turn i.context ≡ true
        turning = (and_parts _ _ (there (NextSender j) e)).0

        both : HasFired i.context NextFramer done → ⊥
        both framer =
            no_right i c con (NextSender j) e g (eqb-true i.inlet.way 0 (way_as (NextSender j) e g)) refl
            (next_left fl p w inputs past m good fit kept rests calm i.context con j (there (NextSender j) e) (opened (NextSender j) e)
            (next_fanned fl p w inputs past m good fit kept rests calm i.context
            (next_asked fl p w inputs past m good fit kept rests calm i.context framer)))

        go : (d : Context) → i.context ≡ d
            → (d : Context) × (n : ℕ) × (t : ℕ) × (i.context ≡ Turned d n t) × Held fl p w inputs past m good fit kept d n t
        go Main a = absurd (true≢false (sym turning ∙ ap is_turn a))
        go (Called d n) a = absurd (true≢false (sym turning ∙ ap is_turn a))
        go (Turned d n t) a =
            let asks = goes_on fl p w inputs past m good fit kept rests calm i.context con entry starts turning (opened (NextSender j) e) in
            pick (granted fl p w inputs past m good fit kept rests calm d n t (subst (λ (c : Context). HasFired c Asker done) a asks))
          where
            pick : Granted fl p w inputs past m good fit kept rests calm d n t
                → (d : Context) × (n : ℕ) × (t : ℕ) × (i.context ≡ Turned d n t) × Held fl p w inputs past m good fit kept d n t
            pick (inl held) = (d, n, t, a, held)
            pick (inr framer) = absurd (both (subst (λ (c : Context). HasFired c NextFramer done) (sym a) framer))

    -- an argument: only of a strict call that has not fired
    abbrev b : Block ℕ
    b = block_in fl i.context

    sender_framed : (n l : ℕ) → i.inlet.part ≡ Sender n l → i.inlet.port ≡ Right → i.inlet.way ≡ right_way fl i.context (Sender n l)
        → HasFired i.context (Framer n) done → ⊥
    sender_framed n l e g way f =
        no_right i c con (Sender n l) e g way refl
        (sender_left fl p w inputs past m good fit kept rests calm i.context con n l (there (Sender n l) e) (opened (Sender n l) e)
        (fanned fl p w inputs past m good fit kept rests calm i.context n (asked fl p w inputs past m good fit kept rests calm i.context n f)))

    pub argument_of : (n l : ℕ) → i.inlet.part ≡ Sender n l → i.inlet.port ≡ Right → (is_strict b n ≡ true) × (i.inlet.way ≡ 0)
    argument_of n l e g = by_strict (cases_Bool (is_strict b n))
      where
        here : there_in fl (site_in fl w i.context) (wiring_in fl w i.context) (Sender n l) ≡ true
        here = there (Sender n l) e

        invoked : (is_call b n ≡ true) ⊎ (is_loop b n ≡ true)
        invoked = or_cases (is_call b n) (is_loop b n) (and_parts _ _ here).0

        right_as : (t : Bool) → is_strict b n ≡ t → right_way fl i.context (Sender n l) ≡ (if t then 1 else 0)
        right_as t s = ap (λ (t : Bool). if t then 1 else 0) s

        way_strict : (t : Bool) → is_strict b n ≡ t → sender_way t Right i.inlet.way ≡ true
        way_strict t s = ap (λ (t : Bool). sender_way t Right i.inlet.way) (sym s) ∙ way_as (Sender n l) e g

        framed : is_strict b n ≡ false → (is_call b n ≡ true) ⊎ (is_loop b n ≡ true) → HasFired i.context (Framer n) done
        framed s (inl call) =
            call_framed fl p w inputs past m good fit kept rests calm i.context con entry starts n (and_parts _ _ here).0 call s (opened (Sender n l) e)
        framed s (inr loop) = loop_framed fl p w inputs past m good fit kept rests calm i.context con entry starts n loop (opened (Sender n l) e)

        by_way : (t : ℕ) → i.inlet.way ≡ t → nat_lt t 2 ≡ true → is_strict b n ≡ true → (is_strict b n ≡ true) × (i.inlet.way ≡ 0)
        by_way zero x low s = (s, x)
        by_way (suc zero) x low s =
            let is : i.inlet ≡ inlet (Sender n l) Right 1 = (λ k. inlet (e k) (g k) (x k)) in
            let (h, d, a, q, t) = given_by fl p w inputs past m good fit kept i.context (inlet (Sender n l) Right 1) (UWay refl)
            (λ a q. true≢false (sym q)) i.context (Framer n) 0 refl i stood refl is in
            absurd (sender_framed n l e g (x ∙ sym (right_as true s)) (h, d, a, q))
        by_way (suc (suc t)) x low s = let y = ltb-true (suc (suc t)) 2 low in absurd (omega (arith, y))

        by_strict : (is_strict b n ≡ true) ⊎ (is_strict b n ≡ false) → (is_strict b n ≡ true) × (i.inlet.way ≡ 0)
        by_strict (inl s) = by_way i.inlet.way refl (way_strict true s) s
        by_strict (inr s) = absurd (sender_framed n l e g (eqb-true i.inlet.way 0 (way_strict false s) ∙ sym (right_as false s)) (framed s invoked))

  -- WHICH TOKENS what waits stands for
  pub data Says (i : Item) (t : Tagged) : Type 0 where
    AtLeft : (n : ℕ) (v : Value) → i.inlet.part ≡ Line n → is_pair (block_in fl i.context) n ≡ true → i.inlet.port ≡ Left
        → t ≡ tagged i.context (AtNode n) (Operand 0) v → Says i t
    AtRight : (n : ℕ) (v : Value) → i.inlet.part ≡ Line n → is_pair (block_in fl i.context) n ≡ true → i.inlet.port ≡ Right
        → t ≡ tagged i.context (AtNode n) (Operand 1) v → Says i t
    GateLeft : (n : ℕ) (v : Value) → i.inlet.part ≡ Gate n → is_kind enter_kind (block_in fl i.context) n ≡ true → i.inlet.port ≡ Left
        → t ≡ tagged i.context (AtNode n) (Operand 0) v → Says i t
    GateRight : (n : ℕ) (v : Value) → i.inlet.part ≡ Gate n → is_kind enter_kind (block_in fl i.context) n ≡ true → i.inlet.port ≡ Right
        → t ≡ tagged i.context (AtNode n) Predicate v → Says i t
    Reading : (n : ℕ) (v : Value) → i.inlet.part ≡ InCell n → is_cell (block_in fl i.context) n ≡ true → is_store (block_in fl i.context) n ≡ false
        → i.held ≡ v ∷ [] → t ≡ tagged i.context (AtNode n) (Operand 0) v → Says i t
    Argument : (n l : ℕ) (v : Value) → i.inlet.part ≡ Sender n l → is_strict (block_in fl i.context) n ≡ true → i.inlet ≡ inlet (Sender n l) Right 0
        → t ≡ tagged i.context (AtNode n) (Operand l) v → Says i t
    TurnLeft : (j : ℕ) (v : Value) → i.inlet.part ≡ TurnValue j → i.inlet.port ≡ Left → t ≡ tagged i.context (AtTurn j) Carried v → Says i t
    TurnRight : (j : ℕ) (v : Value) → i.inlet.part ≡ TurnValue j → i.inlet.port ≡ Right → t ≡ tagged i.context (AtTurn j) Flag v → Says i t
    -- what goes to an iteration whose credit waits
    Going : (d : Context) (n u j : ℕ) (v : Value) → i.context ≡ Turned d n u → Held fl p w inputs past m good fit kept d n u
        → t ≡ tagged (Turned d n (u + 1)) (AtNode j) (Operand 0) v → Says i t

  module _ (i : Item) (c : Waits' i) (t : Tagged) where
    abbrev d : Context
    d = i.context

    nothing : (u : Note) → Contains (nil_for u) t → Says i t
    nothing (Datum v) h = absurd (contains_none t h)
    nothing u h = absurd (contains_none t h)

    group : (r : Part) → i.inlet.part ≡ r → waits_in (block_in fl i.context) r ≡ true → (x : Port) → i.inlet.port ≡ x → (y : ℕ) → i.inlet.way ≡ y → (u : Note)
        → Contains (meant_word fl i.context r x y u) t → Says i t
    group (Line n) e two Left g y z (Datum v) h = AtLeft n v e two g (one_of _ t h)
    group (Line n) e two Right g y z (Datum v) h = AtRight n v e two g (one_of _ t h)
    group (Gate n) e two Left g y z (Datum v) h = GateLeft n v e (there i c (Gate n) e) g (one_of _ t h)
    group (Gate n) e two Right g y z (Datum v) h = GateRight n v e (there i c (Gate n) e) g (one_of _ t h)
    group (TurnValue j) e two Left g y z (Datum v) h = TurnLeft j v e g (one_of _ t h)
    group (TurnValue j) e two Right g y z (Datum v) h = TurnRight j v e g (one_of _ t h)
    group (Result j) e two Right g y z (Datum v) h = absurd (result_not i c j e g)
    group (LastReturn j) e two Right g y z (Datum v) h = absurd (last_not i c j e g)
    group (NextSender zero) e two Right g y z (Datum v) h = absurd (contains_none t h)
    group (NextSender (suc j)) e two Right g y z (Datum v) h =
        let (x, n, u, a, held) = next_held i c (suc j) e g in
        Going x n u j v a held (one_of _ t (subst (λ (c : Context). Contains (next_meant c j v) t) a h))
    group (NextSender zero) e two Left g y z (Datum v) h = absurd (contains_none t h)
    group (NextSender (suc j)) e two Left g y z (Datum v) h = absurd (contains_none t h)
    group (Sender n l) e two Right g zero z (Datum v) h =
        let (s, o) = argument_of i c n l e g in Argument n l v e s (λ k. inlet (e k) (g k) (z k)) (one_of _ t h)
    group (Sender n l) e two Right g (suc y) z (Datum v) h =
        let (s, o) = argument_of i c n l e g in let q : suc y ≡ 0 = sym z ∙ o in absurd (omega (arith, q))
    group (Merge n) e two x g y z u h = absurd (true≢false (sym two))
    group (Answer n) e two x g y z u h = absurd (true≢false (sym two))
    group (Landing n j) e two x g y z u h = absurd (true≢false (sym two))
    group (Shown j) e two x g y z u h = absurd (true≢false (sym two))
    group r e two x g y z (Datum v) h = absurd (contains_none t h)
    group r e two x g y z u h = absurd (contains_none t h)

    slot_word : (r : Part) → waits_in (block_in fl i.context) r ≡ true → meant_by fl i r ≡ meant_word fl i.context r i.inlet.port i.inlet.way i.word
    slot_word (InCell n) e = absurd (true≢false (sym e))
    slot_word r e = refl

    pub credit_meant : (r : Part) → is_turning r ≡ true → Contains (meant_by fl i r) t → ⊥
    credit_meant (Giver n) e h = go i.word h
      where
        go : (u : Note) → Contains (meant_word fl i.context (Giver n) i.inlet.port i.inlet.way u) t → ⊥
        go (Datum v) h = contains_none t h
        go u h = contains_none t h
    credit_meant (Drainer n) e h = go i.word h
      where
        go : (u : Note) → Contains (meant_word fl i.context (Drainer n) i.inlet.port i.inlet.way u) t → ⊥
        go (Datum v) h = contains_none t h
        go u h = contains_none t h
    credit_meant (Taker n) e h = go i.word h
      where
        go : (u : Note) → Contains (meant_word fl i.context (Taker n) i.inlet.port i.inlet.way u) t → ⊥
        go (Datum v) h = contains_none t h
        go u h = contains_none t h
    credit_meant r e h = true≢false (sym e)

  -- a reader carries its index
  pub record Reader (i : Item) (n : ℕ) : Type 0 where
    pub cell : is_cell (block_in fl i.context) n ≡ true
    pub store : is_store (block_in fl i.context) n ≡ false
    pub index : Value
    pub held : i.held ≡ index ∷ []
    pub meant : meant fl i ≡ tagged i.context (AtNode n) (Operand 0) index ∷ []

  pub reader : (i : Item) (n : ℕ) → Waits' i → i.inlet.part ≡ InCell n → Reader i n
  reader i n c e =
      let store = kept.tracks.stands.no_store i n c e in
      let long = holds_of fl w i n e (word fl p w inputs past m good fit kept i (stood i c)) in
      let (v, held) = one_element i.held (long ∙ ap (λ (t : Bool). if t then 2 else 1) store) in
      record {
        cell = there i c (InCell n) e;
        store = store;
        index = v;
        held = held;
        meant = ap (meant_by fl i) e
            ∙ ap (operands_from i.context (AtNode n) 0) held;
      }

  pub says : (i : Item) → Waits' i → (t : Tagged) → Contains (meant fl i) t → Says i t
  says i c t h = pick (waits fl p w inputs past m good fit kept rests calm i c)
    where
      pick : Waits fl p w inputs past m good fit kept rests calm i → Says i t
      pick (InSlot e) =
          group i c t i.inlet.part refl e i.inlet.port refl i.inlet.way refl i.word
          (subst (λ (l : List Tagged). Contains l t) (slot_word i c t i.inlet.part e) h)
      pick (OfLoop e) = absurd (credit_meant i c t i.inlet.part e h)
      pick (AtCell n e) = let r = reader i n c e in Reading n r.index e r.cell r.store r.held (one_of _ t (subst (λ (l : List Tagged). Contains l t) r.meant h))

  -- A STRICT CALL of which all arguments wait would have fired
  module _ (c : Context) (con' : IsContext fl c) (n : ℕ) (strict : is_strict (block_in fl c) n ≡ true) where
    abbrev Argued : ℕ → Type 0
    Argued l = (i : Item) × Waiting fl p w inputs past m good fit kept i × (i.context ≡ c) × (i.inlet ≡ inlet (Sender n l) Right 0)

    abbrev count : ℕ
    count = source_count (block_in fl c) n

    abbrev Fires : Part → Type 0
    Fires r = HasFired c r kept.tracks.net.fired

    module _ (all : (l : ℕ) → l < source_count (block_in fl c) n → Argued l) (some : 0 < source_count (block_in fl c) n) where
      called : is_call (block_in fl c) n ≡ true
      called = strict_call (block_in fl c) n strict

      invoked : invokes (block_in fl c) n ≡ true
      invoked = or_left (is_call (block_in fl c) n) (is_loop (block_in fl c) n) called

      region_open : IsOpen fl w done c (lies_in (block_in fl c) n)
      region_open =
          let (i, d, a, x) = all 0 some in
          subst (λ (x : Inlet). IsOpen fl w done c (entered (block_in fl c) x.part x.way)) x
          (stands_open fl p w inputs past m good fit kept c con' i (stood_of fl p w inputs past m good fit kept i d) a)

      -- each argument arrived at its join, too
      joined : (l : ℕ) → l < count → AtSpot c con' (join_of (block_in fl c) n l)
      joined l low =
          let (i, d, a, x) = all l low in
          let here : there_in fl (site_in fl w c) (wiring_in fl w c) (Sender n l) ≡ true = (λ k. invoked k && lt-ltb l count low k) in
          let s = sender_of fl p w inputs past m good fit kept c con' i (stood_of fl p w inputs past m good fit kept i d) a
          (inlet (Sender n l) Right 0) x here refl refl in
          let goes = (starts c con').joins n l s.from strict s.wire.from s.wire.goes in
          along fl p w inputs past m good fit kept c con' s.from (join_of (block_in fl c) n l)
          (wire_of fl p w good c con' s.from (join_of (block_in fl c) n l) s.wire.from goes) s.maker
          (subst (IsOpen fl w done c) s.wire.region region_open)

      not_last : (l : ℕ) → suc l < count → AtSpot c con' (join_after (block_in fl c) n l) → AtSpot c con' (inlet (Strict n (suc l)) Left 0)
      not_last l low a =
          let same : l + 1 ≡ suc l = omega arith in
          subst (AtSpot c con') (ap (λ (t : Bool). if t then inlet (Framer n) Left 0 else inlet (Strict n (l + 1)) Left 0)
          (ne_eqb (l + 1) count (λ e. absurd (omega (arith, e, low)))) ∙ ap (λ (k : ℕ). inlet (Strict n k) Left 0) same) a

      strict_here : (l : ℕ) → suc l < count → there_in fl (site_in fl w c) (wiring_in fl w c) (Strict n (suc l)) ≡ true
      strict_here l low = (λ k. strict k && (lt-ltb 0 (suc l) (omega arith) k && lt-ltb (suc l) count low k))

      behind : (l : ℕ) → l < count → AtSpot c con' (join_after (block_in fl c) n l)
      behind zero low = joined 0 low
      behind (suc l) low =
          let (i, si, ic, ix) = not_last l low (behind l (omega (arith, low))) in
          let (j, sj, jc, jx) = joined (suc l) low in
          let f = fires_both fl p w inputs past m good fit kept rests calm c (Strict n (suc l)) i j si sj ic jc (ap (λ (x : Inlet). x.part) ix)
          (ap (λ (x : Inlet). x.part) jx) (ap (λ (x : Inlet). x.port) ix) (ap (λ (x : Inlet). x.port) jx) refl refl in
          let here = strict_here l low in
          let goes = (starts c con').chains n (suc l) strict here in
          along fl p w inputs past m good fit kept c con' (side (Strict n (suc l)) false) (join_after (block_in fl c) n (suc l))
          (wire_of fl p w good c con' (side (Strict n (suc l)) false) (join_after (block_in fl c) n (suc l)) here goes) f region_open

      framer : Fires (Framer n)
      framer =
          let last : count - 1 + 1 ≡ count = omega (arith, some) in
          let (i, s, a, x) = subst (AtSpot c con')
          (ap (λ (t : Bool). if t then inlet (Framer n) Left 0 else inlet (Strict n (count - 1 + 1)) Left 0) (eq-eqb (count - 1 + 1) count last))
          (behind (count - 1) (omega (arith, some))) in
          let part : i.inlet.part ≡ Framer n = ap (λ (x : Inlet). x.part) x in
          let (h, d, y, z) = fires_alone fl p w inputs past m good fit kept rests calm i s (ap (waits_in (block_in fl i.context)) part) (ap is_in_cell part)
          (ap is_turning part) in
          (h, d, y ∙ a, z ∙ part)

      -- and then its first argument's sender would have both words
      pub not_complete : ⊥
      not_complete =
          let (i, d, a, x) = all 0 some in
          let here : there_in fl (site_in fl w c) (wiring_in fl w c) (Sender n 0) ≡ true = (λ k. invoked k && lt-ltb 0 count some k) in
          let (j, s, e, g) = sender_left fl p w inputs past m good fit kept rests calm c con' n 0 here region_open
          (fanned fl p w inputs past m good fit kept rests calm c n (asked fl p w inputs past m good fit kept rests calm c n framer)) in
          pick i d a x j e g (waits_or_taken fl p w inputs past m good fit kept rests calm j s)
        where
          by_taking : (i : Item) → Waits' i → i.context ≡ c → i.inlet ≡ inlet (Sender n 0) Right 0 → (j : Item) → j.context ≡ c
              → j.inlet ≡ inlet (Sender n 0) Left 0 → (h : Firing) → Contains done h → (j.context ≡ h.context) × Takes h j → ⊥
          by_taking i d a x j e g h f (q, OfCredits z) = true≢false (sym z ∙ ap (λ (x : Inlet). is_credit x.part) g)
          by_taking i d a x j e g h f (q, Renewed k l z o y) = let r : Left ≡ Right = sym (ap (λ (x : Inlet). x.port) g) ∙ o in absurd (cc)
          by_taking i d a x j e g h f (q, Own z) =
              let at : h.context ≡ c = sym q ∙ e in
              let hp : h.part ≡ Sender n 0 = sym z ∙ ap (λ (x : Inlet). x.part) g in
              let o = item h.context (inlet h.part Right (right_way fl h.context h.part)) h.right in
              let took = taken_in fl done h o f (takes_right fl w h (λ k. waits_in (block_in fl (at k)) (hp k))) in
              let (u, v, y, r) = renewed_too fl p w inputs past m good fit kept c con' n 0 o took at
              ((λ k. inlet (hp k) Right (right_way fl (at k) (hp k))) ∙ ap (λ (t : Bool). inlet (Sender n 0) Right (if t then 1 else 0)) strict) in
              twice fl p w inputs past m good fit kept i u (left_of fl p w inputs past m good fit kept i d) v
              (spot_is (spot_of u) (spot_of i) (y ∙ sym a) (r ∙ sym x))

          pick : (i : Item) → Waits' i → i.context ≡ c → i.inlet ≡ inlet (Sender n 0) Right 0 → (j : Item) → j.context ≡ c → j.inlet ≡ inlet (Sender n 0) Left 0
              → Waits' j ⊎ ((h : Firing) × Contains done h × Contains (takes fl h) j) → ⊥
          pick i d a x j e g (inl f) =
              apart fl p w inputs past m good fit kept j i f d (e ∙ sym a)
              (ap (λ (x : Inlet). x.part) (g ∙ ap (λ (r : Port). inlet (Sender n 0) r 0) refl) ∙ ap (λ (x : Inlet). x.part) (sym x))
              (ap (λ (x : Inlet). x.port) g) (ap (λ (x : Inlet). x.port) x)
          pick i d a x j e g (inr (h, f, t)) = by_taking i d a x j e g h f (taken_as fl h j t)
