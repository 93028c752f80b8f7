-- What is in a turn of a loop, or asks for one, is there only after the loop was opened.
use Rattle.std.proofs.Common.{◌≡◌, ℕ, zero, suc, Bool, true, false, ℤ, List, refl, sym, ap, ◌∙◌, subst, inl, inr, ◌⊎◌, arith, true≢false}
use Rattle.std.proofs.Common.{ltb-true, nat_lt, if◌then◌else◌}
use Rattle.std.specs.Prelude.{Contains}
use Rattle.tags.specs.declared.token.Port.{Port}
use Rattle.tags.specs.declared.token.Port.TheVariants.{Left}
use Rattle.semantics.specs.Graph.{Flow}
use Rattle.semantics.specs.Meaning.{Context, Main, Called, Turned}
use Rattle.semantics.specs.Plan.{Plan}
use Rattle.semantics.specs.Machine.{Machine}
use Rattle.law_net.specs.ContextsParts as Parts
use Rattle.law_net.specs.ContextsParts.{Entry, Line, Opener, Framer, Fanned, Linker, Sender, Landing, CallDone, Giver, Taker, Drainer, LoopDone, Result, Asker}
use Rattle.law_net.specs.ContextsParts.{NextFramer, NextFanned, NextSender, LastReturn, DrainReturn, End, Asked, NextAsked, InCell, Drained, Shown, Done, Freed}
use Rattle.law_net.specs.ContextsParts.{Inlet, inlet, Item, Firing, spot_of, Role, role, role_of}
use Rattle.law_net.specs.ContextsBlocks.{is_loop, there_in}
use Rattle.law_net.specs.Contexts.{Wires, block_in, site_in, wiring_in}
use Rattle.law_net.specs.ContextsWires.{ChildFrame, Carried, Suits, arrives_at, goes_from, is_unwired, wired_way}
use Rattle.law_net.specs.ContextsFirings.{Config, takes, makes, HasFired}
use Rattle.law_net.specs.ContextsLaws.{Fits, maker_of, spot_there, way_fits}
use Rattle.law_net.specs.ContextsMirror.{Past}
use Rattle.law_net.specs.ContextsTheorem.{IsGood}
use Rattle.law_net.specs.ContextsPackages.{AllFit, Keeps}
use Rattle.law_net.proofs.WiredSends.{IsSent, sent_facts, first_taken, first_context, in_context}
use Rattle.law_net.proofs.WiredInvoked.{lawful_at}
use Rattle.law_net.proofs.WiredGifts.{Gift}
use Rattle.law_net.proofs.WiredWords.{Begins, AtEntry, AtInput, gift_fits}
use Rattle.law_net.proofs.WiredFed.{MadeAt, ByGift, ByWire, made_at, sent_there, giver_of, gift_role, gift_unwired, Unwired, UUnwired, UNot, UWay}
use Rattle.law_net.proofs.WiredTraced.{traced}
use Rattle.law_net.proofs.RunsArrives.{net, all_here, fired_fit}

-- in a turn of the loop at node n of c, or in what a turn invokes
abbrev pub Under : Context → ℕ → Context → Type 0
Under c n Main = ⊥
Under c n (Called d m) = Under c n d
Under c n (Turned d m t) = ((d ≡ c) × (m ≡ n)) ⊎ Under c n d

pub data Near (c : Context) (n : ℕ) (i : Item) : Type 0 where
  NUnder : Under c n i.context → Near c n i
  NAsked : i.context ≡ c → i.inlet.part ≡ Asked n → Near c n i
  NFanned : i.context ≡ c → i.inlet.part ≡ Fanned n → Near c n i
  NLinker : i.context ≡ c → i.inlet.part ≡ Linker n → Near c n i
  NSender : (m : ℕ) → i.context ≡ c → i.inlet.part ≡ Sender n m → i.inlet.port ≡ Left → Near c n i
  NTaker : i.context ≡ c → i.inlet.part ≡ Taker n → Near c n i

-- the part of a frame is the one that fans it out
fanned_from : (n : ℕ) (r : Parts.Part) → ChildFrame n ≡ goes_from r → r ≡ Fanned n
fanned_from n (Fanned m) e = let same : n ≡ m = cc in ap Fanned (sym same)
fanned_from n Entry e = absurd (cc)
fanned_from n Parts.TurnCont e = absurd (cc)
fanned_from n NextFanned e = absurd (cc)
fanned_from n r e = absurd (cc)

module _ (fl : Flow) (p : Plan) (w : Wires) (good : IsGood fl p w) (c : Context) (n : ℕ) where
  module _ (f : Firing) (all : AllFit fl w (takes fl f)) where
    first : Item
    first = first_taken fl w f f.part

    abbrev First : Item
    First = first_taken fl w f f.part

    near_under : (d : Context) → f.context ≡ d → Under c n d → Near c n First
    near_under d e u = NUnder (subst (Under c n) (sym (first_context fl w f f.part ∙ e)) u)

    first_at : (d : Context) → f.context ≡ d → First.context ≡ d
    first_at d e = first_context fl w f f.part ∙ e

    first_part : (r : Parts.Part) → f.part ≡ r → First.inlet.part ≡ (first_taken fl w f r).inlet.part
    first_part r e = ap (λ (r : Parts.Part). (first_taken fl w f r).inlet.part) e

    -- who gives to an item under the loop took one that is near
    near_role : (x : Role) → role_of f ≡ x → (Under c n x.context → Near c n First)
    near_role x e u = near_under x.context (ap (λ (r : Role). r.context) e) u

    near_landing : (d : Context) (m j t : ℕ) (l : Bool) → role_of f ≡ (if l then role (Turned d m t) (LastReturn j) 0 else role (Called d m) (Result j) 0)
        → Under c n d → Near c n First
    near_landing d m j t true e u = near_role (role (Turned d m t) (LastReturn j) 0) e (inr u)
    near_landing d m j t false e u = near_role (role (Called d m) (Result j) 0) e u

    near_linker : (d : Context) (m : ℕ) → role_of f ≡ role d (Linker m) 0 → ((d ≡ c) × (m ≡ n)) ⊎ Under c n d → Near c n First
    near_linker d m e (inr u) = near_role (role d (Linker m) 0) e u
    near_linker d m e (inl (a, b)) =
        NLinker (first_at c (ap (λ (r : Role). r.context) e ∙ a)) (first_part (Linker m) (ap (λ (r : Role). r.part) e) ∙ ap Linker b)

    near_sender : (d : Context) (m j : ℕ) → role_of f ≡ role d (Sender m j) 0 → ((d ≡ c) × (m ≡ n)) ⊎ Under c n d → Near c n First
    near_sender d m j e (inr u) = near_role (role d (Sender m j) 0) e u
    near_sender d m j e (inl (a, b)) = let part = ap (λ (r : Role). r.part) e in
        NSender j (first_at c (ap (λ (r : Role). r.context) e ∙ a)) (first_part (Sender m j) part ∙ ap (λ (m : ℕ). Sender m j) b)
        (ap (λ (r : Parts.Part). (first_taken fl w f r).inlet.port) part)

    near_taker : (d : Context) (m t : ℕ) → role_of f ≡ role d (Taker m) t → ((d ≡ c) × (m ≡ n)) ⊎ Under c n d → Near c n First
    near_taker d m t e (inr u) = near_role (role d (Taker m) t) e u
    near_taker d m t e (inl (a, b)) = NTaker (first_at c (ap (λ (r : Role). r.context) e ∙ a)) (first_part (Taker m) (ap (λ (r : Role). r.part) e) ∙ ap Taker b)

    near_giver : (d : Context) (r : Parts.Part) (t : ℕ) → role_of f ≡ giver_of fl d r t → Under c n d → Near c n First
    near_giver d (InCell m) t e u = near_role _ e u
    near_giver d (Asked m) t e u = near_role _ e u
    near_giver d NextAsked t e u = near_role _ e u
    near_giver d (Fanned m) t e u = near_role _ e u
    near_giver d NextFanned t e u = near_role _ e u
    near_giver d (LoopDone m) t e u = near_role _ e u
    near_giver d (Sender m j) t e u = near_role _ e u
    near_giver d Freed t e u = near_role _ e u
    near_giver d Done t e u = near_role _ e u
    near_giver d (Shown j) t e u = near_role _ e u
    near_giver d (Landing m j) t e u = near_landing d m j t (is_loop (block_in fl d) m) e u
    near_giver d (CallDone m) t e u = near_role _ e u
    near_giver d (Giver m) t e u = near_role _ e (inr u)
    near_giver d (Drainer m) t e u = near_role _ e (inr u)
    near_giver d (Taker m) (suc t) e u = near_role _ e (inr u)
    near_giver (Called d m) Entry t e u = near_role _ e u
    near_giver (Called d m) (Line j) t e u = near_role _ e u
    near_giver (Turned d m zero) Entry t e u = near_linker d m e u
    near_giver (Turned d m zero) (Line j) t e u = near_sender d m j e u
    near_giver (Turned d m (suc s)) Entry t e u = near_role _ e u
    near_giver (Turned d m (suc s)) (Line j) t e u = near_role _ e u
    near_giver (Turned d m s) NextFramer t e u = near_taker d m (suc s) e u
    near_giver d r t e u = near_role _ e u

    -- a wire's inlet is no gift's
    pub never_gift : (i : Item) → Gift fl w f i → (r : Parts.Part) → i.inlet.part ≡ r → ((b : _) → is_unwired b r ≡ false)
        → ((d : Context) → spot_there fl w d r ≡ true → there_in fl (site_in fl w d) (wiring_in fl w d) r ≡ true) → (wired_way r i.inlet.way ≡ true) → ⊥
    never_gift i g r e given there way =
        go (subst (λ (s : Parts.Part). Unwired fl p w good i.context (record { part = s; port = i.inlet.port; way = i.inlet.way })) e
        (gift_unwired fl p w good f all i g))
      where
        fits : Fits fl w (spot_of i)
        fits = gift_fits fl p w good f all i g

        go : Unwired fl p w good i.context (record { part = r; port = i.inlet.port; way = i.inlet.way }) → ⊥
        go (UUnwired u) = true≢false (sym u ∙ given (block_in fl i.context))
        go (UNot u) = true≢false (sym (there i.context (subst (λ (s : Parts.Part). spot_there fl w i.context s ≡ true) e fits.there)) ∙ u)
        go (UWay u) = true≢false (sym way ∙ u)

    left_way_zero : (i : Item) → Fits fl w (spot_of i) → (r : Parts.Part) → i.inlet.part ≡ r → (x : Port) → i.inlet.port ≡ x
        → way_fits fl i.context r x i.inlet.way ≡ true
    left_way_zero i h r e x g =
        subst (λ (x : Port). way_fits fl i.context r x i.inlet.way ≡ true) g
        (subst (λ (s : Parts.Part). way_fits fl i.context s i.inlet.port i.inlet.way ≡ true) e h.way)

    taker_from : (i : Item) → Gift fl w f i → i.context ≡ c → i.inlet.part ≡ Taker n → (t : ℕ) → i.inlet.way ≡ t → nat_lt 0 t ≡ true → Near c n First
    taker_from i g a e zero v h = let x = ltb-true 0 0 h in absurd (omega (arith, x))
    taker_from i g a e (suc t) v h =
        let r = gift_role fl p w good f all i g ∙ (λ u. giver_of fl (a u) (e u) (v u)) in near_role (role (Turned c n t) Asker 0) r (inl (refl, refl))

    -- WHAT IS MADE near the loop is made by its framer, or from what was near
    gift_near : (i : Item) → Gift fl w f i → Near c n i → ((f.context ≡ c) × (f.part ≡ Framer n)) ⊎ Near c n First
    gift_near i g (NUnder u) = inr (near_giver i.context i.inlet.part i.inlet.way (gift_role fl p w good f all i g) u)
    gift_near i g (NAsked a e) =
        let r = gift_role fl p w good f all i g ∙ (λ u. giver_of fl (a u) (e u) i.inlet.way) in
        inl (ap (λ (r : Role). r.context) r, ap (λ (r : Role). r.part) r)
    gift_near i g (NFanned a e) = let r = gift_role fl p w good f all i g ∙ (λ u. giver_of fl (a u) (e u) i.inlet.way) in
        inr (NAsked (first_at c (ap (λ (r : Role). r.context) r)) (first_part (Asked n) (ap (λ (r : Role). r.part) r)))
    gift_near i g (NLinker a e) =
        absurd (never_gift i g (Linker n) e (λ b. refl) (λ d h. h) (left_way_zero i (gift_fits fl p w good f all i g) (Linker n) e i.inlet.port refl))
    gift_near i g (NSender m a e x) =
        absurd (never_gift i g (Sender n m) e (λ b. refl) (λ d h. h) (left_way_zero i (gift_fits fl p w good f all i g) (Sender n m) e Left x))
    gift_near i g (NTaker a e) =
        inr (taker_from i g a e i.inlet.way refl
        (subst (λ (s : Parts.Part). way_fits fl i.context s i.inlet.port i.inlet.way ≡ true) e (gift_fits fl p w good f all i g).way))

    fanned_near : (i : Item) → IsSent fl w f i → i.context ≡ c → ((x : Carried) → Suits (arrives_at i.inlet.part i.inlet.port) x → ChildFrame n ≡ x)
        → Near c n First
    fanned_near i s a kind =
        let facts = sent_facts fl w f all s.from s.along in
        let suits = (lawful_at fl p w good f.context (in_context fl w f all)).leads.suits s.from i.inlet facts.there s.wire in
        let from = fanned_from n s.from.part (kind (goes_from s.from.part) suits) in
        let part : Fanned n ≡ f.part = ap (maker_of (block_in fl f.context)) (sym from) ∙ facts.maker in
        NFanned (first_at c (sym (ap (λ (i : Item). i.context) s.is) ∙ a)) (first_part (Fanned n) (sym part))

    sent_near : (i : Item) → IsSent fl w f i → Near c n i → Near c n First
    sent_near i s (NUnder u) = near_under i.context (sym (ap (λ (i : Item). i.context) s.is)) u
    sent_near i s (NAsked a e) =
        let t = sent_there fl p w good f i all s in absurd (true≢false (sym t.0 ∙ ap (there_in fl (site_in fl w i.context) (wiring_in fl w i.context)) e))
    sent_near i s (NFanned a e) = let t = sent_there fl p w good f i all s in absurd (true≢false (sym (ap (is_unwired (block_in fl i.context)) e) ∙ t.2))
    sent_near i s (NLinker a e) = fanned_near i s a (λ x h. subst (λ (r : Parts.Part). Suits (arrives_at r i.inlet.port) x) e h)
    sent_near i s (NSender m a e q) =
        fanned_near i s a (λ x h. subst (λ (q : Port). Suits (arrives_at (Sender n m) q) x) q
        (subst (λ (r : Parts.Part). Suits (arrives_at r i.inlet.port) x) e h))
    sent_near i s (NTaker a e) = let t = sent_there fl p w good f i all s in absurd (true≢false (sym (ap (is_unwired (block_in fl i.context)) e) ∙ t.2))

    made_near : (i : Item) → Contains (makes fl w f) i → Near c n i → ((f.context ≡ c) × (f.part ≡ Framer n)) ⊎ Near c n First
    made_near i h x = pick (made_at fl p w good f i all h)
      where
        pick : MadeAt fl p w good f i → ((f.context ≡ c) × (f.part ≡ Framer n)) ⊎ Near c n First
        pick (ByGift g) = gift_near i g x
        pick (ByWire s) = inr (sent_near i s x)

  -- at the beginning nothing is
  not_near : (inputs : List ℤ) (i : Item) → Begins inputs i → Near c n i → ⊥
  not_near inputs i (AtEntry e) (NUnder u) = subst (Under c n) (ap (λ (i : Item). i.context) e) u
  not_near inputs i (AtEntry e) (NAsked a g) = let x = sym (ap (λ (i : Item). i.inlet.part) e) ∙ g in absurd (cc)
  not_near inputs i (AtEntry e) (NFanned a g) = let x = sym (ap (λ (i : Item). i.inlet.part) e) ∙ g in absurd (cc)
  not_near inputs i (AtEntry e) (NLinker a g) = let x = sym (ap (λ (i : Item). i.inlet.part) e) ∙ g in absurd (cc)
  not_near inputs i (AtEntry e) (NSender m a g q) = let x = sym (ap (λ (i : Item). i.inlet.part) e) ∙ g in absurd (cc)
  not_near inputs i (AtEntry e) (NTaker a g) = let x = sym (ap (λ (i : Item). i.inlet.part) e) ∙ g in absurd (cc)
  not_near inputs i (AtInput m z l e) (NUnder u) = subst (Under c n) (ap (λ (i : Item). i.context) e) u
  not_near inputs i (AtInput m z l e) (NAsked a g) = let x = sym (ap (λ (i : Item). i.inlet.part) e) ∙ g in absurd (cc)
  not_near inputs i (AtInput m z l e) (NFanned a g) = let x = sym (ap (λ (i : Item). i.inlet.part) e) ∙ g in absurd (cc)
  not_near inputs i (AtInput m z l e) (NLinker a g) = let x = sym (ap (λ (i : Item). i.inlet.part) e) ∙ g in absurd (cc)
  not_near inputs i (AtInput m z l e) (NSender s a g q) = let x = sym (ap (λ (i : Item). i.inlet.part) e) ∙ g in absurd (cc)
  not_near inputs i (AtInput m z l e) (NTaker a g) = let x = sym (ap (λ (i : Item). i.inlet.part) e) ∙ g in absurd (cc)

-- ALONG A RUN
module _ (fl : Flow) (p : Plan) (w : Wires) (inputs : List ℤ) (q : Past) (m : Machine) (good : IsGood fl p w) (k : Keeps fl p w inputs q m)
    (c : Context) (n : ℕ) where
  abbrev here : Config
  here = net fl p w inputs q m good k

  pub framed : (i : Item) → Contains (all_here fl p w inputs q m good k) i → Near c n i → HasFired c (Framer n) here.fired
  framed i h near =
      let o = traced fl w (Near c n) (λ (f : Firing). (f.context ≡ c) × (f.part ≡ Framer n)) (made_near fl p w good c n) inputs here k.tracks.moves
      (fired_fit fl p w inputs q m good k) (not_near fl p w good c n inputs) i h near in (o.0, o.1, o.2.0, o.2.1)
