-- What is in a turn of a loop after the first is there only after the credit of that turn was granted.
use Rattle.std.proofs.Common.{◌≡◌, ℕ, zero, suc, ◌<◌, Bool, true, false, ℤ, List, refl, sym, ap, ◌∙◌, subst, inl, inr, ◌⊎◌, arith, true≢false}
use Rattle.std.proofs.Common.{if◌then◌else◌}
use Rattle.std.specs.Prelude.{Contains}
use Rattle.std.proofs.lemmas.Bool.{cases_eq}
use Rattle.tags.specs.declared.token.Port.{Port}
use Rattle.tags.specs.declared.token.Port.TheVariants.{Left}
use Rattle.semantics.specs.Graph.{Flow}
use Rattle.semantics.specs.Meaning.{Context, Main, Called, Turned}
use Rattle.semantics.specs.Plan.{Plan}
use Rattle.law_net.specs.ContextsParts as Parts
use Rattle.law_net.specs.ContextsParts.{Entry, Line, Opener, Framer, Fanned, Linker, Sender, Landing, CallDone, Giver, Taker, Drainer, LoopDone, Result, Asker}
use Rattle.law_net.specs.ContextsParts.{NextFramer, NextFanned, NextSender, LastReturn, DrainReturn, End, Asked, NextAsked, InCell, Drained, Shown, Done, Freed}
use Rattle.law_net.specs.ContextsParts.{Inlet, inlet, Item, Firing, spot_of, Role, role, role_of, turn_in}
use Rattle.law_net.specs.ContextsBlocks.{is_loop, there_in}
use Rattle.law_net.specs.Contexts.{Wires, block_in, site_in, wiring_in}
use Rattle.law_net.specs.ContextsWires.{NextFrame, Carried, Suits, arrives_at, goes_from, is_unwired}
use Rattle.law_net.specs.ContextsFirings.{Config, begin, takes, makes, ProperMoves}
use Rattle.law_net.specs.ContextsLaws.{Fits, maker_of, way_fits}
use Rattle.law_net.specs.ContextsTheorem.{IsGood}
use Rattle.law_net.specs.ContextsPackages.{AllFit}
use Rattle.law_net.proofs.WiredSends.{IsSent, sent_facts, first_taken, first_context, in_context}
use Rattle.law_net.proofs.WiredInvoked.{lawful_at}
use Rattle.law_net.proofs.WiredGifts.{Gift}
use Rattle.law_net.proofs.WiredWords.{Begins, AtEntry, AtInput, gift_fits}
use Rattle.law_net.proofs.WiredFed.{MadeAt, ByGift, ByWire, made_at, sent_there, giver_of, gift_role}
use Rattle.law_net.proofs.WiredNets.{all_of}
use Rattle.law_net.proofs.WiredTraced.{traced}
use Rattle.law_net.proofs.CreditsOpened.{never_gift}

-- in a turn after number t of the loop at node n of c, or in what such a turn invokes
abbrev pub After : Context → ℕ → ℕ → Context → Type 0
After c n t Main = ⊥
After c n t (Called d m) = After c n t d
After c n t (Turned d m u) = ((d ≡ c) × (m ≡ n) × (t < u)) ⊎ After c n t d

-- what results from the credit for the turn after number t
pub data Later (c : Context) (n t : ℕ) (i : Item) : Type 0 where
  LAfter : After c n t i.context → Later c n t i
  LTaker : i.context ≡ c → i.inlet.part ≡ Taker n → suc t < i.inlet.way → Later c n t i
  LFramer : i.context ≡ Turned c n t → i.inlet.part ≡ NextFramer → Later c n t i
  LAsked : i.context ≡ Turned c n t → i.inlet.part ≡ NextAsked → Later c n t i
  LFanned : i.context ≡ Turned c n t → i.inlet.part ≡ NextFanned → Later c n t i
  LSender : (j : ℕ) → i.context ≡ Turned c n t → i.inlet.part ≡ NextSender j → i.inlet.port ≡ Left → Later c n t i

-- the credit was granted
abbrev pub HasTaken : Context → ℕ → ℕ → List Firing → Type 0
HasTaken c n t fired = (f : Firing) × Contains fired f × (f.context ≡ c) × (f.part ≡ Taker n) × (f.way ≡ t)

-- the part of the next turn's frame is the one that fans it out
fanned_from : (r : Parts.Part) → NextFrame ≡ goes_from r → r ≡ NextFanned
fanned_from NextFanned e = refl
fanned_from (Fanned m) e = absurd (cc)
fanned_from Entry e = absurd (cc)
fanned_from Parts.TurnCont e = absurd (cc)
fanned_from r e = absurd (cc)

module _ (fl : Flow) (p : Plan) (w : Wires) (good : IsGood fl p w) (c : Context) (n t : ℕ) where
  module _ (f : Firing) (all : AllFit fl w (takes fl f)) where
    abbrev First : Item
    First = first_taken fl w f f.part

    abbrev IsGrant : Type 0
    IsGrant = (f.context ≡ c) × (f.part ≡ Taker n) × (f.way ≡ suc t)

    near_under : (d : Context) → f.context ≡ d → After c n t d → Later c n t First
    near_under d e u = LAfter (subst (After c n t) (sym (first_context fl w f f.part ∙ e)) u)

    first_at : (d : Context) → f.context ≡ d → First.context ≡ d
    first_at d e = first_context fl w f f.part ∙ e

    first_part : (r : Parts.Part) → f.part ≡ r → First.inlet.part ≡ (first_taken fl w f r).inlet.part
    first_part r e = ap (λ (r : Parts.Part). (first_taken fl w f r).inlet.part) e

    near_role : (x : Role) → role_of f ≡ x → After c n t x.context → Later c n t First
    near_role x e u = near_under x.context (ap (λ (r : Role). r.context) e) u

    near_landing : (d : Context) (m j u : ℕ) (l : Bool) → role_of f ≡ (if l then role (Turned d m u) (LastReturn j) 0 else role (Called d m) (Result j) 0)
        → After c n t d → Later c n t First
    near_landing d m j u true e a = near_role (role (Turned d m u) (LastReturn j) 0) e (inr a)
    near_landing d m j u false e a = near_role (role (Called d m) (Result j) 0) e a

    -- the way of a take
    taker_turn : (d : Context) (m v : ℕ) → role_of f ≡ role d (Taker m) v → f.way ≡ v
    taker_turn d m v e = sym (ap (λ (r : Parts.Part). turn_in r f.way) (ap (λ (r : Role). r.part) e)) ∙ ap (λ (r : Role). r.turn) e

    taker_first : (d : Context) (m v : ℕ) → role_of f ≡ role d (Taker m) v → First.inlet.way ≡ v
    taker_first d m v e = ap (λ (r : Parts.Part). (first_taken fl w f r).inlet.way) (ap (λ (r : Role). r.part) e) ∙ taker_turn d m v e

    near_taker : (d : Context) (m u : ℕ) → role_of f ≡ role d (Taker m) (suc u) → ((d ≡ c) × (m ≡ n) × (t < u)) ⊎ After c n t d → Later c n t First
    near_taker d m u e (inr a) = near_role (role d (Taker m) (suc u)) e a
    near_taker d m u e (inl (a, b, l)) = let way = taker_first d m (suc u) e in
        LTaker (first_at c (ap (λ (r : Role). r.context) e ∙ a)) (first_part (Taker m) (ap (λ (r : Role). r.part) e) ∙ ap Taker b) (omega (arith, way, l))

    near_next : (d : Context) (m u j : ℕ) → role_of f ≡ role (Turned d m u) (NextSender j) 0 → ((d ≡ c) × (m ≡ n) × (t < suc u)) ⊎ After c n t d
        → Later c n t First
    near_next d m u j e (inr a) = near_role (role (Turned d m u) (NextSender j) 0) e (inr a)
    near_next d m u j e (inl (a, b, l)) = pick (cases_eq u t)
      where
        pick : (u ≡ t) ⊎ (u ≡ t → ⊥) → Later c n t First
        pick (inr x) = near_role (role (Turned d m u) (NextSender j) 0) e (inl (a, b, omega (arith, l, x)))
        pick (inl same) = let part = ap (λ (r : Role). r.part) e in
            LSender j (first_at (Turned c n t) (ap (λ (r : Role). r.context) e ∙ (λ k. Turned (a k) (b k) (same k)))) (first_part (NextSender j) part)
            (ap (λ (r : Parts.Part). (first_taken fl w f r).inlet.port) part)

    not_first : {X : Type 0} (d : Context) (m : ℕ) → ((d ≡ c) × (m ≡ n) × (t < 0)) ⊎ After c n t d → (After c n t d → X) → X
    not_first d m (inr a) go = go a
    not_first d m (inl (a, b, l)) go = absurd (omega (arith, l))

    near_giver : (d : Context) (r : Parts.Part) (u : ℕ) → role_of f ≡ giver_of fl d r u → After c n t d → Later c n t First
    near_giver d (InCell m) u e a = near_role _ e a
    near_giver d (Asked m) u e a = near_role _ e a
    near_giver d NextAsked u e a = near_role _ e a
    near_giver d (Fanned m) u e a = near_role _ e a
    near_giver d NextFanned u e a = near_role _ e a
    near_giver d (LoopDone m) u e a = near_role _ e a
    near_giver d (Sender m j) u e a = near_role _ e a
    near_giver d Freed u e a = near_role _ e a
    near_giver d Done u e a = near_role _ e a
    near_giver d (Shown j) u e a = near_role _ e a
    near_giver d (Landing m j) u e a = near_landing d m j u (is_loop (block_in fl d) m) e a
    near_giver d (CallDone m) u e a = near_role _ e a
    near_giver d (Giver m) u e a = near_role _ e (inr a)
    near_giver d (Drainer m) u e a = near_role _ e (inr a)
    near_giver d (Taker m) (suc u) e a = near_role _ e (inr a)
    near_giver (Called d m) Entry u e a = near_role _ e a
    near_giver (Called d m) (Line j) u e a = near_role _ e a
    near_giver (Turned d m zero) Entry u e a = not_first d m a (λ a. near_role _ e a)
    near_giver (Turned d m zero) (Line j) u e a = not_first d m a (λ a. near_role _ e a)
    near_giver (Turned d m (suc v)) Entry u e a = near_next d m v 0 e a
    near_giver (Turned d m (suc v)) (Line j) u e a = near_next d m v (suc j) e a
    near_giver (Turned d m v) NextFramer u e a = near_taker d m v e a
    near_giver d r u e a = near_role _ e a

    way_zero : (i : Item) → Fits fl w (spot_of i) → (r : Parts.Part) → i.inlet.part ≡ r → way_fits fl i.context r i.inlet.port i.inlet.way ≡ true
    way_zero i h r e = subst (λ (s : Parts.Part). way_fits fl i.context s i.inlet.port i.inlet.way ≡ true) e h.way

    taker_from : (i : Item) → Gift fl w f i → i.context ≡ c → i.inlet.part ≡ Taker n → suc t < i.inlet.way → (u : ℕ) → i.inlet.way ≡ u → Later c n t First
    taker_from i g a e l zero v = absurd (omega (arith, l, v))
    taker_from i g a e l (suc u) v =
        let r = gift_role fl p w good f all i g ∙ (λ k. giver_of fl (a k) (e k) (v k)) in
        near_role (role (Turned c n u) Asker 0) r (inl (refl, refl, omega (arith, l, v)))

    -- WHAT RESULTS from the credit is made by its grant, or from what resulted from it
    gift_near : (i : Item) → Gift fl w f i → Later c n t i → IsGrant ⊎ Later c n t First
    gift_near i g (LAfter a) = inr (near_giver i.context i.inlet.part i.inlet.way (gift_role fl p w good f all i g) a)
    gift_near i g (LTaker a e l) = inr (taker_from i g a e l i.inlet.way refl)
    gift_near i g (LFramer a e) = let r = gift_role fl p w good f all i g ∙ (λ k. giver_of fl (a k) (e k) i.inlet.way) in
        inl (ap (λ (r : Role). r.context) r, ap (λ (r : Role). r.part) r, taker_turn c n (suc t) r)
    gift_near i g (LAsked a e) = let r = gift_role fl p w good f all i g ∙ (λ k. giver_of fl (a k) (e k) i.inlet.way) in
        inr (LFramer (first_at (Turned c n t) (ap (λ (r : Role). r.context) r)) (first_part NextFramer (ap (λ (r : Role). r.part) r)))
    gift_near i g (LFanned a e) = let r = gift_role fl p w good f all i g ∙ (λ k. giver_of fl (a k) (e k) i.inlet.way) in
        inr (LAsked (first_at (Turned c n t) (ap (λ (r : Role). r.context) r)) (first_part NextAsked (ap (λ (r : Role). r.part) r)))
    gift_near i g (LSender j a e x) =
        absurd (never_gift fl p w good c n f all i g (NextSender j) e (λ b. refl) (λ d h. h)
        (way_zero i (gift_fits fl p w good f all i g) (NextSender j) e))

    fanned_near : (i : Item) → IsSent fl w f i → i.context ≡ Turned c n t → ((x : Carried) → Suits (arrives_at i.inlet.part i.inlet.port) x → NextFrame ≡ x)
        → Later c n t First
    fanned_near i s a kind =
        let facts = sent_facts fl w f all s.from s.along in
        let suits = (lawful_at fl p w good f.context (in_context fl w f all)).leads.suits s.from i.inlet facts.there s.wire in
        let from = fanned_from s.from.part (kind (goes_from s.from.part) suits) in
        let part : NextFanned ≡ f.part = ap (maker_of (block_in fl f.context)) (sym from) ∙ facts.maker in
        LFanned (first_at (Turned c n t) (sym (ap (λ (i : Item). i.context) s.is) ∙ a)) (first_part NextFanned (sym part))

    sent_near : (i : Item) → IsSent fl w f i → Later c n t i → Later c n t First
    sent_near i s (LAfter a) = near_under i.context (sym (ap (λ (i : Item). i.context) s.is)) a
    sent_near i s (LTaker a e l) = let t = sent_there fl p w good f i all s in absurd (true≢false (sym (ap (is_unwired (block_in fl i.context)) e) ∙ t.2))
    sent_near i s (LFramer a e) = let t = sent_there fl p w good f i all s in absurd (true≢false (sym (ap (is_unwired (block_in fl i.context)) e) ∙ t.2))
    sent_near i s (LAsked a e) =
        let t = sent_there fl p w good f i all s in absurd (true≢false (sym t.0 ∙ ap (there_in fl (site_in fl w i.context) (wiring_in fl w i.context)) e))
    sent_near i s (LFanned a e) = let t = sent_there fl p w good f i all s in absurd (true≢false (sym (ap (is_unwired (block_in fl i.context)) e) ∙ t.2))
    sent_near i s (LSender j a e q) =
        fanned_near i s a (λ x h. subst (λ (q : Port). Suits (arrives_at (NextSender j) q) x) q
        (subst (λ (r : Parts.Part). Suits (arrives_at r i.inlet.port) x) e h))

    made_near : (i : Item) → Contains (makes fl w f) i → Later c n t i → IsGrant ⊎ Later c n t First
    made_near i h x = pick (made_at fl p w good f i all h)
      where
        pick : MadeAt fl p w good f i → IsGrant ⊎ Later c n t First
        pick (ByGift g) = gift_near i g x
        pick (ByWire s) = inr (sent_near i s x)

  -- at the beginning nothing resulted from it
  in_main : (i : Item) (r : Parts.Part) → i.context ≡ Main → i.inlet.part ≡ r → (r ≡ Taker n → ⊥) → Later c n t i → ⊥
  in_main i r m q none (LAfter a) = subst (After c n t) m a
  in_main i r m q none (LTaker a g l) = none (sym q ∙ g)
  in_main i r m q none (LFramer a g) = let x : Main ≡ Turned c n t = sym m ∙ a in absurd (cc)
  in_main i r m q none (LAsked a g) = let x : Main ≡ Turned c n t = sym m ∙ a in absurd (cc)
  in_main i r m q none (LFanned a g) = let x : Main ≡ Turned c n t = sym m ∙ a in absurd (cc)
  in_main i r m q none (LSender j a g l) = let x : Main ≡ Turned c n t = sym m ∙ a in absurd (cc)

  not_near : (inputs : List ℤ) (i : Item) → Begins inputs i → Later c n t i → ⊥
  not_near inputs i (AtEntry e) near = in_main i Entry (ap (λ (i : Item). i.context) e) (ap (λ (i : Item). i.inlet.part) e) (λ x. absurd (cc)) near
  not_near inputs i (AtInput m z l e) near = in_main i (Line m) (ap (λ (i : Item). i.context) e) (ap (λ (i : Item). i.inlet.part) e) (λ x. absurd (cc)) near

  -- SO, of any net that the moves get to
  pub all_granted : (inputs : List ℤ) (b : Config) → ProperMoves fl w (begin inputs) b → ((h : Firing) → Contains b.fired h → AllFit fl w (takes fl h))
      → (i : Item) → Contains (all_of fl b) i → Later c n t i → HasTaken c n (suc t) b.fired
  all_granted inputs b moves fit i h later =
      let o = traced fl w (Later c n t) (λ (f : Firing). (f.context ≡ c) × (f.part ≡ Taker n) × (f.way ≡ suc t)) made_near inputs b moves fit (not_near inputs)
      i h later in (o.0, o.1, o.2.0, o.2.1, o.2.2)
