-- What fires makes items at inlets that are there, with words of their kinds.
use Rattle.std.proofs.Common.{◌≡◌, ℕ, zero, suc, ◌+◌, ◌<◌, ◌≤◌, Bool, true, false, ◌||◌, ℤ, List, [], ◌∷◌, length, refl, sym, ap, ◌∙◌, subst, inl, inr, ◌⊎◌}
use Rattle.std.proofs.Common.{arith, true≢false, lt-ltb, ltb-true, eqb-true, Some, nat_lt, ◌==◌, if◌then◌else◌}
use Rattle.std.specs.Prelude.{All, Contains, pos}
use Rattle.std.proofs.lemmas.Bool.{and_parts, and_from, or_left}
use Rattle.std.proofs.lemmas.List.Elements.{All-contains, Contains-append_right}
use Rattle.lemmas.proofs.Contains.{contains_cases, contains_none}
use Rattle.tags.specs.declared.value.Value.TheVariants.{Int}
use Rattle.tags.specs.declared.token.Port.{Port}
use Rattle.tags.specs.declared.token.Port.TheVariants.{Left, Right}
use Rattle.semantics.specs.Graph.{Flow}
use Rattle.semantics.specs.Meaning.{Context, Main, Called, Turned}
use Rattle.semantics.specs.Faithful.{inputs_in}
use Rattle.semantics.specs.Plan.{Plan}
use Rattle.law_net.proofs.ContextsWords.{carries_of, word_there}
use Rattle.law_net.specs.ContextsParts.{Part, Entry, Line, Opener, Framer, Linker, Sender, Landing, Giver, Taker, Drainer, Strict, Result, Asker, NextFramer}
use Rattle.law_net.specs.ContextsParts.{NextSender, LastReturn, DrainReturn, Join, End, Asked, NextAsked, InCell, Drained, Shown, Done, Freed, Inlet}
use Rattle.law_net.specs.ContextsParts.{inlet, Note}
use Rattle.law_net.specs.ContextsParts.{Datum, ToHost, BackTo, signal, Item, item, Firing, spot_of}
use Rattle.law_net.specs.ContextsBlocks.{Side, waits_in, there_in, is_cell, is_store, is_kind, plain_kind, is_loop, is_call}
use Rattle.law_net.specs.Contexts.{Wires, block_in, site_in, wiring_in, IsContext, is_strict_in, child, return_of}
use Rattle.law_net.specs.ContextsWires.{Carried, Anything, AValue, Suits, arrives_at, goes_from, is_unwired, wired_way, wired_port}
use Rattle.law_net.specs.ContextsFirings.{own_takes, renewed, takes, makes, begins, input_items, sent_word, line_value, value_in, right_way}
use Rattle.law_net.specs.ContextsLaws.{Fits, WordFits, Carries, spot_there, way_fits, port_fits, sender_way, maker_of}
use Rattle.law_net.specs.ContextsTheorem.{IsGood}
use Rattle.law_net.specs.ContextsPackages.{InputsFit, AllFit, WordsAreFit}
use Rattle.law_net.proofs.WiredSends.{all_from, side_by, gives_by, IsSent, made_cases, first_taken, takes_first, takes_right, first_fits, sent_facts}
use Rattle.law_net.proofs.WiredSends.{in_context}
use Rattle.law_net.proofs.WiredInvoked.{block_here, call_invoked, loop_invoked, is_turned, Child, ByCall, ByLoop, child_cases, child_here, lawful_at}
use Rattle.law_net.proofs.WiredGifts.{argument, Gift, GHeld, GAsked, GArgument, GFanned, GEntry, GInput, GShown, GLanding, GLeaves, GDrains, GFreed, GDone}
use Rattle.law_net.proofs.WiredGifts.{GCallDone, GGiver, GTaker, GNextFramer, GNextAsked, GNextFanned, GNextEntry, GNextInput, GLoopDone, there_as}
use Rattle.law_net.proofs.WiredGifts.{there_in_context, gift_of}

-- SPOTS, from the wires' inlets
pub spot_from : (fl : Flow) (w : Wires) (c : Context) (r : Part) → there_in fl (site_in fl w c) (wiring_in fl w c) r ≡ true → spot_there fl w c r ≡ true
spot_from fl w c (Asked n) h = absurd (true≢false (sym h))
spot_from fl w c NextAsked h = absurd (true≢false (sym h))
spot_from fl w c (InCell n) h = absurd (true≢false (sym h))
spot_from fl w c (Shown j) h = absurd (true≢false (sym h))
spot_from fl w c Done h = absurd (true≢false (sym h))
spot_from fl w c Freed h = refl
spot_from fl w c r h = h

sender_from : (strict : Bool) (q : Port) (t : ℕ) → (t == 0) ≡ true → sender_way strict q t ≡ true
sender_from strict Left t h = h
sender_from false Right t h = h
sender_from true Right zero h = refl
sender_from true Right (suc t) h = let e = eqb-true (suc t) 0 h in absurd (omega (arith, e))

way_from : (fl : Flow) (c : Context) (r : Part) (q : Port) (t : ℕ) → wired_way r t ≡ true → is_unwired (block_in fl c) r ≡ false → way_fits fl c r q t ≡ true
way_from fl c (Sender n i) q t h g = sender_from (is_strict_in fl c n) q t h
way_from fl c (Landing n j) q t h g = absurd (true≢false g)
way_from fl c (Giver n) q t h g = refl
way_from fl c (Drainer n) q t h g = refl
way_from fl c (Taker n) q t h g = absurd (true≢false g)
way_from fl c r q t h g = h

port_from : (fl : Flow) (c : Context) (r : Part) (q : Port) → wired_port (block_in fl c) r q ≡ true → port_fits fl c r q ≡ true
port_from fl c r Left h = refl
port_from fl c r Right h = h

-- KINDS OF WORDS
suit : (fl : Flow) (w : Wires) (c : Context) (t : ℕ) (k : Note) (i j : Carried) → Suits i j → Carries fl w c t j k → Carries fl w c t i k
suit fl w c t k Anything j s h = tt
suit fl w c t k i j s h = subst (λ (i : Carried). Carries fl w c t i k) (sym s) h

module _ (fl : Flow) (w : Wires) (f : Firing) (all : AllFit fl w (takes fl f)) (words : All (WordFits fl w) (takes fl f)) where
  first_carries : (r : Part) → r ≡ f.part → WordFits fl w (first_taken fl w f r)
  first_carries r e =
      subst (λ (r : Part). WordFits fl w (first_taken fl w f r)) (sym e)
      (All-contains (WordFits fl w) (takes fl f) (first_taken fl w f f.part) words (takes_first fl w f))

  pub right_carries : (r : Part) → r ≡ f.part → waits_in (block_in fl f.context) r ≡ true
      → Carries fl w f.context (right_way fl f.context r) (arrives_at r Right) f.right
  right_carries r e h =
      subst (λ (r : Part). waits_in (block_in fl f.context) r ≡ true → Carries fl w f.context (right_way fl f.context r) (arrives_at r Right) f.right) (sym e)
      (λ h. carries_of fl w (item f.context (inlet f.part Right (right_way fl f.context f.part)) f.right)
      (All-contains (WordFits fl w) (takes fl f) (item f.context (inlet f.part Right (right_way fl f.context f.part)) f.right) words (takes_right fl w f h))) h

  -- what is sent is of the kind that goes from there
  carries_from : (t : ℕ) (u : Side) (q : Part) → side_by fl f f.part ≡ Some u → maker_of (block_in fl f.context) q ≡ f.part
      → Carries fl w f.context t (goes_from q) (sent_word fl f f.part)
  carries_from t u (Line n) s m = subst (λ (r : Part). Carries fl w f.context t AValue (sent_word fl f r)) m (go (is_cell (block_in fl f.context) n))
    where
      go : (x : Bool) → Carries fl w f.context t AValue (sent_word fl f (if x then InCell n else Line n))
      go true = (f.answer, refl)
      go false = (line_value fl f.context n (value_in f.left) (value_in f.right), refl)
  carries_from t u (Opener n) s m = subst (λ (r : Part). Carries fl w f.context t AValue (sent_word fl f r)) m (Int (pos 0), refl)
  carries_from t u (Drained n) s m = subst (λ (r : Part). Carries fl w f.context t AValue (sent_word fl f r)) m (Int (pos 0), refl)
  carries_from t u (Strict n i) s m = subst (λ (r : Part). Carries fl w f.context t AValue (sent_word fl f r)) m (Int (pos 0), refl)
  carries_from t u (Join r i) s m = subst (λ (r : Part). Carries fl w f.context t AValue (sent_word fl f r)) m (Int (pos 0), refl)
  carries_from t u (Sender n i) s m = subst (λ (r : Part). Carries fl w f.context t AValue (sent_word fl f r)) m (Int (pos 0), refl)
  carries_from t u (NextSender j) s m = subst (λ (r : Part). Carries fl w f.context t AValue (sent_word fl f r)) m (Int (pos 0), refl)
  carries_from t u (Result j) s m = subst (λ (r : Part). Carries fl w f.context t AValue (sent_word fl f r)) m (Int (pos 0), refl)
  carries_from t u (LastReturn j) s m = subst (λ (r : Part). Carries fl w f.context t AValue (sent_word fl f r)) m (Int (pos 0), refl)
  carries_from t u DrainReturn s m = subst (λ (r : Part). Carries fl w f.context t AValue (sent_word fl f r)) m (Int (pos 0), refl)
  carries_from t u (InCell n) s m = subst (λ (r : Part). Carries fl w f.context t AValue (sent_word fl f r)) m (f.answer, refl)
  carries_from t u (Framer n) s m = let none = ap (side_by fl f) m in absurd (cc)
  carries_from t u NextFramer s m = let none = ap (side_by fl f) m in absurd (cc)
  carries_from t u Asker s m = let none = ap (side_by fl f) m in absurd (cc)
  carries_from t u End s m = let none = ap (side_by fl f) m in absurd (cc)
  carries_from t u (Linker n) s m = let none = ap (side_by fl f) m in absurd (cc)
  carries_from t u (Taker n) s m = let none = ap (side_by fl f) m in absurd (cc)
  carries_from t u (Asked n) s m = let none = ap (side_by fl f) m in absurd (cc)
  carries_from t u NextAsked s m = let none = ap (side_by fl f) m in absurd (cc)
  carries_from t u q s m = subst (λ (r : Part). Carries fl w f.context t (goes_from q) (sent_word fl f r)) m (first_carries q m)

-- THE GRAPH'S FIRST ITEMS
pub input_cases : (n : ℕ) (zs : List ℤ) (i : Item) → Contains (input_items n zs) i
    → (m : ℕ) × (z : ℤ) × (n ≤ m) × (m < n + length zs) × (i ≡ item Main (inlet (Line m) Left 0) (Datum (Int z)))
input_cases n [] i c = absurd (contains_none i c)
input_cases n (z ∷ zs) i c = pick (contains_cases (item Main (inlet (Line n) Left 0) (Datum (Int z))) (input_items (n + 1) zs) i c) (input_cases (n + 1) zs i)
  where
    pick : (item Main (inlet (Line n) Left 0) (Datum (Int z)) ≡ i) ⊎ Contains (input_items (n + 1) zs) i
        → (Contains (input_items (n + 1) zs) i
        → (m : ℕ) × (z : ℤ) × (n + 1 ≤ m) × (m < n + 1 + length zs) × (i ≡ item Main (inlet (Line m) Left 0) (Datum (Int z))))
        → (m : ℕ) × (y : ℤ) × (n ≤ m) × (m < n + length (z ∷ zs)) × (i ≡ item Main (inlet (Line m) Left 0) (Datum (Int y)))
    pick (inl e) more = (n, z, omega arith, omega arith, sym e)
    pick (inr d) more = let m = more d in let low = m.2 in let high = m.3 in (m.0, m.1, omega (arith, low), omega (arith, high), m.4)

pub data Begins (inputs : List ℤ) (i : Item) : Type 0 where
  AtEntry : i ≡ item Main (inlet Entry Left 0) ToHost → Begins inputs i
  AtInput : (m : ℕ) (z : ℤ) → m < length inputs → i ≡ item Main (inlet (Line m) Left 0) (Datum (Int z)) → Begins inputs i

pub begin_cases : (inputs : List ℤ) (i : Item) → Contains (begins inputs) i → Begins inputs i
begin_cases inputs i c = pick (contains_cases (item Main (inlet Entry Left 0) ToHost) (input_items 0 inputs) i c)
  where
    pick : (item Main (inlet Entry Left 0) ToHost ≡ i) ⊎ Contains (input_items 0 inputs) i → Begins inputs i
    pick (inl e) = AtEntry (sym e)
    pick (inr d) = let m = input_cases 0 inputs i d in let h = m.3 in AtInput m.0 m.1 (omega (arith, h)) m.4

-- EVERY CONTEXT
module _ (fl : Flow) (p : Plan) (w : Wires) (good : IsGood fl p w) where
  pub sent_fits : (f : Firing) (i : Item) → AllFit fl w (takes fl f) → IsSent fl w f i → Fits fl w (spot_of i)
  sent_fits f i all s =
      let c = in_context fl w f all in
      let x = i.inlet in
      let k = (lawful_at fl p w good f.context c).fed.inlets s.from x (sent_facts fl w f all s.from s.along).there s.wire in
      subst (λ (d : Context). Fits fl w (record { context = d; inlet = x })) (sym (ap (λ (i : Item). i.context) s.is)) (record {
        is_context = c;
        there = spot_from fl w f.context x.part k.0;
        port = port_from fl f.context x.part x.port k.2;
        way = way_from fl f.context x.part x.port x.way k.1 k.3;
      })

  pub sent_carries : (f : Firing) (i : Item) → AllFit fl w (takes fl f) → All (WordFits fl w) (takes fl f) → IsSent fl w f i → WordFits fl w i
  sent_carries f i all words s =
      let x = i.inlet in let facts = sent_facts fl w f all s.from s.along in
      let suits = (lawful_at fl p w good f.context (in_context fl w f all)).leads.suits s.from x facts.there s.wire in
      let k = (lawful_at fl p w good f.context (in_context fl w f all)).fed.inlets s.from x facts.there s.wire in
      subst (WordFits fl w) (sym s.is) (word_there fl w (item f.context x (sent_word fl f f.part)) x.part
      (λ n e. true≢false (sym k.0 ∙ ap (there_in fl (site_in fl w f.context) (wiring_in fl w f.context)) e))
      (suit fl w f.context x.way (sent_word fl f f.part) (arrives_at x.part x.port) (goes_from s.from.part) suits
      (carries_from fl w f all words x.way s.from s.from.part s.along facts.maker)))

  -- WHAT IS GIVEN
  or_last : (x : Bool) → (x || true) ≡ true
  or_last true = refl
  or_last false = refl

  or_second : (x y : Bool) → y ≡ true → (x || y) ≡ true
  or_second true y h = refl
  or_second false y h = h

  module _ (f : Firing) (all : AllFit fl w (takes fl f)) where
    here : IsContext fl f.context
    here = in_context fl w f all

    at_context : (c : Context) → f.context ≡ c → IsContext fl c
    at_context c e = subst (IsContext fl) e here

    abbrev FitsAt : Context → Inlet → Type 0
    FitsAt c x = Fits fl w (record { context = c; inlet = x })

    fits_as : (i : Item) (c : Context) (x : Inlet) (k : Note) → i ≡ item c x k → FitsAt c x → Fits fl w (spot_of i)
    fits_as i c x k e h = subst (λ (i : Item). Fits fl w (spot_of i)) (sym e) h

    -- what a credit or a loop's end is of
    drained_loop : (n : ℕ) → f.part ≡ Drained n → is_loop (block_in fl f.context) n ≡ true
    drained_loop n e =
        subst (λ (r : Part). spot_there fl w (first_taken fl w f r).context (first_taken fl w f r).inlet.part ≡ true) e (first_fits fl w f all).there

    pub gift_fits : (i : Item) → Gift fl w f i → Fits fl w (spot_of i)
    gift_fits i (GHeld n e h g) = subst (λ (i : Item). Fits fl w (spot_of i)) (sym g) (record { is_context = here; there = h; port = refl; way = refl })
    gift_fits i (GAsked n e g) = fits_as i _ _ _ g (record { is_context = here; there = there_as fl w f all (Framer n) e refl; port = refl; way = refl })
    gift_fits i (GArgument n m v e s c g) =
        let old = All-contains (λ (i : Item). Fits fl w (spot_of i)) (takes fl f) (argument f.context n m 0 v) all
        (Contains-append_right (own_takes fl f f.part) (renewed fl f f.part) (argument f.context n m 0 v) c) in
        fits_as i _ _ _ g (record { is_context = here; there = old.there; port = refl; way = ap (λ (t : Bool). sender_way t Right 1) s })
    gift_fits i (GFanned n e g) = fits_as i _ _ _ g (record { is_context = here; there = there_as fl w f all (Asked n) e refl; port = refl; way = refl })
    gift_fits i (GEntry n e g) =
        let d = child_here fl p w good f.context n (child fl f.context n) here
        (child_cases fl p w good f.context n (there_as fl w f all (Linker n) e refl)) in
        fits_as i _ _ _ g (record { is_context = d.0; there = refl; port = refl; way = refl })
    gift_fits i (GInput n m e g) =
        let sends = and_parts _ _ (there_as fl w f all (Sender n m) e refl) in
        let d = child_here fl p w good f.context n (child fl f.context n) here (child_cases fl p w good f.context n sends.0) in
        fits_as i _ _ _ g
        (record {
          is_context = d.0;
          there = or_left _ (is_kind plain_kind (block_in fl (child fl f.context n)) m) (ap (nat_lt m) d.1.inputs ∙ sends.1);
          port = refl;
          way = refl;
        })
    gift_fits i (GShown j e c g) =
        fits_as i _ _ _ g (record { is_context = at_context Main c; there = there_in_context fl w f all (Result j) e refl Main c; port = refl; way = refl })
    gift_fits i (GLanding d n j e c g) =
        let h = at_context (Called d n) c in let out = there_in_context fl w f all (Result j) e refl (Called d n) c in
        fits_as i _ _ _ g (record {
          is_context = h.0;
          there = and_from _ _ (or_left _ (is_loop (block_in fl d) n) h.1) (ap (nat_lt j) (call_invoked fl p w good d n h.0 h.1).1 ∙ out);
          port = refl;
          way = or_last (is_loop (block_in fl d) n);
        })
    gift_fits i (GLeaves d n t j e c g) =
        let h = at_context (Turned d n t) c in let out = there_in_context fl w f all (LastReturn j) e refl (Turned d n t) c in
        fits_as i _ _ _ g (record {
          is_context = h.0;
          there =
              and_from _ _ (or_second (is_call (block_in fl d) n) (is_loop (block_in fl d) n) h.1)
              (ap (nat_lt j) (loop_invoked fl p w good d n t h.0 h.1).1 ∙ out);
          port = refl;
          way = or_left _ (t == 0) h.1;
        })
    gift_fits i (GDrains d n t e c g) =
        let h = at_context (Turned d n t) c in fits_as i _ _ _ g (record { is_context = h.0; there = h.1; port = refl; way = refl })
    gift_fits i (GFreed e g) = fits_as i _ _ _ g (record { is_context = here; there = refl; port = refl; way = refl })
    gift_fits i (GDone e c g) = fits_as i _ _ _ g (record { is_context = at_context Main c; there = refl; port = refl; way = refl })
    gift_fits i (GCallDone d n e c g) =
        let h = at_context (Called d n) c in fits_as i _ _ _ g (record { is_context = h.0; there = h.1; port = refl; way = refl })
    gift_fits i (GGiver d n t e c g) =
        let h = at_context (Turned d n t) c in fits_as i _ _ _ g (record { is_context = h.0; there = h.1; port = refl; way = refl })
    gift_fits i (GTaker d n t e c g) =
        let h = at_context (Turned d n t) c in fits_as i _ _ _ g (record { is_context = h.0; there = h.1; port = refl; way = lt-ltb 0 (suc t) (omega arith) })
    gift_fits i (GNextFramer n t e u g) =
        fits_as i _ _ _ g
        (record { is_context = is_turned fl p w good f.context n t here (there_as fl w f all (Taker n) e refl); there = refl; port = refl; way = refl })
    gift_fits i (GNextAsked e g) = fits_as i _ _ _ g (record { is_context = here; there = there_as fl w f all NextFramer e refl; port = refl; way = refl })
    gift_fits i (GNextFanned e g) = fits_as i _ _ _ g (record { is_context = here; there = there_as fl w f all NextAsked e refl; port = refl; way = refl })
    gift_fits i (GNextEntry d n t e c g) =
        let h = at_context (Turned d n t) c in
        fits_as i _ _ _ g (record { is_context = is_turned fl p w good d n (suc t) h.0 h.1; there = refl; port = refl; way = refl })
    gift_fits i (GNextInput d n t j e c g) =
        let h = at_context (Turned d n t) c in
        let low = ltb-true (suc j) ((block_in fl (Turned d n t)).inputs + 1) (there_in_context fl w f all (NextSender (suc j)) e refl (Turned d n t) c) in
        fits_as i _ _ _ g (record {
          is_context = is_turned fl p w good d n (suc t) h.0 h.1;
          there = or_left _ (is_kind plain_kind (block_in fl (Turned d n (suc t))) j) (lt-ltb j (block_in fl (Turned d n t)).inputs (omega (arith, low)));
          port = refl;
          way = refl;
        })
    gift_fits i (GLoopDone n e g) = fits_as i _ _ _ g (record { is_context = here; there = drained_loop n e; port = refl; way = refl })

    module _ (words : All (WordFits fl w) (takes fl f)) where
      a_signal : (i : Item) (c : Context) (x : Inlet) → i ≡ item c x signal → arrives_at x.part x.port ≡ AValue → WordFits fl w i
      a_signal i c x e h =
          subst (WordFits fl w) (sym e) (word_there fl w (item c x signal) x.part (no_cell x.part h)
          (subst (λ (k : Carried). Carries fl w c x.way k signal) (sym h) (Int (pos 0), refl)))
        where
          no_cell : (r : Part) → arrives_at r x.port ≡ AValue → (n : ℕ) → r ≡ InCell n → ⊥
          no_cell (InCell n) h m e = absurd (cc)
          no_cell r h m e = absurd (cc)

      right : (r : Part) → f.part ≡ r → waits_in (block_in fl f.context) r ≡ true
          → Carries fl w f.context (right_way fl f.context r) (arrives_at r Right) f.right
      right r e h = right_carries fl w f all words r (sym e) h

      pub gift_word : (i : Item) → Gift fl w f i → WordFits fl w i
      gift_word i (GHeld n e h g) = subst (WordFits fl w) (sym g) (refl, carried (is_store (block_in fl f.context) n))
        where
          carried : (t : Bool) → length (value_in f.left ∷ (if t then value_in f.right ∷ [] else [])) ≡ (if t then 2 else 1)
          carried true = refl
          carried false = refl
      gift_word i (GAsked n e g) = subst (WordFits fl w) (sym g) refl
      gift_word i (GArgument n m v e s c g) = subst (WordFits fl w) (sym g) (v, refl)
      gift_word i (GFanned n e g) = subst (WordFits fl w) (sym g) refl
      gift_word i (GEntry n e g) =
          subst (WordFits fl w) (sym g) (back (child fl f.context n) (child_cases fl p w good f.context n (there_as fl w f all (Linker n) e refl)))
        where
          back : (d : Context) → Child fl p w good f.context n d → BackTo f.context (inlet (Landing n 0) Left 0) ≡ return_of d
          back d (ByCall h c) = sym (ap return_of c)
          back d (ByLoop h c) = sym (ap return_of c)
      gift_word i (GInput n m e g) = subst (WordFits fl w) (sym g) (right (Sender n m) e refl)
      gift_word i (GShown j e c g) = subst (WordFits fl w) (sym g) (right (Result j) e refl)
      gift_word i (GLanding d n j e c g) = subst (WordFits fl w) (sym g) (right (Result j) e refl)
      gift_word i (GLeaves d n t j e c g) = subst (WordFits fl w) (sym g) (right (LastReturn j) e refl)
      gift_word i (GDrains d n t e c g) = subst (WordFits fl w) (sym g) (right DrainReturn e refl)
      gift_word i (GFreed e g) = a_signal i _ _ g refl
      gift_word i (GDone e c g) = a_signal i _ _ g refl
      gift_word i (GCallDone d n e c g) = a_signal i _ _ g refl
      gift_word i (GGiver d n t e c g) = a_signal i _ _ g refl
      gift_word i (GTaker d n t e c g) = subst (WordFits fl w) (sym g) refl
      gift_word i (GNextFramer n t e u g) = subst (WordFits fl w) (sym g) tt
      gift_word i (GNextAsked e g) = subst (WordFits fl w) (sym g) refl
      gift_word i (GNextFanned e g) = subst (WordFits fl w) (sym g) refl
      gift_word i (GNextEntry d n t e c g) = subst (WordFits fl w) (sym g) (right (NextSender 0) e refl ∙ ap return_of c)
      gift_word i (GNextInput d n t j e c g) = subst (WordFits fl w) (sym g) (right (NextSender (suc j)) e refl)
      gift_word i (GLoopDone n e g) = a_signal i _ _ g refl

  pub made_fits : (f : Firing) (i : Item) → AllFit fl w (takes fl f) → Contains (makes fl w f) i → Fits fl w (spot_of i)
  made_fits f i all c = pick (made_cases fl w f i c)
    where
      pick : Contains (gives_by fl w f f.part) i ⊎ IsSent fl w f i → Fits fl w (spot_of i)
      pick (inl d) = gift_fits f all i (gift_of fl w f all i d)
      pick (inr s) = sent_fits f i all s

  made_carries : (f : Firing) (i : Item) → AllFit fl w (takes fl f) → All (WordFits fl w) (takes fl f) → Contains (makes fl w f) i → WordFits fl w i
  made_carries f i all words c = pick (made_cases fl w f i c)
    where
      pick : Contains (gives_by fl w f f.part) i ⊎ IsSent fl w f i → WordFits fl w i
      pick (inl d) = gift_word f all words i (gift_of fl w f all i d)
      pick (inr s) = sent_carries f i all words s

  module _ (inputs : List ℤ) (fit : InputsFit fl inputs) where
    pub input_below : (m : ℕ) → m < length inputs → m < (block_in fl Main).inputs
    input_below m h = let e = fit ∙ ap inputs_in (block_here fl p w good Main good.main) in omega (arith, h, e)

    begin_fits : (i : Item) → Begins inputs i → Fits fl w (spot_of i)
    begin_fits i (AtEntry e) = subst (λ (i : Item). Fits fl w (spot_of i)) (sym e) (record { is_context = good.main; there = refl; port = refl; way = refl })
    begin_fits i (AtInput m z l e) = subst (λ (i : Item). Fits fl w (spot_of i)) (sym e) (record {
      is_context = good.main;
      there = or_left _ (is_kind plain_kind (block_in fl Main) m) (lt-ltb m (block_in fl Main).inputs (input_below m l));
      port = refl;
      way = refl;
    })

    begin_carries : (i : Item) → Begins inputs i → WordFits fl w i
    begin_carries i (AtEntry e) = subst (WordFits fl w) (sym e) refl
    begin_carries i (AtInput m z l e) = subst (WordFits fl w) (sym e) (Int z, refl)

    pub words_are_fit : WordsAreFit fl w inputs
    words_are_fit = record {
      makes_fit = λ f all. all_from (λ (i : Item). Fits fl w (spot_of i)) (makes fl w f) (λ i c. made_fits f i all c);
      begins_fit = all_from (λ (i : Item). Fits fl w (spot_of i)) (begins inputs) (λ i c. begin_fits i (begin_cases inputs i c));
      words = λ f all words. all_from (WordFits fl w) (makes fl w f) (λ i c. made_carries f i all words c);
      begin_words = all_from (WordFits fl w) (begins inputs) (λ i c. begin_carries i (begin_cases inputs i c));
    }
