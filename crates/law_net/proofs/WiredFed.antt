-- Each inlet is fed by one part, and each firing feeds it once.
use Rattle.std.proofs.Common.{◌≡◌, ◌≢◌, ℕ, zero, suc, ◌+◌, ◌<◌, ◌≤◌, Bool, true, false, ℤ, List, [], ◌∷◌, length, refl, sym, ap, ◌∙◌, subst, inl, inr, ◌⊎◌}
use Rattle.std.proofs.Common.{arith, true≢false, lt-ltb, ltb-true, Option, Some, None, if◌then◌else◌}
use Rattle.std.specs.Prelude.{Contains}
use Rattle.std.proofs.lemmas.Bool.{and_parts, cases_eq, cases_Bool}
use Rattle.lemmas.proofs.Contains.{contains_cases, contains_none}
use Rattle.tags.specs.declared.token.Port.TheVariants.{Left}
use Rattle.tags.specs.declared.value.Value.{Value}
use Rattle.tags.specs.declared.value.Value.TheVariants.{Int}
use Rattle.semantics.specs.Graph.{Flow}
use Rattle.semantics.specs.Meaning.{Context, Main, Called, Turned}
use Rattle.semantics.specs.Plan.{Plan}
use Rattle.law_confluence.specs.OrdersTotals.{one}
use Rattle.law_confluence.proofs.OrdersTotals.{one-cases}
use Rattle.law_net.specs.ContextsParts.{Part, Entry, Line, Framer, Fanned, Linker, Sender, Landing, CallDone, Giver, Taker, Drainer, LoopDone, Result, Asker}
use Rattle.law_net.specs.ContextsParts.{NextFramer, NextFanned, NextSender, LastReturn, DrainReturn, End, Asked, NextAsked, InCell, Drained, Shown, Done, Freed}
use Rattle.law_net.specs.ContextsParts.{Inlet, inlet, Note, Datum, FrameOf, BackTo, ToHost, signal, Item, item, Firing, Spot, spot_of, same_spot, same_part}
use Rattle.law_net.specs.ContextsParts.{Role, role, role_of, turn_in}
use Rattle.law_net.specs.ContextsBlocks.{Side, there_in, is_cell, is_loop, source_count}
use Rattle.law_net.specs.Contexts.{Wires, block_in, site_in, wiring_in, IsContext, child, next, is_strict_in}
use Rattle.law_net.specs.ContextsWires.{hits, is_unwired, wired_way, IsFed}
use Rattle.law_net.specs.ContextsFirings.{takes, makes, begins, input_items, sent_word, arguments_from, result_back, drain_back, end_back, credit_asked}
use Rattle.law_net.specs.ContextsFirings.{turn_before, next_entry}
use Rattle.law_net.specs.ContextsLaws.{maker_of}
use Rattle.law_net.specs.ContextsTheorem.{IsGood}
use Rattle.law_net.specs.ContextsPackages.{InputsFit, AllFit, InletsAreFed}
use Rattle.law_net.proofs.ContextsSames.{hits_at, hit_found, hit_never, same_spot-true, same_part-true, same_part-refl, inlet_found, inlet_counted}
use Rattle.law_net.proofs.WiredSends.{side_by, gives_by, asks_cell, sent_along, IsSent, sent_is, made_cases, made_hits, each_hits, sent_facts, in_context}
use Rattle.law_net.proofs.WiredInvoked.{not_loop, Child, ByCall, ByLoop, child_cases, child_here, lawful_at}
use Rattle.law_net.proofs.WiredGifts.{argument, Gift, GHeld, GAsked, GArgument, GFanned, GEntry, GInput, GShown, GLanding, GLeaves, GDrains, GFreed, GDone}
use Rattle.law_net.proofs.WiredGifts.{GCallDone, GGiver, GTaker, GNextFramer, GNextAsked, GNextFanned, GNextEntry, GNextInput, GLoopDone, there_as}
use Rattle.law_net.proofs.WiredGifts.{there_in_context, gift_of}
use Rattle.law_net.proofs.WiredWords.{Begins, AtEntry, AtInput, begin_cases, input_cases, input_below}

-- SIDES, distinguished
bool_cases : (a b : Bool) → (a ≡ b) ⊎ (a ≡ b → ⊥)
bool_cases true true = inl refl
bool_cases false false = inl refl
bool_cases true false = inr (λ e. true≢false e)
bool_cases false true = inr (λ e. true≢false (sym e))

pub side_cases : (t u : Side) → (t ≡ u) ⊎ (t ≢ u)
side_cases t u = go (cases_Bool (same_part t.part u.part)) (bool_cases t.second u.second)
  where
    go : (same_part t.part u.part ≡ true) ⊎ (same_part t.part u.part ≡ false) → (t.second ≡ u.second) ⊎ (t.second ≡ u.second → ⊥) → (t ≡ u) ⊎ (t ≢ u)
    go (inl p) (inl s) = let e = same_part-true t.part u.part p in inl (λ k. record { part = e k; second = s k })
    go (inl p) (inr n) = inr (λ e. n (ap (λ (t : Side). t.second) e))
    go (inr p) s = inr (λ e. true≢false (sym (same_part-refl t.part) ∙ ap (λ (u : Side). same_part t.part u.part) e ∙ p))

-- one more, where it is not there yet
pub cons_once : (x : Spot) (i : Item) (is : List Item) → hits_at x is ≤ 1 → ((j : Item) → Contains is j → spot_of j ≡ spot_of i → ⊥) → hits_at x (i ∷ is) ≤ 1
cons_once x i is h apart = go (one-cases (same_spot x (spot_of i)))
  where
    go : ((same_spot x (spot_of i) ≡ true) × (one (same_spot x (spot_of i)) ≡ 1)) ⊎ ((same_spot x (spot_of i) ≡ false) × (one (same_spot x (spot_of i)) ≡ 0))
        → hits_at x (i ∷ is) ≤ 1
    go (inl k) = let e = same_spot-true x (spot_of i) k.0 in let o = k.1 in let n = hit_never x is (λ j c g. apart j c (g ∙ e)) in omega (arith, o, n)
    go (inr k) = let o = k.1 in omega (arith, o, h)

one_once : (x : Spot) (i : Item) → hits_at x (i ∷ []) ≤ 1
one_once x i = cons_once x i [] (omega arith) (λ j c e. contains_none j c)

-- the first items differ
inputs_once : (x : Spot) (n : ℕ) (zs : List ℤ) → hits_at x (input_items n zs) ≤ 1
inputs_once x n [] = omega arith
inputs_once x n (z ∷ zs) =
    cons_once x (item Main (inlet (Line n) Left 0) (Datum (Int z))) (input_items (n + 1) zs) (inputs_once x (n + 1) zs)
    (λ j c e. later j (input_cases (n + 1) zs j c) e)
  where
    later : (j : Item) → (m : ℕ) × (y : ℤ) × (n + 1 ≤ m) × (m < n + 1 + length zs) × (j ≡ item Main (inlet (Line m) Left 0) (Datum (Int y)))
        → spot_of j ≡ spot_of (item Main (inlet (Line n) Left 0) (Datum (Int z))) → ⊥
    later j (m, y, low, high, e) g =
        let p : Line m ≡ Line n = sym (ap (λ (j : Item). j.inlet.part) e) ∙ ap (λ (x : Spot). x.inlet.part) g in
        let q : m ≡ n = cc in omega (arith, q, low)

-- WHO GIVES what arrives where no wire leads
abbrev pub giver_of : Flow → Context → Part → ℕ → Role
giver_of fl c (InCell n) t = role c (Line n) 0
giver_of fl c (Asked n) t = role c (Framer n) 0
giver_of fl c NextAsked t = role c NextFramer 0
giver_of fl c (Fanned n) t = role c (Asked n) 0
giver_of fl c NextFanned t = role c NextAsked 0
giver_of fl c (LoopDone n) t = role c (Drained n) 0
giver_of fl c (Sender n m) t = role c (Framer n) 0
giver_of fl c Freed t = role c End 0
giver_of fl c Done t = role c End 0
giver_of fl c (Shown j) t = role c (Result j) 0
giver_of fl c (Landing n j) t = if is_loop (block_in fl c) n then role (Turned c n t) (LastReturn j) 0 else role (Called c n) (Result j) 0
giver_of fl c (CallDone n) t = role (Called c n) End 0
giver_of fl c (Giver n) t = role (Turned c n t) End 0
giver_of fl c (Drainer n) t = role (Turned c n t) DrainReturn 0
giver_of fl c (Taker n) (suc t) = role (Turned c n t) Asker 0
giver_of fl (Called c n) Entry t = role c (Linker n) 0
giver_of fl (Called c n) (Line m) t = role c (Sender n m) 0
giver_of fl (Turned c n zero) Entry t = role c (Linker n) 0
giver_of fl (Turned c n zero) (Line m) t = role c (Sender n m) 0
giver_of fl (Turned c n (suc u)) Entry t = role (Turned c n u) (NextSender 0) 0
giver_of fl (Turned c n (suc u)) (Line m) t = role (Turned c n u) (NextSender (suc m)) 0
giver_of fl (Turned c n u) NextFramer t = role c (Taker n) (suc u)
giver_of fl c r t = role c r 0

module _ (fl : Flow) (p : Plan) (w : Wires) (good : IsGood fl p w) where
  -- WIRES
  module _ (c : Context) (here : IsContext fl c) where
    abbrev IsHere : Part → Type 0
    IsHere r = there_in fl (site_in fl w c) (wiring_in fl w c) r ≡ true

    pub fed_at : (t : Side) (x : Inlet) → IsHere t.part → Contains ((wiring_in fl w c).wire t) x → IsFed fl (site_in fl w c) (wiring_in fl w c) x
    fed_at t x h m = let k = (lawful_at fl p w good c here).fed.inlets t x h m in (lawful_at fl p w good c here).fed.fed x k.0 k.1 k.2 k.3

    -- the side that feeds an inlet
    is_feeder : (t : Side) (x : Inlet) → IsHere t.part → Contains ((wiring_in fl w c).wire t) x → (fed : IsFed fl (site_in fl w c) (wiring_in fl w c) x)
        → t ≡ fed.0
    is_feeder t x h m fed = go (side_cases t fed.0)
      where
        go : (t ≡ fed.0) ⊎ (t ≢ fed.0) → t ≡ fed.0
        go (inl e) = e
        go (inr n) = let none = fed.4 t h n in let some = inlet_counted ((wiring_in fl w c).wire t) x m in absurd (omega (arith, none, some))

    pub one_feeder : (t u : Side) (x : Inlet) → IsHere t.part → IsHere u.part → Contains ((wiring_in fl w c).wire t) x → Contains ((wiring_in fl w c).wire u) x
        → t ≡ u
    one_feeder t u x h g m k = let fed = fed_at t x h m in is_feeder t x h m fed ∙ sym (is_feeder u x g k fed)

    fed_once : (t : Side) (x : Inlet) → IsHere t.part → hits x ((wiring_in fl w c).wire t) ≤ 1
    fed_once t x h = go (cases_eq (hits x ((wiring_in fl w c).wire t)) 0)
      where
        go : (hits x ((wiring_in fl w c).wire t) ≡ 0) ⊎ (hits x ((wiring_in fl w c).wire t) ≡ 0 → ⊥) → hits x ((wiring_in fl w c).wire t) ≤ 1
        go (inl e) = omega (arith, e)
        go (inr n) =
            let some : 0 < hits x ((wiring_in fl w c).wire t) = omega (arith, n) in
            let m = inlet_found x ((wiring_in fl w c).wire t) some in
            let d = subst (λ (y : Inlet). Contains ((wiring_in fl w c).wire t) y) m.2 m.1 in
            let fed = fed_at t x h d in
            let one = fed.3 in
            let e : hits x ((wiring_in fl w c).wire t) ≡ hits x ((wiring_in fl w c).wire fed.0) =
            ap (λ (t : Side). hits x ((wiring_in fl w c).wire t)) (is_feeder t x h d fed) in
            omega (arith, one, e)

  -- GIFTS arrive where no wire leads
  pub data Unwired (c : Context) (x : Inlet) : Type 0 where
    UUnwired : is_unwired (block_in fl c) x.part ≡ true → Unwired c x
    UNot : there_in fl (site_in fl w c) (wiring_in fl w c) x.part ≡ false → Unwired c x
    UWay : wired_way x.part x.way ≡ false → Unwired c x

  unwired_as : (i : Item) (c : Context) (x : Inlet) (k : Note) → i ≡ item c x k → Unwired c x → Unwired i.context i.inlet
  unwired_as i c x k e h = subst (λ (i : Item). Unwired i.context i.inlet) (sym e) h

  module _ (f : Firing) (all : AllFit fl w (takes fl f)) where
    line_given : (i : Item) (c : Context) (m : ℕ) (k : Note) → i ≡ item c (inlet (Line m) Left 0) k → m < (block_in fl c).inputs → Unwired i.context i.inlet
    line_given i c m k e h = unwired_as i c (inlet (Line m) Left 0) k e (UUnwired (lt-ltb m (block_in fl c).inputs h))

    pub gift_unwired : (i : Item) → Gift fl w f i → Unwired i.context i.inlet
    gift_unwired i (GHeld n e h g) = subst (λ (i : Item). Unwired i.context i.inlet) (sym g) (UNot refl)
    gift_unwired i (GAsked n e g) = unwired_as i _ _ _ g (UNot refl)
    gift_unwired i (GArgument n m v e s c g) = unwired_as i _ _ _ g (UWay refl)
    gift_unwired i (GFanned n e g) = unwired_as i _ _ _ g (UUnwired refl)
    gift_unwired i (GEntry n e g) = unwired_as i _ _ _ g (UUnwired refl)
    gift_unwired i (GInput n m e g) =
        let sends = and_parts _ _ (there_as fl w f all (Sender n m) e refl) in
        let d = child_here fl p w good f.context n (child fl f.context n) (in_context fl w f all) (child_cases fl p w good f.context n sends.0) in
        let low = ltb-true m (source_count (block_in fl f.context) n) sends.1 in let same = d.1.inputs in
        line_given i _ m _ g (omega (arith, low, same))
    gift_unwired i (GShown j e c g) = unwired_as i _ _ _ g (UNot refl)
    gift_unwired i (GLanding d n j e c g) = unwired_as i _ _ _ g (UUnwired refl)
    gift_unwired i (GLeaves d n t j e c g) = unwired_as i _ _ _ g (UUnwired refl)
    gift_unwired i (GDrains d n t e c g) = unwired_as i _ _ _ g (UUnwired refl)
    gift_unwired i (GFreed e g) = unwired_as i _ _ _ g (UNot refl)
    gift_unwired i (GDone e c g) = unwired_as i _ _ _ g (UNot refl)
    gift_unwired i (GCallDone d n e c g) = unwired_as i _ _ _ g (UUnwired refl)
    gift_unwired i (GGiver d n t e c g) = unwired_as i _ _ _ g (UUnwired refl)
    gift_unwired i (GTaker d n t e c g) = unwired_as i _ _ _ g (UUnwired refl)
    gift_unwired i (GNextFramer n t e u g) = unwired_as i _ _ _ g (UUnwired refl)
    gift_unwired i (GNextAsked e g) = unwired_as i _ _ _ g (UNot refl)
    gift_unwired i (GNextFanned e g) = unwired_as i _ _ _ g (UUnwired refl)
    gift_unwired i (GNextEntry d n t e c g) = unwired_as i _ _ _ g (UUnwired refl)
    gift_unwired i (GNextInput d n t j e c g) =
        let low = ltb-true (suc j) ((block_in fl (Turned d n t)).inputs + 1) (there_in_context fl w f all (NextSender (suc j)) e refl (Turned d n t) c) in
        line_given i _ j _ g (omega (arith, low))
    gift_unwired i (GLoopDone n e g) = unwired_as i _ _ _ g (UUnwired refl)

    -- and where the graph begins no gift arrives
    abbrev is_first : Part → Bool
    is_first Entry = true
    is_first (Line n) = true
    is_first r = false

    not_first : (i : Item) (c : Context) (x : Inlet) (k : Note) → i ≡ item c x k → is_first x.part ≡ false → is_first i.inlet.part ≡ true → ⊥
    not_first i c x k e n h = true≢false (sym h ∙ ap (λ (i : Item). is_first i.inlet.part) e ∙ n)

    child_not_main : (n : ℕ) (d : Context) → Child fl p w good f.context n d → d ≡ Main → ⊥
    child_not_main n d (ByCall h e) m = let k = sym e ∙ m in absurd (cc)
    child_not_main n d (ByLoop h e) m = let k = sym e ∙ m in absurd (cc)

    gift_not_first : (i : Item) → Gift fl w f i → is_first i.inlet.part ≡ true → i.context ≡ Main → ⊥
    gift_not_first i (GHeld n e h g) a m = true≢false (sym a ∙ ap (λ (i : Item). is_first i.inlet.part) g)
    gift_not_first i (GAsked n e g) a m = not_first i _ _ _ g refl a
    gift_not_first i (GArgument n k v e s c g) a m = not_first i _ _ _ g refl a
    gift_not_first i (GFanned n e g) a m = not_first i _ _ _ g refl a
    gift_not_first i (GEntry n e g) a m =
        child_not_main n (child fl f.context n) (child_cases fl p w good f.context n (there_as fl w f all (Linker n) e refl))
        (sym (ap (λ (i : Item). i.context) g) ∙ m)
    gift_not_first i (GInput n k e g) a m =
        child_not_main n (child fl f.context n) (child_cases fl p w good f.context n (and_parts _ _ (there_as fl w f all (Sender n k) e refl)).0)
        (sym (ap (λ (i : Item). i.context) g) ∙ m)
    gift_not_first i (GShown j e c g) a m = not_first i _ _ _ g refl a
    gift_not_first i (GLanding d n j e c g) a m = not_first i _ _ _ g refl a
    gift_not_first i (GLeaves d n t j e c g) a m = not_first i _ _ _ g refl a
    gift_not_first i (GDrains d n t e c g) a m = not_first i _ _ _ g refl a
    gift_not_first i (GFreed e g) a m = not_first i _ _ _ g refl a
    gift_not_first i (GDone e c g) a m = not_first i _ _ _ g refl a
    gift_not_first i (GCallDone d n e c g) a m = not_first i _ _ _ g refl a
    gift_not_first i (GGiver d n t e c g) a m = not_first i _ _ _ g refl a
    gift_not_first i (GTaker d n t e c g) a m = not_first i _ _ _ g refl a
    gift_not_first i (GNextFramer n t e u g) a m = not_first i _ _ _ g refl a
    gift_not_first i (GNextAsked e g) a m = not_first i _ _ _ g refl a
    gift_not_first i (GNextFanned e g) a m = not_first i _ _ _ g refl a
    gift_not_first i (GNextEntry d n t e c g) a m = let k : Turned d n (suc t) ≡ Main = sym (ap (λ (i : Item). i.context) g) ∙ m in absurd (cc)
    gift_not_first i (GNextInput d n t j e c g) a m = let k : Turned d n (suc t) ≡ Main = sym (ap (λ (i : Item). i.context) g) ∙ m in absurd (cc)
    gift_not_first i (GLoopDone n e g) a m = not_first i _ _ _ g refl a

    -- WHO GIVES
    gives_as : (i : Item) (c : Context) (x : Inlet) (k : Note) → i ≡ item c x k → (r : Part) → f.part ≡ r → (d : Context) → f.context ≡ d
        → giver_of fl c x.part x.way ≡ role d r (turn_in r f.way) → role_of f ≡ giver_of fl i.context i.inlet.part i.inlet.way
    gives_as i c x k e r g d h same =
        (λ t. role (h t) (g t) (turn_in (g t) f.way)) ∙ sym same ∙ sym (ap (λ (i : Item). giver_of fl i.context i.inlet.part i.inlet.way) e)

    child_giver : (n : ℕ) (d : Context) → Child fl p w good f.context n d
        → (giver_of fl d Entry 0 ≡ role f.context (Linker n) 0) × ((m : ℕ) → giver_of fl d (Line m) 0 ≡ role f.context (Sender n m) 0)
    child_giver n d (ByCall h e) =
        subst (λ (d : Context). (giver_of fl d Entry 0 ≡ role f.context (Linker n) 0) × ((m : ℕ) → giver_of fl d (Line m) 0 ≡ role f.context (Sender n m) 0))
        (sym e) (refl, λ m. refl)
    child_giver n d (ByLoop h e) =
        subst (λ (d : Context). (giver_of fl d Entry 0 ≡ role f.context (Linker n) 0) × ((m : ℕ) → giver_of fl d (Line m) 0 ≡ role f.context (Sender n m) 0))
        (sym e) (refl, λ m. refl)

    pub gift_role : (i : Item) → Gift fl w f i → role_of f ≡ giver_of fl i.context i.inlet.part i.inlet.way
    gift_role i (GHeld n e h g) = (λ t. role f.context (e t) (turn_in (e t) f.way)) ∙ sym (ap (λ (i : Item). giver_of fl i.context i.inlet.part i.inlet.way) g)
    gift_role i (GAsked n e g) = gives_as i _ _ _ g (Framer n) e f.context refl refl
    gift_role i (GArgument n m v e s c g) = gives_as i _ _ _ g (Framer n) e f.context refl refl
    gift_role i (GFanned n e g) = gives_as i _ _ _ g (Asked n) e f.context refl refl
    gift_role i (GEntry n e g) =
        gives_as i _ _ _ g (Linker n) e f.context refl
        (child_giver n (child fl f.context n) (child_cases fl p w good f.context n (there_as fl w f all (Linker n) e refl))).0
    gift_role i (GInput n m e g) =
        gives_as i _ _ _ g (Sender n m) e f.context refl
        ((child_giver n (child fl f.context n) (child_cases fl p w good f.context n (and_parts _ _ (there_as fl w f all (Sender n m) e refl)).0)).1 m)
    gift_role i (GShown j e c g) = gives_as i _ _ _ g (Result j) e Main c refl
    gift_role i (GLanding d n j e c g) = gives_as i _ _ _ g (Result j) e (Called d n) c
        (ap (λ (t : Bool). if t then role (Turned d n 0) (LastReturn j) 0 else role (Called d n) (Result j) 0)
        (not_loop (block_in fl d) n (subst (IsContext fl) c (in_context fl w f all)).1))
    gift_role i (GLeaves d n t j e c g) = gives_as i _ _ _ g (LastReturn j) e (Turned d n t) c
        (ap (λ (s : Bool). if s then role (Turned d n t) (LastReturn j) 0 else role (Called d n) (Result j) 0)
        (subst (IsContext fl) c (in_context fl w f all)).1)
    gift_role i (GDrains d n t e c g) = gives_as i _ _ _ g DrainReturn e (Turned d n t) c refl
    gift_role i (GFreed e g) = gives_as i _ _ _ g End e f.context refl refl
    gift_role i (GDone e c g) = gives_as i _ _ _ g End e Main c refl
    gift_role i (GCallDone d n e c g) = gives_as i _ _ _ g End e (Called d n) c refl
    gift_role i (GGiver d n t e c g) = gives_as i _ _ _ g End e (Turned d n t) c refl
    gift_role i (GTaker d n t e c g) = gives_as i _ _ _ g Asker e (Turned d n t) c refl
    gift_role i (GNextFramer n t e u g) = gives_as i _ _ _ g (Taker n) e f.context refl (ap (λ (s : ℕ). role f.context (Taker n) s) (sym u))
    gift_role i (GNextAsked e g) = gives_as i _ _ _ g NextFramer e f.context refl refl
    gift_role i (GNextFanned e g) = gives_as i _ _ _ g NextAsked e f.context refl refl
    gift_role i (GNextEntry d n t e c g) = gives_as i _ _ _ g (NextSender 0) e (Turned d n t) c refl
    gift_role i (GNextInput d n t j e c g) = gives_as i _ _ _ g (NextSender (suc j)) e (Turned d n t) c refl
    gift_role i (GLoopDone n e g) = gives_as i _ _ _ g (Drained n) e f.context refl refl

    -- GIVEN ONCE
    arguments_once : (x : Spot) (n t m : ℕ) (vs : List Value)
        → (hits_at x (arguments_from f.context n t m vs) ≤ 1)
        × ((j : Item) → Contains (arguments_from f.context n t m vs) j → (k : ℕ) × (m ≤ k) × (j.inlet.part ≡ Sender n k))
    arguments_once x n t m [] = (omega arith, λ j c. absurd (contains_none j c))
    arguments_once x n t m (v ∷ vs) = go (arguments_once x n t (m + 1) vs)
      where
        go : (hits_at x (arguments_from f.context n t (m + 1) vs) ≤ 1)
            × ((j : Item) → Contains (arguments_from f.context n t (m + 1) vs) j → (k : ℕ) × (m + 1 ≤ k) × (j.inlet.part ≡ Sender n k))
            → (hits_at x (arguments_from f.context n t m (v ∷ vs)) ≤ 1)
            × ((j : Item) → Contains (arguments_from f.context n t m (v ∷ vs)) j → (k : ℕ) × (m ≤ k) × (j.inlet.part ≡ Sender n k))
        go more = (
          cons_once x (argument f.context n m t v) (arguments_from f.context n t (m + 1) vs) more.0 (λ j c e. let k = more.1 j c in let low = k.1 in
              let p : Sender n k.0 ≡ Sender n m = sym k.2 ∙ ap (λ (x : Spot). x.inlet.part) e in let q : k.0 ≡ m = cc in omega (arith, low, q)),
          λ j c. at j (contains_cases (argument f.context n m t v) (arguments_from f.context n t (m + 1) vs) j c),
        )
          where
            at : (j : Item) → (argument f.context n m t v ≡ j) ⊎ Contains (arguments_from f.context n t (m + 1) vs) j
                → (k : ℕ) × (m ≤ k) × (j.inlet.part ≡ Sender n k)
            at j (inl e) = (m, omega arith, ap (λ (j : Item). j.inlet.part) (sym e))
            at j (inr d) = let k = more.1 j d in let low = k.1 in (k.0, omega (arith, low), k.2)

    result_once : (x : Spot) (d : Context) (j : ℕ) (k : Note) → hits_at x (result_back d j k) ≤ 1
    result_once x Main j k = one_once x (item Main (inlet (Shown j) Left 0) k)
    result_once x (Called d n) j k = one_once x (item d (inlet (Landing n j) Left 0) k)
    result_once x (Turned d n t) j k = one_once x (item d (inlet (Landing n j) Left t) k)

    framer_once : (x : Spot) (n : ℕ) (s : Bool)
        → hits_at x (item f.context (inlet (Asked n) Left 0) (BackTo f.context (inlet (Fanned n) Left 0))
        ∷ (if s then arguments_from f.context n 1 0 f.operands else [])) ≤ 1
    framer_once x n false = one_once x (item f.context (inlet (Asked n) Left 0) (BackTo f.context (inlet (Fanned n) Left 0)))
    framer_once x n true = let more = arguments_once x n 1 0 f.operands in
        cons_once x (item f.context (inlet (Asked n) Left 0) (BackTo f.context (inlet (Fanned n) Left 0))) (arguments_from f.context n 1 0 f.operands) more.0
        (λ j c e. let k = more.1 j c in let p : Sender n k.0 ≡ Asked n = sym k.2 ∙ ap (λ (x : Spot). x.inlet.part) e in absurd (cc))

    end_once : (x : Spot) (c d : Context) → hits_at x (item c (inlet Freed Left 0) signal ∷ end_back d) ≤ 1
    end_once x c d = cons_once x (item c (inlet Freed Left 0) signal) (end_back d) (few d) (λ j h e. other d j h e)
      where
        few : (d : Context) → hits_at x (end_back d) ≤ 1
        few Main = one_once x (item Main (inlet Done Left 0) signal)
        few (Called d n) = one_once x (item d (inlet (CallDone n) Left 0) signal)
        few (Turned d n t) = one_once x (item d (inlet (Giver n) Left t) signal)

        apart : (k j : Item) → (k.inlet.part ≡ Freed → ⊥) → (k ≡ j) ⊎ Contains [] j → spot_of j ≡ spot_of (item c (inlet Freed Left 0) signal) → ⊥
        apart k j n (inl g) e = n (ap (λ (k : Item). k.inlet.part) g ∙ ap (λ (x : Spot). x.inlet.part) e)
        apart k j n (inr d) e = contains_none j d

        other : (d : Context) (j : Item) → Contains (end_back d) j → spot_of j ≡ spot_of (item c (inlet Freed Left 0) signal) → ⊥
        other Main j h e = apart (item Main (inlet Done Left 0) signal) j (λ g. absurd (cc)) (contains_cases (item Main (inlet Done Left 0) signal) [] j h) e
        other (Called d n) j h e =
            apart (item d (inlet (CallDone n) Left 0) signal) j (λ g. absurd (cc)) (contains_cases (item d (inlet (CallDone n) Left 0) signal) [] j h) e
        other (Turned d n t) j h e =
            apart (item d (inlet (Giver n) Left t) signal) j (λ g. absurd (cc)) (contains_cases (item d (inlet (Giver n) Left t) signal) [] j h) e

    line_once : (x : Spot) (n : ℕ) (t : Bool) → hits_at x (if t then asks_cell fl w f n ∷ [] else []) ≤ 1
    line_once x n true = one_once x (asks_cell fl w f n)
    line_once x n false = omega arith

    drain_once : (x : Spot) (d : Context) (k : Note) → hits_at x (drain_back d k) ≤ 1
    drain_once x Main k = omega arith
    drain_once x (Called d n) k = omega arith
    drain_once x (Turned d n t) k = one_once x (item d (inlet (Drainer n) Left t) k)

    asker_once : (x : Spot) (d : Context) → hits_at x (credit_asked d) ≤ 1
    asker_once x Main = omega arith
    asker_once x (Called d n) = omega arith
    asker_once x (Turned d n t) = one_once x (item d (inlet (Taker n) Left (t + 1)) (BackTo (Turned d n t) (inlet NextFramer Left 0)))

    gives_once : (x : Spot) (r : Part) → hits_at x (gives_by fl w f r) ≤ 1
    gives_once x (Line n) = line_once x n (is_cell (block_in fl f.context) n)
    gives_once x (Framer n) = framer_once x n (is_strict_in fl f.context n)
    gives_once x (Asked n) = one_once x (item f.context (inlet (Fanned n) Left 0) (FrameOf (child fl f.context n)))
    gives_once x (Linker n) = one_once x (item (child fl f.context n) (inlet Entry Left 0) (BackTo f.context (inlet (Landing n 0) Left 0)))
    gives_once x (Sender n m) = one_once x (item (child fl f.context n) (inlet (Line m) Left 0) f.right)
    gives_once x (Result j) = result_once x f.context j f.right
    gives_once x (LastReturn j) = result_once x f.context j f.right
    gives_once x DrainReturn = drain_once x f.context f.right
    gives_once x End = end_once x f.context f.context
    gives_once x Asker = asker_once x f.context
    gives_once x (Taker n) = one_once x (item (turn_before f.context n f.way) (inlet NextFramer Left 0) signal)
    gives_once x NextFramer = one_once x (item f.context (inlet NextAsked Left 0) (BackTo f.context (inlet NextFanned Left 0)))
    gives_once x NextAsked = one_once x (item f.context (inlet NextFanned Left 0) (FrameOf (next f.context)))
    gives_once x (NextSender j) = one_once x (item (next f.context) (next_entry j) f.right)
    gives_once x (Drained n) = one_once x (item f.context (inlet (LoopDone n) Left 0) signal)
    gives_once x r = omega arith

    sent_once : (x : Spot) → (o : Option Side) → side_by fl f f.part ≡ o → hits_at x (sent_along fl w f o) ≤ 1
    sent_once x None e = omega arith
    sent_once x (Some t) e =
        let a = each_hits x f.context (sent_word fl f f.part) ((wiring_in fl w f.context).wire t) in
        let b = fed_once f.context (in_context fl w f all) t x.inlet (sent_facts fl w f all t e).there in omega (arith, a, b)

  -- MADE ITEMS
  pub data MadeAt (f : Firing) (i : Item) : Type 0 where
    ByGift : Gift fl w f i → MadeAt f i
    ByWire : IsSent fl w f i → MadeAt f i

  pub made_at : (f : Firing) (i : Item) → AllFit fl w (takes fl f) → Contains (makes fl w f) i → MadeAt f i
  made_at f i all c = pick (made_cases fl w f i c)
    where
      pick : Contains (gives_by fl w f f.part) i ⊎ IsSent fl w f i → MadeAt f i
      pick (inl d) = ByGift (gift_of fl w f all i d)
      pick (inr s) = ByWire s

  -- what is sent arrives at a part that is there
  pub sent_there : (f : Firing) (i : Item) → AllFit fl w (takes fl f) → IsSent fl w f i
      → (there_in fl (site_in fl w i.context) (wiring_in fl w i.context) i.inlet.part ≡ true) × (wired_way i.inlet.part i.inlet.way ≡ true)
      × (is_unwired (block_in fl i.context) i.inlet.part ≡ false)
  sent_there f i all s =
      let k = (lawful_at fl p w good f.context (in_context fl w f all)).fed.inlets s.from i.inlet (sent_facts fl w f all s.from s.along).there s.wire in
      subst (λ (c : Context). (there_in fl (site_in fl w c) (wiring_in fl w c) i.inlet.part ≡ true) × (wired_way i.inlet.part i.inlet.way ≡ true)
      × (is_unwired (block_in fl c) i.inlet.part ≡ false)) (sym (ap (λ (i : Item). i.context) s.is)) (k.0, k.1, k.3)

  not_both : (f h : Firing) (i j : Item) → AllFit fl w (takes fl f) → AllFit fl w (takes fl h) → Gift fl w f i → IsSent fl w h j → spot_of i ≡ spot_of j → ⊥
  not_both f h i j mine theirs g s e = go (subst (λ (x : Spot). Unwired x.context x.inlet) e (gift_unwired f mine i g)) (sent_there h j theirs s)
    where
      go : Unwired j.context j.inlet → (there_in fl (site_in fl w j.context) (wiring_in fl w j.context) j.inlet.part ≡ true)
          × (wired_way j.inlet.part j.inlet.way ≡ true) × (is_unwired (block_in fl j.context) j.inlet.part ≡ false) → ⊥
      go (UUnwired u) t = true≢false (sym u ∙ t.2)
      go (UNot u) t = true≢false (sym t.0 ∙ u)
      go (UWay u) t = true≢false (sym t.1 ∙ u)

  -- ONCE BY A FIRING
  pub makes_once : (f : Firing) (x : Spot) → AllFit fl w (takes fl f) → hits_at x (makes fl w f) ≤ 1
  makes_once f x all =
      let both = made_hits fl w f x in let a = gives_once f all x f.part in let b = sent_once f all x (side_by fl f f.part) refl in
      go both a b (cases_eq (hits_at x (gives_by fl w f f.part)) 0) (cases_eq (hits_at x (sent_along fl w f (side_by fl f f.part))) 0)
    where
      go : hits_at x (makes fl w f) ≡ hits_at x (gives_by fl w f f.part) + hits_at x (sent_along fl w f (side_by fl f f.part))
          → hits_at x (gives_by fl w f f.part) ≤ 1 → hits_at x (sent_along fl w f (side_by fl f f.part)) ≤ 1
          → (hits_at x (gives_by fl w f f.part) ≡ 0) ⊎ (hits_at x (gives_by fl w f f.part) ≡ 0 → ⊥)
          → (hits_at x (sent_along fl w f (side_by fl f f.part)) ≡ 0) ⊎ (hits_at x (sent_along fl w f (side_by fl f f.part)) ≡ 0 → ⊥)
          → hits_at x (makes fl w f) ≤ 1
      go both a b (inl e) k = omega (arith, both, b, e)
      go both a b (inr n) (inl e) = omega (arith, both, a, e)
      go both a b (inr n) (inr m) =
          let i = hit_found x (gives_by fl w f f.part) (omega (arith, n)) in let j = hit_found x (sent_along fl w f (side_by fl f f.part)) (omega (arith, m)) in
          absurd (not_both f f i.0 j.0 all all (gift_of fl w f all i.0 i.1) (sent_is fl w f (side_by fl f f.part) refl j.0 j.1) (i.2 ∙ sym j.2))

  -- ONE FEEDER
  turn_by : (f : Firing) (r : Part) (t : Side) → side_by fl f r ≡ Some t → (u : ℕ) → turn_in r u ≡ 0
  turn_by f (Taker n) t e u = absurd (cc)
  turn_by f r t e u = refl

  pub turn_none : (f : Firing) (i : Item) → IsSent fl w f i → turn_in f.part f.way ≡ 0
  turn_none f i s = turn_by f f.part s.from s.along f.way

  wires_meet : (f h : Firing) (i j : Item) → AllFit fl w (takes fl f) → AllFit fl w (takes fl h) → IsSent fl w f i → IsSent fl w h j → i.inlet ≡ j.inlet
      → f.context ≡ h.context → role_of f ≡ role_of h
  wires_meet f h i j mine theirs s t e g =
      let a = sent_facts fl w f mine s.from s.along in let b = sent_facts fl w h theirs t.from t.along in
      let c = in_context fl w f mine in
      let same = one_feeder f.context c s.from t.from i.inlet a.there
      (subst (λ (c : Context). there_in fl (site_in fl w c) (wiring_in fl w c) t.from.part ≡ true) (sym g) b.there) s.wire
      (subst (λ (x : Inlet). Contains ((wiring_in fl w f.context).wire t.from) x) (sym e)
      (subst (λ (c : Context). Contains ((wiring_in fl w c).wire t.from) j.inlet) (sym g) t.wire)) in
      let part = sym a.maker ∙ (λ k. maker_of (block_in fl (g k)) (same k).part) ∙ b.maker in
      let turn = turn_none f i s ∙ sym (turn_none h j t) in
      λ k. role (g k) (part k) (turn k)

  pub one_maker : (f h : Firing) (i j : Item) → AllFit fl w (takes fl f) → AllFit fl w (takes fl h) → MadeAt f i → MadeAt h j → spot_of i ≡ spot_of j
      → role_of f ≡ role_of h
  one_maker f h i j mine theirs (ByGift a) (ByGift b) e =
      gift_role f mine i a ∙ ap (λ (x : Spot). giver_of fl x.context x.inlet.part x.inlet.way) e ∙ sym (gift_role h theirs j b)
  one_maker f h i j mine theirs (ByGift a) (ByWire s) e = absurd (not_both f h i j mine theirs a s e)
  one_maker f h i j mine theirs (ByWire s) (ByGift b) e = absurd (not_both h f j i theirs mine b s (sym e))
  one_maker f h i j mine theirs (ByWire s) (ByWire t) e =
      wires_meet f h i j mine theirs s t (ap (λ (x : Spot). x.inlet) e)
      (sym (ap (λ (i : Item). i.context) s.is) ∙ ap (λ (x : Spot). x.context) e ∙ ap (λ (i : Item). i.context) t.is)

  module _ (inputs : List ℤ) (fit : InputsFit fl inputs) where
    begin_given : (j : Item) → Begins inputs j → (j.context ≡ Main) × (is_unwired (block_in fl Main) j.inlet.part ≡ true)
    begin_given j (AtEntry e) = (ap (λ (j : Item). j.context) e, ap (λ (j : Item). is_unwired (block_in fl Main) j.inlet.part) e)
    begin_given j (AtInput m z l e) = (
      ap (λ (j : Item). j.context) e,
      ap (λ (j : Item). is_unwired (block_in fl Main) j.inlet.part) e ∙ lt-ltb m (block_in fl Main).inputs (input_below fl p w good inputs fit m l),
    )

    begin_first : (f : Firing) (all : AllFit fl w (takes fl f)) (j : Item) → Begins inputs j → is_first f all j.inlet.part ≡ true
    begin_first f all j (AtEntry e) = ap (λ (j : Item). is_first f all j.inlet.part) e
    begin_first f all j (AtInput m z l e) = ap (λ (j : Item). is_first f all j.inlet.part) e

    begins_differ : (f : Firing) (i j : Item) → AllFit fl w (takes fl f) → MadeAt f i → Begins inputs j → spot_of j ≡ spot_of i → ⊥
    begins_differ f i j all (ByGift g) b e =
        gift_not_first f all i g (ap (λ (x : Spot). is_first f all x.inlet.part) (sym e) ∙ begin_first f all j b)
        (ap (λ (x : Spot). x.context) (sym e) ∙ (begin_given j b).0)
    begins_differ f i j all (ByWire s) b e =
        let g = begin_given j b in let t = sent_there f i all s in
        let given : is_unwired (block_in fl j.context) j.inlet.part ≡ true = ap (λ (c : Context). is_unwired (block_in fl c) j.inlet.part) g.0 ∙ g.1 in
        true≢false (sym given ∙ ap (λ (x : Spot). is_unwired (block_in fl x.context) x.inlet.part) e ∙ t.2)

    pub inlets_are_fed : InletsAreFed fl w inputs
    inlets_are_fed = record {
      begins_once =
          λ x. cons_once x (item Main (inlet Entry Left 0) ToHost) (input_items 0 inputs) (inputs_once x 0 inputs)
          (λ j c e. entry j (input_cases 0 inputs j c) e);
      makes_once = λ f x all. makes_once f x all;
      begins_apart = λ f x all h. hit_never x (begins inputs) (λ j c e.
          let i = hit_found x (makes fl w f) h in begins_differ f i.0 j all (made_at f i.0 all i.1) (begin_cases inputs j c) (e ∙ sym i.2));
      feeders = λ f h x mine theirs a b.
          let i = hit_found x (makes fl w f) a in let j = hit_found x (makes fl w h) b in
          one_maker f h i.0 j.0 mine theirs (made_at f i.0 mine i.1) (made_at h j.0 theirs j.1) (i.2 ∙ sym j.2);
    }
      where
        entry : (j : Item) → (m : ℕ) × (y : ℤ) × (0 ≤ m) × (m < 0 + length inputs) × (j ≡ item Main (inlet (Line m) Left 0) (Datum (Int y)))
            → spot_of j ≡ spot_of (item Main (inlet Entry Left 0) ToHost) → ⊥
        entry j (m, y, low, high, e) g = let k : Line m ≡ Entry = sym (ap (λ (j : Item). j.inlet.part) e) ∙ ap (λ (x : Spot). x.inlet.part) g in absurd (cc)
