-- What results from a sound net: who made what is there, and what has fired before a part to which no wire leads.
use Rattle.std.proofs.Common.{◌≡◌, ℕ, suc, ◌<◌, ℤ, Bool, true, false, ◌⊎◌, inl, inr, List, ◌++◌, if◌then◌else◌, refl, sym, ap, ◌∙◌, subst, arith, true≢false}
use Rattle.std.proofs.Common.{lt-ltb}
use Rattle.std.specs.Prelude.{Contains, flat_map}
use Rattle.std.proofs.lemmas.List.Elements.{All-contains, Contains-append_left, Contains-append_right, Contains-append_cases}
use Rattle.tags.specs.declared.token.Port.TheVariants.{Left}
use Rattle.semantics.specs.Graph.{Flow}
use Rattle.semantics.specs.Meaning.{Context, Main, Called, Turned}
use Rattle.semantics.specs.Plan.{Plan}
use Rattle.semantics.specs.Machine.{Machine}
use Rattle.law_confluence.specs.OrdersTotals.{one}
use Rattle.law_confluence.proofs.Orders.{total-append}
use Rattle.law_net.specs.ContextsParts.{Part, Entry, Line, Framer, Fanned, Linker, CallDone, Taker, LoopDone, Asker, NextFramer, NextFanned, NextSender, End}
use Rattle.law_net.specs.ContextsParts.{Asked, NextAsked, InCell, Drained, Inlet, inlet, Item, Firing, Spot, spot_of, same_spot, Role, role, role_of, turn_in}
use Rattle.law_net.specs.ContextsBlocks.{there_in, is_cell}
use Rattle.law_net.specs.Contexts.{Wires, block_in, site_in, wiring_in}
use Rattle.law_net.specs.ContextsWires.{is_unwired, wired_way}
use Rattle.law_net.specs.ContextsFirings.{Config, takes, HasFired}
use Rattle.law_net.specs.ContextsLaws.{Fits, WordFits, Allowed, maker_of}
use Rattle.law_net.specs.ContextsMirror.{Past}
use Rattle.law_net.specs.ContextsTheorem.{IsGood}
use Rattle.law_net.specs.ContextsPackages.{InputsFit, Keeps, AllFit}
use Rattle.law_net.proofs.ContextsSames.{hits_at, hit_counted}
use Rattle.law_net.proofs.WiredSends.{first_taken, takes_first, first_context, IsSent}
use Rattle.law_net.proofs.WiredGifts.{Gift}
use Rattle.law_net.proofs.WiredWords.{Begins, AtEntry, AtInput, begin_cases, input_below}
use Rattle.law_net.proofs.WiredFed.{giver_of, MadeAt, ByGift, ByWire, made_at, sent_there, Unwired, UUnwired, UNot, UWay, gift_unwired, gift_role}
use Rattle.law_net.proofs.WiredNets.{all_of, all_born, Born, once_all, allowed_in, taken_in}
use Rattle.law_net.proofs.RunsArrives.{fits_in, fired_fit}

-- where a graph's first items arrive
abbrev pub is_first : Part → Bool
is_first Entry = true
is_first (Line n) = true
is_first r = false

module _ (fl : Flow) (p : Plan) (w : Wires) (inputs : List ℤ) (past : Past) (m : Machine) (good : IsGood fl p w) (fit : InputsFit fl inputs)
    (kept : Keeps fl p w inputs past m) where
  abbrev pub net : Config
  net = kept.tracks.net

  abbrev pub fired : List Firing
  fired = kept.tracks.net.fired

  abbrev pub taken : List Item
  taken = flat_map (takes fl) kept.tracks.net.fired

  abbrev pub Mirrors : Item → Type 0
  Mirrors i = Contains (all_of fl kept.tracks.net) i

  pub taken_stands : (i : Item) → Contains taken i → Mirrors i
  taken_stands i d = Contains-append_right net.pending (net.waiting ++ taken) i (Contains-append_right net.waiting taken i d)

  pub left_stands : (i : Item) → Contains (net.pending ++ net.waiting) i → Mirrors i
  left_stands i d = pick (Contains-append_cases net.pending net.waiting i d)
    where
      pick : Contains net.pending i ⊎ Contains net.waiting i → Mirrors i
      pick (inl e) = Contains-append_left net.pending (net.waiting ++ taken) i e
      pick (inr e) = Contains-append_right net.pending (net.waiting ++ taken) i (Contains-append_left net.waiting taken i e)

  pub fits : (i : Item) → Mirrors i → Fits fl w (spot_of i)
  fits i d = fits_in fl p w inputs past m good kept i d

  pub allowed : (i : Item) → Mirrors i → Allowed fl w inputs fired i
  allowed i d = allowed_in fl w inputs net kept.sound i d

  pub word : (i : Item) → Mirrors i → WordFits fl w i
  word i d = All-contains (WordFits fl w) (all_of fl net) i kept.fits d

  pub fit_of : (h : Firing) → Contains fired h → AllFit fl w (takes fl h)
  fit_of h d = fired_fit fl p w inputs past m good kept h d

  -- what was taken is not left
  pub twice : (i j : Item) → Contains (net.pending ++ net.waiting) i → Contains taken j → spot_of j ≡ spot_of i → ⊥
  twice i j d e same =
      let g : Item → ℕ = λ (o : Item). one (same_spot (spot_of i) (spot_of o)) in
      let here = hit_counted (net.pending ++ net.waiting) i d in
      let there = subst (λ (x : Spot). 0 < hits_at x taken) same (hit_counted taken j e) in
      let most = once_all fl w inputs net kept.sound (spot_of i) in
      let first = total-append g net.pending net.waiting in
      let second = total-append g net.pending (net.waiting ++ taken) in
      let third = total-append g net.waiting taken in
      omega (arith, here, there, most, first, second, third)

  -- WHO MADE IT
  begin_given : (i : Item) → Begins inputs i → (i.context ≡ Main) × (is_unwired (block_in fl Main) i.inlet.part ≡ true) × (is_first i.inlet.part ≡ true)
  begin_given i (AtEntry e) =
      (ap (λ (i : Item). i.context) e, ap (λ (i : Item). is_unwired (block_in fl Main) i.inlet.part) e, ap (λ (i : Item). is_first i.inlet.part) e)
  begin_given i (AtInput n z l e) = (
    ap (λ (i : Item). i.context) e,
    ap (λ (i : Item). is_unwired (block_in fl Main) i.inlet.part) e ∙ lt-ltb n (block_in fl Main).inputs (input_below fl p w good inputs fit n l),
    ap (λ (i : Item). is_first i.inlet.part) e,
  )

  -- what arrives along a wire was sent
  pub sent_by : (i : Item) → Mirrors i → there_in fl (site_in fl w i.context) (wiring_in fl w i.context) i.inlet.part ≡ true
      → is_unwired (block_in fl i.context) i.inlet.part ≡ false → wired_way i.inlet.part i.inlet.way ≡ true
      → (h : Firing) × Contains fired h × IsSent fl w h i
  sent_by i d here given way = by_born (all_born fl w inputs net kept.tracks.moves i d)
    where
      gift_not : (h : Firing) → Unwired fl p w good i.context i.inlet → (g : Firing) × Contains fired g × IsSent fl w g i
      gift_not h (UUnwired u) = absurd (true≢false (sym u ∙ given))
      gift_not h (UNot u) = absurd (true≢false (sym here ∙ u))
      gift_not h (UWay u) = absurd (true≢false (sym way ∙ u))

      by_made : (h : Firing) → Contains fired h → MadeAt fl p w good h i → (g : Firing) × Contains fired g × IsSent fl w g i
      by_made h e (ByGift g) = gift_not h (gift_unwired fl p w good h (fit_of h e) i g)
      by_made h e (ByWire s) = (h, e, s)

      by_born : Born fl w inputs fired i → (g : Firing) × Contains fired g × IsSent fl w g i
      by_born (inl b) =
          let k = begin_given i (begin_cases inputs i b) in
          absurd (true≢false (sym (ap (λ (c : Context). is_unwired (block_in fl c) i.inlet.part) k.0 ∙ k.1) ∙ given))
      by_born (inr (h, e, g)) = by_made h e (made_at fl p w good h i (fit_of h e) g)

  -- and what arrives where none leads was given
  pub gift_by : (i : Item) → Mirrors i → Unwired fl p w good i.context i.inlet → (i.context ≡ Main → is_first i.inlet.part ≡ true → ⊥)
      → (h : Firing) × Contains fired h × Gift fl w h i
  gift_by i d none first = by_born (all_born fl w inputs net kept.tracks.moves i d)
    where
      sent_not : (h : Firing) → Contains fired h → IsSent fl w h i → Unwired fl p w good i.context i.inlet → ⊥
      sent_not h e s (UUnwired u) = true≢false (sym u ∙ (sent_there fl p w good h i (fit_of h e) s).2)
      sent_not h e s (UNot u) = true≢false (sym (sent_there fl p w good h i (fit_of h e) s).0 ∙ u)
      sent_not h e s (UWay u) = true≢false (sym (sent_there fl p w good h i (fit_of h e) s).1 ∙ u)

      by_made : (h : Firing) → Contains fired h → MadeAt fl p w good h i → (g : Firing) × Contains fired g × Gift fl w g i
      by_made h e (ByGift g) = (h, e, g)
      by_made h e (ByWire s) = absurd (sent_not h e s none)

      by_born : Born fl w inputs fired i → (g : Firing) × Contains fired g × Gift fl w g i
      by_born (inl b) = let k = begin_given i (begin_cases inputs i b) in absurd (first k.0 k.2)
      by_born (inr (h, e, g)) = by_made h e (made_at fl p w good h i (fit_of h e) g)

  -- by the part that gives there
  pub given_by : (c : Context) (x : Inlet) → Unwired fl p w good c x → (c ≡ Main → is_first x.part ≡ true → ⊥) → (d : Context) (r : Part) (t : ℕ)
      → giver_of fl c x.part x.way ≡ role d r t → (i : Item) → Mirrors i → i.context ≡ c → i.inlet ≡ x
      → (h : Firing) × Contains fired h × (h.context ≡ d) × (h.part ≡ r) × (turn_in r h.way ≡ t)
  given_by c x none first d r t giver i s ic ix =
      let none' : Unwired fl p w good i.context i.inlet =
      subst (λ (c : Context). Unwired fl p w good c i.inlet) (sym ic) (subst (λ (x : Inlet). Unwired fl p w good c x) (sym ix) none) in
      let (h, e, g) = gift_by i s none' (λ a b. first (sym ic ∙ a) (ap (λ (x : Inlet). is_first x.part) (sym ix) ∙ b)) in
      let same : role_of h ≡ role d r t = gift_role fl p w good h (fit_of h e) i g ∙ (λ k. giver_of fl (ic k) (ix k).part (ix k).way) ∙ giver in
      let part : h.part ≡ r = ap (λ (x : Role). x.part) same in
      (h, e, ap (λ (x : Role). x.context) same, part, ap (λ (r : Part). turn_in r h.way) (sym part) ∙ ap (λ (x : Role). x.turn) same)

  -- WHAT FIRED took its first item
  pub first_in : (c : Context) (r : Part) → (f : HasFired c r fired)
      → (i : Item) × Contains taken i × (i.context ≡ c) × (i.inlet ≡ (first_taken fl w f.0 r).inlet)
  first_in c r (h, d, a, e) = (
    first_taken fl w h h.part,
    taken_in fl fired h (first_taken fl w h h.part) d (takes_first fl w h),
    first_context fl w h h.part ∙ a,
    ap (λ (r : Part). (first_taken fl w h r).inlet) e,
  )

  -- and so what gives there has fired
  pub before : (c : Context) (r : Part) (x : Inlet) (f : HasFired c r fired) → (first_taken fl w f.0 r).inlet ≡ x → Unwired fl p w good c x
      → (c ≡ Main → is_first x.part ≡ true → ⊥) → (d : Context) (q : Part) (t : ℕ) → giver_of fl c x.part x.way ≡ role d q t
      → (h : Firing) × Contains fired h × (h.context ≡ d) × (h.part ≡ q) × (turn_in q h.way ≡ t)
  before c r x f at none first d q t giver = let i = first_in c r f in given_by c x none first d q t giver i.0 (taken_stands i.0 i.1) i.2 (i.3 ∙ at)

  only : (d : Context) (q : Part) (t : ℕ) → (h : Firing) × Contains fired h × (h.context ≡ d) × (h.part ≡ q) × (turn_in q h.way ≡ t) → HasFired d q fired
  only d q t (h, e, a, g, u) = (h, e, a, g)

  never : (r : Part) → is_first r ≡ false → (c : Context) → c ≡ Main → is_first r ≡ true → ⊥
  never r e c a g = true≢false (sym g ∙ e)

  pub asked_by : (c : Context) (n : ℕ) → HasFired c (Fanned n) fired → HasFired c (Asked n) fired
  asked_by c n f = only c (Asked n) 0 (before c (Fanned n) (inlet (Fanned n) Left 0) f refl (UUnwired refl) (never (Fanned n) refl c) c (Asked n) 0 refl)

  pub framer_by : (c : Context) (n : ℕ) → HasFired c (Asked n) fired → HasFired c (Framer n) fired
  framer_by c n f = only c (Framer n) 0 (before c (Asked n) (inlet (Asked n) Left 0) f refl (UNot refl) (never (Asked n) refl c) c (Framer n) 0 refl)

  pub next_asked_by : (c : Context) → HasFired c NextFanned fired → HasFired c NextAsked fired
  next_asked_by c f = only c NextAsked 0 (before c NextFanned (inlet NextFanned Left 0) f refl (UUnwired refl) (never NextFanned refl c) c NextAsked 0 refl)

  pub next_framer_by : (c : Context) → HasFired c NextAsked fired → HasFired c NextFramer fired
  next_framer_by c f = only c NextFramer 0 (before c NextAsked (inlet NextAsked Left 0) f refl (UNot refl) (never NextAsked refl c) c NextFramer 0 refl)

  pub taker_by : (d : Context) (n t : ℕ) → HasFired (Turned d n t) NextFramer fired
      → (h : Firing) × Contains fired h × (h.context ≡ d) × (h.part ≡ Taker n) × (h.way ≡ suc t)
  taker_by d n t f =
      before (Turned d n t) NextFramer (inlet NextFramer Left 0) f refl (UUnwired refl) (never NextFramer refl (Turned d n t)) d (Taker n) (suc t) refl

  -- and the credit for the next turn was taken
  pub credit_gone : (d : Context) (n t : ℕ) → HasFired (Turned d n t) NextFramer fired
      → (j : Item) × Contains taken j × (j.context ≡ d) × (j.inlet ≡ inlet (Taker n) Left (suc t))
  credit_gone d n t f = by_firing (taker_by d n t f)
    where
      by_firing : (h : Firing) × Contains fired h × (h.context ≡ d) × (h.part ≡ Taker n) × (h.way ≡ suc t)
          → (j : Item) × Contains taken j × (j.context ≡ d) × (j.inlet ≡ inlet (Taker n) Left (suc t))
      by_firing (h, e, a, g, u) = let i = first_in d (Taker n) (h, e, a, g) in (i.0, i.1, i.2, i.3 ∙ ap (inlet (Taker n) Left) u)

  pub asker_by : (d : Context) (n t : ℕ) (h : Firing) → Contains fired h → h.context ≡ d → h.part ≡ Taker n → h.way ≡ suc t
      → HasFired (Turned d n t) Asker fired
  asker_by d n t h e a g u =
      only (Turned d n t) Asker 0 (before d (Taker n) (inlet (Taker n) Left (suc t)) (h, e, a, g) (ap (inlet (Taker n) Left) u) (UUnwired refl)
      (never (Taker n) refl d) (Turned d n t) Asker 0 refl)

  pub call_by : (c : Context) (n : ℕ) → HasFired c (CallDone n) fired → HasFired (Called c n) End fired
  call_by c n f =
      only (Called c n) End 0 (before c (CallDone n) (inlet (CallDone n) Left 0) f refl (UUnwired refl) (never (CallDone n) refl c) (Called c n) End 0 refl)

  pub drained_by : (c : Context) (n : ℕ) → HasFired c (LoopDone n) fired → HasFired c (Drained n) fired
  drained_by c n f =
      only c (Drained n) 0 (before c (LoopDone n) (inlet (LoopDone n) Left 0) f refl (UUnwired refl) (never (LoopDone n) refl c) c (Drained n) 0 refl)

  pub line_by : (c : Context) (n : ℕ) → HasFired c (InCell n) fired → HasFired c (Line n) fired
  line_by c n f =
      only c (Line n) 0 (before c (InCell n) (inlet (InCell n) Left 0) f (ap (λ (r : Part). inlet r Left 0) f.3) (UNot refl) (never (InCell n) refl c) c
      (Line n) 0 refl)

  not_main : (c : Context) (n : ℕ) → Called c n ≡ Main → ⊥
  not_main c n e = absurd (cc)

  turn_not_main : (c : Context) (n t : ℕ) → Turned c n t ≡ Main → ⊥
  turn_not_main c n t e = absurd (cc)

  pub call_linked : (c : Context) (n : ℕ) → HasFired (Called c n) Entry fired → HasFired c (Linker n) fired
  call_linked c n f = only c (Linker n) 0 (before (Called c n) Entry (inlet Entry Left 0) f refl (UUnwired refl) (λ a b. not_main c n a) c (Linker n) 0 refl)

  pub loop_linked : (c : Context) (n : ℕ) → HasFired (Turned c n 0) Entry fired → HasFired c (Linker n) fired
  loop_linked c n f =
      only c (Linker n) 0 (before (Turned c n 0) Entry (inlet Entry Left 0) f refl (UUnwired refl) (λ a b. turn_not_main c n 0 a) c (Linker n) 0 refl)

  pub turn_linked : (c : Context) (n t : ℕ) → HasFired (Turned c n (suc t)) Entry fired → HasFired (Turned c n t) (NextSender 0) fired
  turn_linked c n t f =
      only (Turned c n t) (NextSender 0) 0
      (before (Turned c n (suc t)) Entry (inlet Entry Left 0) f refl (UUnwired refl) (λ a b. turn_not_main c n (suc t) a) (Turned c n t) (NextSender 0) 0 refl)

  -- what makes the words of a part: a cell those of its line
  pub maker_fired : (c : Context) (r : Part) → HasFired c (maker_of (block_in fl c) r) fired → HasFired c r fired
  maker_fired c (Line n) f = go (is_cell (block_in fl c) n) f
    where
      go : (t : Bool) → HasFired c (if t then InCell n else Line n) fired → HasFired c (Line n) fired
      go true f = line_by c n f
      go false f = f
  maker_fired c r f = f
