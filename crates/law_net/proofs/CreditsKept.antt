-- Loops keep their bounds: the turns that were granted are at most the bound more than those that were given back.
use Rattle.std.proofs.Common.{◌≡◌, ℕ, zero, suc, ◌+◌, ◌-◌, ◌<◌, ◌≤◌, Bool, true, false, ℤ, List, [], ◌∷◌, ◌++◌, length, refl, sym, ap, ◌∙◌, subst, inl, inr}
use Rattle.std.proofs.Common.{◌⊎◌, arith, true≢false, le-ltb, lt-ltb, Option, Some, None, if◌then◌else◌}
use Rattle.std.specs.Prelude.{Contains, flat_map, slice_get}
use Rattle.std.proofs.lemmas.Bool.{cases_Bool, cases_eq}
use Rattle.std.proofs.lemmas.List.Sorted.{Contains-permutation, IsPermutation-sym}
use Rattle.lemmas.proofs.Contains.{contains_cases, contains_head, contains_map, contains_none, contains_tail}
use Rattle.lemmas.proofs.SliceGet.{get_some}
use Rattle.tags.specs.declared.token.Port.TheVariants.{Left, Right}
use Rattle.tags.specs.declared.token.Cont.{Cont}
use Rattle.tags.specs.declared.token.To.{To}
use Rattle.tags.specs.declared.slot.SlotState.TheVariants.{Empty, Waiter, Draining}
use Rattle.tags.specs.declared.slot.SlotState.TheVariants as Slot
use Rattle.semantics.specs.declared.program.Op.TheVariants.{Open}
use Rattle.semantics.specs.Graph.{Flow}
use Rattle.semantics.specs.Meaning.{Context, block_number, block_numbered}
use Rattle.semantics.specs.Plan.{Plan}
use Rattle.semantics.specs.Program.{Instr, CodeBlock, first_of, instr_at}
use Rattle.semantics.specs.Rule.{slot_of}
use Rattle.semantics.specs.Machine.{Machine}
use Rattle.semantics.specs.Holders.{Holder, holder_at, holder_of}
use Rattle.semantics.specs.Credits.{IsPart, IsLoop}
use Rattle.semantics.specs.Cause.{is_looped}
use Rattle.law_reuse.specs.Bounds.{OnlyAsks}
use Rattle.law_reuse.proofs.SlotsClaims.{holder_here}
use Rattle.law_reuse.proofs.SlotsPlaced.{Found, found}
use Rattle.law_confluence.specs.OrdersTotals.{one, total}
use Rattle.law_confluence.proofs.Orders.{total-append}
use Rattle.law_confluence.proofs.Net.{Waits, Fires}
use Rattle.law_net.specs.ContextsParts.{Part, Opener, Giver, Drainer, Drained, Landing, InCell, inlet, signal, Item, item, Firing}
use Rattle.law_net.specs.ContextsBlocks.{Wiring, Site, is_loop, bound_at, waits_in}
use Rattle.law_net.specs.Contexts.{Wires, block_in, code_in, site_in, wiring_in, IsContext}
use Rattle.law_net.specs.ContextsCredits.{Ledger, slot_for, waits_or}
use Rattle.law_net.specs.ContextsWires.{Runs, IsWiredCode, plain_site, turn_site}
use Rattle.law_net.specs.ContextsFirings.{Config, Move, begin, own_takes, both_items, left_item, right_way, given_back, request_of, times, frame_at}
use Rattle.law_net.specs.ContextsFirings.{IsProperMove, ProperAt, ProperMoves, Still, Then}
use Rattle.law_net.specs.ContextsMirror.{Past, came, is_item_at, items_at, granted_of, frame_of, ip_of, to_of, token_of}
use Rattle.law_net.specs.ContextsTheorem.{IsGood}
use Rattle.law_net.specs.ContextsPackages.{Keeps, BoundIsKept}
use Rattle.law_net.specs.ContextsCoded.{AllCoded}
use Rattle.law_net.proofs.WiredInvoked.{block_here, code_at}
use Rattle.law_net.proofs.RunsArrives.{from_met, laid, instr_here}
use Rattle.law_net.proofs.RunsPigeons.{items_total, item_there}
use Rattle.law_net.proofs.CreditsTurns.{granted_few, given_enough}
use Rattle.law_net.proofs.Credits.{here, fired, firing_of, keeps, book, bound}
use Rattle.law_net.proofs.Credits as Credits
use Rattle.law_net.proofs.CreditsLoops.{opener, loops, bound_is, slot_is, loop_is, is_loop_here}

-- no credit is given back by a firing of its own
never_gives : (fl : Flow) (w : Wires) (c d : Config) → ProperMoves fl w c d → ((h : Firing) (n : ℕ) → Contains c.fired h → h.part ≡ Giver n → ⊥)
    → (h : Firing) (n : ℕ) → Contains d.fired h → h.part ≡ Giver n → ⊥
never_gives fl w c d (Still e) old = old
never_gives fl w c d (Then a mid b m proper more) old = never_gives fl w mid d more (step a mid m proper old)
  where
    step : (c d : Config) (m : Move fl w c d) → IsProperMove fl w c.fired c d m → ((h : Firing) (n : ℕ) → Contains c.fired h → h.part ≡ Giver n → ⊥)
        → (h : Firing) (n : ℕ) → Contains d.fired h → h.part ≡ Giver n → ⊥
    step c d (Waits i rest a e) proper old h n = subst (λ (d : Config). Contains d.fired h → h.part ≡ Giver n → ⊥) (sym e) (old h n)
    step c d (Fires f now kept rest others a b both e) proper old h n =
        subst (λ (d : Config). Contains d.fired h → h.part ≡ Giver n → ⊥) (sym e) (λ x g. pick (contains_cases f c.fired h x) g)
      where
        pick : (f ≡ h) ⊎ Contains c.fired h → h.part ≡ Giver n → ⊥
        pick (inl same) g = subst (λ (r : Part). ProperAt fl c.fired f r) (ap (λ (f : Firing). f.part) same ∙ g) proper
        pick (inr x) g = old h n x g

waiter_of : (o v d : Bool) (x : Option Cont) (y z : ℕ) (b : Cont)
    → (if o then (if v then Empty else if d then Draining y else waits_or x (Slot.Credits z)) else Empty) ≡ Waiter b → (v ≡ false) × (x ≡ Some b)
waiter_of false v d x y z b e = absurd (cc)
waiter_of true true d x y z b e = absurd (cc)
waiter_of true false true x y z b e = absurd (cc)
waiter_of true false false None y z b e = absurd (cc)
waiter_of true false false (Some a) y z b e = (refl, cc)

module _ (fl : Flow) (p : Plan) (w : Wires) (inputs : List ℤ) (q : Past) (m : Machine) (good : IsGood fl p w)
    (k : Keeps fl p w inputs q m) where
  abbrev net : Config
  net = here fl p w inputs q m good k

  abbrev done : List Firing
  done = net.fired

  gives_none : (h : Firing) (n : ℕ) → Contains done h → h.part ≡ Giver n → ⊥
  gives_none = never_gives fl w (begin inputs) net k.tracks.moves (λ h n c e. contains_none h c)

  module _ (c : Context) (con : IsContext fl c) (n : ℕ) (l : is_loop (block_in fl c) n ≡ true) where
    abbrev log : Ledger
    log = book fl p w inputs q m good k c con n l

    abbrev most : ℕ
    most = bound_at (block_in fl c) n

    abbrev test : Item → Bool
    test i = is_item_at c (Giver n) i

    -- what came in parts
    came_sum : items_at c (Giver n) (came fl net) ≡ total (λ (i : Item). one (test i)) net.pending
        + (items_at c (Giver n) net.waiting + total (λ (i : Item). one (test i)) (flat_map (λ (f : Firing). own_takes fl f f.part) done))
    came_sum =
        let a = items_total c (Giver n) (came fl net) in let b = items_total c (Giver n) net.waiting in
        let s = total-append (λ (i : Item). one (test i)) net.pending (net.waiting ++ flat_map (λ (f : Firing). own_takes fl f f.part) done) in
        let t = total-append (λ (i : Item). one (test i)) net.waiting (flat_map (λ (f : Firing). own_takes fl f f.part) done) in omega (arith, a, b, s, t)

    over_cases : ((h : Firing) × Contains done h × (h.context ≡ c) × (h.part ≡ Drained n)) ⊎ ((times c (Drained n) done ≡ 0) × (log.over ≡ false))
    over_cases = go (cases_eq (times c (Drained n) done) 0)
      where
        go : (times c (Drained n) done ≡ 0) ⊎ (times c (Drained n) done ≡ 0 → ⊥)
            → ((h : Firing) × Contains done h × (h.context ≡ c) × (h.part ≡ Drained n)) ⊎ ((times c (Drained n) done ≡ 0) × (log.over ≡ false))
        go (inl e) = inr (e, le-ltb 0 (times c (Drained n) done) (omega (arith, e)))
        go (inr x) = inl (firing_of c (Drained n) done (omega (arith, x)))

    given_is : log.over ≡ false → log.given ≡ items_at c (Giver n) net.waiting
    given_is e = ap (λ (t : Bool). if t then granted_of net c n else items_at c (Giver n) net.waiting) e

    -- NO MORE than the bound above what was given back
    kept : granted_of net c n ≤ items_at c (Giver n) (came fl net) + most
    kept = pick over_cases
      where
        pick : ((h : Firing) × Contains done h × (h.context ≡ c) × (h.part ≡ Drained n)) ⊎ ((times c (Drained n) done ≡ 0) × (log.over ≡ false))
            → granted_of net c n ≤ items_at c (Giver n) (came fl net) + most
        pick (inl (h, d, a, e)) =
            let few = granted_few fl p w inputs q m good k c con n l h d a e in
            let many = given_enough fl p w inputs q m good k c con n l h d a e in omega (arith, few, many)
        pick (inr (z, o)) =
            let g = given_is o in let law = (keeps fl p w inputs q m good k c con n l).law.bound in let s = came_sum in omega (arith, g, law, s)

    -- WHERE A TAKE WAITS, all that was given back waits
    none_taken : log.over ≡ false → times c (Drained n) done ≡ 0
        → total (λ (i : Item). one (test i)) (flat_map (λ (f : Firing). own_takes fl f f.part) done) ≡ 0
    none_taken o z = go done (λ f d. d)
      where
        nothing : (i : Item) → (i.context ≡ c → i.inlet.part ≡ Giver n → ⊥) → one (test i) ≡ 0
        nothing i h = by (cases_Bool (test i))
          where
            by : (test i ≡ true) ⊎ (test i ≡ false) → one (test i) ≡ 0
            by (inl e) = let x = item_there c (Giver n) i e in absurd (h x.0 x.1)
            by (inr e) = ap one e

        -- a part other than the giver takes nothing there
        both : (f : Firing) (r : Part) → (r ≡ Giver n → ⊥) → total (λ (i : Item). one (test i)) (both_items fl f.context r f.way f.left f.right) ≡ 0
        both f r h =
            let a = nothing (left_item f.context r f.way f.left) (λ x g. h g) in let b = rest (waits_in (block_in fl f.context) r) in omega (arith, a, b)
          where
            rest : (t : Bool) → total (λ (i : Item). one (test i)) (if t then item f.context (inlet r Right (right_way fl f.context r)) f.right ∷ [] else [])
                ≡ 0
            rest false = refl
            rest true = let a = nothing (item f.context (inlet r Right (right_way fl f.context r)) f.right) (λ x g. h g) in omega (arith, a)

        credits : (f : Firing) (s t : ℕ) → (f.context ≡ c → s ≡ n → ⊥) → total (λ (i : Item). one (test i)) (given_back f.context s t) ≡ 0
        credits f s zero h = refl
        credits f s (suc t) h =
            let a = nothing (item f.context (inlet (Giver s) Left t) signal) (λ x g. h x (let y : s ≡ n = cc in y)) in let more = credits f s t h in
            omega (arith, a, more)

        of_firing : (f : Firing) → Contains done f → (r : Part) → f.part ≡ r → total (λ (i : Item). one (test i)) (own_takes fl f r) ≡ 0
        of_firing f d (InCell s) e = let a = nothing (request_of f) (λ x g. let y = sym g ∙ e in absurd (cc)) in omega (arith, a)
        of_firing f d (Drained s) e =
            let a = nothing (item f.context (inlet (Drainer s) Left f.turns) f.left) (λ x g. absurd (cc)) in
            let b = credits f s (f.turns + 1) (λ x y. let some = Credits.some_firing c (Drained n) done f d x (e ∙ ap Drained y) in omega (arith, some, z)) in
            omega (arith, a, b)
        of_firing f d (Giver s) e = absurd (gives_none f s d e)
        of_firing f d r e = both f r (λ g. gives_none f n d (e ∙ g))

        go : (fs : List Firing) → ((f : Firing) → Contains fs f → Contains done f)
            → total (λ (i : Item). one (test i)) (flat_map (λ (f : Firing). own_takes fl f f.part) fs) ≡ 0
        go [] h = refl
        go (f ∷ fs) h =
            let a = of_firing f (h f (contains_head f fs)) f.part refl in let more = go fs (λ g d. h g (contains_tail f fs g d)) in
            let s = total-append (λ (i : Item). one (test i)) (own_takes fl f f.part) (flat_map (λ (f : Firing). own_takes fl f f.part) fs) in
            omega (arith, a, more, s)

    none_pending : OnlyAsks m → total (λ (i : Item). one (test i)) net.pending ≡ 0
    none_pending asks = go net.pending (λ i d. d)
      where
        asks_not : (i : Item) → Contains net.pending i → i.inlet.part ≡ Giver n → ⊥
        asks_not i d e =
            let t = contains_map (token_of fl p w done) net.pending i d in
            let h = asks (token_of fl p w done i) (Contains-permutation _ _ (token_of fl p w done i) (IsPermutation-sym _ _ k.tracks.stands.pool) t) in
            let to : To.Instr (frame_of fl done i.context) (ip_of fl p w i.context (Giver n)) i.inlet.port ≡ To.Manager =
            ap (λ (r : Part). to_of fl p w done i r) (sym e) ∙ h in absurd (cc)

        go : (items : List Item) → ((i : Item) → Contains items i → Contains net.pending i) → total (λ (i : Item). one (test i)) items ≡ 0
        go [] h = refl
        go (i ∷ items) h = by (cases_Bool (test i)) (go items (λ j d. h j (contains_tail i items j d)))
          where
            by : (test i ≡ true) ⊎ (test i ≡ false) → total (λ (i : Item). one (test i)) items ≡ 0 → total (λ (i : Item). one (test i)) (i ∷ items) ≡ 0
            by (inl e) more = let x = item_there c (Giver n) i e in absurd (asks_not i (h i (contains_head i items)) x.1)
            by (inr e) more = let o = ap one e in omega (arith, o, more)

    granted_all : OnlyAsks m → (b : Cont) → slot_for most log ≡ Waiter b → granted_of net c n ≡ items_at c (Giver n) (came fl net) + most
    granted_all asks b e = pick over_cases
      where
        forms : (log.over ≡ false) × (log.waiter ≡ Some b)
        forms = waiter_of log.opened log.over log.draining log.waiter (log.granted - log.given) (most - (log.granted - log.given)) b e

        pick : ((h : Firing) × Contains done h × (h.context ≡ c) × (h.part ≡ Drained n)) ⊎ ((times c (Drained n) done ≡ 0) × (log.over ≡ false))
            → granted_of net c n ≡ items_at c (Giver n) (came fl net) + most
        pick (inl (h, d, a, x)) =
            let some = Credits.some_firing c (Drained n) done h d a x in absurd (true≢false (sym (lt-ltb 0 (times c (Drained n) done) some) ∙ forms.0))
        pick (inr (z, o)) =
            let law = ((keeps fl p w inputs q m good k c con n l).law.waits b forms.1).0 in let g = given_is o in let s = came_sum in
            let none = none_taken o z in let away = none_pending asks in omega (arith, law, g, s, none, away)

  -- THE BLOCK of a context, by its number
  block_found : (c : Context) → IsContext fl c → (i : ℕ) × (slice_get fl.blocks i ≡ Some (block_in fl c))
  block_found c h = go (block_number fl c) (block_here fl p w good c h)
    where
      go : (o : Option ℕ) → block_numbered fl o ≡ Some (block_in fl c) → (i : ℕ) × (slice_get fl.blocks i ≡ Some (block_in fl c))
      go None e = absurd (cc)
      go (Some i) e = (i, e)

  some_code : (a b : CodeBlock) → Some a ≡ Some b → a ≡ b
  some_code a b e = cc

  some_holder : (a b : Holder) → Some a ≡ Some b → a ≡ b
  some_holder a b e = cc

  some_instr : (a b : Instr) → Some a ≡ Some b → a ≡ b
  some_instr a b e = cc

  abbrev Kept : ℕ → Holder → ℕ → ℕ → Type 0
  Kept f loop b s = (base : ℕ) × IsLoop p p.program loop b s base × (q.granted f loop ≤ q.released f base + b)

  -- AN OPENER in a context with a frame
  module _ (f : ℕ) (loop : Holder) (b ip s : ℕ) (part : IsPart p p.program loop (Open b) ip s) (c : Context) (con : IsContext fl c)
      (at : frame_at fl done c ≡ Some f) (nn : ℕ)
      (instr : slice_get (code_at fl p w good c con).code.instrs nn ≡ Some part.instr) (place : ip ≡ first_of p.program (code_in fl w c) + nn) where
    abbrev Here : Context → Type 0
    Here = Runs fl w (code_in fl w c)

    abbrev node : ℕ
    node =
        (opener fl p w good Here (site_in fl w c) (wiring_in fl w c) (code_at fl p w good c con) (block_found c con).0
        (block_found c con).1 loop b nn ip s part.instr instr part.does place part.uses part.holds).0

    is_loop' : is_loop (block_in fl c) node ≡ true
    is_loop' =
        loops fl p w good Here (site_in fl w c) (wiring_in fl w c) (code_at fl p w good c con) (block_found c con).0
        (block_found c con).1 loop b nn ip s part.instr instr part.does place part.uses part.holds

    bound' : bound_at (block_in fl c) node ≡ b
    bound' =
        bound_is fl p w good Here (site_in fl w c) (wiring_in fl w c) (code_at fl p w good c con) (block_found c con).0
        (block_found c con).1 loop b nn ip s part.instr instr part.does place part.uses part.holds

    slot' : (wiring_in fl w c).slot (Opener node) ≡ s
    slot' =
        slot_is fl p w good Here (site_in fl w c) (wiring_in fl w c) (code_at fl p w good c con) (block_found c con).0
        (block_found c con).1 loop b nn ip s part.instr instr part.does place part.uses part.holds

    loop' : loop ≡ record { block = code_in fl w c; number = (wiring_in fl w c).slot (Opener node) }
    loop' =
        loop_is fl p w good Here (site_in fl w c) (wiring_in fl w c) (code_at fl p w good c con) (block_found c con).0
        (block_found c con).1 loop b nn ip s part.instr instr part.does place part.uses part.holds

    lies : IsLoop p p.program loop b s (ip_of fl p w c (Landing node 0))
    lies =
        is_loop_here fl p w good Here (site_in fl w c) (wiring_in fl w c) (code_at fl p w good c con) (block_found c con).0
        (block_found c con).1 loop b nn ip s part.instr instr part.does place part.uses part.holds part

    granted_is : q.granted f loop ≡ granted_of net c node
    granted_is = ap (q.granted f) loop' ∙ k.tracks.granted c node f con is_loop' at

    released_is : q.released f (ip_of fl p w c (Landing node 0)) ≡ items_at c (Giver node) (came fl net)
    released_is = k.tracks.released c node f con is_loop' at

    kept_here : Kept f loop b s
    kept_here = (
      ip_of fl p w c (Landing node 0),
      lies,
      (let a = granted_is in let r = released_is in let h = kept c con node is_loop' in let e = bound' in omega (arith, a, r, h, e)),
    )

    all_kept_here : OnlyAsks m → (x : Cont) → m.store.slots f s ≡ Waiter x
        → (base : ℕ) × IsLoop p p.program loop b s base × (q.granted f loop ≡ q.released f base + b)
    all_kept_here asks x waits =
        let slot = Credits.slot_is fl p w inputs q m good k c con node is_loop' f at in
        let form : slot_for (bound_at (block_in fl c) node) (log c con node is_loop') ≡ Waiter x = sym slot ∙ ap (m.store.slots f) slot' ∙ waits in (
          ip_of fl p w c (Landing node 0),
          lies,
          (let a = granted_is in let r = released_is in let h = granted_all c con node is_loop' asks x form in let e = bound' in omega (arith, a, r, h, e)),
        )

  -- a loop that was granted credits, in the context of its frame
  granted_kept : (f : ℕ) (loop : Holder) (b ip s : ℕ) (part : IsPart p p.program loop (Open b) ip s) → 0 < q.granted f loop → Kept f loop b s
  granted_kept f loop b ip s part some =
      let o = k.tracks.no_other f loop some in
      let c = o.0 in let con = o.2 in let at = o.4 in
      let fd = found p.program ip part.instr part.is_at in
      let holder = holder_here p fd.b fd.n part.instr fd.stands in
      let slotted : slot_of part.instr part.instr.op ≡ Some part.instr.slot = ap (slot_of part.instr) part.does in
      let loop' : record { block = fd.b; number = part.instr.slot } ≡ loop =
      some_holder (record { block = fd.b; number = part.instr.slot }) loop
      (sym (ap (holder_of fd.b) slotted) ∙ sym holder ∙ ap (holder_at p) (sym fd.place) ∙ part.holds) in
      let same : fd.b ≡ code_in fl w c = ap (λ (h : Holder). h.block) loop' ∙ ap (λ (h : Holder). h.block) o.5 in
      let x = code_at fl p w good c con in
      let code : x.code ≡ fd.stands.code = some_code x.code fd.stands.code (sym x.there ∙ ap (slice_get p.program.blocks) (sym same) ∙ fd.stands.block) in
      let instr : slice_get x.code.instrs fd.n ≡ Some part.instr = ap (λ (y : CodeBlock). slice_get y.instrs fd.n) code ∙ fd.stands.instr in
      let place : ip ≡ first_of p.program (code_in fl w c) + fd.n = fd.place ∙ ap (λ (b : ℕ). first_of p.program b + fd.n) same in
      kept_here f loop b ip s part c con at fd.n instr place

  -- any other, in its code block
  coded_kept : AllCoded fl p w → (f : ℕ) (loop : Holder) (b ip s : ℕ) (part : IsPart p p.program loop (Open b) ip s) → q.granted f loop ≡ 0 → Kept f loop b s
  coded_kept coded f loop b ip s part none = pick (coded fd.b fd.stands.code fd.stands.block)
    where
      fd : Found p.program ip part.instr
      fd = found p.program ip part.instr part.is_at

      -- in a code block of a site
      at_site : (Here : Context → Type 0) (t : Site) (wi : Wiring) (x : IsWiredCode fl p w.variant Here t wi) (i : ℕ) → slice_get fl.blocks i ≡ Some t.block
          → fd.b ≡ t.own → Kept f loop b s
      at_site Here t wi x i e own =
          let code : x.code ≡ fd.stands.code = some_code x.code fd.stands.code (sym x.there ∙ ap (slice_get p.program.blocks) (sym own) ∙ fd.stands.block) in
          let instr : slice_get x.code.instrs fd.n ≡ Some part.instr = ap (λ (y : CodeBlock). slice_get y.instrs fd.n) code ∙ fd.stands.instr in
          let place : ip ≡ first_of p.program t.own + fd.n = fd.place ∙ ap (λ (b : ℕ). first_of p.program b + fd.n) own in (
            _,
            is_loop_here fl p w good Here t wi x i e loop b fd.n ip s part.instr instr part.does place part.uses part.holds part,
            (omega (arith, none)),
          )

      pick : (fd.b < length fl.blocks) ⊎ ((i : ℕ) × (i < length fl.blocks) × (is_looped fl i ≡ true) × (fd.b ≡ w.variant i)) → Kept f loop b s
      pick (inl h) =
          let g = get_some fl.blocks fd.b h in at_site (Runs fl w fd.b) (plain_site g.0 fd.b) (w.wiring fd.b) (good.wired.plain fd.b g.0 g.1) fd.b g.1 refl
      pick (inr (i, h, l, e)) =
          let g = get_some fl.blocks i h in at_site (Runs fl w (w.variant i)) (turn_site g.0 i (w.variant i)) (w.wiring (w.variant i))
          (good.wired.turns i g.0 g.1 l) i g.1 e

  -- the bounds of loops
  pub bound_is_kept : AllCoded fl p w → BoundIsKept fl p inputs q m
  bound_is_kept coded = record {
    never_above = λ f loop b ip s part. above f loop b ip s part (cases_eq (q.granted f loop) 0);
    all_granted = λ f loop b ip s v x part arrive asks waits.
        let i = from_met fl p w inputs q m good k f ip Left v arrive in let y = i.1 in
        let c = i.0.context in let r = i.0.inlet.part in
        let code = laid fl p w inputs q m good k c y.context in
        let h = code.here r y.part_here in
        let same : h.0 ≡ part.instr = some_instr h.0 part.instr
        (sym (instr_here fl p w inputs q m good k c y.context r y.part_here) ∙ ap (instr_at p.program) y.place ∙ part.is_at) in
        all_kept_here f loop b ip s part c y.context y.frame ((wiring_in fl w c).place r) (h.1 ∙ ap Some same) (sym y.place) asks x waits;
  }
    where
      above : (f : ℕ) (loop : Holder) (b ip s : ℕ) (part : IsPart p p.program loop (Open b) ip s) → (q.granted f loop ≡ 0) ⊎ (q.granted f loop ≡ 0 → ⊥)
          → Kept f loop b s
      above f loop b ip s part (inl e) = coded_kept coded f loop b ip s part e
      above f loop b ip s part (inr n) = granted_kept f loop b ip s part (omega (arith, n))
