-- In an orderly run, two holders that may share a slot are never both live: the facts of one frame's invocation.
use Rattle.std.proofs.Common.{◌≡◌, refl, sym, ap, ◌∙◌, subst, ℕ, ◌+◌, ◌<◌, ◌⊎◌, inl, inr, Bool, true, false, not, true≢false, List, ◌++◌, length, Option, Some}
use Rattle.std.proofs.Common.{None, Contains, arith}
use Rattle.std.specs.Prelude.{slice_get}
use Rattle.std.proofs.lemmas.Bool.{cases_Bool, cases_eq}
use Rattle.std.proofs.lemmas.Option.{slice_get_within, same_Some}
use Rattle.std.proofs.lemmas.List.Elements.{Contains-append_left, Contains-append_right, Contains-append_cases}
use Rattle.lemmas.proofs.Alls.{all_at}
use Rattle.lemmas.proofs.Contains.{get_contains}
use Rattle.operators.specs.Values.{truth}
use Rattle.tags.specs.declared.value.Value.{Value}
use Rattle.tags.specs.declared.token.Port.{Port}
use Rattle.tags.specs.declared.token.Port.TheVariants.{Left, Right}
use Rattle.tags.specs.declared.token.Word.{Word}
use Rattle.tags.specs.declared.token.Token.{Token}
use Rattle.tags.specs.declared.slot.SlotState.{SlotState}
use Rattle.tags.specs.declared.slot.SlotState.TheVariants as Slot
use Rattle.tags.specs.declared.slot.SlotState.TheVariants.{Empty, Credits, Waiter, Draining}
use Rattle.semantics.specs.declared.program.Mark.{Mark}
use Rattle.semantics.specs.Program.{Instr, CodeBlock, Program, first_of}
use Rattle.semantics.specs.Rule.{Outcome, Becomes, Excluded, outcome_of, rule_at, slot_of}
use Rattle.semantics.specs.Machine.{Machine, Size, Events, Run, excluded_by, slot_in, slot_used}
use Rattle.semantics.specs.Plan.{Plan, instr_in, IsPlanBlock}
use Rattle.semantics.specs.Sharing.{Inlet, inlet, Arc, arcs_of, arcs_in, Holds, ends_with, IsEnd, IsSide, is_port, IsHolderPort, Good}
use Rattle.semantics.specs.Orderly.{is_entry, IsOrderlyRun}
use Rattle.semantics.specs.Wired.{is_dyadic, IsWired}
use Rattle.law_reuse.proofs.SlotsNeighbours.{alone_from}
use Rattle.law_reuse.proofs.SlotsPlacedEvents.{Alone}
use Rattle.law_reuse.proofs.SlotsShares.{IsKept, one_live}
use Rattle.law_reuse.proofs.SlotsPlaced.{past_entries, IsPlaced, stands_at, stands_one}
use Rattle.law_reuse.proofs.SlotsTurns.{turn_of}
use Rattle.law_reuse.proofs.SlotsFillings.{at_port, Came, Says, EmptyOr}
use Rattle.law_reuse.proofs.SlotsUsedArcs.{dyadic_port, open_port, Ports, one_frame, not_twice, Over, Used, no_move}
use Rattle.law_reuse.proofs.SlotsFirings.{CausedBy}
use Rattle.law_reuse.proofs.SlotsHistory.{taken, Kept, ports_of}

says_port : (p : Program) (ts : List Token) (f b n : ℕ) (i : Instr) (s : SlotState) → Says p ts f b n i s
    → (q : Port) × (is_port i.op q ≡ true) × Came p ts f b n q
says_port p ts f b n i Empty h = absurd h
says_port p ts f b n i (Slot.Left w) h = (Left, dyadic_port i.op Left h.0, (w, h.1))
says_port p ts f b n i (Slot.Right w) h = (Right, dyadic_port i.op Right h.0, (w, h.1))
says_port p ts f b n i (Credits k) h = (Left, open_port i.op h.0, h.1)
says_port p ts f b n i (Waiter c) h = (Left, open_port i.op h.0, h.1)
says_port p ts f b n i (Draining k) h = (Left, open_port i.op h.0, h.1)

not_excluded : (o : Outcome) → excluded_by o ≡ None → (v : SlotState) × (made : List Token) × (o ≡ Becomes v made)
not_excluded (Becomes v made) e = (v, made, refl)
not_excluded (Excluded n) e = absurd (cc)

apart : (side x y : Bool) → x ≡ not side → y ≡ not (not side) → not x ≡ not y → ⊥
apart true x y a b e = true≢false (sym (ap not a) ∙ e ∙ ap not b)
apart false x y a b e = true≢false (sym (ap not b) ∙ sym e ∙ ap not a)

-- a token waits for an instruction of holder h of the block
pub record Pending (p : Program) (pool : List Token) (f b h : ℕ) : Type 0 where
  pub n : ℕ
  pub j : Instr
  pub q : Port
  pub w : Word
  pub stands : IsPlaced p b n j
  pub holds : slot_of j j.op ≡ Some h
  pub waits : Contains pool (at_port p f b n q w)

module _ (p : Plan) (wired : IsWired p) (z : Size) (start : Machine) (events : Events) (u : Machine) (run : Run p.program z start events u)
    (O : IsOrderlyRun p z start events u run)
    (K : Kept p z start events u run (taken events)) (f b : ℕ) (c : CodeBlock) (at : slice_get p.program.blocks b ≡ Some c)
    (n0 : ℕ) (i0 : Instr) (q0 : Port) (w0 : Word) (stands0 : IsPlaced p.program b n0 i0)
    (met0 : Contains (taken events ++ u.pool) (at_port p.program f b n0 q0 w0)) where
  abbrev ts : List Token
  ts = taken events

  abbrev P : Ports p ts u.pool
  P = ports_of p z start events u run O

  abbrev Met : Inlet → Type 0
  Met q = (q.place < length c.instrs) × ((w : Word) × Contains (ts ++ u.pool) (at_port p.program f b q.place q.port w))

  abbrev UsedHere : Arc → Type 0
  UsedHere x = Used p.program ts u.store.slots f b x

  abbrev Live : ℕ → Type 0
  Live h = (u.store.slots f h ≡ Empty → ⊥) ⊎ Pending p.program u.pool f b h

  stands_here : (n : ℕ) (i : Instr) → slice_get c.instrs n ≡ Some i → IsPlaced p.program b n i
  stands_here n i e = record { code = c; block = at; instr = e }

  instr_here : (n : ℕ) (i : Instr) → IsPlaced p.program b n i → slice_get c.instrs n ≡ Some i
  instr_here n i s = subst (λ (d : CodeBlock). slice_get d.instrs n ≡ Some i) (same_Some s.code c (sym s.block ∙ at)) s.instr

  holds_here : (n h : ℕ) (i : Instr) → IsPlaced p.program b n i → slot_of i i.op ≡ Some h → Holds (slice_get p.program.blocks b) h n i
  holds_here n h i s holds = (ap (λ (o : Option CodeBlock). instr_in o n) at ∙ instr_here n i s, holds)

  held_there : (n h : ℕ) (i : Instr) → Holds (slice_get p.program.blocks b) h n i → IsPlaced p.program b n i
  held_there n h i holds = stands_here n i (sym (ap (λ (o : Option CodeBlock). instr_in o n) at) ∙ holds.0)

  arcs_here : (x : Arc) → Contains (arcs_in p (slice_get p.program.blocks b)) x → Contains (arcs_of p 0 c.instrs) x
  arcs_here x inside = subst (λ (o : Option CodeBlock). Contains (arcs_in p o) x) at inside

  -- all that came to the frame came to this block
  block_is : (a m : ℕ) (j : Instr) (r : Port) → IsPlaced p.program a m j → Came p.program ts f a m r → a ≡ b
  block_is a m j r s k = one_frame p ts u.pool P f a b m n0 j i0 r q0 k.0 w0 s stands0 (Contains-append_left ts u.pool (at_port p.program f a m r k.0) k.1) met0

  causes : (q : Inlet) (x : Arc) → Contains (arcs_in p (slice_get p.program.blocks b)) x → x.to ≡ q → Met q
      → CausedBy p ts u.store.slots f (first_of p.program b + q.place) q.port
  causes q x inside to met = go (Contains-append_cases ts u.pool (at_port p.program f b q.place q.port met.1.0) met.1.1)
    where
      entry : is_entry p.program.blocks (first_of p.program b + q.place) ≡ false
      entry =
          past_entries p.program.blocks b q.place c at met.0
          (let e = wired.entries b c x at (arcs_here x inside) in let s : x.to.place ≡ q.place = ap (λ (q : Inlet). q.place) to in omega (arith, e, s))

      go : Contains ts (at_port p.program f b q.place q.port met.1.0) ⊎ Contains u.pool (at_port p.program f b q.place q.port met.1.0)
          → CausedBy p ts u.store.slots f (first_of p.program b + q.place) q.port
      go (inl k) = K.came f (first_of p.program b + q.place) q.port met.1.0 entry k
      go (inr k) = K.was f (first_of p.program b + q.place) q.port (O.caused f (first_of p.program b + q.place) q.port met.1.0 entry k)

  came : (q : Inlet) (x : Arc) → Contains (arcs_in p (slice_get p.program.blocks b)) x → x.to ≡ q → Met q
      → (y : Arc) × Contains (arcs_in p (slice_get p.program.blocks b)) y × (y.to ≡ q) × UsedHere y
  came q x inside to met =
      let C = causes q x inside to met in
      let same : C.b ≡ b = block_is C.b C.x.from C.used.i Left C.used.stands C.used.left in
      let place : first_of p.program b + q.place ≡ first_of p.program b + C.x.to.place = C.place ∙ ap (λ (b : ℕ). first_of p.program b + C.x.to.place) same in
      let here : C.x.to.place ≡ q.place = omega (arith, place) in (
        C.x,
        subst (λ (b : ℕ). Contains (arcs_in p (slice_get p.program.blocks b)) C.x) same C.is_arc,
        (λ k. record { place = here k; port = sym C.port k }),
        subst (λ (b : ℕ). Used p.program ts u.store.slots f b C.x) same C.used,
      )

  within : (n : ℕ) (i : Instr) → IsPlaced p.program b n i → n < length c.instrs
  within n i s = slice_get_within c.instrs n i (instr_here n i s)

  met_from : (n : ℕ) (i : Instr) (r : Port) → IsPlaced p.program b n i → Came p.program ts f b n r → Met (inlet n r)
  met_from n i r s k = (within n i s, (k.0, Contains-append_left ts u.pool (at_port p.program f b n r k.0) k.1))

  fired : (y : Arc) (side : Port) (x : Arc) → Contains (arcs_in p (slice_get p.program.blocks b)) x → x.to ≡ inlet y.from side → UsedHere y
      → Met (inlet y.from side)
  fired y Left x inside to U = met_from y.from U.i Left U.stands U.left
  fired y Right x inside to U =
      let d = wired.rights b c x at (arcs_here x inside) (ap (λ (q : Inlet). q.port) to) in
      let place : x.to.place ≡ y.from = ap (λ (q : Inlet). q.place) to in
      let same : d.0 ≡ U.i = stands_one p.program b y.from d.0 U.i
      (stands_here y.from d.0 (subst (λ (n : ℕ). slice_get c.instrs n ≡ Some d.0) place d.1)) U.stands in
      met_from y.from U.i Right U.stands (U.right (subst (λ (i : Instr). is_dyadic i.op ≡ true) same d.2))

  -- a token that no rule excludes finds its slot in use, unless it is at a holder's port
  pending_full : (h : ℕ) (w : Pending p.program u.pool f b h) → is_port (w.j).op w.q ≡ false → u.store.slots f h ≡ Empty → ⊥
  pending_full h w no_port empty =
      let ip : ℕ = first_of p.program b + w.n in
      let free = O.matching (at_port p.program f b w.n w.q w.w) w.waits in
      let here : excluded_by (outcome_of p.program record { frame = f; ip = ip } w.j (w.j).op (slot_in u.store f (slot_of w.j (w.j).op)) w.q w.w) ≡ None =
      subst (λ (o : Option Instr). excluded_by (rule_at p.program record { frame = f; ip = ip } o (slot_in u.store f (slot_used o)) w.q w.w) ≡ None)
      (stands_at p.program b w.n w.j w.stands) free in
      let becomes = not_excluded _ here in
      let slot : slot_in u.store f (slot_of w.j (w.j).op) ≡ Empty = ap (slot_in u.store f) w.holds ∙ empty in
      no_move p.program record { frame = f; ip = ip } w.j (slot_in u.store f (slot_of w.j (w.j).op)) w.q w.w becomes.0 becomes.1 h
      (turn_of p.program record { frame = f; ip = ip } w.j (w.j).op (slot_in u.store f (slot_of w.j (w.j).op)) w.q w.w becomes.0 becomes.1 becomes.2) slot
      w.holds no_port

  begun_full : (h : ℕ) → (u.store.slots f h ≡ Empty → ⊥) → (q : Inlet) × IsHolderPort (slice_get p.program.blocks b) h q × Met q
  begun_full h full = go (K.filled f h)
    where
      go : EmptyOr p.program ts f h (u.store.slots f h) → (q : Inlet) × IsHolderPort (slice_get p.program.blocks b) h q × Met q
      go (inl e) = absurd (full e)
      go (inr F) =
          let port = says_port p.program ts f F.b F.n F.i (u.store.slots f h) F.asserts in
          let same : F.b ≡ b = block_is F.b F.n F.i port.0 F.stands port.2 in
          let s : IsPlaced p.program b F.n F.i = subst (λ (b : ℕ). IsPlaced p.program b F.n F.i) same F.stands in
          let k : Came p.program ts f b F.n port.0 = subst (λ (b : ℕ). Came p.program ts f b F.n port.0) same port.2 in
          (inlet F.n port.0, (F.i, holds_here F.n h F.i s F.holds, port.1), met_from F.n F.i port.0 s k)

  begun : (h : ℕ) → Live h → (q : Inlet) × IsHolderPort (slice_get p.program.blocks b) h q × Met q
  begun h (inl full) = begun_full h full
  begun h (inr w) = go (cases_Bool (is_port (w.j).op w.q))
    where
      go : (is_port (w.j).op w.q ≡ true) ⊎ (is_port (w.j).op w.q ≡ false) → (q : Inlet) × IsHolderPort (slice_get p.program.blocks b) h q × Met q
      go (inl port) = (
        inlet w.n w.q,
        (w.j, holds_here w.n h w.j w.stands w.holds, port),
        (within w.n w.j w.stands, (w.w, Contains-append_right ts u.pool (at_port p.program f b w.n w.q w.w) w.waits)),
      )
      go (inr none) = begun_full h (pending_full h w none)

  ended : (h : ℕ) (x : Arc) → IsEnd (slice_get p.program.blocks b) h x → UsedHere x → Live h → ⊥
  ended h x (i, holds, ends) U live =
      let same : i ≡ U.i = stands_one p.program b x.from i U.i (held_there x.from h i holds) U.stands in
      let over : Over p.program ts u.store.slots f b h =
      U.over h (subst (λ (i : Instr). slot_of i i.op ≡ Some h) same holds.1) (subst (λ (i : Instr). ends_with i.op ≡ true) same ends) in
      go over live
    where
      pick : Over p.program ts u.store.slots f b h → (w : Pending p.program u.pool f b h) → (is_port (w.j).op w.q ≡ true) ⊎ (is_port (w.j).op w.q ≡ false) → ⊥
      pick over w (inl port) = let k = over.came w.n w.j w.q w.stands w.holds port in not_twice p ts u.pool P f b w.n w.j w.q k.0 w.w w.stands port k.1 w.waits
      pick over w (inr none) = pending_full h w none over.empty

      go : Over p.program ts u.store.slots f b h → Live h → ⊥
      go over (inl full) = full over.empty
      go over (inr w) = pick over w (cases_Bool (is_port (w.j).op w.q))

  val_same : (v w : Value) → Word.Val v ≡ Word.Val w → v ≡ w
  val_same v w e = cc

  sides : (m : Mark) (side : Bool) (x y : Arc) → IsSide p b m side x → IsSide p b m (not side) y → UsedHere x → UsedHere y → ⊥
  sides m side x y on_x on_y U V =
      let is_x = wired.switches b x.from c U.i at (instr_here x.from U.i U.stands) (λ e. on_x.1 (sym on_x.0 ∙ e)) in
      let is_y = wired.switches b y.from c V.i at (instr_here y.from V.i V.stands) (λ e. on_y.1 (sym on_y.0 ∙ e)) in
      let s = U.side is_x in
      let t = V.side is_y in
      let met_s = Contains-append_left ts u.pool (at_port p.program f b x.from Right (Word.Val s.0)) s.1 in
      let met_t = Contains-append_left ts u.pool (at_port p.program f b y.from Right (Word.Val t.0)) t.1 in
      let same = O.agree f (first_of p.program b + x.from) (first_of p.program b + y.from) m (Word.Val s.0) (Word.Val t.0)
      (b, x.from, c, at, within x.from U.i U.stands, refl, on_x.0, on_x.1) (b, y.from, c, at, within y.from V.i V.stands, refl, on_y.0, on_y.1)
      (P.block f (first_of p.program b + x.from) (first_of p.program b + y.from) Right Right (Word.Val s.0) (Word.Val t.0) met_s met_t) met_s met_t in
      apart side x.second y.second on_x.2 on_y.2 (sym s.2 ∙ ap truth (val_same s.0 t.0 same) ∙ t.2)

  pub is_kept : IsKept p b Met UsedHere Live
  is_kept = record { caused = record { came = came; fired = fired }; begun = begun; ended = ended; sides = sides }

  -- two holders of one slot never have it both
  pub full_alone : (slots : List (List ℕ)) → Good p slots → (ss : List ℕ) → slice_get slots b ≡ Some ss → (h k s : ℕ) → slice_get ss h ≡ Some s
      → slice_get ss k ≡ Some s
      → (u.store.slots f h ≡ Empty → ⊥) → (u.store.slots f k ≡ Empty → ⊥) → h ≡ k
  full_alone slots good ss at_ss h k s at_h at_k full_h full_k = go (cases_eq h k)
    where
      go : (h ≡ k) ⊎ (h ≡ k → ⊥) → h ≡ k
      go (inl e) = e
      go (inr ne) = absurd (one_live p b Met UsedHere Live is_kept h k ((good.blocks b c ss at at_ss).share h k s at_h at_k ne) (inl full_h) (inl full_k))

  -- every other holder of the slot of an instruction for which a token waits is empty
  pub alone_here : (slots : List (List ℕ)) → Good p slots → (ss : List ℕ) → slice_get slots b ≡ Some ss → (n : ℕ) (i : Instr) (q : Port) (w : Word)
      → IsPlaced p.program b n i
      → Contains u.pool (at_port p.program f b n q w) → Alone ss (slot_of i i.op) (u.store.slots f)
  alone_here slots good ss at_ss n i q w s inside =
      alone_from p slots good b c ss at at_ss Met UsedHere Live is_kept (u.store.slots f) (λ k full. inl full) i
      (λ h holds. (
        (all_at IsPlanBlock p.program.blocks b c wired.plan.blocks at).below i h (get_contains c.instrs n i (instr_here n i s)) holds,
        inr record { n = n; j = i; q = q; w = w; stands = s; holds = holds; waits = inside },
      ))
