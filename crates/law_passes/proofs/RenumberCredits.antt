-- The loops of the plan whose holders have other numbers keep their bounds, as those of the plan do.
use Rattle.std.proofs.Common.{◌≡◌, refl, sym, ap, ◌∙◌, subst, ℕ, ◌+◌, ◌<◌, ◌≤◌, ◌⊎◌, inl, inr, Bool, true, false, List, [], ◌∷◌, Option, Some, None, Contains}
use Rattle.std.proofs.Common.{if◌then◌else◌, eq-eqb, ne_eqb, arith}
use Rattle.std.specs.Prelude.{slice_get, ◌&&◌, ◌==◌}
use Rattle.std.proofs.lemmas.Bool.{cases_eq}
use Rattle.std.proofs.lemmas.List.Sorted.{Contains-permutation}
use Rattle.std.proofs.lemmas.Option.{same_Some}
use Rattle.tags.specs.declared.token.Port.{Port}
use Rattle.tags.specs.declared.token.Port.TheVariants.{Left}
use Rattle.tags.specs.declared.token.Cont.{Cont}
use Rattle.tags.specs.declared.token.Word.{Word}
use Rattle.tags.specs.declared.token.To.{To}
use Rattle.tags.specs.declared.token.Token.{Token}
use Rattle.tags.specs.declared.slot.SlotState.{SlotState}
use Rattle.tags.specs.declared.slot.SlotState.TheVariants.{Waiter}
use Rattle.semantics.specs.declared.program.Op.{Op}
use Rattle.semantics.specs.declared.program.Op.TheVariants.{Apply2, Sync, Switch, Store, Send, Return, Ask, Open, Take, Give, Drain, Release}
use Rattle.semantics.specs.Program.{Instr, CodeBlock, Program, first_of, instr_at}
use Rattle.semantics.specs.Rule.{token, slot_of}
use Rattle.semantics.specs.Machine.{Machine, Store as MStore, Size, Events, Run, at_start, slot_in, slot_used}
use Rattle.semantics.specs.Plan.{Plan}
use Rattle.semantics.specs.Orderly.{met, Orderly, IsStart}
use Rattle.semantics.specs.Holders.{Holder, holder_of, holder_at, same_holder}
use Rattle.semantics.specs.Credits.{granted_in, granted_at, released_in, released_at, granted, released, IsPart, IsLoop}
use Rattle.law_reuse.specs.Bounds.{OnlyAsks, PlanKeepsBound, PlanKeepsBounds}
use Rattle.law_reuse.proofs.SlotsFillings.{at_port}
use Rattle.law_reuse.proofs.SlotsClaims.{holder_here}
use Rattle.law_reuse.proofs.SlotsHistory.{taken, ports_of}
use Rattle.law_passes.specs.Renumber.{IsRenumbered, HoldsIn, RenumbersBlock, RenumbersAll, with_blocks}
use Rattle.law_passes.proofs.RenumberPlaces.{Located, Nowhere, There, located, first_is, inputs_is, landing_is}
use Rattle.law_passes.proofs.RenumberEvents.{held, slot_held, Agrees}
use Rattle.law_passes.proofs.RenumberRuns.{Along, frame_agrees, Twin}
use Rattle.law_passes.proofs.RenumberOrders.{T, O, was_met}

-- a holder's number is the instruction's slot
slot_number : (i : Instr) (op : Op) (r : ℕ) → slot_of i op ≡ Some r → i.slot ≡ r
slot_number i (Apply2 o) r e = cc
slot_number i Sync r e = cc
slot_number i Switch r e = cc
slot_number i (Store a) r e = cc
slot_number i (Send b k) r e = cc
slot_number i (Return o) r e = cc
slot_number i (Ask o) r e = cc
slot_number i (Release o) r e = cc
slot_number i (Open k) r e = cc
slot_number i (Take k) r e = cc
slot_number i (Give k) r e = cc
slot_number i (Drain k) r e = cc
slot_number i op r e = absurd (cc)

-- the holder of that number in the block
abbrev in_block : ℕ → ℕ → Holder
in_block b r = record { block = b; number = r }

holder_some : (b r : ℕ) (o : Option ℕ) → holder_of b o ≡ Some (in_block b r) → o ≡ Some r
holder_some b r None e = absurd (cc)
holder_some b r (Some k) e = let d = same_Some (in_block b k) (in_block b r) e in ap (λ (x : Holder). Some x.number) d

holder_is : (b : ℕ) (o : Option ℕ) (x : Holder) → holder_of b o ≡ Some x → (r : ℕ) × (o ≡ Some r) × (in_block b r ≡ x)
holder_is b None x e = absurd (cc)
holder_is b (Some r) x e = (r, refl, same_Some (in_block b r) x e)

module _ (p : Plan) (ds : List CodeBlock) (hold : ℕ → ℕ → ℕ) (R : RenumbersAll hold p.program.blocks ds) where
  abbrev P : Program
  P = p.program

  abbrev q : Plan
  q = with_blocks p ds

  abbrev Q : Program
  Q = q.program

  -- the holders of one instruction
  record Both (ip : ℕ) (i j : Instr) : Type 0 where
    pub b : ℕ
    pub n : ℕ
    pub c : CodeBlock
    pub block : slice_get P.blocks b ≡ Some c
    pub there : slice_get c.instrs n ≡ Some i
    pub one : IsRenumbered (hold b) i j
    pub apart : (a k : ℕ) → HoldsIn c a → HoldsIn c k → hold b a ≡ hold b k → a ≡ k
    pub old : holder_at p ip ≡ holder_of b (slot_of i i.op)
    pub new : holder_at q ip ≡ holder_of b (held (hold b) (slot_of i i.op))
    pub at_p : instr_at P ip ≡ Some i
    pub at_q : instr_at Q ip ≡ Some j
    pub place : ip ≡ first_of P b + n

  both : (ip b n : ℕ) (c d : CodeBlock) (i j : Instr) → slice_get P.blocks b ≡ Some c → slice_get ds b ≡ Some d → slice_get c.instrs n ≡ Some i
      → slice_get d.instrs n ≡ Some j → RenumbersBlock (hold b) c d → IsRenumbered (hold b) i j
      → instr_at P ip ≡ Some i → instr_at Q ip ≡ Some j → ip ≡ first_of P b + n → Both ip i j
  both ip b n c d i j at_b at_d at_n at_j B I at_p at_q place = record {
    b = b;
    n = n;
    c = c;
    block = at_b;
    there = at_n;
    one = I;
    apart = B.apart;
    old = ap (holder_at p) place ∙ holder_here p b n i record { code = c; block = at_b; instr = at_n };
    new =
        ap (holder_at q) (place ∙ ap (λ (k : ℕ). k + n) (sym (first_is p ds hold R b))) ∙ holder_here q b n j record { code = d; block = at_d; instr = at_j }
        ∙ ap (holder_of b) (slot_held (hold b) i j I);
    at_p = at_p;
    at_q = at_q;
    place = place;
  }

  by_new : (ip : ℕ) (j : Instr) → instr_at Q ip ≡ Some j → (i : Instr) × Both ip i j
  by_new ip j at = go (located hold P.blocks ds R ip)
    where
      go : Located hold P.blocks ds ip → (i : Instr) × Both ip i j
      go (Nowhere x y) = absurd (let e : Some j ≡ None = sym at ∙ y in cc)
      go (There b n c d i k at_b at_d at_n at_j B I at_p at_q place) =
          (i, subst (Both ip i) (same_Some k j (sym at_q ∙ at)) (both ip b n c d i k at_b at_d at_n at_j B I at_p at_q place))

  by_old : (ip : ℕ) (i : Instr) → instr_at P ip ≡ Some i → (j : Instr) × Both ip i j
  by_old ip i at = go (located hold P.blocks ds R ip)
    where
      go : Located hold P.blocks ds ip → (j : Instr) × Both ip i j
      go (Nowhere x y) = absurd (let e : Some i ≡ None = sym at ∙ x in cc)
      go (There b n c d k j at_b at_d at_n at_j B I at_p at_q place) =
          (j, subst (λ (k : Instr). Both ip k j) (same_Some k i (sym at_p ∙ at)) (both ip b n c d k j at_b at_d at_n at_j B I at_p at_q place))

  -- a holder that the block has, in both
  record Held (loop : Holder) : Type 0 where
    pub b : ℕ
    pub r : ℕ
    pub c : CodeBlock
    pub block : slice_get P.blocks b ≡ Some c
    pub holds : HoldsIn c r
    pub is : in_block b (hold b r) ≡ loop

  abbrev old_one : (loop : Holder) → Held loop → Holder
  old_one loop H = in_block H.b H.r

  -- an instruction of a new holder
  record Back (loop : Holder) (op : Op) (ip s : ℕ) : Type 0 where
    pub held : Held loop
    pub part : IsPart p P (old_one loop held) op ip held.r
    pub slot : s ≡ hold held.b held.r
    pub n : ℕ
    pub place : ip ≡ first_of P held.b + n
    pub i : Instr
    pub there : slice_get (held.c).instrs n ≡ Some i

  part_back : (loop : Holder) (op : Op) (ip s : ℕ) → IsPart q Q loop op ip s → Back loop op ip s
  part_back loop op ip s K =
      let B = by_new ip K.instr K.is_at in
      let h = holder_is B.1.b (held (hold B.1.b) (slot_of B.0 B.0.op)) loop (sym B.1.new ∙ K.holds) in
      go B.0 B.1 (slot_of B.0 B.0.op) refl h
    where
      go : (i : Instr) (B : Both ip i K.instr) (o : Option ℕ) → slot_of i i.op ≡ o
          → (k : ℕ) × (held (hold B.b) (slot_of i i.op) ≡ Some k) × (in_block B.b k ≡ loop) → Back loop op ip s
      go i B None e (k, f, is) = absurd (let d : None ≡ Some k = sym (ap (held (hold B.b)) e) ∙ f in cc)
      go i B (Some r) e (k, f, is) =
          let d : Some (hold B.b r) ≡ Some k = sym (ap (held (hold B.b)) e) ∙ f in
          let same : hold B.b r ≡ k = same_Some (hold B.b r) k d in
          record {
            held =
                record {
                  b = B.b;
                  r = r;
                  c = B.c;
                  block = B.block;
                  holds = record { place = B.n; instr = i; there = B.there; holds = e };
                  is = ap (in_block B.b) same ∙ is;
                };
            part = record { instr = i; is_at = B.at_p; does = sym B.one.op ∙ K.does; uses = slot_number i i.op r e; holds = B.old ∙ ap (holder_of B.b) e };
            slot = sym K.uses ∙ B.one.slot r e;
            n = B.n;
            place = B.place;
            i = i;
            there = B.there;
          }

  part_on : (loop : Holder) (H : Held loop) (op : Op) (ip s : ℕ) → IsPart p P (old_one loop H) op ip s → IsPart q Q loop op ip (hold H.b H.r)
  part_on loop H op ip s K =
      let B = by_old ip K.instr K.is_at in
      let h = holder_is B.1.b (slot_of K.instr K.instr.op) (old_one loop H) (sym B.1.old ∙ K.holds) in
      let block : B.1.b ≡ H.b = ap (λ (x : Holder). x.block) h.2 in
      let number : h.0 ≡ H.r = ap (λ (x : Holder). x.number) h.2 in
      let both : hold B.1.b h.0 ≡ hold H.b H.r = (λ k. hold (block k) (number k)) in
      record {
        instr = B.0;
        is_at = B.1.at_q;
        does = B.1.one.op ∙ K.does;
        uses = B.1.one.slot h.0 h.1 ∙ both;
        holds =
            B.1.new ∙ ap (λ (o : Option ℕ). holder_of B.1.b (held (hold B.1.b) o)) h.1 ∙ (λ k. Some (in_block (block k) (both k)))
            ∙ ap (λ (x : Holder). Some x) H.is;
      }

  loop_on : (loop : Holder) (H : Held loop) (k s base : ℕ) → IsLoop p P (old_one loop H) k s base → IsLoop q Q loop k (hold H.b H.r) base
  loop_on loop H k s base L =
      let B = by_old L.link_ip L.links.instr L.links.is_at in
      record {
        open_ip = L.open_ip;
        take_ip = L.take_ip;
        link_ip = L.link_ip;
        callee = L.callee;
        opens = part_on loop H (Open k) L.open_ip s L.opens;
        takes = part_on loop H (Take k) L.take_ip s L.takes;
        links =
            record {
              instr = B.0;
              dest = L.links.dest;
              is_at = B.1.at_q;
              does = B.1.one.op ∙ L.links.does;
              lands = B.1.one.firsts ∙ L.links.lands;
              begins = L.links.begins;
            };
        lands = (L.lands.0, subst (λ (n : ℕ). L.take_ip < base + n) (sym (landing_is p ds hold R L.callee)) L.lands.1);
      }

  -- ---- THE SAME IS COUNTED

  granted_op : (ip : ℕ) (v : SlotState) → granted_in (instr_at Q ip) v ≡ granted_in (instr_at P ip) v
  granted_op ip v = go (located hold P.blocks ds R ip)
    where
      by_op : (i j : Instr) → j.op ≡ i.op → granted_in (Some j) v ≡ granted_in (Some i) v
      by_op i j e = ap (λ (op : Op). granted_in (Some record i { op = op }) v) e

      go : Located hold P.blocks ds ip → granted_in (instr_at Q ip) v ≡ granted_in (instr_at P ip) v
      go (Nowhere x y) = ap (λ (o : Option Instr). granted_in o v) (y ∙ sym x)
      go (There b n c d i j at_b at_d at_n at_j B I at_p at_q place) =
          ap (λ (o : Option Instr). granted_in o v) at_q ∙ by_op i j I.op ∙ sym (ap (λ (o : Option Instr). granted_in o v) at_p)

  released_op : (ip f base : ℕ) (made : List Token) → released_in (instr_at Q ip) f base made ≡ released_in (instr_at P ip) f base made
  released_op ip f base made = go (located hold P.blocks ds R ip)
    where
      by_op : (i j : Instr) → j.op ≡ i.op → released_in (Some j) f base made ≡ released_in (Some i) f base made
      by_op i j e = ap (λ (op : Op). released_in (Some record i { op = op }) f base made) e

      go : Located hold P.blocks ds ip → released_in (instr_at Q ip) f base made ≡ released_in (instr_at P ip) f base made
      go (Nowhere x y) = ap (λ (o : Option Instr). released_in o f base made) (y ∙ sym x)
      go (There b n c d i j at_b at_d at_n at_j B I at_p at_q place) =
          ap (λ (o : Option Instr). released_in o f base made) at_q ∙ by_op i j I.op ∙ sym (ap (λ (o : Option Instr). released_in o f base made) at_p)

  -- the holder of an instruction is the loop's in both, or in none
  holder_same : (loop : Holder) (H : Held loop) (ip : ℕ) (i j : Instr) → Both ip i j
      → same_holder loop (holder_at q ip) ≡ same_holder (old_one loop H) (holder_at p ip)
  holder_same loop H ip i j B =
      ap (λ (x : Holder). same_holder x (holder_at q ip)) (sym H.is) ∙ ap (same_holder (in_block H.b (hold H.b H.r))) B.new
      ∙ go (slot_of i i.op) refl (cases_eq H.b B.b) ∙ sym (ap (same_holder (old_one loop H)) B.old)
    where
      go : (o : Option ℕ) → slot_of i i.op ≡ o → (H.b ≡ B.b) ⊎ (H.b ≡ B.b → ⊥)
          → same_holder (in_block H.b (hold H.b H.r)) (holder_of B.b (held (hold B.b) o)) ≡ same_holder (in_block H.b H.r) (holder_of B.b o)
      go None e d = refl
      go (Some k) e (inr ne) =
          ap (λ (t : Bool). t && (hold H.b H.r == hold B.b k)) (ne_eqb H.b B.b ne) ∙ sym (ap (λ (t : Bool). t && (H.r == k)) (ne_eqb H.b B.b ne))
      go (Some k) e (inl same) = ap (λ (t : Bool). (H.b == B.b) && t) (by_number (cases_eq H.r k))
        where
          code : B.c ≡ H.c
          code = same_Some B.c H.c (sym B.block ∙ ap (slice_get P.blocks) (sym same) ∙ H.block)

          old_holds : HoldsIn B.c H.r
          old_holds = subst (λ (c : CodeBlock). HoldsIn c H.r) (sym code) H.holds

          by_number : (H.r ≡ k) ⊎ (H.r ≡ k → ⊥) → (hold H.b H.r == hold B.b k) ≡ (H.r == k)
          by_number (inl x) = eq-eqb (hold H.b H.r) (hold B.b k) (λ t. hold (same t) (x t)) ∙ sym (eq-eqb H.r k x)
          by_number (inr ne) =
              ne_eqb (hold H.b H.r) (hold B.b k) (λ x. ne
              (B.apart H.r k old_holds record { place = B.n; instr = i; there = B.there; holds = e } (ap (λ (b : ℕ). hold b H.r) (sym same) ∙ x)))
              ∙ sym (ne_eqb H.r k ne)

  granted_same : (loop : Holder) (H : Held loop) (f : ℕ) (m u : MStore) (to : To)
      → ((g ip : ℕ) (r : Port) → to ≡ To.Instr g ip r → slot_in m g (slot_used (instr_at Q ip)) ≡ slot_in u g (slot_used (instr_at P ip)))
      → granted_at q Q f loop m to ≡ granted_at p P f (old_one loop H) u to
  granted_same loop H f m u (To.Instr g ip r) slots =
      ap (λ (n : ℕ). if (g == f) && same_holder loop (holder_at q ip) then n else 0)
      (granted_op ip (slot_in m g (slot_used (instr_at Q ip))) ∙ ap (granted_in (instr_at P ip)) (slots g ip r refl))
      ∙ go (located hold P.blocks ds R ip)
    where
      either : (t : Bool) (n : ℕ) → n ≡ 0 → (if t then n else 0) ≡ 0
      either true n e = e
      either false n e = refl

      nothing : (a b : Bool) (v : SlotState) → instr_at P ip ≡ None
          → (if a then granted_in (instr_at P ip) v else 0) ≡ (if b then granted_in (instr_at P ip) v else 0)
      nothing a b v e =
          let none : granted_in (instr_at P ip) v ≡ 0 = ap (λ (o : Option Instr). granted_in o v) e in
          either a (granted_in (instr_at P ip) v) none ∙ sym (either b (granted_in (instr_at P ip) v) none)

      go : Located hold P.blocks ds ip → (if (g == f) && same_holder loop (holder_at q ip)
          then granted_in (instr_at P ip) (slot_in u g (slot_used (instr_at P ip))) else 0)
          ≡ (if (g == f) && same_holder (old_one loop H) (holder_at p ip) then granted_in (instr_at P ip) (slot_in u g (slot_used (instr_at P ip))) else 0)
      go (Nowhere x y) =
          nothing ((g == f) && same_holder loop (holder_at q ip)) ((g == f) && same_holder (old_one loop H) (holder_at p ip))
          (slot_in u g (slot_used (instr_at P ip))) x
      go (There b n c d i j at_b at_d at_n at_j B I at_p at_q place) =
          ap (λ (t : Bool). if (g == f) && t then granted_in (instr_at P ip) (slot_in u g (slot_used (instr_at P ip))) else 0)
          (holder_same loop H ip i j (both ip b n c d i j at_b at_d at_n at_j B I at_p at_q place))
  granted_same loop H f m u (To.Fetch x) slots = refl
  granted_same loop H f m u (To.Store x w) slots = refl
  granted_same loop H f m u To.Manager slots = refl
  granted_same loop H f m u (To.Release g) slots = refl
  granted_same loop H f m u (To.Host j) slots = refl

  released_same : (f base : ℕ) (to : To) (made made_old : List Token) → made_old ≡ made → released_at Q f base to made ≡ released_at P f base to made_old
  released_same f base (To.Instr g ip r) made made_old e = released_op ip f base made ∙ ap (released_in (instr_at P ip) f base) (sym e)
  released_same f base (To.Fetch x) made made_old e = refl
  released_same f base (To.Store x w) made made_old e = refl
  released_same f base To.Manager made made_old e = refl
  released_same f base (To.Release g) made made_old e = refl
  released_same f base (To.Host j) made made_old e = refl

  all_granted : (loop : Holder) (H : Held loop) (f : ℕ) (z : Size) (events : Events) (m u c d : Machine) (rq : Run Q z m events c) (rp : Run P z u events d)
      → Along P Q z events m u c d rq rp
      → granted q Q f loop z m events c rq ≡ granted p P f (old_one loop H) z u events d rp
  all_granted loop H f z [] m u c d rq rp A = refl
  all_granted loop H f z (x ∷ events) m u c d rq rp A =
      (λ k. granted_same loop H f m.store u.store x.1.to (A.0).before k + all_granted loop H f z events rq.0 rp.0 c d rq.2 rp.2 A.1 k)

  all_released : (f base : ℕ) (z : Size) (events : Events) (m u c d : Machine) (rq : Run Q z m events c) (rp : Run P z u events d)
      → Along P Q z events m u c d rq rp
      → released Q f base z m events c rq ≡ released P f base z u events d rp
  all_released f base z [] m u c d rq rp A = refl
  all_released f base z (x ∷ events) m u c d rq rp A =
      (λ k. released_same f base x.1.to rq.1.made rp.1.made (A.0).made_same k + all_released f base z events rq.0 rp.0 c d rq.2 rp.2 A.1 k)

  -- ---- THE BOUNDS

  pub bounds_kept : Orderly p → PlanKeepsBounds p → PlanKeepsBounds q
  bounds_kept orderly keeps inputs z events m f start_q run once = record { never_above = never; all_granted = all }
    where
      start : IsStart p z inputs
      start = record { some_element = start_q.some_element; some_frame = start_q.some_frame; inputs_fit = start_q.inputs_fit ∙ inputs_is p ds hold R }

      W : Twin p ds hold R orderly inputs z start events m run
      W = T p ds hold R orderly inputs z start events m run once

      K : PlanKeepsBound p z inputs events W.last W.run f
      K = keeps inputs z events W.last f start W.run W.once

      grant : (loop : Holder) (H : Held loop)
          → granted q Q f loop z (at_start Q inputs) events m run ≡ granted p P f (old_one loop H) z (at_start P inputs) events W.last W.run
      grant loop H = all_granted loop H f z events (at_start Q inputs) (at_start P inputs) m W.last run W.run W.along

      release : (base : ℕ) → released Q f base z (at_start Q inputs) events m run ≡ released P f base z (at_start P inputs) events W.last W.run
      release base = all_released f base z events (at_start Q inputs) (at_start P inputs) m W.last run W.run W.along

      never : (loop : Holder) (k ip s : ℕ) → IsPart q Q loop (Open k) ip s
          → (base : ℕ) × IsLoop q Q loop k s base
          × (granted q Q f loop z (at_start Q inputs) events m run ≤ released Q f base z (at_start Q inputs) events m run + k)
      never loop k ip s part =
          let B = part_back loop (Open k) ip s part in
          let N = K.never_above (old_one loop B.held) k ip B.held.r B.part in
          let g = grant loop B.held in let r = release N.0 in let le = N.2 in
          (N.0, subst (λ (s : ℕ). IsLoop q Q loop k s N.0) (sym B.slot) (loop_on loop B.held k B.held.r N.0 N.1), omega (arith, g, r, le))

      only_asks : OnlyAsks m → OnlyAsks W.last
      only_asks only t inside = only t (Contains-permutation W.last.pool m.pool t W.tied.pool inside)

      all : (loop : Holder) (k ip s : ℕ) (w : Word) (c : Cont) → IsPart q Q loop (Open k) ip s → Contains (met events m) (token (To.Instr f ip Left) w)
          → OnlyAsks m → m.store.slots f s ≡ Waiter c
          → (base : ℕ) × IsLoop q Q loop k s base
          × (granted q Q f loop z (at_start Q inputs) events m run ≡ released Q f base z (at_start Q inputs) events m run + k)
      all loop k ip s w c part inside only waits =
          let B = part_back loop (Open k) ip s part in
          let was : Contains (met events W.last) (token (To.Instr f ip Left) w) =
          was_met p ds hold R orderly inputs z start events m run once (token (To.Instr f ip Left) w) inside in
          let here : Contains (met events W.last) (at_port P f B.held.b B.n Left w) =
          subst (λ (ip : ℕ). Contains (met events W.last) (token (To.Instr f ip Left) w)) B.place was in
          let A : Agrees (hold B.held.b) B.held.c (m.store.slots f) (W.last.store.slots f) =
          frame_agrees p hold (taken events) W.last.pool
          (ports_of p z (at_start P inputs) events W.last W.run (O p ds hold R orderly inputs z start events m run once)) f B.held.b B.n B.held.c B.i Left w
          (m.store.slots f) (W.last.store.slots f) B.held.block B.there here (W.tied.frames f) in
          let now : W.last.store.slots f B.held.r ≡ Waiter c = sym (A.same B.held.r B.held.holds) ∙ ap (m.store.slots f) (sym B.slot) ∙ waits in
          let N = K.all_granted (old_one loop B.held) k ip B.held.r w c B.part was (only_asks only) now in
          let g = grant loop B.held in let r = release N.0 in let le = N.2 in
          (N.0, subst (λ (s : ℕ). IsLoop q Q loop k s N.0) (sym B.slot) (loop_on loop B.held k B.held.r N.0 N.1), omega (arith, g, r, le))
