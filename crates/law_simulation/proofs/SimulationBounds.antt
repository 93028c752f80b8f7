-- The new code keeps the bounds of its loops.
use Rattle.std.proofs.Common.{◌≡◌, refl, sym, ap, ◌∙◌, subst, ℕ, ◌+◌, ◌<◌, ◌≤◌, ◌⊎◌, inl, inr, false, List, [], ◌∷◌, Some, None, Contains, arith}
use Rattle.std.proofs.lemmas.List.Elements.{Contains-append_cases}
use Rattle.std.proofs.lemmas.List.Sorted.{Contains-permutation, IsPermutation-sym}
use Rattle.tags.specs.declared.token.Port.{Port}
use Rattle.tags.specs.declared.token.Port.TheVariants.{Left}
use Rattle.tags.specs.declared.token.Cont.{Cont}
use Rattle.tags.specs.declared.token.Word.{Word}
use Rattle.tags.specs.declared.token.To.{To}
use Rattle.tags.specs.declared.token.Token.{Token}
use Rattle.tags.specs.declared.slot.SlotState.{SlotState}
use Rattle.tags.specs.declared.slot.SlotState.TheVariants as Slot
use Rattle.tags.specs.declared.slot.SlotState.TheVariants.{Empty, Credits, Waiter, Draining}
use Rattle.semantics.specs.declared.program.Dest.{Dest}
use Rattle.semantics.specs.declared.program.Op.{Op}
use Rattle.semantics.specs.declared.program.Op.TheVariants.{Open, Take}
use Rattle.semantics.specs.Program.{Instr, Program, instr_at}
use Rattle.semantics.specs.Rule.{token}
use Rattle.semantics.specs.Machine.{Store as MStore, at_start}
use Rattle.semantics.specs.Handed.{handed, EachOnce, UsesEachOnce}
use Rattle.semantics.specs.Plan.{Plan}
use Rattle.semantics.specs.Wired.{IsWired}
use Rattle.semantics.specs.Orderly.{Orderly, IsStart, met}
use Rattle.law_fresh_frames.specs.Alike.{LandsRightly}
use Rattle.law_reuse.proofs.BoundsTallies.{Grants, Releases, granted_is, released_is}
use Rattle.semantics.specs.Holders.{holder_at}
use Rattle.tags.specs.declared.slot.SlotState.TheVariants.{Waiter}
use Rattle.semantics.specs.Plan.{landing}
use Rattle.std.specs.Prelude.{◌-◌}
use Rattle.std.proofs.lemmas.Option.{same_Some}
use Rattle.lemmas.proofs.Contains.{contains_cases, contains_head, contains_none, contains_tail}
use Rattle.semantics.specs.declared.program.Op.TheVariants.{Link}
use Rattle.semantics.specs.Holders.{Holder, holder_at}
use Rattle.semantics.specs.Credits.{IsPart, IsLink, IsLoop, granted, released}
use Rattle.law_reuse.specs.Bounds.{OnlyAsks, PlanKeepsBound, PlanKeepsBounds}
use Rattle.law_simulation.specs.Places.{ip_slot, ip_store, ip_to, is_answered}
use Rattle.law_simulation.specs.Simulates.{IsMoved, Plain, Relates, Stands, at_moved, counts_none, empty, itself, left, moved, right, through}
use Rattle.law_simulation.proofs.SimulationCounts.{meant_has}
use Rattle.law_simulation.proofs.SimulationLands.{ComesBack}
use Rattle.law_simulation.proofs.SimulationParts.{Clump, meant_of, seen_of}
use Rattle.law_simulation.proofs.SimulationPorts.{ones_some}
use Rattle.law_simulation.proofs.SimulationRuns.{simulated}
use Rattle.law_simulation.proofs.SimulationSeen.{met_known}
use Rattle.law_simulation.proofs.SimulationState.{Explained, Sim}
use Rattle.law_simulation.proofs.SimulationTraces.{grants_are, releases_are, steps_of}

module _ (p q : Plan) (S : Relates p q) (same : (b : ℕ) → landing q b ≡ landing p b)
    (rows : (ip callee base o : ℕ) → IsLink p.program ip callee base → o < landing p callee → S.h (base + o) ≡ S.h base + o) (back : ComesBack p q S) where
  abbrev P : Program
  P = p.program

  abbrev Q : Program
  Q = q.program

  abbrev g : ℕ → ℕ
  g = S.g

  abbrev h : ℕ → ℕ
  h = S.h

  nothing_there : (j : Instr) → Some j ≡ None → ⊥
  nothing_there j e = cc

  -- what stands for itself is the instruction moved
  pub moved_at : (a : ℕ) (i : Instr) → instr_at P a ≡ Some i → Plain P Q h a → IsMoved P Q g h a i
  moved_at a i at (itself i2 j at2 there) = go (S.instrs a i at)
    where
      go : IsMoved P Q g h a i ⊎ (instr_at Q (h a) ≡ None) → IsMoved P Q g h a i
      go (inl M) = M
      go (inr none_new) = absurd (nothing_there j (sym there ∙ none_new))
  moved_at a i at (empty none none_new apart) = absurd (nothing_there i (sym at ∙ none))

  -- what is at its place stands for it
  pub stands_there : (a : ℕ) (j : Instr) → instr_at Q (h a) ≡ Some j → Plain P Q h a → (i : Instr) × (instr_at P a ≡ Some i)
  stands_there a j at (itself i j2 old there) = (i, old)
  stands_there a j at (empty none none_new apart) = absurd (nothing_there j (sym at ∙ none_new))

  part_moved : (loop : Holder) (op : Op) (ip s : ℕ) → Plain P Q h ip → IsPart p P loop op ip s → IsPart q Q loop op (h ip) s
  part_moved loop op ip s plain K =
      let M = moved_at ip K.instr K.is_at plain in
      record { instr = M.j; is_at = M.there; does = M.op ∙ K.does; uses = M.slot ∙ K.uses; holds = S.holders ip plain ∙ K.holds }

  -- an instruction with that operation stands for itself
  abbrev Remains : Op → Type 0
  Remains op = (a : ℕ) (i : Instr) → instr_at P a ≡ Some i → i.op ≡ op → Plain P Q h a

  part_back : (loop : Holder) (op : Op) (ip s : ℕ) → counts_none op ≡ false → IsPart q Q loop op ip s
      → (a : ℕ) × (ip ≡ h a) × Plain P Q h a × IsPart p P loop op a s
  part_back loop op ip s other K =
      let b = back ip K.instr K.is_at (ap counts_none K.does ∙ other) in
      let plain : Plain P Q h b.0 = b.2 in
      let old = stands_there b.0 K.instr (ap (instr_at Q) (sym b.1) ∙ K.is_at) plain in
      let M = moved_at b.0 old.0 old.1 plain in
      let j : M.j ≡ K.instr = same_Some M.j K.instr (sym M.there ∙ ap (instr_at Q) (sym b.1) ∙ K.is_at) in (
        b.0,
        b.1,
        plain,
        record {
          instr = old.0;
          is_at = old.1;
          does = sym M.op ∙ ap (λ (i : Instr). i.op) j ∙ K.does;
          uses = sym M.slot ∙ ap (λ (i : Instr). i.slot) j ∙ K.uses;
          holds = sym (S.holders b.0 plain) ∙ ap (holder_at q) (sym b.1) ∙ K.holds;
        },
      )

  one_dest : (d e : Dest) → d ∷ [] ≡ e ∷ [] → d ≡ e
  one_dest d e k = cc

  module _ (stays_open : (k : ℕ) → Remains (Open k)) (stays_take : (k : ℕ) → Remains (Take k)) (stays_link : (b : ℕ) → Remains (Link b)) where
    link_moved : (ip callee base : ℕ) → IsLink P ip callee base → IsLink Q (h ip) callee (h base)
    link_moved ip callee base L =
        let M = moved_at ip L.instr L.is_at (stays_link callee ip L.instr L.is_at L.does) in
        let A = M.answered (ap is_answered L.does) in
        let d : A.0 ≡ L.dest = one_dest A.0 L.dest (sym A.2 ∙ L.lands) in
        let e : base ≡ ip + A.0.ahead = L.begins ∙ ap (λ (d : Dest). ip + d.ahead) (sym d) in
        record { instr = M.j; dest = A.1; is_at = M.there; does = M.op ∙ L.does; lands = A.3; begins = ap h e ∙ A.4 }

    base_plain : (ip callee base : ℕ) → IsLink P ip callee base → Plain P Q h base
    base_plain ip callee base L =
        let M = moved_at ip L.instr L.is_at (stays_link callee ip L.instr L.is_at L.does) in
        let A = M.answered (ap is_answered L.does) in
        let d : A.0 ≡ L.dest = one_dest A.0 L.dest (sym A.2 ∙ L.lands) in
        let e : base ≡ ip + A.0.ahead = L.begins ∙ ap (λ (d : Dest). ip + d.ahead) (sym d) in
        subst (Plain P Q h) (sym e) A.6

    loop_moved : (loop : Holder) (k s base : ℕ) → IsLoop p P loop k s base → IsLoop q Q loop k s (h base)
    loop_moved loop k s base L =
        let low = L.lands.0 in let high = L.lands.1 in
        let row = rows L.link_ip L.callee base (L.take_ip - base) L.links (omega (arith, low, high)) in
        let e = ap h (let z : base + (L.take_ip - base) ≡ L.take_ip = omega (arith, low) in z) in
        let lm = same L.callee in
        record {
          open_ip = h L.open_ip;
          take_ip = h L.take_ip;
          link_ip = h L.link_ip;
          callee = L.callee;
          opens = part_moved loop (Open k) L.open_ip s (stays_open k L.open_ip (L.opens).instr (L.opens).is_at (L.opens).does) L.opens;
          takes = part_moved loop (Take k) L.take_ip s (stays_take k L.take_ip (L.takes).instr (L.takes).is_at (L.takes).does) L.takes;
          links = link_moved L.link_ip L.callee base L.links;
          lands = (omega (arith, row, e), omega (arith, row, e, lm, low, high));
        }

    waiter_back : (x : SlotState) (c : Cont) → ip_slot h x ≡ Waiter c → (d : Cont) × (x ≡ Waiter d)
    waiter_back Empty c e = absurd (cc)
    waiter_back (Slot.Left w) c e = absurd (cc)
    waiter_back (Slot.Right w) c e = absurd (cc)
    waiter_back (Credits n) c e = absurd (cc)
    waiter_back (Waiter d) c e = (d, refl)
    waiter_back (Draining n) c e = absurd (cc)

    no_manager : (f ip : ℕ) (r : Port) → To.Instr f ip r ≡ To.Manager → ⊥
    no_manager f ip r e = cc

    asks_clump : (seen : Token) (meant : List Token) → Stands P Q g h seen meant → seen.to ≡ To.Manager → (t : Token) → Contains meant t → t.to ≡ To.Manager
    asks_clump seen meant (moved s ts u is one fits) e t inside = pick (contains_cases u [] t (subst (λ (l : List Token). Contains l t) one inside))
      where
        go : (to : To) → ip_to h to ≡ To.Manager → to ≡ To.Manager
        go (To.Instr f a r) e = absurd (cc)
        go (To.Fetch x) e = absurd (cc)
        go (To.Store x v) e = absurd (cc)
        go To.Manager e = refl
        go (To.Release f) e = absurd (cc)
        go (To.Host j) e = absurd (cc)

        pick : (u ≡ t) ⊎ Contains [] t → t.to ≡ To.Manager
        pick (inl d) = sym (ap (λ (t : Token). t.to) d) ∙ go u.to (sym (ap (λ (t : Token). t.to) is) ∙ e)
        pick (inr c) = absurd (contains_none t c)
    asks_clump seen meant (through s ts f ip w v j is at op all d some fresh) e t inside = absurd (no_manager f ip Left (sym (ap (λ (t : Token). t.to) is) ∙ e))
    asks_clump seen meant (right s ts f a w o n i j is at op to new one fresh) e t inside =
        absurd (no_manager f (g a) Left (sym (ap (λ (t : Token). t.to) is) ∙ e))
    asks_clump seen meant (left s ts f a w o n i j is at op to new one fresh) e t inside =
        absurd (no_manager f (g a) Left (sym (ap (λ (t : Token). t.to) is) ∙ e))

    asks_all : (cs : List (Clump P Q g h)) → ((t : Token) → Contains (seen_of P Q g h cs) t → t.to ≡ To.Manager) → (t : Token)
        → Contains (meant_of P Q g h cs) t → t.to ≡ To.Manager
    asks_all [] all t inside = absurd (contains_none t inside)
    asks_all (c ∷ cs) all t inside =
        go (Contains-append_cases c.meant (meant_of P Q g h cs) t inside) (asks_all cs (λ u k. all u (contains_tail c.seen (seen_of P Q g h cs) u k)) t)
      where
        go : Contains c.meant t ⊎ Contains (meant_of P Q g h cs) t → (Contains (meant_of P Q g h cs) t → t.to ≡ To.Manager) → t.to ≡ To.Manager
        go (inl k) more = asks_clump c.seen c.meant c.stands (all c.seen (contains_head c.seen (seen_of P Q g h cs))) t k
        go (inr k) more = more k

    module _ (wired : IsWired p) (orderly : Orderly p) (lands : LandsRightly p) where
      pub bounds_kept : PlanKeepsBounds p → PlanKeepsBounds q
      bounds_kept keeps inputs z events u f start run once = record { never_above = never; all_granted = all }
        where
          st : IsStart p z inputs
          st = record { some_element = start.some_element; some_frame = start.some_frame; inputs_fit = start.inputs_fit ∙ S.inputs }

          V : Sim p q S wired orderly lands inputs z st events u (handed Q z (at_start Q inputs) events u run) (steps_of Q z (at_start Q inputs) events u run)
          V = simulated p q S wired orderly lands inputs z st events u run once

          old_once : UsesEachOnce P z inputs V.part.done V.part.last V.part.run
          old_once = subst (λ (l : List ℕ). EachOnce (0 ∷ l)) (sym V.part.hands) once

          K : PlanKeepsBound p z inputs V.part.done V.part.last V.part.run f
          K = keeps inputs z V.part.done V.part.last f st V.part.run old_once

          stores : u.store ≡ ip_store h V.part.last.store
          stores = V.store ∙ ap (ip_store h) (sym V.part.same)

          grant : (loop : Holder) → granted q Q f loop z (at_start Q inputs) events u run
              ≡ granted p P f loop z (at_start P inputs) V.part.done V.part.last V.part.run
          grant loop =
              grants_are q f loop z (at_start Q inputs) events u run ∙ sym (V.part.counts (Grants loop) f tt)
              ∙ sym (granted_is p P f loop z (at_start P inputs) V.part.done V.part.last V.part.run)

          release : (base : ℕ) → Plain P Q h base
              → released Q f (h base) z (at_start Q inputs) events u run ≡ released P f base z (at_start P inputs) V.part.done V.part.last V.part.run
          release base plain =
              releases_are Q f (h base) z (at_start Q inputs) events u run ∙ sym (V.part.counts (Releases base) f plain)
              ∙ sym (released_is p P f base z (at_start P inputs) V.part.done V.part.last V.part.run)

          never : (loop : Holder) (k ip s : ℕ) → IsPart q Q loop (Open k) ip s
              → (base : ℕ) × IsLoop q Q loop k s base
              × (granted q Q f loop z (at_start Q inputs) events u run ≤ released Q f base z (at_start Q inputs) events u run + k)
          never loop k ip s part =
              let b = part_back loop (Open k) ip s refl part in
              let N = K.never_above loop k b.0 s b.3 in
              let L = N.1 in
              let gr = grant loop in let r = release N.0 (base_plain L.link_ip L.callee N.0 L.links) in let le = N.2 in
              (h N.0, loop_moved loop k s N.0 N.1, omega (arith, gr, r, le))

          only_asks : OnlyAsks u → OnlyAsks V.part.last
          only_asks only t inside =
              asks_all V.clumps (λ x k. only x (Contains-permutation _ _ x (IsPermutation-sym _ _ V.seen) k)) t (Contains-permutation _ _ t V.part.pool inside)

          came : (a : ℕ) (w : Word) → Plain P Q h a → Contains (met events u) (token (To.Instr f (h a) Left) w)
              → (v : Word) × Contains (met V.part.done V.part.last) (token (To.Instr f a Left) v)
          came a w plain inside =
              let E : Explained p q S wired orderly lands inputs z st V.part.done V.part.last (token (To.Instr f (h a) Left) w) =
              met_known p q S wired orderly lands inputs z st events u (handed Q z (at_start Q inputs) events u run)
              (steps_of Q z (at_start Q inputs) events u run) V (token (To.Instr f (h a) Left) w) inside in
              let one = meant_has P Q g h S.apart S.pairs_apart (token (To.Instr f (h a) Left) w) E.tokens E.stands f (h a) Left (a, Left) refl
              (at_moved (h a) Left (a, Left) a refl plain refl) in
              let c = ones_some f a Left E.tokens one in
              (c.0, E.were (token (To.Instr f a Left) c.0) c.1)

          all : (loop : Holder) (k ip s : ℕ) (w : Word) (c : Cont) → IsPart q Q loop (Open k) ip s → Contains (met events u) (token (To.Instr f ip Left) w)
              → OnlyAsks u → u.store.slots f s ≡ Waiter c
              → (base : ℕ) × IsLoop q Q loop k s base
              × (granted q Q f loop z (at_start Q inputs) events u run ≡ released Q f base z (at_start Q inputs) events u run + k)
          all loop k ip s w c part inside only waits =
              let b = part_back loop (Open k) ip s refl part in
              let o = came b.0 w b.2 (subst (λ (n : ℕ). Contains (met events u) (token (To.Instr f n Left) w)) b.1 inside) in
              let d = waiter_back (V.part.last.store.slots f s) c (sym (ap (λ (m : MStore). m.slots f s) stores) ∙ waits) in
              let N = K.all_granted loop k b.0 s o.0 d.0 b.3 o.1 (only_asks only) d.1 in
              let L = N.1 in
              let gr = grant loop in let r = release N.0 (base_plain L.link_ip L.callee N.0 L.links) in let le = N.2 in
              (h N.0, loop_moved loop k s N.0 N.1, omega (arith, gr, r, le))
