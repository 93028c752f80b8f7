-- The loops of the code keep their bounds in each tenure, as those of the plan do where each frame is used once.
use Rattle.std.proofs.Common.{◌≡◌, refl, sym, ap, ◌∙◌, subst, ℕ, zero, suc, ◌+◌, ◌*◌, ◌≤◌, inl, inr, true, true≢false, ℤ, List, [], ◌∷◌, ◌++◌, map, Option}
use Rattle.std.proofs.Common.{Some, None, Contains, arith}
use Rattle.std.specs.Prelude.{slice_get, slice_index_or}
use Rattle.std.proofs.lemmas.List.Elements.{Contains-append_left}
use Rattle.std.proofs.lemmas.List.Sorted.{Contains-permutation, IsPermutation-trans}
use Rattle.std.proofs.lemmas.Option.{same_Some}
use Rattle.lemmas.proofs.Alls.{all_at}
use Rattle.lemmas.proofs.Contains.{get_contains, contains_mapped}
use Rattle.tags.specs.declared.token.Port.TheVariants.{Left}
use Rattle.tags.specs.declared.token.Cont.{Cont}
use Rattle.tags.specs.declared.token.Word.{Word}
use Rattle.tags.specs.declared.token.To.{To}
use Rattle.tags.specs.declared.token.Token.{Token}
use Rattle.tags.specs.declared.slot.SlotState.TheVariants.{Waiter}
use Rattle.semantics.specs.declared.program.Op.{Op}
use Rattle.semantics.specs.declared.program.Op.TheVariants.{Open, Take}
use Rattle.semantics.specs.Program.{Instr, Program, first_of, instr_at}
use Rattle.semantics.specs.Rule.{token, slot_of}
use Rattle.semantics.specs.Machine.{Machine, Size, at_start, Resting}
use Rattle.semantics.specs.Plan.{Plan, is_open, IsPlanBlock}
use Rattle.semantics.specs.Sharing.{Good, placed_slot}
use Rattle.semantics.specs.Placed.{placed}
use Rattle.semantics.specs.Handed.{handed, EachOnce, Tenure}
use Rattle.semantics.specs.Orderly.{Orderly, IsStart}
use Rattle.semantics.specs.Renamed.{re_cont, re_token, re_slot}
use Rattle.semantics.specs.Unfolded.{HasSlot}
use Rattle.semantics.specs.Wired.{IsWired}
use Rattle.semantics.specs.Holders.{Holder, holder_of, holder_at}
use Rattle.semantics.specs.Credits.{IsPart, IsLink, IsLoop, granted, released}
use Rattle.law_reuse.specs.Bounds.{OnlyAsks, PlanKeepsBound, PlanKeepsBounds, BoundsAreKept, CodeUsesAgain}
use Rattle.law_reuse.proofs.SlotsPlaced.{IsPlaced, stands_at}
use Rattle.law_reuse.proofs.SlotsTurns.{is_counting}
use Rattle.law_reuse.proofs.SlotsPlacedCode.{moved_to, Located, Nowhere, There, located}
use Rattle.law_reuse.proofs.SlotsNeighbours.{get_index}
use Rattle.law_reuse.proofs.SlotsClaims.{index_got, holder_here}
use Rattle.law_reuse.proofs.BoundsTallies.{Counter, Grants, Releases, count_at, granted_is, released_is}
use Rattle.law_reuse.proofs.FramesSnoc.{tally}
use Rattle.law_reuse.proofs.Frames.{asking, waits, so_start, so_after, FreesOnce, HasOnce, frames_once}
use Rattle.law_reuse.proofs.SlotsFillings.{at_port, EmptyOr, Opened, opened_from}
use Rattle.law_reuse.proofs.SlotsUsedArcs.{Ports, one_frame}
use Rattle.law_reuse.proofs.SlotsHistory.{taken, ports_of}
use Rattle.law_reuse.proofs.SlotsRuns.{IdleOr, Own, own_so_after, own_counted, own_run, orderly_here}
use Rattle.law_reuse.proofs.FramesUnfolded.{frees_shared, release_shared}
use Rattle.law_reuse.proofs.BoundsTenures.{TenureRun, tenure_run}
use Rattle.law_reuse.proofs.FramesTheorem.{start_of, releases_are_last, holders_are_alone, empty_waits}

-- ---- THE PARTS OF A LOOP, IN THE CODE AND IN THE PLAN

index_of : (ss : List ℕ) (h s : ℕ) → slice_get ss h ≡ Some s → slice_index_or ss h 0 ≡ s
index_of [] h s e = absurd (cc)
index_of (x ∷ ss) zero s e = same_Some x s e
index_of (x ∷ ss) (suc h) s e = index_of ss h s e

-- an instruction that has a slot
abbrev HasOne : Op → Type 0
HasOne op = (i : Instr) → slot_of i op ≡ Some i.slot

record Back (p : Plan) (slots : List (List ℕ)) (holder : Holder) (op : Op) (ip s : ℕ) : Type 0 where
  pub part : IsPart p p.program holder op ip holder.number
  pub slot : HasSlot slots holder.block holder.number s

none_at : (o : Option Instr) (i : Instr) → o ≡ None → o ≡ Some i → ⊥
none_at o i a b = cc

module _ (p : Plan) (slots : List (List ℕ)) (wired : IsWired p) (good : Good p slots) where
  abbrev code : Program
  code = placed p slots

  part_back : (holder : Holder) (op : Op) (ip s : ℕ) → HasOne op → IsPart p code holder op ip s → Back p slots holder op ip s
  part_back holder op ip s has P = go (located slots p.program.blocks good.all ip)
    where
      go : Located slots p.program.blocks ip → Back p slots holder op ip s
      go (Nowhere at none) = absurd (none_at (instr_at (placed p slots) ip) P.instr none P.is_at)
      go (There b n ss c i at_slots at_block at_instr plan_at code_at place) =
          let same : moved_to ss i ≡ P.instr = same_Some (moved_to ss i) P.instr (sym code_at ∙ P.is_at) in
          let is_op : i.op ≡ op = ap (λ (i : Instr). i.op) same ∙ P.does in
          let slot : slot_of i i.op ≡ Some i.slot = ap (slot_of i) is_op ∙ has i in
          let stands : IsPlaced p.program b n i = record { code = c; block = at_block; instr = at_instr } in
          let mine : holder_at p ip ≡ Some record { block = b; number = i.slot } =
          ap (holder_at p) place ∙ holder_here p b n i stands ∙ ap (holder_of b) slot in
          let below = (all_at IsPlanBlock p.program.blocks b c wired.plan.blocks at_block).below i i.slot (get_contains c.instrs n i at_instr) slot in
          let long = (good.blocks b c ss at_block at_slots).all in
          let at_s : slice_index_or ss i.slot 0 ≡ s = sym (ap (placed_slot ss) slot) ∙ ap (λ (i : Instr). i.slot) same ∙ P.uses in
          let got : slice_get ss i.slot ≡ Some s = get_index ss i.slot (omega (arith, below, long)) ∙ ap Some at_s in
          let back : Back p slots record { block = b; number = i.slot } op ip s = record {
            part = record { instr = i; is_at = plan_at; does = is_op; uses = refl; holds = mine };
            slot = ap (λ (l : List ℕ). slice_get l i.slot) (index_got slots b ss at_slots) ∙ got;
          } in
          subst (λ (x : Holder). Back p slots x op ip s) (holder_same record { block = b; number = i.slot } holder (sym mine ∙ P.holds)) back
        where
          holder_same : (x y : Holder) → Some x ≡ Some y → x ≡ y
          holder_same x y e = cc

  part_on : (holder : Holder) (op : Op) (ip h s : ℕ) → HasOne op → HasSlot slots holder.block h s → IsPart p p.program holder op ip h
      → IsPart p code holder op ip s
  part_on holder op ip h s has slot P = go (located slots p.program.blocks good.all ip)
    where
      go : Located slots p.program.blocks ip → IsPart p (placed p slots) holder op ip s
      go (Nowhere at none) = absurd (none_at (instr_at p.program ip) P.instr at P.is_at)
      go (There b n ss c i at_slots at_block at_instr plan_at code_at place) =
          let same : i ≡ P.instr = same_Some i P.instr (sym plan_at ∙ P.is_at) in
          let is_op : i.op ≡ op = ap (λ (i : Instr). i.op) same ∙ P.does in
          let own : slot_of i i.op ≡ Some i.slot = ap (slot_of i) is_op ∙ has i in
          let at_h : i.slot ≡ h = ap (λ (i : Instr). i.slot) same ∙ P.uses in
          let stands : IsPlaced p.program b n i = record { code = c; block = at_block; instr = at_instr } in
          let mine : holder_at p ip ≡ Some record { block = b; number = i.slot } = ap (holder_at p) place ∙ holder_here p b n i stands ∙ ap (holder_of b) own in
          let block : b ≡ holder.block = block_same record { block = b; number = i.slot } holder (sym mine ∙ P.holds) in
          let got : slice_get ss i.slot ≡ Some s =
          ap (λ (l : List ℕ). slice_get l i.slot) (sym (index_got slots b ss at_slots)) ∙ (λ k. slice_get (slice_index_or slots (block k) []) (at_h k))
          ∙ slot in
          record { instr = moved_to ss i; is_at = code_at; does = is_op; uses = ap (placed_slot ss) own ∙ index_of ss i.slot s got; holds = P.holds }
        where
          block_same : (x y : Holder) → Some x ≡ Some y → x.block ≡ y.block
          block_same x y e = ap (λ (o : Option Holder). elim o as (λ z. ℕ) [ None ↦ 0 | Some x ↦ x.block ]) e

  link_on : (ip callee base : ℕ) → IsLink p.program ip callee base → IsLink code ip callee base
  link_on ip callee base L = go (located slots p.program.blocks good.all ip)
    where
      go : Located slots p.program.blocks ip → IsLink (placed p slots) ip callee base
      go (Nowhere at none) = absurd (none_at (instr_at p.program ip) L.instr at L.is_at)
      go (There b n ss c i at_slots at_block at_instr plan_at code_at place) =
          let same : i ≡ L.instr = same_Some i L.instr (sym plan_at ∙ L.is_at) in
          record {
            instr = moved_to ss i;
            dest = L.dest;
            is_at = code_at;
            does = ap (λ (i : Instr). i.op) same ∙ L.does;
            lands = ap (λ (i : Instr). i.firsts) same ∙ L.lands;
            begins = L.begins;
          }

  loop_on : (loop : Holder) (k h s base : ℕ) → HasSlot slots loop.block h s → IsLoop p p.program loop k h base → IsLoop p code loop k s base
  loop_on loop k h s base slot L = record {
    open_ip = L.open_ip;
    take_ip = L.take_ip;
    link_ip = L.link_ip;
    callee = L.callee;
    opens = part_on loop (Open k) L.open_ip h s (λ i. refl) slot L.opens;
    takes = part_on loop (Take k) L.take_ip h s (λ i. refl) slot L.takes;
    links = link_on L.link_ip L.callee base L.links;
    lands = L.lands;
  }

is_open_of : (op : Op) → is_open op ≡ true → (k : ℕ) × (op ≡ Open k)
is_open_of (Open k) e = (k, refl)
is_open_of op e = absurd (true≢false (sym e))

module _ (p : Plan) (slots : List (List ℕ)) (wired : IsWired p) (good : Good p slots) (orderly : Orderly p) (law : PlanKeepsBounds p) (inputs : List ℤ)
    (z : Size) (start : IsStart p z inputs) (f : ℕ) (m : Machine)
    (t : Tenure (placed p slots) z inputs f m) where
  abbrev frees : FreesOnce (placed p slots) inputs z.elements
  frees = frees_shared p slots wired good orderly inputs z start

  abbrev T : TenureRun p (placed p slots) z inputs f t.first t.part m t.run
  T = tenure_run p (placed p slots) z inputs f m (λ events m r. release_shared p slots wired good orderly inputs z events m start r) t

  abbrev H : HasOnce p (placed p slots) inputs z T.events (so_after p (placed p slots) so_start z (at_start (placed p slots) inputs) T.events m T.whole) m
  H = frames_once p (placed p slots) inputs z T.events m start.some_element start.some_frame frees T.whole

  abbrev h : ℕ → ℕ
  h = λ g. g + H.gen g * (z.elements * z.frames)

  abbrev F : ℕ
  F = h f

  abbrev wide : Size
  wide = record { elements = z.elements; frames = H.frames }

  abbrev wide_start : IsStart p wide inputs
  wide_start = record { some_element = start.some_element; some_frame = H.some_frame; inputs_fit = start.inputs_fit }

  abbrev gone : List ℕ
  gone = handed (placed p slots) wide (at_start (placed p slots) inputs) H.unfolded H.last H.run

  abbrev own : Own p slots wide inputs H.unfolded H.last gone
      (own_so_after p (placed p slots) so_start wide (at_start (placed p slots) inputs) H.unfolded H.last H.run)
  own = own_run p slots wired good orderly inputs wide wide_start H.unfolded H.last H.run H.once

  abbrev P : Ports p (taken H.unfolded) own.last.pool
  P = ports_of p wide (at_start p.program inputs) H.unfolded own.last own.run
      (orderly_here p slots wired good orderly inputs wide wide_start H.unfolded H.last gone
      (own_so_after p (placed p slots) so_start wide (at_start (placed p slots) inputs) H.unfolded H.last H.run) own H.once)

  abbrev L : PlanKeepsBound p wide inputs H.unfolded own.last own.run F
  L = law inputs wide H.unfolded own.last F wide_start own.run (subst (λ (l : List ℕ). EachOnce (0 ∷ l)) (sym own.hands) H.once)

  same : (x : Counter) → tally (count_at p p.program x F) p.program wide (at_start p.program inputs) H.unfolded own.last own.run
      ≡ tally (count_at p (placed p slots) x f) (placed p slots) z t.first t.part m t.run
  same x =
      let a = own.tallies x F in
      let b = own_counted p (placed p slots) so_start wide (at_start (placed p slots) inputs) H.unfolded H.last H.run x F in
      let c = H.tallied x f in
      let d = T.counted x in
      omega (arith, a, b, c, d)

  granted_same : (loop : Holder) → granted p p.program F loop wide (at_start p.program inputs) H.unfolded own.last own.run
      ≡ granted p (placed p slots) f loop z t.first t.part m t.run
  granted_same loop =
      granted_is p p.program F loop wide (at_start p.program inputs) H.unfolded own.last own.run ∙ same (Grants loop)
      ∙ sym (granted_is p (placed p slots) f loop z t.first t.part m t.run)

  released_same : (base : ℕ) → released p.program F base wide (at_start p.program inputs) H.unfolded own.last own.run
      ≡ released (placed p slots) f base z t.first t.part m t.run
  released_same base =
      released_is p p.program F base wide (at_start p.program inputs) H.unfolded own.last own.run ∙ same (Releases base)
      ∙ sym (released_is p (placed p slots) f base z t.first t.part m t.run)

  never_above : (loop : Holder) (k ip s : ℕ) → IsPart p (placed p slots) loop (Open k) ip s
      → (base : ℕ) × IsLoop p (placed p slots) loop k s base
      × (granted p (placed p slots) f loop z t.first t.part m t.run ≤ released (placed p slots) f base z t.first t.part m t.run + k)
  never_above loop k ip s part =
      let B = part_back p slots wired good loop (Open k) ip s (λ i. refl) part in
      let l = L.never_above loop k ip loop.number B.part in
      let a = granted_same loop in
      let b = released_same l.0 in
      let c = l.2 in
      (l.0, loop_on p slots wired good loop k loop.number s l.0 B.slot l.1, omega (arith, a, b, c))

  only_asks : Resting m → OnlyAsks own.last
  only_asks rest k inside =
      let there : Contains (map (re_token h) m.pool ++ waits h m.store.requests) k =
      Contains-permutation _ _ k (IsPermutation-trans _ _ _ own.tied.pool H.folds.pool) inside in
      let asks : Contains (waits h m.store.requests) k = subst (λ (l : List Token). Contains (map (re_token h) l ++ waits h m.store.requests) k) rest there in
      request (contains_mapped (re_token h) (asking m.store.requests) k asks)
    where
      request : ((a : Token) × Contains (asking m.store.requests) a × (re_token h a ≡ k)) → k.to ≡ To.Manager
      request (a, among, is) = by_cont (contains_mapped (λ (c : Cont). token To.Manager (Word.Back c)) m.store.requests a among)
        where
          by_cont : ((c : Cont) × Contains m.store.requests c × (token To.Manager (Word.Back c) ≡ a)) → k.to ≡ To.Manager
          by_cont (c, waits, e) = sym (ap (λ (k : Token). k.to) (ap (re_token h) e ∙ is))

  all_granted : (s : ℕ) (c : Cont) → Resting m → m.store.slots f s ≡ Waiter c
      → (loop : Holder) × (k : ℕ) × (base : ℕ) × IsLoop p (placed p slots) loop k s base
      × (granted p (placed p slots) f loop z t.first t.part m t.run ≡ released (placed p slots) f base z t.first t.part m t.run + k)
  all_granted s c rest waiting = go (own.tied.frames F)
    where
      there : H.last.store.slots F s ≡ Waiter (re_cont h c)
      there = H.folds.fold.slots f s ∙ ap (re_slot h) waiting

      go : IdleOr p slots (taken H.unfolded) F (H.last.store.slots F) (own.last.store.slots F)
          → (loop : Holder) × (k : ℕ) × (base : ℕ) × IsLoop p (placed p slots) loop k s base
          × (granted p (placed p slots) f loop z t.first t.part m t.run ≡ released (placed p slots) f base z t.first t.part m t.run + k)
      go (inl idle) = absurd (empty_waits (re_cont h c) (sym (idle.0 s) ∙ there))
      go (inr B) = by_holder (B.agrees.held s (λ e. empty_waits (re_cont h c) (sym e ∙ there)))
        where
          by_holder : ((k : ℕ) × (slice_get B.ss k ≡ Some s) × (own.last.store.slots F k ≡ H.last.store.slots F s))
              → (loop : Holder) × (k : ℕ) × (base : ℕ) × IsLoop p (placed p slots) loop k s base
              × (granted p (placed p slots) f loop z t.first t.part m t.run ≡ released (placed p slots) f base z t.first t.part m t.run + k)
          by_holder (k, at_k, is) = by_filled (own.kept.filled F k)
            where
              waits_here : own.last.store.slots F k ≡ Waiter (re_cont h c)
              waits_here = is ∙ there

              by_filled : EmptyOr p.program (taken H.unfolded) F k (own.last.store.slots F k)
                  → (loop : Holder) × (k : ℕ) × (base : ℕ) × IsLoop p (placed p slots) loop k s base
                  × (granted p (placed p slots) f loop z t.first t.part m t.run ≡ released (placed p slots) f base z t.first t.part m t.run + k)
              by_filled (inl e) = absurd (empty_waits (re_cont h c) (sym e ∙ waits_here))
              by_filled (inr G) =
                  let o : Opened p.program (taken H.unfolded) F G.b G.n G.i =
                  opened_from p.program (taken H.unfolded) F G.b G.n G.i (own.last.store.slots F k) (ap is_counting waits_here) G.asserts in
                  let came = Contains-append_left (taken H.unfolded) own.last.pool (at_port p.program F G.b G.n Left o.1.0) o.1.1 in
                  let block : G.b ≡ B.b = one_frame p (taken H.unfolded) own.last.pool P F G.b B.b G.n B.n G.i B.i Left B.q o.1.0 B.w G.stands B.stands came
                  (Contains-append_left (taken H.unfolded) own.last.pool (at_port p.program F B.b B.n B.q B.w) B.came) in
                  let op = is_open_of G.i.op o.0 in
                  let loop : Holder = record { block = G.b; number = k } in
                  let part : IsPart p p.program loop (Open op.0) (first_of p.program G.b + G.n) k = record {
                    instr = G.i;
                    is_at = stands_at p.program G.b G.n G.i G.stands;
                    does = op.1;
                    uses = same_Some G.i.slot k (sym (ap (slot_of G.i) op.1) ∙ G.holds);
                    holds = holder_here p G.b G.n G.i G.stands ∙ ap (holder_of G.b) G.holds;
                  } in
                  let slot : HasSlot slots G.b k s = ap (λ (b : ℕ). slice_get (slice_index_or slots b []) k) block
                  ∙ ap (λ (l : List ℕ). slice_get l k) (index_got slots B.b B.ss B.at_slots) ∙ at_k in
                  let l = L.all_granted loop op.0 (first_of p.program G.b + G.n) k o.1.0 (re_cont h c) part came (only_asks rest) waits_here in
                  let a = granted_same loop in
                  let b = released_same l.0 in
                  let d = l.2 in
                  (loop, op.0, l.0, loop_on p slots wired good loop op.0 k s l.0 slot l.1, omega (arith, a, b, d))

pub bounds_are_kept : BoundsAreKept
bounds_are_kept fl p slots orderly wired good takes law inputs z events m f r t =
    let start : IsStart p z inputs = start_of fl p slots takes inputs z events m r in
    record {
      never_above = never_above p slots wired good orderly law inputs z start f m t;
      all_granted = all_granted p slots wired good orderly law inputs z start f m t;
    }

pub code_uses_again : CodeUsesAgain
code_uses_again fl p slots orderly wired good takes law = record {
  wired = wired;
  good = good;
  releases = releases_are_last fl p slots orderly wired good takes;
  credits = bounds_are_kept fl p slots orderly wired good takes law;
  alone = holders_are_alone fl p slots orderly wired good takes;
}
