-- What is in the slots of a run that uses each frame once, by its holders; and no rule excludes a token of the code that
-- it does not exclude of the plan.
use Rattle.std.proofs.Common.{◌≡◌, refl, sym, ap, ◌∙◌, subst, ℕ, ◌⊎◌, inl, inr, Bool, ℤ, List, ◌∷◌, Option, Some, None, Contains}
use Rattle.std.specs.Prelude.{slice_get, if◌then◌else◌, nat_lt, ◌==◌}
use Rattle.std.proofs.lemmas.List.Elements.{Contains-append_left, Contains-append_right}
use Rattle.std.proofs.lemmas.List.Sorted.{Contains-permutation, IsPermutation-sym}
use Rattle.tags.specs.declared.token.Port.{Port}
use Rattle.tags.specs.declared.token.Word.{Word}
use Rattle.tags.specs.declared.token.To.{To}
use Rattle.tags.specs.declared.token.Token.{Token}
use Rattle.tags.specs.declared.slot.SlotState.{SlotState}
use Rattle.tags.specs.declared.slot.SlotState.TheVariants.{Empty}
use Rattle.semantics.specs.Program.{Instr, instr_at}
use Rattle.semantics.specs.Rule.{token, Point, rule_at, outcome_of, slot_of}
use Rattle.semantics.specs.Machine.{Machine, Size, Events, at_start, slot_in, slot_used, outputs_of, excluded_by, unless_value, filled, host_rule, stuck_rule}
use Rattle.semantics.specs.Plan.{Plan}
use Rattle.semantics.specs.Sharing.{Good, placed_slot}
use Rattle.semantics.specs.Placed.{placed, placed_blocks}
use Rattle.semantics.specs.Handed.{handed, EachOnce}
use Rattle.semantics.specs.Orderly.{Orderly, IsStart, IsOrderlyRun}
use Rattle.semantics.specs.Unfolded.{HasSlot}
use Rattle.semantics.specs.Wired.{IsWired}
use Rattle.law_reuse.specs.Slots.{HasOwnSlots, OnceRunsAreOwn}
use Rattle.law_reuse.proofs.SlotsPlacedCode.{outcome_same, moved_to, Located, Nowhere, There, located, first_same, Agrees}
use Rattle.law_reuse.proofs.SlotsPlacedEvents.{Alone, in_slot, slot_moved, slot_same}
use Rattle.law_reuse.proofs.SlotsOtherEvents.{Same, results_same}
use Rattle.law_reuse.proofs.SlotsPlaced.{IsPlaced}
use Rattle.law_reuse.proofs.SlotsFillings.{at_port}
use Rattle.law_reuse.proofs.SlotsUsedArcs.{Ports}
use Rattle.law_reuse.proofs.SlotsHistory.{taken, ports_of}
use Rattle.law_reuse.proofs.SlotsInvocation.{full_alone, alone_here}
use Rattle.law_reuse.proofs.SlotsClaims.{index_got, ClaimOr, claim_same, slot_there, holder_here}
use Rattle.semantics.specs.Holders.{Holder, holder_of, holder_at}
use Rattle.law_reuse.proofs.Frames.{So, so_start}
use Rattle.law_reuse.proofs.SlotsRuns.{own_so_after, IdleOr, frame_agrees, Own, orderly_here, own_run}

busy_block : (p : Plan) (slots : List (List ℕ)) (ts : List Token) (f : ℕ) (code plan : ℕ → SlotState) → IdleOr p slots ts f code plan → ℕ
busy_block p slots ts f code plan (inl idle) = 0
busy_block p slots ts f code plan (inr B) = B.b

frame_held : (p : Plan) (slots : List (List ℕ)) (ts : List Token) (f : ℕ) (code plan : ℕ → SlotState) (x : IdleOr p slots ts f code plan) (s : ℕ)
    → (code s ≡ Empty → ⊥)
    → (h : ℕ) × HasSlot slots (busy_block p slots ts f code plan x) h s × (plan h ≡ code s)
unfolding busy_block
frame_held p slots ts f code plan (inl idle) s full = absurd (full (idle.0 s))
frame_held p slots ts f code plan (inr B) s full =
    let h = B.agrees.held s full in
    (h.0, ap (λ (ss : List ℕ). slice_get ss h.0) (index_got slots B.b B.ss B.at_slots) ∙ h.1, h.2)

frame_shown : (p : Plan) (slots : List (List ℕ)) (ts : List Token) (f : ℕ) (code plan : ℕ → SlotState) (x : IdleOr p slots ts f code plan) (h : ℕ)
    → (plan h ≡ Empty → ⊥)
    → (s : ℕ) × HasSlot slots (busy_block p slots ts f code plan x) h s × (plan h ≡ code s)
unfolding busy_block
frame_shown p slots ts f code plan (inl idle) h full = absurd (full (idle.1 h))
frame_shown p slots ts f code plan (inr B) h full =
    let s = B.agrees.shown h full in
    (s.0, ap (λ (ss : List ℕ). slice_get ss h) (index_got slots B.b B.ss B.at_slots) ∙ s.1, s.2)

module _ (p : Plan) (slots : List (List ℕ)) (wired : IsWired p) (good : Good p slots) (orderly : Orderly p) (inputs : List ℤ) (z : Size)
    (start : IsStart p z inputs) (events : Events) (m : Machine) (gone : List ℕ)
    (so : So) (own : Own p slots z inputs events m gone so) (once : EachOnce (0 ∷ gone)) where
  abbrev ordered : IsOrderlyRun p z (at_start p.program inputs) events own.last own.run
  ordered = orderly_here p slots wired good orderly inputs z start events m gone so own once

  frame_alone : (f : ℕ) (x : IdleOr p slots (taken events) f (m.store.slots f) (own.last.store.slots f)) (s h k : ℕ)
      → HasSlot slots (busy_block p slots (taken events) f (m.store.slots f) (own.last.store.slots f) x) h s
      → HasSlot slots (busy_block p slots (taken events) f (m.store.slots f) (own.last.store.slots f) x) k s → (own.last.store.slots f h ≡ Empty → ⊥)
      → (own.last.store.slots f k ≡ Empty → ⊥) → h ≡ k
  unfolding busy_block
  frame_alone f (inl idle) s h k at_h at_k full_h full_k = absurd (full_h (idle.1 h))
  frame_alone f (inr B) s h k at_h at_k full_h full_k =
      let row = index_got slots B.b B.ss B.at_slots in
      full_alone p wired z (at_start p.program inputs) events own.last own.run ordered own.kept f B.b (B.stands).code (B.stands).block B.n B.i B.q B.w B.stands
      (Contains-append_left (taken events) own.last.pool (at_port p.program f B.b B.n B.q B.w) B.came) slots good B.ss B.at_slots h k s
      (ap (λ (ss : List ℕ). slice_get ss h) (sym row) ∙ at_h) (ap (λ (ss : List ℕ). slice_get ss k) (sym row) ∙ at_k) full_h full_k

  pub own_slots : HasOwnSlots slots m own.last
  own_slots = record {
    block = λ f. busy_block p slots (taken events) f (m.store.slots f) (own.last.store.slots f) (own.tied.frames f);
    pool = own.tied.pool;
    cells = own.tied.same.cells;
    out = own.tied.same.out;
    requests = own.tied.same.requests;
    outputs = own.tied.same.outputs;
    done = own.tied.same.done;
    held = λ g s full. frame_held p slots (taken events) g (m.store.slots g) (own.last.store.slots g) (own.tied.frames g) s full;
    shown = λ g h full. frame_shown p slots (taken events) g (m.store.slots g) (own.last.store.slots g) (own.tied.frames g) h full;
    alone = λ g s h k at_h at_k full_h full_k. frame_alone g (own.tied.frames g) s h k at_h at_k full_h full_k;
  }

  -- a token that a rule excludes of the code is one that it excludes of the plan
  pub own_matching : (t : Token) → Contains m.pool t → stuck_rule (placed p slots) m.store t.to t.word ≡ stuck_rule p.program own.last.store t.to t.word
  own_matching t inside = go t.to t.word refl refl
    where
      inside_u : Contains own.last.pool t
      inside_u = Contains-permutation _ _ t (IsPermutation-sym _ _ own.tied.pool) inside

      by_instr : (f ip : ℕ) (q : Port) (w : Word) → t.to ≡ To.Instr f ip q → t.word ≡ w → Located slots p.program.blocks ip
          → stuck_rule (placed p slots) m.store (To.Instr f ip q) w ≡ stuck_rule p.program own.last.store (To.Instr f ip q) w
      by_instr f ip q w to word (Nowhere at none) =
          ap (λ (o : Option Instr). excluded_by (rule_at (placed p slots) record { frame = f; ip = ip } o (slot_in m.store f (slot_used o)) q w)) none
          ∙ sym (ap (λ (o : Option Instr). excluded_by (rule_at p.program record { frame = f; ip = ip } o (slot_in own.last.store f (slot_used o)) q w)) at)
      by_instr f ip q w to word (There b n ss d i at_slots at_block at_instr plan_at code_at place) =
          let u : Machine = own.last in
          let r : ℕ = placed_slot ss (slot_of i i.op) in
          let point : Point = record { frame = f; ip = ip } in
          let stands : IsPlaced p.program b n i = record { code = d; block = at_block; instr = at_instr } in
          let is : t ≡ at_port p.program f b n q w = (λ k. record { to = (to ∙ ap (λ (ip : ℕ). To.Instr f ip q) place) k; word = word k }) in
          let here : Contains u.pool (at_port p.program f b n q w) = subst (Contains u.pool) is inside_u in
          let agrees : Agrees ss (m.store.slots f) (u.store.slots f) =
          frame_agrees p slots (taken events) u.pool (ports_of p z (at_start p.program inputs) events u own.run ordered) f b n i q w ss (m.store.slots f)
          (u.store.slots f) stands at_slots here (own.tied.frames f) in
          let alone : Alone ss (slot_of i i.op) (u.store.slots f) =
          alone_here p wired z (at_start p.program inputs) events u own.run ordered own.kept f b d at_block n i q w stands
          (Contains-append_right (taken events) u.pool (at_port p.program f b n q w) here) slots good ss at_slots n i q w stands here in
          let slot : slot_in m.store f (in_slot r (slot_of i i.op)) ≡ slot_in u.store f (slot_of i i.op) =
          slot_same ss f m.store u.store (slot_of i i.op) alone agrees in
          ap (λ (o : Option Instr). excluded_by (rule_at (placed p slots) point o (slot_in m.store f (slot_used o)) q w)) code_at
          ∙ ap (λ (o : Option ℕ). excluded_by (outcome_of (placed p slots) point (moved_to ss i) i.op (slot_in m.store f o) q w)) (slot_moved i r i.op)
          ∙ ap excluded_by (outcome_same p.program (placed_blocks slots p.program.blocks) point i r (first_same p.program slots good.all) i.op
          (slot_in m.store f (in_slot r (slot_of i i.op))) q w)
          ∙ ap (λ (s : SlotState). excluded_by (outcome_of p.program point i i.op s q w)) slot
          ∙ sym (ap (λ (o : Option Instr). excluded_by (rule_at p.program point o (slot_in u.store f (slot_used o)) q w)) plan_at)

      same : Same m.store own.last.store
      same = own.tied.same

      go : (to : To) (w : Word) → t.to ≡ to → t.word ≡ w → stuck_rule (placed p slots) m.store to w ≡ stuck_rule p.program own.last.store to w
      go (To.Instr f ip q) w to word = by_instr f ip q w to word (located slots p.program.blocks good.all ip)
      go (To.Fetch x) w to word = refl
      go (To.Store x v) w to word = refl
      go To.Manager w to word = refl
      go (To.Release f) w to word = ap (λ (o : ℕ → Bool). if o f then None else Some 5) (sym same.out)
      go (To.Host j) w to word =
          (λ k. host_rule (results_same slots p.program.blocks good.all p.program.main k) m.store j w)
          ∙ (λ k. if nat_lt j (outputs_of p.program) then (if filled (sym same.outputs k j) then Some 6 else unless_value w) else if j == outputs_of p.program
          then (if sym same.done k then Some 6 else None) else Some 6)

  -- a holder for which a token waits finds its slot held by none or by itself
  pub own_alone : (f ip s : ℕ) (q : Port) (w : Word) (x : Holder) → Contains m.pool (token (To.Instr f ip q) w) → holder_at p ip ≡ Some x
      → slot_used (instr_at (placed p slots) ip) ≡ Some s → (so.held f s ≡ None) ⊎ (so.held f s ≡ Some x)
  own_alone f ip s q w x inside is_x uses = go (located slots p.program.blocks good.all ip)
    where
      none_some : (o : Option Instr) → o ≡ None → slot_used o ≡ Some s → ⊥
      none_some o e d = no_slot (sym (ap slot_used e) ∙ d)
        where
          no_slot : None ≡ Some s → ⊥
          no_slot e = cc

      go : Located slots p.program.blocks ip → (so.held f s ≡ None) ⊎ (so.held f s ≡ Some x)
      go (Nowhere at none) = absurd (none_some (instr_at (placed p slots) ip) none uses)
      go (There b n ss d i at_slots at_block at_instr plan_at code_at place) = pick (so.held f s) refl (own.claims f s)
        where
          stands : IsPlaced p.program b n i
          stands = record { code = d; block = at_block; instr = at_instr }

          here : Contains own.last.pool (at_port p.program f b n q w)
          here = Contains-permutation _ _ _ (IsPermutation-sym _ _ own.tied.pool) (subst (λ (ip : ℕ). Contains m.pool (token (To.Instr f ip q) w)) place inside)

          P : Ports p (taken events) own.last.pool
          P = ports_of p z (at_start p.program inputs) events own.last own.run ordered

          alone : Alone ss (slot_of i i.op) (own.last.store.slots f)
          alone =
              alone_here p wired z (at_start p.program inputs) events own.last own.run ordered own.kept f b d at_block n i q w stands
              (Contains-append_right (taken events) own.last.pool (at_port p.program f b n q w) here) slots good ss at_slots n i q w stands here

          k : (k : ℕ) × (slot_of i i.op ≡ Some k) × (slice_get ss k ≡ Some s)
          k =
              slot_there p slots (taken events) own.last.pool P f b n i q w ss own.last.store.slots stands at_slots here alone s
              (ap slot_used (sym code_at) ∙ uses)

          pick : (o : Option Holder) → so.held f s ≡ o → ClaimOr p slots (taken events) own.last.store.slots f s o
              → (so.held f s ≡ None) ⊎ (so.held f s ≡ Some x)
          pick None e C = inl e
          pick (Some y) e C =
              inr (e ∙ claim_same p slots (taken events) own.last.pool P f b n i q w ss own.last.store.slots stands at_slots here alone s k.0 k.1 k.2 y C
              ∙ sym (ap (holder_of b) k.1) ∙ sym (holder_here p b n i stands) ∙ ap (holder_at p) (sym place) ∙ is_x)

pub once_runs_are_own : OnceRunsAreOwn
once_runs_are_own p slots wired good orderly inputs z events m start r once =
    let own = own_run p slots wired good orderly inputs z start events m r once in
    record {
      last = own.last;
      run = own.run;
      once = subst (λ (l : List ℕ). EachOnce (0 ∷ l)) (sym own.hands) once;
      own =
          own_slots p slots wired good orderly inputs z start events m (handed (placed p slots) z (at_start (placed p slots) inputs) events m r)
          (own_so_after p (placed p slots) so_start z (at_start (placed p slots) inputs) events m r) own once;
    }
