-- The plan whose holders have other numbers is orderly, as the plan is.
use Rattle.std.proofs.Common.{◌≡◌, refl, sym, ap, ◌∙◌, subst, ℕ, ◌+◌, ◌<◌, ◌≤◌, ◌⊎◌, inl, inr, Bool, ℤ, List, [], ◌∷◌, Option, Some, None, Contains}
use Rattle.std.proofs.Common.{IsPermutation, if◌then◌else◌, cond}
use Rattle.std.specs.Prelude.{slice_get, nat_lt, ◌==◌}
use Rattle.std.proofs.lemmas.List.Elements.{Contains-append_right}
use Rattle.std.proofs.lemmas.List.Sorted.{Contains-permutation, IsPermutation-sym, IsPermutation-trans, IsPermutation-append_right, sum_by-IsPermutation}
use Rattle.std.proofs.lemmas.Option.{same_Some}
use Rattle.tags.specs.declared.token.Port.{Port}
use Rattle.tags.specs.declared.token.Port.TheVariants.{Right}
use Rattle.tags.specs.declared.token.Cont.{Cont}
use Rattle.tags.specs.declared.token.Word.{Word}
use Rattle.tags.specs.declared.token.To.{To}
use Rattle.tags.specs.declared.token.Token.{Token}
use Rattle.tags.specs.declared.slot.SlotState.{SlotState}
use Rattle.tags.specs.declared.slot.SlotState.TheVariants.{Empty}
use Rattle.semantics.specs.declared.program.Op.{Op}
use Rattle.semantics.specs.declared.program.Op.TheVariants.{Link, Fetch, Store, Frame, Ask, Give}
use Rattle.semantics.specs.declared.program.Mark.{Mark}
use Rattle.semantics.specs.Program.{Instr, CodeBlock, Program, first_of, instr_at}
use Rattle.semantics.specs.Rule.{token, rule_at, outcome_of, slot_of}
use Rattle.semantics.specs.Machine.{CellState, Machine, Store as MStore, Size, Events, Run, at_start, slot_in, slot_used, outputs_of, filled, unless_value}
use Rattle.semantics.specs.Machine.{excluded_by, stuck_rule}
use Rattle.semantics.specs.Plan.{Plan}
use Rattle.semantics.specs.Sharing.{Arc}
use Rattle.semantics.specs.Arcs.{Lands, UsesBy, UsesArc, SomeEvent}
use Rattle.semantics.specs.Handed.{UsesEachOnce}
use Rattle.semantics.specs.Orderly.{NamesSlot, readers_of, IsFreeAtRelease, met, is_at, IsMarked, Orderly, IsStart, IsOrderlyRun}
use Rattle.law_reuse.proofs.SlotsPlacedCode.{empty_or}
use Rattle.law_reuse.proofs.SlotsOtherEvents.{Same}
use Rattle.law_reuse.proofs.SlotsFillings.{at_port}
use Rattle.law_reuse.proofs.SlotsHistory.{taken, ports_of}
use Rattle.law_passes.specs.Renumber.{RenumbersAll, with_blocks}
use Rattle.law_passes.proofs.RenumberPlaces.{Located, Nowhere, There, located, block_back, first_is, outputs_is, landing_is, arcs_is, often_is, entry_same}
use Rattle.law_passes.proofs.RenumberPlaces.{blocks_same}
use Rattle.law_passes.proofs.RenumberEvents.{held, slot_held, rule_same, Agrees}
use Rattle.law_passes.proofs.RenumberRuns.{IdleOr, Paired, Along, frame_agrees, Twin, twin}

-- what is in a slot of the new state was in one of the old one
pub slot_was : (p : Plan) (hold : ℕ → ℕ → ℕ) (ts : List Token) (f : ℕ) (new old : ℕ → SlotState) → IdleOr p hold ts f new old → (s : ℕ) → (new s ≡ Empty → ⊥)
    → (r : ℕ) × (new s ≡ old r)
slot_was p hold ts f new old (inl idle) s full = absurd (full (idle.0 s))
slot_was p hold ts f new old (inr B) s full = let h = B.agrees.held s full in (h.0, ap new (sym h.2) ∙ B.agrees.same h.0 h.1)

-- and what was is
pub slot_is : (p : Plan) (hold : ℕ → ℕ → ℕ) (ts : List Token) (f : ℕ) (new old : ℕ → SlotState) → IdleOr p hold ts f new old → (r : ℕ) → (old r ≡ Empty → ⊥)
    → (s : ℕ) × (new s ≡ old r)
slot_is p hold ts f new old (inl idle) r full = absurd (full (idle.1 r))
slot_is p hold ts f new old (inr B) r full = (hold B.b r, B.agrees.same r (B.agrees.shown r full))

-- all slots are empty where they were
pub slots_empty : (p : Plan) (hold : ℕ → ℕ → ℕ) (ts : List Token) (f : ℕ) (new old : ℕ → SlotState) → IdleOr p hold ts f new old → ((r : ℕ) → old r ≡ Empty)
    → (s : ℕ) → new s ≡ Empty
slots_empty p hold ts f new old I none s = go (empty_or (new s))
  where
    go : (new s ≡ Empty) ⊎ (new s ≡ Empty → ⊥) → new s ≡ Empty
    go (inl e) = e
    go (inr full) = let w = slot_was p hold ts f new old I s full in w.1 ∙ none w.0

module _ (p : Plan) (ds : List CodeBlock) (hold : ℕ → ℕ → ℕ) (R : RenumbersAll hold p.program.blocks ds) where
  abbrev P : Program
  P = p.program

  abbrev q : Plan
  q = with_blocks p ds

  abbrev Q : Program
  Q = q.program

  -- ---- ARCS THAT ARE USED

  uses_same : (f ip : ℕ) (r : Port) (i j : Instr) (op : Op) (t : Token) (new old : Machine)
      → ((k : ℕ) → op ≡ Give k → new.store.slots f j.slot ≡ old.store.slots f i.slot) → UsesBy p f ip r i op t old → UsesBy q f ip r j op t new
  uses_same f ip r i j (Link b) t new old slots (inl u) = inl u
  uses_same f ip r i j (Link b) t new old slots (inr u) = inr (subst (λ (n : ℕ). Lands n f ip r t) (sym (landing_is p ds hold R b)) u)
  uses_same f ip r i j (Fetch a) t new old slots u = u
  uses_same f ip r i j (Store a) t new old slots u = u
  uses_same f ip r i j Frame t new old slots u = u
  uses_same f ip r i j (Ask o) t new old slots u = u
  uses_same f ip r i j (Give k) t new old slots u = (u.0, slots k refl ∙ u.1)
  uses_same f ip r i j op t new old slots u = u

  arc_same : (f ip : ℕ) (r : Port) (to : To) (w : Word) (m u : MStore) (made made_old : List Token) (new old : Machine)
      → Paired P Q to m u made made_old new.store old.store
      → UsesArc p f ip r (token to w) made_old old → UsesArc q f ip r (token to w) made new
  arc_same f ip r to w m u made made_old new old K U = go (located hold P.blocks ds R (first_of P U.b + U.x.from))
    where
      first : first_of Q U.b ≡ first_of P U.b
      first = first_is p ds hold R U.b

      go : Located hold P.blocks ds (first_of P U.b + U.x.from) → UsesArc q f ip r (token to w) made new
      go (Nowhere x y) = absurd (let e : Some U.i ≡ None = sym U.fired ∙ x in cc)
      go (There b n c d i j at_b at_d at_n at_j B I at_p at_q place) =
          let same : i ≡ U.i = same_Some i U.i (sym at_p ∙ U.fired) in
          let op : (k : ℕ) → U.i.op ≡ Give k → new.store.slots f j.slot ≡ old.store.slots f U.i.slot = λ (k : ℕ) (e : U.i.op ≡ Give k).
          (let mine : i.op ≡ Give k = ap (λ (i : Instr). i.op) same ∙ e in
          let yours : j.op ≡ Give k = I.op ∙ mine in
          let a = K.after f (first_of P U.b + U.x.from) U.side U.taken_at in
          let new_slot : slot_used (instr_at Q (first_of P U.b + U.x.from)) ≡ Some j.slot = ap slot_used at_q ∙ ap (slot_of j) yours in
          let old_slot : slot_used (instr_at P (first_of P U.b + U.x.from)) ≡ Some i.slot = ap slot_used at_p ∙ ap (slot_of i) mine in
          sym (ap (slot_in new.store f) new_slot) ∙ a ∙ ap (slot_in old.store f) old_slot ∙ ap (λ (i : Instr). old.store.slots f i.slot) same) in
          record {
            b = U.b;
            x = U.x;
            side = U.side;
            i = j;
            t = U.t;
            is_arc = subst (λ (l : List Arc). Contains l U.x) (sym (arcs_is p ds hold R U.b)) U.is_arc;
            place = U.place ∙ ap (λ (n : ℕ). n + U.x.to.place) (sym first);
            port = U.port;
            taken_at = U.taken_at ∙ ap (λ (n : ℕ). To.Instr f (n + U.x.from) U.side) (sym first);
            fired = ap (λ (n : ℕ). instr_at Q (n + U.x.from)) first ∙ at_q;
            is_made = subst (λ (l : List Token). Contains l U.t) K.made_same U.is_made;
            uses =
                subst (λ (op : Op). UsesBy q f ip r j op U.t new) (ap (λ (i : Instr). i.op) (sym same) ∙ sym I.op)
                (uses_same f ip r U.i j U.i.op U.t new old op U.uses);
          }

  some_same_event : (f ip : ℕ) (r : Port) (z : Size) (events : Events) (m u c d : Machine) (rq : Run Q z m events c) (rp : Run P z u events d)
      → Along P Q z events m u c d rq rp
      → SomeEvent (UsesArc p f ip r) P z u events d rp → SomeEvent (UsesArc q f ip r) Q z m events c rq
  some_same_event f ip r z [] m u c d rq rp A some = absurd some
  some_same_event f ip r z (x ∷ events) m u c d rq rp A (inl U) = inl (arc_same f ip r x.1.to x.1.word m.store u.store rq.1.made rp.1.made rq.0 rp.0 A.0 U)
  some_same_event f ip r z (x ∷ events) m u c d rq rp A (inr some) = inr (some_same_event f ip r z events rq.0 rp.0 c d rq.2 rp.2 A.1 some)

  -- ---- MARKS

  marked_was : (ip : ℕ) (k : Mark) → IsMarked q ip k → IsMarked p ip k
  marked_was ip k (b, n, d, at, low, place, mark, ne) =
      let B = block_back hold P.blocks ds R b d at in
      (b, n, B.0, B.1, subst (λ (l : ℕ). n < l) (B.2).size low, place ∙ ap (λ (l : ℕ). l + n) (first_is p ds hold R b), mark, ne)

  -- ---- RULES

  host_same : (m u : MStore) (j : ℕ) (w : Word) → Same m u → stuck_rule P u (To.Host j) w ≡ stuck_rule Q m (To.Host j) w
  host_same m u j w S =
      (λ k. if nat_lt j (outputs_of P) then (if filled (S.outputs k j) then Some 6 else unless_value w) else if j == outputs_of P
      then (if S.done k then Some 6 else None) else Some 6)
      ∙ ap (λ (n : ℕ). if nat_lt j n then (if filled (m.outputs j) then Some 6 else unless_value w) else if j == n then (if m.done then Some 6 else None)
      else Some 6) (sym (outputs_is p ds hold R))

  module _ (orderly : Orderly p) (inputs : List ℤ) (z : Size) (start : IsStart p z inputs) (events : Events) (m : Machine)
      (run : Run Q z (at_start Q inputs) events m) (once : UsesEachOnce Q z inputs events m run) where
    pub T : Twin p ds hold R orderly inputs z start events m run
    T = twin p ds hold R orderly inputs z start events m run once

    pub O : IsOrderlyRun p z (at_start P inputs) events T.last T.run
    O = orderly inputs z events T.last start T.run T.once

    pub met_same : IsPermutation (met events m) (met events T.last)
    met_same = IsPermutation-append_right (taken events) m.pool T.last.pool (IsPermutation-sym _ _ T.tied.pool)

    pub was_met : (t : Token) → Contains (met events m) t → Contains (met events T.last) t
    was_met t = Contains-permutation (met events m) (met events T.last) t met_same

    was_left : (t : Token) → Contains m.pool t → Contains T.last.pool t
    was_left t = Contains-permutation m.pool T.last.pool t (IsPermutation-sym _ _ T.tied.pool)

    instr_matches : (f ip : ℕ) (r : Port) (w : Word) → Contains m.pool (token (To.Instr f ip r) w) → Located hold P.blocks ds ip
        → stuck_rule Q m.store (To.Instr f ip r) w ≡ stuck_rule P T.last.store (To.Instr f ip r) w
    instr_matches f ip r w inside (Nowhere x y) =
        ap (λ (o : Option Instr). excluded_by (rule_at Q record { frame = f; ip = ip } o (slot_in m.store f (slot_used o)) r w)) y
        ∙ sym (ap (λ (o : Option Instr). excluded_by (rule_at P record { frame = f; ip = ip } o (slot_in T.last.store f (slot_used o)) r w)) x)
    instr_matches f ip r w inside (There b n c d i j at_b at_d at_n at_j B I at_p at_q place) =
        let here : Contains T.last.pool (at_port P f b n r w) =
        subst (λ (ip : ℕ). Contains T.last.pool (token (To.Instr f ip r) w)) place (was_left (token (To.Instr f ip r) w) inside) in
        let A : Agrees (hold b) c (m.store.slots f) (T.last.store.slots f) =
        frame_agrees p hold (taken events) T.last.pool (ports_of p z (at_start P inputs) events T.last T.run O) f b n c i r w (m.store.slots f)
        (T.last.store.slots f) at_b at_n
        (Contains-append_right (taken events) T.last.pool (at_port P f b n r w) here) (T.tied.frames f) in
        ap (λ (o : Option Instr). excluded_by (rule_at Q record { frame = f; ip = ip } o (slot_in m.store f (slot_used o)) r w)) at_q
        ∙ ap excluded_by (rule_same p ds hold R b record { frame = f; ip = ip } i j I (slot_in m.store f (slot_of j j.op)) r w
        ∙ ap (λ (x : SlotState). outcome_of P record { frame = f; ip = ip } i i.op x r w)
        (ap (slot_in m.store f) (slot_held (hold b) i j I) ∙ slots c A n i at_n (slot_of i i.op) refl))
        ∙ sym (ap (λ (o : Option Instr). excluded_by (rule_at P record { frame = f; ip = ip } o (slot_in T.last.store f (slot_used o)) r w)) at_p)
      where
        slots : (c : CodeBlock) → Agrees (hold b) c (m.store.slots f) (T.last.store.slots f) → (n : ℕ) (i : Instr) → slice_get c.instrs n ≡ Some i
            → (o : Option ℕ) → slot_of i i.op ≡ o → slot_in m.store f (held (hold b) o) ≡ slot_in T.last.store f o
        slots c A n i at None e = refl
        slots c A n i at (Some k) e = A.same k record { place = n; instr = i; there = at; holds = e }

    matches : (to : To) (w : Word) → Contains m.pool (token to w) → stuck_rule P T.last.store to w ≡ stuck_rule Q m.store to w
    matches (To.Instr f ip r) w inside = sym (instr_matches f ip r w inside (located hold P.blocks ds R ip))
    matches (To.Fetch x) w inside = refl
    matches (To.Store x v) w inside = refl
    matches To.Manager w inside = refl
    matches (To.Release f) w inside = ap (λ (o : ℕ → Bool). if o f then None else Some 5) T.tied.same.out
    matches (To.Host j) w inside = host_same m.store T.last.store j w T.tied.same

    free : IsFreeAtRelease m
    free f w rest takes out =
        let F = O.release f w rest (IsPermutation-trans _ _ _ T.tied.pool takes) (ap (λ (o : ℕ → Bool). o f) T.tied.same.out ∙ out) in
        let W = F.1 in (
          F.0,
          record {
            tokens = W.tokens;
            readers =
                λ x c inside. W.readers x c (subst (λ (y : CellState). Contains (readers_of y) c)
                (ap (λ (y : ℕ → CellState). y x) (sym T.tied.same.cells)) inside);
            requests = λ c inside. W.requests c (subst (λ (l : List Cont). Contains l c) (sym T.tied.same.requests) inside);
            words = λ g r names. no_word g r (empty_or (m.store.slots g r)) W.words names;
            slots = λ r. slots_empty p hold (taken events) f (m.store.slots f) (T.last.store.slots f) (T.tied.frames f) W.slots r;
          },
        )
      where
        no_word : (g r : ℕ) → (m.store.slots g r ≡ Empty) ⊎ (m.store.slots g r ≡ Empty → ⊥) → ((g r : ℕ) → NamesSlot f (T.last.store.slots g r) → ⊥)
            → NamesSlot f (m.store.slots g r) → ⊥
        no_word g r (inl e) none names = subst (NamesSlot f) e names
        no_word g r (inr full) none names =
            let w = slot_was p hold (taken events) g (m.store.slots g) (T.last.store.slots g) (T.tied.frames g) r full in
            none g w.0 (subst (NamesSlot f) w.1 names)

    pub orderly_run : IsOrderlyRun q z (at_start Q inputs) events m run
    orderly_run = record {
      once =
          λ f ip r few. subst (λ (n : ℕ). n ≤ 1)
          (sum_by-IsPermutation (λ (t : Token). cond (is_at f ip r t.to) 1 0) (met events m) (met events T.last) met_same)
          (O.once f ip r (sym (often_is p ds hold R ip) ∙ few));
      caused = λ f ip r w entry inside. some_same_event f ip r z events (at_start Q inputs) (at_start P inputs) m T.last run T.run T.along
          (O.caused f ip r w (sym (entry_same hold P.blocks ds R ip) ∙ entry) (was_left (token (To.Instr f ip r) w) inside));
      agree = λ f ip jp k v w a b block x y. O.agree f ip jp k v w (marked_was ip k a) (marked_was jp k b) (sym (blocks_same hold P.blocks ds R ip jp) ∙ block)
          (was_met (token (To.Instr f ip Right) v) x) (was_met (token (To.Instr f jp Right) w) y);
      block =
          λ f ip jp r s v w x y. blocks_same hold P.blocks ds R ip jp
          ∙ O.block f ip jp r s v w (was_met (token (To.Instr f ip r) v) x) (was_met (token (To.Instr f jp s) w) y);
      matching = λ t inside. sym (matches t.to t.word inside) ∙ O.matching t (was_left t inside);
      release = free;
    }
