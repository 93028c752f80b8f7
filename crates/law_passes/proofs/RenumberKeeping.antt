-- What a plan keeps when its holders get other numbers.
use Rattle.std.proofs.Common.{◌≡◌, refl, sym, ap, ◌∙◌, subst, ℕ, ◌+◌, ◌<◌, ◌≤◌, inl, inr, Bool, false, ℤ, arith, List, [], ◌∷◌, ◌++◌, length, Option, Some}
use Rattle.std.proofs.Common.{None, Contains}
use Rattle.std.specs.Prelude.{slice_get, count_by}
use Rattle.std.proofs.lemmas.List.Sorted.{Contains-permutation, IsPermutation-sym, length_permutation}
use Rattle.std.proofs.lemmas.List.{nil_from_length}
use Rattle.std.proofs.lemmas.Option.{same_Some}
use Rattle.tags.specs.declared.value.Value.{Value}
use Rattle.tags.specs.declared.token.Port.TheVariants.{Left}
use Rattle.tags.specs.declared.token.Cont.{Cont}
use Rattle.tags.specs.declared.token.Word.{Word}
use Rattle.tags.specs.declared.token.To.{To}
use Rattle.tags.specs.declared.token.Token.{Token}
use Rattle.tags.specs.declared.slot.SlotState.{SlotState}
use Rattle.tags.specs.declared.slot.SlotState.TheVariants.{Empty, Waiter}
use Rattle.semantics.specs.declared.program.Dest.{Dest}
use Rattle.semantics.specs.declared.program.Op.{Op}
use Rattle.semantics.specs.declared.program.Op.TheVariants.{Link}
use Rattle.semantics.specs.Program.{Instr, CodeBlock, Program, first_of, instr_at}
use Rattle.semantics.specs.Rule.{token}
use Rattle.semantics.specs.Machine.{CellState, Machine, Size, Events, Wants, reader_count, value_in}
use Rattle.semantics.specs.Cause.{seeks_credit, is_credit_event, credit_count}
use Rattle.semantics.specs.Plan.{Plan, landing}
use Rattle.semantics.specs.Orderly.{Orderly, IsStart, met, often}
use Rattle.law_reuse.proofs.SlotsHistory.{taken}
use Rattle.law_fresh_frames.specs.Alike.{LooksAlike, RunsAlike, offset_of, HasLanding, LandsRightly, plain_dests, IsTidy}
use Rattle.law_passes.specs.Renumber.{RenumbersAll, with_blocks}
use Rattle.law_passes.specs.RenumberKeeps.{KeepsAll, RenumberedKeeps}
use Rattle.law_passes.proofs.RenumberPlaces.{Located, Nowhere, There, located, block_back, instr_back, first_is, inputs_is, landing_is, often_is}
use Rattle.law_passes.proofs.RenumberRuns.{Tied, Twin, twin}
use Rattle.law_passes.proofs.RenumberOrders.{T, slot_is, slots_empty, was_met, orderly_run}
use Rattle.law_passes.proofs.RenumberCredits.{bounds_kept}

waiter_full : (s : SlotState) (c : Cont) → s ≡ Waiter c → s ≡ Empty → ⊥
waiter_full s c e f = absurd (let d : Waiter c ≡ Empty = sym e ∙ f in cc)

module _ (p : Plan) (ds : List CodeBlock) (hold : ℕ → ℕ → ℕ) (R : RenumbersAll hold p.program.blocks ds) (orderly : Orderly p) where
  abbrev P : Program
  P = p.program

  abbrev q : Plan
  q = with_blocks p ds

  abbrev Q : Program
  Q = q.program

  looks_alike : (ts : List Token) (m u : Machine) → Tied p hold ts m u → LooksAlike m u
  looks_alike ts m u K = record {
    outputs = λ j. sym (ap (λ (o : ℕ → Option Value). o j) K.same.outputs);
    cells = λ x. sym (ap (λ (y : ℕ → CellState). value_in (y x)) K.same.cells);
    readers = λ x. sym (ap (λ (y : ℕ → CellState). reader_count (y x)) K.same.cells);
    rests = λ rest. nil_from_length u.pool (sym (length_permutation u.pool m.pool K.pool) ∙ ap length rest);
    wants = wants;
    second_store =
        λ x some. (
          some.0,
          some.1,
          some.2,
          Contains-permutation m.pool u.pool _ (IsPermutation-sym _ _ K.pool) some.3,
          ap (λ (y : ℕ → CellState). y x) K.same.cells ∙ some.4,
        );
    clean = λ C. record {
      frames = λ f. sym (ap (λ (o : ℕ → Bool). o f) K.same.out) ∙ C.frames f;
      slots = λ f. slots_empty p hold ts f (m.store.slots f) (u.store.slots f) (K.frames f) (C.slots f);
    };
  }
    where
      wants : Wants u → Wants m
      wants (inl some) = inl (λ none. some (K.same.requests ∙ none))
      wants (inr (f, r, c, e)) =
          let s = slot_is p hold ts f (m.store.slots f) (u.store.slots f) (K.frames f) r (waiter_full (u.store.slots f r) c e) in inr (f, s.0, c, s.1 ∙ e)

  credit_same : (to : To) → is_credit_event Q to ≡ is_credit_event P to
  credit_same (To.Instr f ip r) = go (located hold P.blocks ds R ip)
    where
      by_op : (i j : Instr) → j.op ≡ i.op → seeks_credit (Some j) ≡ seeks_credit (Some i)
      by_op i j e = ap (λ (op : Op). seeks_credit (Some record i { op = op })) e

      go : Located hold P.blocks ds ip → seeks_credit (instr_at Q ip) ≡ seeks_credit (instr_at P ip)
      go (Nowhere x y) = ap seeks_credit (y ∙ sym x)
      go (There b n c d i j at_b at_d at_n at_j B I at_p at_q place) = ap seeks_credit at_q ∙ by_op i j I.op ∙ sym (ap seeks_credit at_p)
  credit_same (To.Fetch x) = refl
  credit_same (To.Store x v) = refl
  credit_same To.Manager = refl
  credit_same (To.Release f) = refl
  credit_same (To.Host j) = refl

  credits_same : (events : Events) → credit_count Q events ≡ credit_count P events
  credits_same events = ap (λ (k : To → Bool). count_by (λ (ev : ℕ × Token). k ev.1.to) events) (λ i to. credit_same to i)

  old_start : (z : Size) (inputs : List ℤ) → IsStart q z inputs → IsStart p z inputs
  old_start z inputs s = record { some_element = s.some_element; some_frame = s.some_frame; inputs_fit = s.inputs_fit ∙ inputs_is p ds hold R }

  runs_alike : RunsAlike p q
  runs_alike inputs z events m start run once =
      let W : Twin p ds hold R orderly inputs z (old_start z inputs start) events m run =
      twin p ds hold R orderly inputs z (old_start z inputs start) events m run once in
      record {
        done = events;
        last = W.last;
        run = W.run;
        once = W.once;
        alike = looks_alike (taken events) m W.last W.tied;
        requests = refl;
        credits = credits_same events;
      }

  still_orderly : Orderly q
  still_orderly inputs z events m start run once = orderly_run p ds hold R orderly inputs z (old_start z inputs start) events m run once

  landing_there : (base o : ℕ) → HasLanding p base o → HasLanding q base o
  landing_there base o H =
      let B = R.blocks H.b H.c H.block in
      let J = B.2.instrs H.n H.i H.instr in
      record {
        b = H.b;
        n = H.n;
        c = B.0;
        i = J.0;
        d = H.d;
        callee = H.callee;
        block = B.1;
        instr = J.1;
        links = J.2.op ∙ H.links;
        lands = J.2.firsts ∙ H.lands;
        begins = H.begins ∙ ap (λ (k : ℕ). k + (H.n + H.d.ahead)) (sym (first_is p ds hold R H.b));
        within = subst (λ (k : ℕ). o < k) (sym (landing_is p ds hold R H.callee)) H.within;
        inside = subst (λ (k : ℕ). H.n + H.d.ahead + o < k) (sym B.2.size) H.inside;
      }

  lands_kept : LandsRightly p → LandsRightly q
  lands_kept lands inputs z events m start run once f ip g base o r j at off inside = go (located hold P.blocks ds R ip)
    where
      W : Twin p ds hold R orderly inputs z (old_start z inputs start) events m run
      W = T p ds hold R orderly inputs z (old_start z inputs start) events m run once

      was : Contains (met events W.last) (token (To.Instr f ip Left) (Word.Back (Cont.Frame g base r)))
      was =
          was_met p ds hold R orderly inputs z (old_start z inputs start) events m run once
          (token (To.Instr f ip Left) (Word.Back (Cont.Frame g base r))) inside

      go : Located hold P.blocks ds ip → HasLanding q base o
      go (Nowhere x y) = absurd (let e : Some j ≡ None = sym at ∙ y in cc)
      go (There b n c d i k at_b at_d at_n at_k B I at_p at_q place) =
          let same : k ≡ j = same_Some k j (sym at_q ∙ at) in
          landing_there base o (lands inputs z events W.last (old_start z inputs start) W.run W.once f ip g base o r i at_p
          (ap offset_of (sym I.op ∙ ap (λ (x : Instr). x.op) same) ∙ off) was)

  plain_same : (i j : Instr) (op : Op) → j.firsts ≡ i.firsts → j.seconds ≡ i.seconds → plain_dests j op ≡ plain_dests i op
  plain_same i j (Link b) e f = f
  plain_same i j op e f = λ k. e k ++ f k

  tidy_kept : IsTidy p → IsTidy q
  tidy_kept tidy = record { landings = landings; once = once }
    where
      landings : (b n : ℕ) (d : CodeBlock) (j : Instr) (x : Dest) (callee : ℕ) → slice_get ds b ≡ Some d → slice_get d.instrs n ≡ Some j → j.op ≡ Link callee
          → j.firsts ≡ x ∷ [] → n + x.ahead + landing q callee ≤ length d.instrs
      landings b n d j x callee at_d at_j links lands =
          let B = block_back hold P.blocks ds R b d at_d in
          let I = instr_back (hold b) B.0 d B.2 n j at_j in
          let old = tidy.landings b n B.0 I.0 x callee B.1 I.1 (sym I.2.op ∙ links) (sym I.2.firsts ∙ lands) in
          let size = B.2.size in let land = landing_is p ds hold R callee in omega (arith, old, size, land)

      once : (b n : ℕ) (d : CodeBlock) (j : Instr) (x : Dest) → slice_get ds b ≡ Some d → slice_get d.instrs n ≡ Some j → Contains (plain_dests j j.op) x
          → often (instr_at Q (first_of Q b + n + x.ahead)) ≡ false
      once b n d j x at_d at_j inside =
          let B = block_back hold P.blocks ds R b d at_d in
          let I = instr_back (hold b) B.0 d B.2 n j at_j in
          let here : Contains (plain_dests I.0 I.0.op) x =
          subst (λ (l : List Dest). Contains l x) (ap (plain_dests j) I.2.op ∙ plain_same I.0 j I.0.op I.2.firsts I.2.seconds) inside in
          ap (λ (k : ℕ). often (instr_at Q (k + n + x.ahead))) (first_is p ds hold R b) ∙ often_is p ds hold R (first_of P b + n + x.ahead)
          ∙ tidy.once b n B.0 I.0 x B.1 I.1 here

  all_kept : KeepsAll p q
  all_kept = record { alike = runs_alike; orderly = still_orderly; lands = lands_kept; tidy = tidy_kept; bounds = bounds_kept p ds hold R orderly }

pub renumbered_keeps : RenumberedKeeps
renumbered_keeps p q N orderly = subst (KeepsAll p) (sym N.same) (all_kept p q.program.blocks N.hold N.blocks orderly)
