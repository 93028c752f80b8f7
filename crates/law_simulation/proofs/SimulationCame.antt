-- A token that an event of the new run makes where nothing stands for itself arrives by an arc.
use Rattle.std.proofs.Common.{◌≡◌, refl, sym, ap, ◌∙◌, subst, ℕ, ◌+◌, ◌⊎◌, inl, inr, List, [], ◌∷◌, ◌++◌, map, Option, Contains}
use Rattle.std.proofs.lemmas.List.Elements.{Contains-append_cases}
use Rattle.std.proofs.lemmas.List.Sorted.{Contains-permutation, IsPermutation-sym}
use Rattle.lemmas.proofs.Contains.{contains_cases, contains_head, contains_mapped, contains_none}
use Rattle.tags.specs.declared.value.Value.{Value}
use Rattle.tags.specs.declared.token.Port.{Port}
use Rattle.tags.specs.declared.token.Cont.{Cont}
use Rattle.tags.specs.declared.token.Word.{Word}
use Rattle.tags.specs.declared.token.To.{To}
use Rattle.tags.specs.declared.token.Token.{Token}
use Rattle.tags.specs.declared.slot.SlotState.{SlotState}
use Rattle.tags.specs.declared.slot.SlotState.TheVariants.{Empty}
use Rattle.semantics.specs.declared.program.Op.{Op}
use Rattle.semantics.specs.declared.program.Op.TheVariants.{Give}
use Rattle.semantics.specs.Program.{Instr, Program}
use Rattle.semantics.specs.Rule.{Point, back_to, Outcome, Becomes, Excluded, outcome_of, rule_at, slot_of}
use Rattle.semantics.specs.Machine.{Machine, CellState, Vacant, Full, Deferred, Store as MStore, answer, answers, with_slot_in, slot_in, slot_used, outputs_of}
use Rattle.semantics.specs.Machine.{Fires, Fetches, Stores, Requests, Releases, Hosts, Happens}
use Rattle.semantics.specs.Plan.{Plan}
use Rattle.semantics.specs.Arcs.{UsesArc}
use Rattle.law_fresh_frames.proofs.FreshArcs.{uses_new}
use Rattle.semantics.specs.Program.{instr_at}
use Rattle.std.proofs.Common.{Some}
use Rattle.law_simulation.specs.Places.{ip_cell, ip_cont, ip_slot, ip_store, ip_to, ip_word}
use Rattle.law_simulation.specs.Simulates.{Arrives, Fits, FitsSlot, FitsWord, Fresh, IsMoved}
use Rattle.law_simulation.proofs.SimulationArcs.{same_to}
use Rattle.law_simulation.proofs.SimulationEvents.{FitsAll, FitsCell, slot_there}
use Rattle.law_simulation.proofs.SimulationFrom.{Direct, Stale, fits_stale, made_by}
use Rattle.law_simulation.proofs.SimulationSent.{Sent, Tells, outcome_tells}
use Rattle.law_simulation.proofs.SimulationTraces.{give_leaves, slot_same}

module _ (p q : Plan) (g h : ℕ → ℕ) where
  abbrev P : Program
  P = p.program

  abbrev Q : Program
  Q = q.program

  -- ---- A MOVED INSTRUCTION'S EVENT
  module _ (total : ℕ) (old : MStore) (f a : ℕ) (r : Port) (w : Word) (i : Instr) (M : IsMoved P Q g h a i) (made : List Token) (new : MStore)
      (happens : Happens Q total (ip_store h old) (To.Instr f (h a) r) (ip_word h w) made new) where
    abbrev seat : Point
    seat = record { frame = f; ip = h a }

    pub moved_fires : Fires (ip_store h old) f (slot_of i i.op)
        (outcome_of Q seat M.j i.op (ip_slot h (slot_in old f (slot_of i i.op))) r (ip_word h w)) made new
    moved_fires =
        let e1 = subst (λ (x : Option Instr). Fires (ip_store h old) f (slot_used x)
        (rule_at Q seat x (slot_in (ip_store h old) f (slot_used x)) r (ip_word h w)) made new) M.there happens in
        let e2 = subst (λ (x : Option ℕ). Fires (ip_store h old) f x (outcome_of Q seat M.j (M.j).op (slot_in (ip_store h old) f x) r (ip_word h w)) made new)
        (slot_same i M.j M.op M.slot) e1 in
        let e3 = subst (λ (x : SlotState). Fires (ip_store h old) f (slot_of i i.op) (outcome_of Q seat M.j (M.j).op x r (ip_word h w)) made new)
        (slot_there P Q g h old f (slot_of i i.op)) e2 in
        subst (λ (op : Op). Fires (ip_store h old) f (slot_of i i.op)
        (outcome_of Q seat M.j op (ip_slot h (slot_in old f (slot_of i i.op))) r (ip_word h w)) made new) M.op e3

    pub moved_came : (arrays : Q.arrays ≡ P.arrays) → Arrives P Q h i.op (slot_in old f (slot_of i i.op)) r w → FitsSlot P Q h (slot_in old f (slot_of i i.op))
        → FitsWord P Q h w → (m1 : Machine) → m1.store ≡ new → (t : Token) → t.to ≡ To.Instr f (h a) r
        → (u : Token) → Contains made u → (k ip : ℕ) (s : Port) → u.to ≡ To.Instr k ip s → Fresh P Q h ip → UsesArc q k ip s t made m1
    moved_came arrays A B C m1 stores t from u inside k ip s to fresh =
        by (outcome_of P record { frame = f; ip = a } i i.op (slot_in old f (slot_of i i.op)) r w) _
        (outcome_tells P Q g h arrays f a i M i.op refl (slot_in old f (slot_of i i.op)) r w A B C) moved_fires
      where
        pick : (v : SlotState) → new ≡ with_slot_in (ip_store h old) f (slot_of i i.op) (ip_slot h v)
            → Direct P Q g h arrays f a i M v u ⊎ Stale P Q g h u → UsesArc q k ip s t made m1
        pick v left (inr stale) = absurd (stale k ip s to fresh)
        pick v left (inl D) =
            let e = same_to (sym D.to ∙ to) in
            let give : (n : ℕ) → (M.j).op ≡ Give n → m1.store.slots f (M.j).slot ≡ Empty =
            (λ n x. ap (λ (s : MStore). s.slots f (M.j).slot) stores ∙ ap (λ (y : ℕ). new.slots f y) M.slot
            ∙ give_leaves i f n (ip_store h old) new (ip_slot h v) (sym M.op ∙ x) left ∙ ap (ip_slot h) (D.give n x)) in
            let U : UsesArc q f (h a + (D.d).ahead) (D.d).port t made m1 = uses_new q f (h a) r M.j M.there D.d D.inside t made m1 u from inside D.to give in
            subst (λ (k : ℕ). UsesArc q k ip s t made m1) e.0
            (subst (λ (n : ℕ). UsesArc q f n s t made m1) e.1 (subst (λ (s : Port). UsesArc q f (h a + (D.d).ahead) s t made m1) e.2 U))

        by : (x y : Outcome) → Tells P Q g h arrays f a i M x y → Fires (ip_store h old) f (slot_of i i.op) y made new → UsesArc q k ip s t made m1
        by (Excluded n) y T e = absurd (subst (λ (y : Outcome). Fires (ip_store h old) f (slot_of i i.op) y made new) T e)
        by (Becomes v ts) y T e =
            let d : Fires (ip_store h old) f (slot_of i i.op) (Becomes (ip_slot h v) T.0) made new =
            subst (λ (y : Outcome). Fires (ip_store h old) f (slot_of i i.op) y made new) T.1 e in
            pick v d.1 (made_by P Q g h arrays f a i M v ts T.0 T.2 u (subst (λ (l : List Token). Contains l u) d.0 inside))

    -- what it sent, in terms of the two events
    pub record SentBy (old_made : List Token) (after : MStore) (arrays : Q.arrays ≡ P.arrays) : Type 0 where
      pub v : SlotState
      pub sent : Sent P Q g h arrays f a i M v old_made made
      pub leaves : after ≡ with_slot_in old f (slot_of i i.op) v

    pub sent_by : (arrays : Q.arrays ≡ P.arrays) → instr_at P a ≡ Some i → Arrives P Q h i.op (slot_in old f (slot_of i i.op)) r w
        → FitsSlot P Q h (slot_in old f (slot_of i i.op)) → FitsWord P Q h w → (old_made : List Token) (after : MStore)
        → Happens P total old (To.Instr f a r) w old_made after → SentBy old_made after arrays
    sent_by arrays at A B C old_made after was =
        by (outcome_of P record { frame = f; ip = a } i i.op (slot_in old f (slot_of i i.op)) r w) _
        (outcome_tells P Q g h arrays f a i M i.op refl (slot_in old f (slot_of i i.op)) r w A B C)
        (subst (λ (x : Option Instr). Fires old f (slot_used x)
        (rule_at P record { frame = f; ip = a } x (slot_in old f (slot_used x)) r w) old_made after) at was) moved_fires
      where
        by : (x y : Outcome) → Tells P Q g h arrays f a i M x y → Fires old f (slot_of i i.op) x old_made after
            → Fires (ip_store h old) f (slot_of i i.op) y made new → SentBy old_made after arrays
        by (Excluded n) y T e d = absurd e
        by (Becomes v ts) y T e d =
            let n : Fires (ip_store h old) f (slot_of i i.op) (Becomes (ip_slot h v) T.0) made new =
            subst (λ (y : Outcome). Fires (ip_store h old) f (slot_of i i.op) y made new) T.1 d in
            record {
              v = v;
              sent = subst (λ (l : List Token). Sent P Q g h arrays f a i M v l made) (sym e.0)
                  (subst (λ (l : List Token). Sent P Q g h arrays f a i M v ts l) (sym n.0) T.2);
              leaves = e.1;
            }

  -- ---- ANY OTHER EVENT
  one_stale : (c : Cont) (w : Word) (made : List Token) → made ≡ answer (ip_cont h c) w ∷ [] → Fits P Q h (back_to c) → (u : Token) → Contains made u
      → Stale P Q g h u
  one_stale c w made is fits u inside = go (contains_cases (answer (ip_cont h c) w) [] u (subst (λ (l : List Token). Contains l u) is inside))
    where
      go : (answer (ip_cont h c) w ≡ u) ⊎ Contains [] u → Stale P Q g h u
      go (inl e) = subst (Stale P Q g h) e (fits_stale P Q g h c w fits)
      go (inr k) = absurd (contains_none u k)

  none_stale : (made : List Token) → made ≡ [] → (u : Token) → Contains made u → Stale P Q g h u
  none_stale made is u inside = absurd (contains_none u (subst (λ (l : List Token). Contains l u) is inside))

  all_stale : (cs : List Cont) (c : Cont) (v : Value) (made : List Token) → made ≡ answers (map (ip_cont h) cs ++ ip_cont h c ∷ []) v → FitsAll P Q g h cs
      → Fits P Q h (back_to c) → (u : Token) → Contains made u → Stale P Q g h u
  all_stale cs c v made is all fits u inside =
      let d = contains_mapped (λ (c : Cont). answer c (Word.Val v)) (map (ip_cont h) cs ++ ip_cont h c ∷ []) u
      (subst (λ (l : List Token). Contains l u) is inside) in
      go d.0 d.2 (Contains-append_cases (map (ip_cont h) cs) (ip_cont h c ∷ []) d.0 d.1)
    where
      go : (b : Cont) → answer b (Word.Val v) ≡ u → Contains (map (ip_cont h) cs) b ⊎ Contains (ip_cont h c ∷ []) b → Stale P Q g h u
      go b e (inl k) =
          let d = contains_mapped (ip_cont h) cs b k in
          one_stale d.0 (Word.Val v) (u ∷ []) (λ n. (sym e ∙ ap (λ (c : Cont). answer c (Word.Val v)) (sym d.2)) n ∷ []) (all d.0 d.1) u (contains_head u [])
      go b e (inr k) = last (contains_cases (ip_cont h c) [] b k)
        where
          last : (ip_cont h c ≡ b) ⊎ Contains [] b → Stale P Q g h u
          last (inl d) = one_stale c (Word.Val v) (u ∷ []) (λ n. (sym e ∙ ap (λ (c : Cont). answer c (Word.Val v)) (sym d)) n ∷ []) fits u (contains_head u [])
          last (inr n) = absurd (contains_none b n)

  module _ (total : ℕ) (old : MStore) (cells : (x : ℕ) → FitsCell P Q g h (old.cells x)) (asks : FitsAll P Q g h old.requests) (made : List Token)
      (new : MStore) where
    fetch_stale : (x : ℕ) (c : Cont) (y : CellState) → Fits P Q h (back_to c) → Fetches (ip_store h old) x (ip_cont h c) (ip_cell h y) made new → (u : Token)
        → Contains made u → Stale P Q g h u
    fetch_stale x c Vacant fits e = none_stale made e.0
    fetch_stale x c (Deferred cs) fits e = none_stale made e.0
    fetch_stale x c (Full v) fits e = one_stale c (Word.Val v) made e.0 fits

    store_stale : (x : ℕ) (v : Value) (c : Cont) (y : CellState) → Fits P Q h (back_to c) → FitsCell P Q g h y
        → Stores (ip_store h old) x v (ip_cont h c) (ip_cell h y) made new → (u : Token) → Contains made u → Stale P Q g h u
    store_stale x v c Vacant fits all e = one_stale c (Word.Val v) made e.0 fits
    store_stale x v c (Deferred cs) fits all e = all_stale cs c v made e.0 all fits
    store_stale x v c (Full w) fits all e = absurd e

    request_stale : (c : Cont) → Fits P Q h (back_to c) → Requests total (ip_store h old) (ip_cont h c) made new → (u : Token) → Contains made u
        → Stale P Q g h u
    request_stale c fits (inl e) = one_stale c (Word.Frame e.0) made e.3 fits
    request_stale c fits (inr e) = none_stale made e.1

    release_stale : (f : ℕ) → Releases (ip_store h old) f made new → (u : Token) → Contains made u → Stale P Q g h u
    release_stale f (out, inl e) = none_stale made e.1
    release_stale f (out, inr (c, rest, moved, makes, is)) =
        let d = contains_mapped (ip_cont h) old.requests c (Contains-permutation _ _ c (IsPermutation-sym _ _ moved) (contains_head c rest)) in
        one_stale d.0 (Word.Frame f) made (makes ∙ ap (λ (c : Cont). answer c (Word.Frame f) ∷ []) (sym d.2)) (asks d.0 d.1)

    host_stale : (n j : ℕ) (w : Word) → Hosts n (ip_store h old) j w made new → (u : Token) → Contains made u → Stale P Q g h u
    host_stale n j w (inl e) = none_stale made e.2.2
    host_stale n j w (inr e) = none_stale made e.2

    pub other_stale : (to : To) (w : Word) → ((f a : ℕ) (r : Port) → to ≡ To.Instr f a r → ⊥) → FitsWord P Q h w
        → Happens Q total (ip_store h old) (ip_to h to) (ip_word h w) made new → (u : Token) → Contains made u → Stale P Q g h u
    other_stale (To.Instr f a r) w apart fits e = absurd (apart f a r refl)
    other_stale (To.Fetch x) (Word.Back c) apart fits e = fetch_stale x c (old.cells x) fits e
    other_stale (To.Store x v) (Word.Back c) apart fits e = store_stale x v c (old.cells x) fits (cells x) e
    other_stale To.Manager (Word.Back c) apart fits e = request_stale c fits e
    other_stale (To.Release f) w apart fits e = release_stale f e
    other_stale (To.Host j) w apart fits e = host_stale (outputs_of Q) j (ip_word h w) e
    other_stale to w apart fits e = absurd e
