-- An event of the new code, at a token that stands for one of the old, is an event of the old code.
use Rattle.std.proofs.Common.{◌≡◌, refl, sym, ap, ◌∙◌, subst, ℕ, ◌<◌, ◌⊎◌, inl, inr, Bool, true, false, List, [], ◌∷◌, ◌++◌, map, Option, Some, None, Contains}
use Rattle.std.specs.Prelude.{if◌then◌else◌, ◌==◌, filter_map, ⊤}
use Rattle.std.proofs.lemmas.List.Elements.{Contains-append_cases}
use Rattle.std.proofs.lemmas.List.Sorted.{Contains-permutation, IsPermutation-sym}
use Rattle.lemmas.proofs.Contains.{contains_cases, contains_head, contains_none, contains_tail}
use Rattle.lemmas.proofs.Lists.{map_append}
use Rattle.tags.specs.declared.value.Value.{Value}
use Rattle.tags.specs.declared.token.Port.{Port}
use Rattle.tags.specs.declared.token.Cont.{Cont}
use Rattle.tags.specs.declared.token.Word.{Word}
use Rattle.tags.specs.declared.token.To.{To}
use Rattle.tags.specs.declared.token.Token.{Token}
use Rattle.tags.specs.declared.slot.SlotState.{SlotState}
use Rattle.semantics.specs.declared.program.Op.{Op}
use Rattle.semantics.specs.declared.program.Op.TheVariants.{Apply2, Sync, Switch, Store, Send, Return, Ask, Release, Open, Take, Give, Drain}
use Rattle.semantics.specs.Program.{Instr, Program, instr_at}
use Rattle.semantics.specs.Rule.{back_to, Outcome, Becomes, Excluded, outcome_of, rule_at, slot_of}
use Rattle.semantics.specs.Machine.{CellState, Vacant, Full, Deferred, Store as MStore, answer, answers, put_at, with_slot_in, with_cell, with_out}
use Rattle.semantics.specs.Machine.{with_requests, with_output, with_done, slot_in, slot_used, outputs_of, Fires, Fetches, Stores, Requests, Releases, Hosts}
use Rattle.semantics.specs.Machine.{Happens}
use Rattle.semantics.specs.Handed.{frame_of, handed_by}
use Rattle.law_confluence.proofs.Orders.{first_lifted}
use Rattle.law_simulation.specs.Places.{ip_cell, ip_cont, ip_slot, ip_store, ip_to, ip_word}
use Rattle.law_simulation.specs.Simulates.{Arrives, Fits, FitsSlot, FitsWord, IsMoved}
use Rattle.law_simulation.proofs.SimulationRules.{Made, Matches, back_moved, cons_clumped, none_clumped, one_clumped}
use Rattle.law_simulation.proofs.SimulationSent.{rule_match}

module _ (p q : Program) (g h : ℕ → ℕ) where
  -- ---- CHANGES
  slot_put : (s : MStore) (f : ℕ) (o : Option ℕ) (v : SlotState) → with_slot_in (ip_store h s) f o (ip_slot h v) ≡ ip_store h (with_slot_in s f o v)
  slot_put s f None v = refl
  slot_put s f (Some r) v = (λ k. record {
    slots =
        λ g y. go (f == g) (put_at (λ (y : ℕ). ip_slot h (s.slots f y)) r (ip_slot h v)) (λ (y : ℕ). ip_slot h (s.slots g y)) (put_at (s.slots f) r v)
        (s.slots g) y (pick (r == y) y) refl k;
    cells = λ x. ip_cell h (s.cells x);
    out = s.out;
    requests = map (ip_cont h) s.requests;
    outputs = s.outputs;
    done = s.done;
  })
    where
      go : (b : Bool) (t u x y : ℕ → SlotState) (n : ℕ) → t n ≡ ip_slot h (x n) → u n ≡ ip_slot h (y n)
          → (if b then t else u) n ≡ ip_slot h ((if b then x else y) n)
      go true t u x y n d e = d
      go false t u x y n d e = e

      pick : (b : Bool) (y : ℕ) → (if b then ip_slot h v else ip_slot h (s.slots f y)) ≡ ip_slot h (if b then v else s.slots f y)
      pick true y = refl
      pick false y = refl

  cell_put : (s : MStore) (x : ℕ) (v : CellState) → with_cell (ip_store h s) x (ip_cell h v) ≡ ip_store h (with_cell s x v)
  cell_put s x v =
      (λ
      k. record {
        slots = λ f r. ip_slot h (s.slots f r);
        cells = λ y. pick (x == y) y k;
        out = s.out;
        requests = map (ip_cont h) s.requests;
        outputs = s.outputs;
        done = s.done;
      })
    where
      pick : (b : Bool) (y : ℕ) → (if b then ip_cell h v else ip_cell h (s.cells y)) ≡ ip_cell h (if b then v else s.cells y)
      pick true y = refl
      pick false y = refl

  requests_put : (s : MStore) (cs : List Cont) (ds : List Cont) → ds ≡ map (ip_cont h) cs → with_requests (ip_store h s) ds ≡ ip_store h (with_requests s cs)
  requests_put s cs ds e = ap (λ (ds : List Cont). with_requests (ip_store h s) ds) e

  pub slot_there : (s : MStore) (f : ℕ) (o : Option ℕ) → slot_in (ip_store h s) f o ≡ ip_slot h (slot_in s f o)
  slot_there s f None = refl
  slot_there s f (Some r) = refl

  -- each continuation of the list names what stands for itself
  abbrev pub FitsAll : List Cont → Type 0
  FitsAll cs = (c : Cont) → Contains cs c → Fits p q h (back_to c)

  abbrev pub FitsCell : CellState → Type 0
  FitsCell (Deferred cs) = FitsAll cs
  FitsCell x = ⊤

  pub fits_more : (cs : List Cont) (c : Cont) → FitsAll cs → Fits p q h (back_to c) → FitsAll (cs ++ c ∷ [])
  fits_more cs c all one x inside = go (Contains-append_cases cs (c ∷ []) x inside)
    where
      last : (c ≡ x) ⊎ Contains [] x → Fits p q h (back_to x)
      last (inl e) = subst (λ (c : Cont). Fits p q h (back_to c)) e one
      last (inr k) = absurd (contains_none x k)

      go : Contains cs x ⊎ Contains (c ∷ []) x → Fits p q h (back_to x)
      go (inl k) = all x k
      go (inr k) = last (contains_cases c [] x k)

  answers_clumped : (cs : List Cont) (v : Value) → FitsAll cs → Made p q g h (answers (map (ip_cont h) cs) v) (answers cs v)
  answers_clumped [] v fits = none_clumped p q g h
  answers_clumped (c ∷ cs) v fits =
      subst (λ (t : Token). Made p q g h (t ∷ answers (map (ip_cont h) cs) v) (answers (c ∷ cs) v)) (sym (back_moved p q g h c (Word.Val v)))
      (cons_clumped p q g h (answer c (Word.Val v)) (answers (map (ip_cont h) cs) v) (answers cs v)
      (answers_clumped cs v (λ x k. fits x (contains_tail c cs x k))) (fits c (contains_head c cs)))

  answer_clumped : (c : Cont) (w : Word) → Fits p q h (back_to c) → Made p q g h (answer (ip_cont h c) (ip_word h w) ∷ []) (answer c w ∷ [])
  answer_clumped c w fits =
      subst (λ (t : Token). Made p q g h (t ∷ []) (answer c w ∷ [])) (sym (back_moved p q g h c w)) (one_clumped p q g h (answer c w) fits)

  module _ (arrays : q.arrays ≡ p.arrays) (outputs : outputs_of q ≡ outputs_of p) (total : ℕ) (old : MStore) where
    -- the event of the old code
    pub record Answered (to : To) (w : Word) (made : List Token) (new : MStore) : Type 0 where
      pub tokens : List Token
      pub after : MStore
      pub happens : Happens p total old to w tokens after
      pub clumped : Made p q g h made tokens
      pub same : new ≡ ip_store h after
      pub hands : handed_by (ip_to h to) made ≡ handed_by to tokens

    fires_back : (f a : ℕ) (r : Port) (w : Word) (i : Instr) (at : instr_at p a ≡ Some i) (M : IsMoved p q g h a i) (made : List Token) (new : MStore)
        → Arrives p q h i.op (slot_in old f (slot_of i i.op)) r w → FitsSlot p q h (slot_in old f (slot_of i i.op)) → FitsWord p q h w
        → Happens q total (ip_store h old) (To.Instr f (h a) r) (ip_word h w) made new → Answered (To.Instr f a r) w made new
    fires_back f a r w i at M made new A B C e =
        let o : Option ℕ = slot_of i i.op in
        let e1 : Fires (ip_store h old) f (slot_of M.j (M.j).op)
        (outcome_of q record { frame = f; ip = h a } M.j (M.j).op (slot_in (ip_store h old) f (slot_of M.j (M.j).op)) r (ip_word h w)) made new =
        subst (λ (x : Option Instr). Fires (ip_store h old) f (slot_used x)
        (rule_at q record { frame = f; ip = h a } x (slot_in (ip_store h old) f (slot_used x)) r (ip_word h w)) made new) M.there e in
        let so : slot_of M.j (M.j).op ≡ slot_of i i.op = ap (slot_of M.j) M.op ∙ same_slot i.op in
        let e2 : Fires (ip_store h old) f (slot_of i i.op)
        (outcome_of q record { frame = f; ip = h a } M.j (M.j).op (slot_in (ip_store h old) f (slot_of i i.op)) r (ip_word h w)) made new =
        subst (λ (x : Option ℕ). Fires (ip_store h old) f x
        (outcome_of q record { frame = f; ip = h a } M.j (M.j).op (slot_in (ip_store h old) f x) r (ip_word h w)) made new) so e1 in
        let e3 : Fires (ip_store h old) f (slot_of i i.op)
        (outcome_of q record { frame = f; ip = h a } M.j (M.j).op (ip_slot h (slot_in old f (slot_of i i.op))) r (ip_word h w)) made new =
        subst (λ (x : SlotState). Fires (ip_store h old) f (slot_of i i.op)
        (outcome_of q record { frame = f; ip = h a } M.j (M.j).op x r (ip_word h w)) made new) (slot_there old f (slot_of i i.op)) e2 in
        go (outcome_of p record { frame = f; ip = a } i i.op (slot_in old f (slot_of i i.op)) r w) refl
        (rule_match p q g h arrays f a i M (slot_in old f (slot_of i i.op)) r w A B C) e3
      where
        same_slot : (op : Op) → slot_of M.j op ≡ slot_of i op
        same_slot (Apply2 op) = ap Some M.slot
        same_slot Sync = ap Some M.slot
        same_slot Switch = ap Some M.slot
        same_slot (Store n) = ap Some M.slot
        same_slot (Send b n) = ap Some M.slot
        same_slot (Return n) = ap Some M.slot
        same_slot (Ask n) = ap Some M.slot
        same_slot (Release n) = ap Some M.slot
        same_slot (Open n) = ap Some M.slot
        same_slot (Take n) = ap Some M.slot
        same_slot (Give n) = ap Some M.slot
        same_slot (Drain n) = ap Some M.slot
        same_slot op = refl

        go : (x : Outcome) → outcome_of p record { frame = f; ip = a } i i.op (slot_in old f (slot_of i i.op)) r w ≡ x
            → Matches p q g h x (outcome_of q record { frame = f; ip = h a } M.j (M.j).op (ip_slot h (slot_in old f (slot_of i i.op))) r (ip_word h w))
            → Fires (ip_store h old) f (slot_of i i.op)
            (outcome_of q record { frame = f; ip = h a } M.j (M.j).op (ip_slot h (slot_in old f (slot_of i i.op))) r (ip_word h w)) made new
            → Answered (To.Instr f a r) w made new
        go (Excluded n) is m e = absurd (subst (λ (x : Outcome). Fires (ip_store h old) f (slot_of i i.op) x made new) m e)
        go (Becomes v ts) is m e =
            let d : Fires (ip_store h old) f (slot_of i i.op) (Becomes (ip_slot h v) m.0) made new =
            subst (λ (x : Outcome). Fires (ip_store h old) f (slot_of i i.op) x made new) m.1 e in
            record {
              tokens = ts;
              after = with_slot_in old f (slot_of i i.op) v;
              happens =
                  subst (λ (x : Option Instr). Fires old f (slot_used x) (rule_at p record { frame = f; ip = a } x (slot_in old f (slot_used x)) r w) ts
                  (with_slot_in old f (slot_of i i.op) v)) (sym at)
                  (subst (λ (x : Outcome). Fires old f (slot_of i i.op) x ts (with_slot_in old f (slot_of i i.op) v)) (sym is) (refl, refl));
              clumped = subst (λ (l : List Token). Made p q g h l ts) (sym d.0) m.2;
              same = d.1 ∙ slot_put old f (slot_of i i.op) v;
              hands = refl;
            }

    fetch_back : (x : ℕ) (c : Cont) (y : CellState) (made : List Token) (new : MStore) → Fits p q h (back_to c) → old.cells x ≡ y
        → Fetches (ip_store h old) x (ip_cont h c) (ip_cell h y) made new → Answered (To.Fetch x) (Word.Back c) made new
    fetch_back x c Vacant made new fits at e = record {
      tokens = [];
      after = with_cell old x (Deferred (c ∷ []));
      happens = subst (λ (y : CellState). Fetches old x c y [] (with_cell old x (Deferred (c ∷ [])))) (sym at) (refl, refl);
      clumped = subst (λ (l : List Token). Made p q g h l []) (sym e.0) (none_clumped p q g h);
      same = e.1 ∙ cell_put old x (Deferred (c ∷ []));
      hands = refl;
    }
    fetch_back x c (Deferred cs) made new fits at e = record {
      tokens = [];
      after = with_cell old x (Deferred (cs ++ c ∷ []));
      happens = subst (λ (y : CellState). Fetches old x c y [] (with_cell old x (Deferred (cs ++ c ∷ [])))) (sym at) (refl, refl);
      clumped = subst (λ (l : List Token). Made p q g h l []) (sym e.0) (none_clumped p q g h);
      same =
          e.1 ∙ ap (λ (l : List Cont). with_cell (ip_store h old) x (Deferred l)) (sym (map_append (ip_cont h) cs (c ∷ [])))
          ∙ cell_put old x (Deferred (cs ++ c ∷ []));
      hands = refl;
    }
    fetch_back x c (Full v) made new fits at e = record {
      tokens = answer c (Word.Val v) ∷ [];
      after = old;
      happens = subst (λ (y : CellState). Fetches old x c y (answer c (Word.Val v) ∷ []) old) (sym at) (refl, refl);
      clumped = subst (λ (l : List Token). Made p q g h l (answer c (Word.Val v) ∷ [])) (sym e.0) (answer_clumped c (Word.Val v) fits);
      same = e.1;
      hands = refl;
    }

    store_back : (x : ℕ) (v : Value) (c : Cont) (y : CellState) (made : List Token) (new : MStore) → Fits p q h (back_to c) → FitsCell y → old.cells x ≡ y
        → Stores (ip_store h old) x v (ip_cont h c) (ip_cell h y) made new → Answered (To.Store x v) (Word.Back c) made new
    store_back x v c Vacant made new fits all at e = record {
      tokens = answer c (Word.Val v) ∷ [];
      after = with_cell old x (Full v);
      happens = subst (λ (y : CellState). Stores old x v c y (answer c (Word.Val v) ∷ []) (with_cell old x (Full v))) (sym at) (refl, refl);
      clumped = subst (λ (l : List Token). Made p q g h l (answer c (Word.Val v) ∷ [])) (sym e.0) (answer_clumped c (Word.Val v) fits);
      same = e.1 ∙ cell_put old x (Full v);
      hands = refl;
    }
    store_back x v c (Deferred cs) made new fits all at e = record {
      tokens = answers (cs ++ c ∷ []) v;
      after = with_cell old x (Full v);
      happens = subst (λ (y : CellState). Stores old x v c y (answers (cs ++ c ∷ []) v) (with_cell old x (Full v))) (sym at) (refl, refl);
      clumped =
          subst (λ (l : List Token). Made p q g h l (answers (cs ++ c ∷ []) v))
          (sym (e.0 ∙ ap (λ (l : List Cont). answers l v) (sym (map_append (ip_cont h) cs (c ∷ [])))))
          (answers_clumped (cs ++ c ∷ []) v (fits_more cs c all fits));
      same = e.1 ∙ cell_put old x (Full v);
      hands = refl;
    }
    store_back x v c (Full w) made new fits all at e = absurd e

    request_back : (c : Cont) (made : List Token) (new : MStore) → Fits p q h (back_to c) → Requests total (ip_store h old) (ip_cont h c) made new
        → Answered To.Manager (Word.Back c) made new
    request_back c made new fits (inl e) = record {
      tokens = answer c (Word.Frame e.0) ∷ [];
      after = with_out old e.0 true;
      happens = inl (e.0, e.1, e.2, refl, refl);
      clumped = subst (λ (l : List Token). Made p q g h l (answer c (Word.Frame e.0) ∷ [])) (sym e.3) (answer_clumped c (Word.Frame e.0) fits);
      same = e.4;
      hands = ap (filter_map frame_of) e.3;
    }
    request_back c made new fits (inr e) = record {
      tokens = [];
      after = with_requests old (old.requests ++ c ∷ []);
      happens = inr (e.0, refl, refl);
      clumped = subst (λ (l : List Token). Made p q g h l []) (sym e.1) (none_clumped p q g h);
      same = e.2 ∙ requests_put old (old.requests ++ c ∷ []) _ (sym (map_append (ip_cont h) old.requests (c ∷ [])));
      hands = ap (filter_map frame_of) e.1;
    }

    pub none_asked : (cs : List Cont) → map (ip_cont h) cs ≡ [] → cs ≡ []
    none_asked [] e = refl
    none_asked (c ∷ cs) e = absurd (cc)

    release_back : (f : ℕ) (w : Word) (made : List Token) (new : MStore) → FitsAll old.requests → Releases (ip_store h old) f made new
        → Answered (To.Release f) w made new
    release_back f w made new fits (out, inl e) = record {
      tokens = [];
      after = with_out old f false;
      happens = (out, inl (none_asked old.requests e.0, refl, refl));
      clumped = subst (λ (l : List Token). Made p q g h l []) (sym e.1) (none_clumped p q g h);
      same = e.2;
      hands = ap (filter_map frame_of) e.1;
    }
    release_back f w made new fits (out, inr (c, rest, moved, makes, is)) =
        let l = first_lifted (ip_cont h) old.requests c rest moved in
        record {
          tokens = answer l.0 (Word.Frame f) ∷ [];
          after = with_requests old l.1;
          happens = (out, inr (l.0, l.1, l.2, refl, refl));
          clumped =
              subst (λ (x : List Token). Made p q g h x (answer l.0 (Word.Frame f) ∷ []))
              (sym (makes ∙ ap (λ (c : Cont). answer c (Word.Frame f) ∷ []) (sym l.3)))
              (answer_clumped l.0 (Word.Frame f) (fits l.0 (Contains-permutation _ _ l.0 (IsPermutation-sym _ _ l.2) (contains_head l.0 l.1))));
          same = is ∙ requests_put old l.1 rest (sym l.4);
          hands = ap (filter_map frame_of) makes;
        }

    value_back : (w : Word) (v : Value) → ip_word h w ≡ Word.Val v → w ≡ Word.Val v
    value_back (Word.Val u) v e = e
    value_back (Word.Frame f) v e = absurd (cc)
    value_back (Word.Back c) v e = absurd (cc)

    host_back : (j : ℕ) (w : Word) (made : List Token) (new : MStore) → Hosts (outputs_of q) (ip_store h old) j (ip_word h w) made new
        → Answered (To.Host j) w made new
    host_back j w made new (inl e) = record {
      tokens = [];
      after = with_output old j e.2.0;
      happens = inl (subst (λ (n : ℕ). j < n) outputs e.0, e.1, (e.2.0, value_back w e.2.0 e.2.1, refl, refl));
      clumped = subst (λ (l : List Token). Made p q g h l []) (sym e.2.2) (none_clumped p q g h);
      same = e.2.3;
      hands = refl;
    }
    host_back j w made new (inr e) = record {
      tokens = [];
      after = with_done old;
      happens = inr (e.0 ∙ outputs, e.1, refl, refl);
      clumped = subst (λ (l : List Token). Made p q g h l []) (sym e.2) (none_clumped p q g h);
      same = e.3;
      hands = refl;
    }

    -- any event but an instruction's
    pub other_back : (to : To) (w : Word) (made : List Token) (new : MStore) → ((f a : ℕ) (r : Port) → to ≡ To.Instr f a r → ⊥) → FitsWord p q h w
        → ((x : ℕ) → FitsCell (old.cells x)) → FitsAll old.requests → Happens q total (ip_store h old) (ip_to h to) (ip_word h w) made new
        → Answered to w made new
    other_back (To.Instr f a r) w made new apart fits cells asks e = absurd (apart f a r refl)
    other_back (To.Fetch x) (Word.Back c) made new apart fits cells asks e = fetch_back x c (old.cells x) made new fits refl e
    other_back (To.Store x v) (Word.Back c) made new apart fits cells asks e = store_back x v c (old.cells x) made new fits (cells x) refl e
    other_back To.Manager (Word.Back c) made new apart fits cells asks e = request_back c made new fits e
    other_back (To.Release f) w made new apart fits cells asks e = release_back f w made new asks e
    other_back (To.Host j) w made new apart fits cells asks e = host_back j w made new e
    other_back to w made new apart fits cells asks e = absurd e

    pub instr_back : (f a : ℕ) (r : Port) (w : Word) (i : Instr) → instr_at p a ≡ Some i → IsMoved p q g h a i → (made : List Token) (new : MStore)
        → Arrives p q h i.op (slot_in old f (slot_of i i.op)) r w → FitsSlot p q h (slot_in old f (slot_of i i.op)) → FitsWord p q h w
        → Happens q total (ip_store h old) (To.Instr f (h a) r) (ip_word h w) made new → Answered (To.Instr f a r) w made new
    instr_back = fires_back
