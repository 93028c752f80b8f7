-- An event costs one, and the weight of all that the machine holds pays for it with the charge of its token's port.
use Rattle.std.proofs.Common.{◌≡◌, refl, sym, ap, ◌∙◌, subst, ℕ, zero, suc, ◌+◌, ◌*◌, ◌<◌, ◌≤◌, ◌⊎◌, inl, inr, List, [], ◌∷◌, ◌++◌, length, Option, Some, None}
use Rattle.std.proofs.Common.{arith, length-append}
use Rattle.std.specs.Prelude.{All, ⊤}
use Rattle.std.proofs.lemmas.Bool.{cases_eq}
use Rattle.std.proofs.lemmas.List.Sorted.{length_permutation}
use Rattle.std.proofs.lemmas.List.Elements.{All-head, All-tail}
use Rattle.tags.specs.declared.value.Value.{Value}
use Rattle.tags.specs.declared.token.Port.{Port}
use Rattle.tags.specs.declared.token.Cont.{Cont}
use Rattle.tags.specs.declared.token.Word.{Word}
use Rattle.tags.specs.declared.token.To.{To}
use Rattle.tags.specs.declared.token.Token.{Token}
use Rattle.tags.specs.declared.slot.SlotState.{SlotState}
use Rattle.semantics.specs.Program.{Instr, Program, instr_at}
use Rattle.semantics.specs.Rule.{Outcome, Becomes, Excluded, outcome_of, rule_at, slot_of}
use Rattle.semantics.specs.Machine.{CellState, Vacant, Full, Deferred, Machine, Store, Size, Events, Run, answer, answers, put_at, with_slot_in, slot_in}
use Rattle.semantics.specs.Machine.{slot_used, outputs_of, reader_count, Fires, Fetches, Stores, Requests, Releases, Hosts, Happens}
use Rattle.law_reuse.proofs.FramesFold.{put_same, put_other}
use Rattle.law_reuse.proofs.SlotsPlaced.{Found, found}
use Rattle.law_fresh_frames.specs.Bounded.{HasFewDests}
use Rattle.law_fresh_frames.proofs.BoundedWeights.{tot, tot_append, tot_perm, op_weight, instr_weight, to_weight, weight, weights, slot_weight, op_charge}
use Rattle.law_fresh_frames.proofs.BoundedWeights.{instr_charge, charge, cost, outcome_cost, back_few}

-- ---- SUMS OVER THE FIRST NUMBERS
abbrev pub below : ℕ → (ℕ → ℕ) → ℕ
below zero f = 0
below (suc n) f = below n f + f n

below_same : (n : ℕ) (f g : ℕ → ℕ) → ((y : ℕ) → y < n → f y ≡ g y) → below n f ≡ below n g
below_same zero f g h = refl
below_same (suc n) f g h = let a = below_same n f g (λ y l. h y (omega (arith, l))) in let b = h n (omega arith) in omega (arith, a, b)

-- a change at one place
pub below_put : {A : Type 0} (g : A → ℕ) (n : ℕ) (h : ℕ → A) (x : ℕ) (v : A) → x < n
    → below n (λ y. g (put_at h x v y)) + g (h x) ≡ below n (λ y. g (h y)) + g v
below_put g zero h x v l = absurd (omega (arith, l))
below_put g (suc n) h x v l = go (cases_eq x n) (below_put g n h x v)
  where
    go : ((x ≡ n) ⊎ (x ≡ n → ⊥)) → (x < n → below n (λ y. g (put_at h x v y)) + g (h x) ≡ below n (λ y. g (h y)) + g v)
        → below (suc n) (λ y. g (put_at h x v y)) + g (h x) ≡ below (suc n) (λ y. g (h y)) + g v
    go (inl e) more =
        let a = below_same n (λ y. g (put_at h x v y)) (λ y. g (h y)) (λ y k. ap g (put_other h x v y (λ d. (let e = e in omega (arith, e, d, k))))) in
        let b : g (put_at h x v n) ≡ g v = ap g (put_same h x v n e) in
        let c : g (h x) ≡ g (h n) = ap (λ (y : ℕ). g (h y)) e in
        omega (arith, a, b, c)
    go (inr ne) more =
        let a = more (omega (arith, l, ne)) in
        let b : g (put_at h x v n) ≡ g (h n) = ap g (put_other h x v n ne) in
        omega (arith, a, b)

-- ---- WHAT THE MACHINE HOLDS, of the first N frames, slots and cells
abbrev pub row_weight : ℕ → (ℕ → SlotState) → ℕ
row_weight N row = below N (λ r. slot_weight (row r))

abbrev pub slots_weight : ℕ → Store → ℕ
slots_weight N s = below N (λ f. row_weight N (s.slots f))

abbrev pub cells_weight : ℕ → Store → ℕ
cells_weight N s = below N (λ x. reader_count (s.cells x))

abbrev pub store_weight : ℕ → Store → ℕ
store_weight N s = slots_weight N s + (cells_weight N s + length s.requests)

-- the places of an event lie below the bound
abbrev pub slot_below : ℕ → Option ℕ → Type 0
slot_below N None = ⊤
slot_below N (Some r) = r < N

abbrev pub IsBelow : Program → ℕ → To → Type 0
IsBelow p N (To.Instr f ip q) = (f < N) × slot_below N (slot_used (instr_at p ip))
IsBelow p N (To.Fetch x) = x < N
IsBelow p N (To.Store x v) = x < N
IsBelow p N to = ⊤

slot_put : (N : ℕ) (s : Store) (f : ℕ) (o : Option ℕ) (v : SlotState) → f < N → slot_below N o
    → slots_weight N (with_slot_in s f o v) + slot_weight (slot_in s f o) ≤ slots_weight N s + slot_weight v
slot_put N s f None v l b = omega arith
slot_put N s f (Some r) v l b =
    let a = below_put (row_weight N) N s.slots f (put_at (s.slots f) r v) l in
    let c = below_put slot_weight N (s.slots f) r v b in
    omega (arith, a, c)

same_rest : (s : Store) (f : ℕ) (o : Option ℕ) (v : SlotState) → ((with_slot_in s f o v).cells ≡ s.cells) × ((with_slot_in s f o v).requests ≡ s.requests)
same_rest s f None v = (refl, refl)
same_rest s f (Some r) v = (refl, refl)

module _ (p : Program) (few : HasFewDests p) (N : ℕ) where
  abbrev W : List Token → ℕ
  W ts = weights p ts

  fires_pay : (old new : Store) (f : ℕ) (o : Option ℕ) (x : Outcome) (made : List Token) (n : ℕ) → f < N → slot_below N o
      → cost p x ≤ slot_weight (slot_in old f o) + n → Fires old f o x made new
      → 1 + store_weight N new + W made ≤ store_weight N old + n
  fires_pay old new f o (Excluded k) made n l b c e = absurd e
  fires_pay old new f o (Becomes v ts) made n l b c e =
      let a = slot_put N old f o v l b in
      let r = same_rest old f o v in
      let w : W made ≡ W ts = ap W e.0 in
      let s : slots_weight N new ≡ slots_weight N (with_slot_in old f o v) = ap (slots_weight N) e.1 in
      let d : cells_weight N new ≡ cells_weight N old = ap (cells_weight N) e.1 ∙ ap (λ (y : ℕ → CellState). below N (λ x. reader_count (y x))) r.0 in
      let q : length new.requests ≡ length old.requests = ap (λ (s : Store). length s.requests) e.1 ∙ ap (λ (l : List Cont). length l) r.1 in
      omega (arith, a, c, w, s, d, q)

  instr_pays : (total : ℕ) (old new : Store) (f ip : ℕ) (q : Port) (w : Word) (made : List Token) → f < N → slot_below N (slot_used (instr_at p ip))
      → Happens p total old (To.Instr f ip q) w made new
      → 1 + store_weight N new + W made ≤ store_weight N old + (to_weight p (To.Instr f ip q) w + charge p (To.Instr f ip q))
  instr_pays total old new f ip q w made l b e = go (instr_at p ip) refl b e
    where
      go : (o : Option Instr) → instr_at p ip ≡ o → slot_below N (slot_used o)
          → Fires old f (slot_used o) (rule_at p record { frame = f; ip = ip } o (slot_in old f (slot_used o)) q w) made new
          → 1 + store_weight N new + W made ≤ store_weight N old + (instr_weight (instr_at p ip) w + instr_charge (instr_at p ip) q)
      go None at b e = absurd e
      go (Some i) at b e =
          let F : Found p ip i = found p ip i at in
          let k = few F.b F.n F.stands.code i F.stands.block F.stands.instr in
          let h = fires_pay old new f (slot_of i i.op) (outcome_of p record { frame = f; ip = ip } i i.op (slot_in old f (slot_of i i.op)) q w) made
          (op_weight i.op w + op_charge i.op q) l b
          (outcome_cost p record { frame = f; ip = ip } i k.0 k.1 i.op (slot_in old f (slot_of i i.op)) q w) e in
          subst (λ (o : Option Instr). 1 + store_weight N new + W made ≤ store_weight N old + (instr_weight o w + instr_charge o q)) (sym at) h

  answers_weight : (cs : List Cont) (v : Value) → W (answers cs v) ≤ length cs
  answers_weight [] v = omega arith
  answers_weight (c ∷ cs) v = let a = back_few p c (Word.Val v) in let b = answers_weight cs v in omega (arith, a, b)

  cell_pays : (old new : Store) (x : ℕ) (y : CellState) (made : List Token) → x < N → W made + reader_count y ≤ reader_count (old.cells x) + 1
      → new ≡ record { slots = old.slots; cells = put_at old.cells x y; out = old.out; requests = old.requests; outputs = old.outputs; done = old.done }
      → 1 + store_weight N new + W made ≤ store_weight N old + 2
  cell_pays old new x y made l h e =
      let a = below_put reader_count N old.cells x y l in
      let s : store_weight N new ≡ slots_weight N old + (below N (λ z. reader_count (put_at old.cells x y z)) + length old.requests) = ap (store_weight N) e in
      omega (arith, a, s, h)

  fetch_pays : (old new : Store) (x : ℕ) (c : Cont) (y : CellState) (made : List Token) → old.cells x ≡ y → x < N → Fetches old x c y made new
      → 1 + store_weight N new + W made ≤ store_weight N old + 2
  fetch_pays old new x c Vacant made at l e = let w : W made ≡ 0 = ap W e.0 in cell_pays old new x (Deferred (c ∷ [])) made l (omega (arith, w)) e.1
  fetch_pays old new x c (Deferred cs) made at l e =
      let w : W made ≡ 0 = ap W e.0 in let n = length-append cs (c ∷ []) in let r : reader_count (old.cells x) ≡ length cs = ap reader_count at in
      cell_pays old new x (Deferred (cs ++ c ∷ [])) made l (omega (arith, w, n, r)) e.1
  fetch_pays old new x c (Full v) made at l e =
      let w : W made ≡ to_weight p (answer c (Word.Val v)).to (Word.Val v) + 0 = ap W e.0 in let k = back_few p c (Word.Val v) in
      let s : store_weight N new ≡ store_weight N old = ap (store_weight N) e.1 in
      omega (arith, w, k, s)

  store_pays : (old new : Store) (x : ℕ) (v : Value) (c : Cont) (y : CellState) (made : List Token) → old.cells x ≡ y → x < N → Stores old x v c y made new
      → 1 + store_weight N new + W made ≤ store_weight N old + 2
  store_pays old new x v c Vacant made at l e =
      let w : W made ≡ W (answers (c ∷ []) v) = ap W e.0 in let k = answers_weight (c ∷ []) v in cell_pays old new x (Full v) made l (omega (arith, w, k)) e.1
  store_pays old new x v c (Deferred cs) made at l e =
      let w : W made ≡ W (answers (cs ++ c ∷ []) v) = ap W e.0 in let k = answers_weight (cs ++ c ∷ []) v in let n = length-append cs (c ∷ []) in
      let r : reader_count (old.cells x) ≡ length cs = ap reader_count at in
      cell_pays old new x (Full v) made l (omega (arith, w, k, n, r)) e.1
  store_pays old new x v c (Full u) made at l e = absurd e

  request_pays : (total : ℕ) (old new : Store) (c : Cont) (made : List Token) → Requests total old c made new
      → 1 + store_weight N new + W made ≤ store_weight N old + 2
  request_pays total old new c made (inl e) =
      let w : W made ≡ to_weight p (answer c (Word.Frame e.0)).to (Word.Frame e.0) + 0 = ap W e.3 in let k = back_few p c (Word.Frame e.0) in
      let s : store_weight N new ≡ store_weight N old = ap (store_weight N) e.4 in
      omega (arith, w, k, s)
  request_pays total old new c made (inr e) =
      let w : W made ≡ 0 = ap W e.1 in let n = length-append old.requests (c ∷ []) in
      let s : store_weight N new ≡ slots_weight N old + (cells_weight N old + length (old.requests ++ c ∷ [])) = ap (store_weight N) e.2 in
      omega (arith, w, n, s)

  release_pays : (old new : Store) (f : ℕ) (made : List Token) → Releases old f made new → 1 + store_weight N new + W made ≤ store_weight N old + 1
  release_pays old new f made (out, inl e) =
      let w : W made ≡ 0 = ap W e.1 in let s : store_weight N new ≡ store_weight N old = ap (store_weight N) e.2 in omega (arith, w, s)
  release_pays old new f made (out, inr (c, rest, moved, makes, is)) =
      let w : W made ≡ to_weight p (answer c (Word.Frame f)).to (Word.Frame f) + 0 = ap W makes in let k = back_few p c (Word.Frame f) in
      let n = length_permutation _ _ moved in
      let s : store_weight N new ≡ slots_weight N old + (cells_weight N old + length rest) = ap (store_weight N) is in
      omega (arith, w, k, n, s)

  host_pays : (r : ℕ) (old new : Store) (j : ℕ) (w : Word) (made : List Token) → Hosts r old j w made new
      → 1 + store_weight N new + W made ≤ store_weight N old + 1
  host_pays r old new j w made (inl e) =
      let w : W made ≡ 0 = ap W e.2.2 in let s : store_weight N new ≡ store_weight N old = ap (store_weight N) e.2.3 in omega (arith, w, s)
  host_pays r old new j w made (inr e) =
      let w : W made ≡ 0 = ap W e.2 in let s : store_weight N new ≡ store_weight N old = ap (store_weight N) e.3 in omega (arith, w, s)

  event_pays : (total : ℕ) (old new : Store) (to : To) (w : Word) (made : List Token) → IsBelow p N to → Happens p total old to w made new
      → 1 + store_weight N new + W made ≤ store_weight N old + (to_weight p to w + charge p to)
  event_pays total old new (To.Instr f ip q) w made b e = instr_pays total old new f ip q w made b.0 b.1 e
  event_pays total old new (To.Fetch x) (Word.Back c) made b e = let h = fetch_pays old new x c (old.cells x) made refl b e in omega (arith, h)
  event_pays total old new (To.Store x v) (Word.Back c) made b e = let h = store_pays old new x v c (old.cells x) made refl b e in omega (arith, h)
  event_pays total old new To.Manager (Word.Back c) made b e = let h = request_pays total old new c made e in omega (arith, h)
  event_pays total old new (To.Release f) w made b e = let h = release_pays old new f made e in omega (arith, h)
  event_pays total old new (To.Host j) w made b e = let h = host_pays (outputs_of p) old new j w made e in omega (arith, h)
  event_pays total old new to w made b e = absurd e

  abbrev pub machine_weight : Machine → ℕ
  machine_weight m = W m.pool + store_weight N m.store

  abbrev pub event_charge : ℕ × Token → ℕ
  event_charge ev = charge p ev.1.to

  pub run_pays : (z : Size) (old : Machine) (events : Events) (new : Machine) → Run p z old events new → All (λ (ev : ℕ × Token). IsBelow p N ev.1.to) events
      → length events + machine_weight new ≤ machine_weight old + tot event_charge events
  run_pays z old [] new r h =
      let a = tot_perm (weight p) old.pool new.pool r.0 in let s : store_weight N new.store ≡ store_weight N old.store = ap (store_weight N) r.1 in
      omega (arith, a, s)
  run_pays z old (ev ∷ events) new r h =
      let more = run_pays z r.0 events new r.2 (All-tail (λ (ev : ℕ × Token). IsBelow p N ev.1.to) ev events h) in
      let one = event_pays (z.elements * z.frames) old.store (r.0).store ev.1.to ev.1.word r.1.made
      (All-head (λ (ev : ℕ × Token). IsBelow p N ev.1.to) ev events h) r.1.happens in
      let a = tot_perm (weight p) old.pool (ev.1 ∷ r.1.rest) r.1.takes in
      let b = tot_perm (weight p) (r.0).pool (r.1.made ++ r.1.rest) r.1.leaves in
      let c = tot_append (weight p) r.1.made r.1.rest in
      omega (arith, more, one, a, b, c)
