-- Nothing names a frame that is not out: by induction on a run in which nothing else names a frame that is released.
use Rattle.std.proofs.Common.{◌≡◌, refl, sym, ap, ◌∙◌, subst, ℕ, suc, ◌+◌, ◌*◌, ◌⊎◌, inl, inr, Bool, true, false, true≢false, ℤ, List, [], ◌∷◌, ◌++◌, map}
use Rattle.std.proofs.Common.{Option, Some, None, IsPermutation, Contains, arith}
use Rattle.std.specs.Prelude.{◌==◌, if◌then◌else◌}
use Rattle.std.proofs.lemmas.Bool.{cases_eq, cases_Bool, eq-eqb}
use Rattle.std.proofs.lemmas.List.Elements.{Contains-append_cases, Contains-append_right}
use Rattle.std.proofs.lemmas.List.Sorted.{Contains-permutation, IsPermutation-refl, IsPermutation-sym}
use Rattle.lemmas.proofs.Contains.{contains_cases, contains_head, contains_none, contains_tail}
use Rattle.tags.specs.declared.value.Value.{Value}
use Rattle.tags.specs.declared.value.Value.TheVariants.{Int}
use Rattle.tags.specs.declared.token.Port.{Port}
use Rattle.tags.specs.declared.token.Port.TheVariants.{Left}
use Rattle.tags.specs.declared.token.Cont.{Cont}
use Rattle.tags.specs.declared.token.Word.{Word}
use Rattle.tags.specs.declared.token.To.{To}
use Rattle.tags.specs.declared.token.Token.{Token}
use Rattle.tags.specs.declared.slot.SlotState.{SlotState}
use Rattle.tags.specs.declared.slot.SlotState.TheVariants as Slot
use Rattle.tags.specs.declared.slot.SlotState.TheVariants.{Empty, Credits, Waiter, Draining}
use Rattle.semantics.specs.Program.{Instr, Program, first_of, instr_at}
use Rattle.semantics.specs.Rule.{token, back_to, Point, Becomes, outcome_of, rule_at, slot_of}
use Rattle.semantics.specs.Machine.{CellState, Vacant, Full, Deferred, Machine, Store, Size, Event, Events, Run, input_tokens, at_start, answer, answers}
use Rattle.semantics.specs.Machine.{put_at, with_cell, slot_in, slot_used, outputs_of, Fetches, Stores, Requests, Releases, Hosts, Happens}
use Rattle.semantics.specs.Orderly.{NamesCont, NamesWord, NamesTo, NamesSlot, readers_of, IsFreeOf, IsFreeAtRelease}
use Rattle.semantics.specs.Plan.{Plan}
use Rattle.semantics.specs.Renamed.{re_cont, re_word, re_to, re_token, re_slot}
use Rattle.law_reuse.proofs.FramesRenames.{re_point, re_outcome, outcome_re}
use Rattle.law_reuse.proofs.FramesFold.{put_same, put_other, ne_eqb}
use Rattle.law_reuse.proofs.FramesSnoc.{run_snoc}
use Rattle.law_reuse.proofs.BoundsTallies.{Counter, count_off}
use Rattle.law_reuse.proofs.Frames.{So, so_next, so_after, counted_next, fires_out, fires_cells, fetches_out, stores_out, hosts_out}
use Rattle.law_reuse.proofs.SlotsFillings.{Move, move_of, slot_cases}
use Rattle.law_reuse.proofs.SlotsHistory.{instr_found}

-- ---- AN INSTRUCTION NAMES WHAT IT IS GIVEN, AND NO OTHER FRAME: its rule is the same where frame F has another number.
module _ (F : ℕ) where
  abbrev k : ℕ → ℕ
  k = put_at (λ (x : ℕ). x) F (suc F)

  keep_f : (g : ℕ) → (g ≡ F → ⊥) → k g ≡ g
  keep_f g ne = put_other (λ (x : ℕ). x) F (suc F) g (λ e. ne (sym e))

  moved_f : (g : ℕ) → k g ≡ g → g ≡ F → ⊥
  moved_f g e is = let a : k g ≡ suc F = put_same (λ (x : ℕ). x) F (suc F) g (sym is) in omega (arith, a, e, is)

  keep_c : (c : Cont) → (NamesCont F c → ⊥) → re_cont k c ≡ c
  keep_c (Cont.Frame g ip p) ne = ap (λ (x : ℕ). Cont.Frame x ip p) (keep_f g ne)
  keep_c (Cont.Host j) ne = refl

  keep_w : (w : Word) → (NamesWord F w → ⊥) → re_word k w ≡ w
  keep_w (Word.Val v) ne = refl
  keep_w (Word.Frame g) ne = ap (λ (x : ℕ). Word.Frame x) (keep_f g ne)
  keep_w (Word.Back c) ne = ap (λ (c : Cont). Word.Back c) (keep_c c ne)

  keep_s : (s : SlotState) → (NamesSlot F s → ⊥) → re_slot k s ≡ s
  keep_s (Slot.Left w) ne = ap (λ (w : Word). Slot.Left w) (keep_w w ne)
  keep_s (Slot.Right w) ne = ap (λ (w : Word). Slot.Right w) (keep_w w ne)
  keep_s (Waiter c) ne = ap (λ (c : Cont). Waiter c) (keep_c c ne)
  keep_s Empty ne = refl
  keep_s (Credits n) ne = refl
  keep_s (Draining n) ne = refl

  frame_same : (x y ip : ℕ) (p : Port) → Cont.Frame x ip p ≡ Cont.Frame y ip p → x ≡ y
  frame_same x y ip p e = cc

  back_same : (c d : Cont) → Word.Back c ≡ Word.Back d → c ≡ d
  back_same c d e = cc

  fixed_c : (c : Cont) → re_cont k c ≡ c → NamesCont F c → ⊥
  fixed_c (Cont.Frame g ip p) e is = moved_f g (frame_same (k g) g ip p e) is
  fixed_c (Cont.Host j) e is = is

  fixed_w : (w : Word) → re_word k w ≡ w → NamesWord F w → ⊥
  fixed_w (Word.Val v) e is = is
  fixed_w (Word.Frame g) e is = moved_f g (same (k g) g e) is
    where
      same : (x y : ℕ) → Word.Frame x ≡ Word.Frame y → x ≡ y
      same x y e = cc
  fixed_w (Word.Back c) e is = fixed_c c (back_same (re_cont k c) c e) is

  fixed_to : (to : To) → re_to k to ≡ to → NamesTo F to → ⊥
  fixed_to (To.Instr g ip p) e is = moved_f g (same (k g) g e) is
    where
      same : (x y : ℕ) → To.Instr x ip p ≡ To.Instr y ip p → x ≡ y
      same x y e = cc
  fixed_to (To.Release g) e is = moved_f g (same (k g) g e) is
    where
      same : (x y : ℕ) → To.Release x ≡ To.Release y → x ≡ y
      same x y e = cc
  fixed_to (To.Fetch x) e is = is
  fixed_to (To.Store x v) e is = is
  fixed_to To.Manager e is = is
  fixed_to (To.Host j) e is = is

  fixed_s : (s : SlotState) → re_slot k s ≡ s → NamesSlot F s → ⊥
  fixed_s (Slot.Left w) e is = fixed_w w (same (re_word k w) w e) is
    where
      same : (x y : Word) → Slot.Left x ≡ Slot.Left y → x ≡ y
      same x y e = cc
  fixed_s (Slot.Right w) e is = fixed_w w (same (re_word k w) w e) is
    where
      same : (x y : Word) → Slot.Right x ≡ Slot.Right y → x ≡ y
      same x y e = cc
  fixed_s (Waiter c) e is = fixed_c c (same (re_cont k c) c e) is
    where
      same : (x y : Cont) → Waiter x ≡ Waiter y → x ≡ y
      same x y e = cc
  fixed_s Empty e is = is
  fixed_s (Credits n) e is = is
  fixed_s (Draining n) e is = is

  -- a token that does not name the frame
  abbrev pub Silent : Token → Type 0
  Silent t = (NamesTo F t.to → ⊥) × (NamesWord F t.word → ⊥)

  fixed_all : (ts : List Token) → map (re_token k) ts ≡ ts → (t : Token) → Contains ts t → Silent t
  fixed_all [] e t c = absurd (contains_none t c)
  fixed_all (x ∷ ts) e t c = go (contains_cases x ts t c) (λ c. fixed_all ts (tails (re_token k x) x (map (re_token k) ts) ts e) t c)
    where
      heads : (x y : Token) (xs ys : List Token) → x ∷ xs ≡ y ∷ ys → x ≡ y
      heads x y xs ys e = cc

      tails : (x y : Token) (xs ys : List Token) → x ∷ xs ≡ y ∷ ys → xs ≡ ys
      tails x y xs ys e = cc

      first : re_token k x ≡ x
      first = heads (re_token k x) x (map (re_token k) ts) ts e

      go : (x ≡ t) ⊎ Contains ts t → (Contains ts t → Silent t) → Silent t
      go (inl same) more = subst Silent same (fixed_to x.to (ap (λ (t : Token). t.to) first), fixed_w x.word (ap (λ (t : Token). t.word) first))
      go (inr c) more = more c

  becomes_same : (x y : SlotState) (a b : List Token) → Becomes x a ≡ Becomes y b → (x ≡ y) × (a ≡ b)
  becomes_same x y a b e = (cc, cc)

  outcome_silent : (p : Program) (s : Point) (i : Instr) (slot : SlotState) (q : Port) (w : Word) (v : SlotState) (made : List Token) → (s.frame ≡ F → ⊥)
      → (NamesSlot F slot → ⊥) → (NamesWord F w → ⊥)
      → outcome_of p s i i.op slot q w ≡ Becomes v made → (NamesSlot F v → ⊥) × ((t : Token) → Contains made t → Silent t)
  outcome_silent p s i slot q w v made ne_f ne_s ne_w e =
      let point : re_point k s ≡ s = (λ j. record { frame = keep_f s.frame ne_f j; ip = s.ip }) in
      let same : outcome_of p (re_point k s) i i.op (re_slot k slot) q (re_word k w) ≡ outcome_of p s i i.op slot q w =
      (λ j. outcome_of p (point j) i i.op (keep_s slot ne_s j) q (keep_w w ne_w j)) in
      let both = becomes_same (re_slot k v) v (map (re_token k) made) made (sym (ap (re_outcome k) e) ∙ sym (outcome_re k p s i i.op slot q w) ∙ same ∙ e) in
      (fixed_s v both.0, fixed_all made both.1)

  -- ---- EVENTS

  pub record Spared (s : Store) : Type 0 where
    pub readers : (x : ℕ) (c : Cont) → Contains (readers_of (s.cells x)) c → NamesCont F c → ⊥
    pub requests : (c : Cont) → Contains s.requests c → NamesCont F c → ⊥
    pub words : (g r : ℕ) → NamesSlot F (s.slots g r) → ⊥
    pub slots : (r : ℕ) → s.slots F r ≡ Empty

  abbrev pub AllSilent : List Token → Type 0
  AllSilent ts = (t : Token) → Contains ts t → Silent t

  back_silent : (c : Cont) → (NamesCont F c → ⊥) → NamesTo F (back_to c) → ⊥
  back_silent (Cont.Frame g ip p) ne is = ne is
  back_silent (Cont.Host j) ne is = is

  none_silent : AllSilent []
  none_silent t c = absurd (contains_none t c)

  one_silent : (t : Token) → Silent t → AllSilent (t ∷ [])
  one_silent t s u c = go (contains_cases t [] u c)
    where
      go : (t ≡ u) ⊎ Contains [] u → Silent u
      go (inl e) = subst Silent e s
      go (inr n) = absurd (contains_none u n)

  answers_silent : (cs : List Cont) (v : Value) → ((c : Cont) → Contains cs c → NamesCont F c → ⊥) → AllSilent (answers cs v)
  answers_silent [] v ne t inside = none_silent t inside
  answers_silent (c ∷ cs) v ne t inside =
      go (contains_cases (answer c (Word.Val v)) (answers cs v) t inside) (λ inside. answers_silent cs v (λ d here. ne d (contains_tail c cs d here)) t inside)
    where
      go : (answer c (Word.Val v) ≡ t) ⊎ Contains (answers cs v) t → (Contains (answers cs v) t → Silent t) → Silent t
      go (inl e) more = subst Silent e (back_silent c (ne c (contains_head c cs)), λ is. is)
      go (inr n) more = more n

  last_silent : (cs : List Cont) (c : Cont) → ((d : Cont) → Contains cs d → NamesCont F d → ⊥) → (NamesCont F c → ⊥) → (d : Cont) → Contains (cs ++ c ∷ []) d
      → NamesCont F d → ⊥
  last_silent cs c all ne d inside = go (Contains-append_cases cs (c ∷ []) d inside)
    where
      one : (c ≡ d) ⊎ Contains [] d → NamesCont F d → ⊥
      one (inl e) = subst (λ (c : Cont). NamesCont F c → ⊥) e ne
      one (inr n) = absurd (contains_none d n)

      go : Contains cs d ⊎ Contains (c ∷ []) d → NamesCont F d → ⊥
      go (inl here) = all d here
      go (inr here) = one (contains_cases c [] d here)

  cell_spared : (s : Store) (x : ℕ) (y : CellState) → Spared s → ((c : Cont) → Contains (readers_of y) c → NamesCont F c → ⊥) → Spared (with_cell s x y)
  cell_spared s x y S ne = record { readers = λ z c. readers z c (cases_eq x z); requests = S.requests; words = S.words; slots = S.slots }
    where
      readers : (z : ℕ) (c : Cont) → (x ≡ z) ⊎ (x ≡ z → ⊥) → Contains (readers_of (put_at s.cells x y z)) c → NamesCont F c → ⊥
      readers z c (inl e) inside = ne c (subst (λ (v : CellState). Contains (readers_of v) c) (put_same s.cells x y z e) inside)
      readers z c (inr d) inside = S.readers z c (subst (λ (v : CellState). Contains (readers_of v) c) (put_other s.cells x y z d) inside)

  abbrev Leaves : List Token → Store → Type 0
  Leaves made new = Spared new × AllSilent made

  fetch_leaves : (m new : Store) (x : ℕ) (c : Cont) (y : CellState) (made : List Token) → m.cells x ≡ y → Spared m → (NamesCont F c → ⊥)
      → Fetches m x c y made new → Leaves made new
  fetch_leaves m new x c Vacant made at S ne e = (
    subst Spared (sym e.1) (cell_spared m x (Deferred (c ∷ [])) S (last_silent [] c (λ d n. absurd (contains_none d n)) ne)),
    subst AllSilent (sym e.0) none_silent,
  )
  fetch_leaves m new x c (Deferred cs) made at S ne e = (
    subst Spared (sym e.1) (cell_spared m x (Deferred (cs ++ c ∷ [])) S
        (last_silent cs c (λ d n. S.readers x d (subst (λ (v : CellState). Contains (readers_of v) d) (sym at) n)) ne)),
    subst AllSilent (sym e.0) none_silent,
  )
  fetch_leaves m new x c (Full v) made at S ne e =
      (subst Spared (sym e.1) S, subst AllSilent (sym e.0) (one_silent (answer c (Word.Val v)) (back_silent c ne, λ is. is)))

  store_leaves : (m new : Store) (x : ℕ) (v : Value) (c : Cont) (y : CellState) (made : List Token) → m.cells x ≡ y → Spared m → (NamesCont F c → ⊥)
      → Stores m x v c y made new → Leaves made new
  store_leaves m new x v c Vacant made at S ne e = (
    subst Spared (sym e.1) (cell_spared m x (Full v) S (λ d n. absurd (contains_none d n))),
    subst AllSilent (sym e.0) (one_silent (answer c (Word.Val v)) (back_silent c ne, λ is. is)),
  )
  store_leaves m new x v c (Deferred cs) made at S ne e = (
    subst Spared (sym e.1) (cell_spared m x (Full v) S (λ d n. absurd (contains_none d n))),
    subst AllSilent (sym e.0) (answers_silent (cs ++ c ∷ []) v
        (last_silent cs c (λ d n. S.readers x d (subst (λ (v : CellState). Contains (readers_of v) d) (sym at) n)) ne)),
  )
  store_leaves m new x v c (Full w) made at S ne e = absurd e

  same_spared : (m new : Store) → new.cells ≡ m.cells → new.requests ≡ m.requests → new.slots ≡ m.slots → Spared m → Spared new
  same_spared m new c r s S = record {
    readers = λ x d inside. S.readers x d (subst (λ (f : ℕ → CellState). Contains (readers_of (f x)) d) c inside);
    requests = λ d inside. S.requests d (subst (λ (l : List Cont). Contains l d) r inside);
    words = λ g q names. S.words g q (subst (λ (f : ℕ → ℕ → SlotState). NamesSlot F (f g q)) s names);
    slots = λ q. ap (λ (f : ℕ → ℕ → SlotState). f F q) s ∙ S.slots q;
  }

  request_leaves : (total : ℕ) (m new : Store) (c : Cont) (made : List Token) → Spared m → new.out F ≡ false → (NamesCont F c → ⊥) → Requests total m c made new
      → Leaves made new
  request_leaves total m new c made S free ne (inl (f, below, was, makes, is)) = (
    same_spared m new (ap (λ (s : Store). s.cells) is) (ap (λ (s : Store). s.requests) is) (ap (λ (s : Store). s.slots) is) S,
    subst AllSilent (sym makes) (one_silent (answer c (Word.Frame f)) (back_silent c ne, other)),
  )
    where
      other : f ≡ F → ⊥
      other e = true≢false (sym (ap (λ (s : Store). s.out F) is ∙ put_same m.out f true F e) ∙ free)
  request_leaves total m new c made S free ne (inr (all, makes, is)) =
      let same : Spared (record { slots = m.slots; cells = m.cells; out = m.out; requests = m.requests ++ c ∷ []; outputs = m.outputs; done = m.done }) =
      record { readers = S.readers; requests = last_silent m.requests c S.requests ne; words = S.words; slots = S.slots } in
      (subst Spared (sym is) same, subst AllSilent (sym makes) none_silent)

  release_leaves : (m new : Store) (f : ℕ) (made : List Token) → Spared m → (f ≡ F → ⊥) → Releases m f made new → Leaves made new
  release_leaves m new f made S ne (out, inl (idle, makes, is)) = (
    same_spared m new (ap (λ (s : Store). s.cells) is) (ap (λ (s : Store). s.requests) is) (ap (λ (s : Store). s.slots) is) S,
    subst AllSilent (sym makes) none_silent,
  )
  release_leaves m new f made S ne (out, inr (c, rest, moved, makes, is)) =
      let among : (d : Cont) → Contains (c ∷ rest) d → NamesCont F d
      → ⊥ = (λ d inside. S.requests d (Contains-permutation _ _ d (IsPermutation-sym _ _ moved) inside)) in
      let same : Spared (record { slots = m.slots; cells = m.cells; out = m.out; requests = rest; outputs = m.outputs; done = m.done }) =
      record { readers = S.readers; requests = λ d inside. among d (contains_tail c rest d inside); words = S.words; slots = S.slots } in
      (subst Spared (sym is) same, subst AllSilent (sym makes) (one_silent (answer c (Word.Frame f)) (back_silent c (among c (contains_head c rest)), ne)))

  host_leaves : (r : ℕ) (m new : Store) (j : ℕ) (w : Word) (made : List Token) → Spared m → Hosts r m j w made new → Leaves made new
  host_leaves r m new j w made S (inl e) = (
    same_spared m new (ap (λ (s : Store). s.cells) e.2.3) (ap (λ (s : Store). s.requests) e.2.3) (ap (λ (s : Store). s.slots) e.2.3) S,
    subst AllSilent (sym e.2.2) none_silent,
  )
  host_leaves r m new j w made S (inr e) = (
    same_spared m new (ap (λ (s : Store). s.cells) e.3) (ap (λ (s : Store). s.requests) e.3) (ap (λ (s : Store). s.slots) e.3) S,
    subst AllSilent (sym e.2) none_silent,
  )

  slot_silent : (m : Store) (g : ℕ) (o : Option ℕ) → Spared m → NamesSlot F (slot_in m g o) → ⊥
  slot_silent m g None S is = is
  slot_silent m g (Some r) S is = S.words g r is

  instr_leaves : (p : Program) (total : ℕ) (m new : Store) (g ip : ℕ) (q : Port) (w : Word) (made : List Token) → Spared m → (g ≡ F → ⊥) → (NamesWord F w → ⊥)
      → new.cells ≡ m.cells → new.requests ≡ m.requests → Happens p total m (To.Instr g ip q) w made new → Leaves made new
  instr_leaves p total m new g ip q w made S ne ne_w cells requests happens =
      let at = instr_found p total g ip q w made m new happens in
      let M : Move p g at.1.b at.1.n q w at.0 made m new =
      move_of p total g at.1.b at.1.n q w at.0 made m new at.1.stands (subst (λ (ip : ℕ). Happens p total m (To.Instr g ip q) w made new) at.1.place happens) in
      let silent = outcome_silent p record { frame = g; ip = first_of p at.1.b + at.1.n } at.0 (slot_in m g (slot_of at.0 at.0.op)) q w M.v made ne
      (slot_silent m g (slot_of at.0 at.0.op) S) ne_w M.becomes in (
        record {
          readers = λ x d inside. S.readers x d (subst (λ (f : ℕ → CellState). Contains (readers_of (f x)) d) cells inside);
          requests = λ d inside. S.requests d (subst (λ (l : List Cont). Contains l d) requests inside);
          words = λ x r. words x r M.v silent.0 (slot_cases p g at.1.b at.1.n q w at.0 made m new M x r);
          slots = λ r. empty r M.v (slot_cases p g at.1.b at.1.n q w at.0 made m new M F r);
        },
        silent.1,
      )
    where
      words : (x r : ℕ) (v : SlotState) {A B : Type 0} → (NamesSlot F v → ⊥) → (new.slots x r ≡ m.slots x r) ⊎ ((g ≡ x) × A × B × (new.slots x r ≡ v))
          → NamesSlot F (new.slots x r) → ⊥
      words x r v ne (inl same) is = S.words x r (subst (NamesSlot F) same is)
      words x r v ne (inr d) is = ne (subst (NamesSlot F) d.3 is)

      empty : (r : ℕ) (v : SlotState) {A B : Type 0} → (new.slots F r ≡ m.slots F r) ⊎ ((g ≡ F) × A × B × (new.slots F r ≡ v)) → new.slots F r ≡ Empty
      empty r v (inl same) = same ∙ S.slots r
      empty r v (inr d) = absurd (ne d.0)

  -- any event whose token does not name the frame
  event_leaves : (p : Program) (total : ℕ) (m new : Store) (to : To) (w : Word) (made : List Token) → Spared m → new.out F ≡ false → (NamesTo F to → ⊥)
      → (NamesWord F w → ⊥) → Happens p total m to w made new → Leaves made new
  event_leaves p total m new (To.Instr g ip q) w made S free ne ne_w e =
      let same = fires_out m new g (slot_used (instr_at p ip))
      (rule_at p record { frame = g; ip = ip } (instr_at p ip) (slot_in m g (slot_used (instr_at p ip))) q w) made e in
      instr_leaves p total m new g ip q w made S ne ne_w
      (fires_cells m new g (slot_used (instr_at p ip))
      (rule_at p record { frame = g; ip = ip } (instr_at p ip) (slot_in m g (slot_used (instr_at p ip))) q w) made e) same.1 e
  event_leaves p total m new (To.Fetch x) (Word.Back c) made S free ne ne_w e = fetch_leaves m new x c (m.cells x) made refl S ne_w e
  event_leaves p total m new (To.Store x v) (Word.Back c) made S free ne ne_w e = store_leaves m new x v c (m.cells x) made refl S ne_w e
  event_leaves p total m new To.Manager (Word.Back c) made S free ne ne_w e = request_leaves total m new c made S free ne_w e
  event_leaves p total m new (To.Release g) w made S free ne ne_w e = release_leaves m new g made S ne e
  event_leaves p total m new (To.Host j) w made S free ne ne_w e = host_leaves (outputs_of p) m new j w made S e
  event_leaves p total m new to w made S free ne ne_w e = absurd e

-- ---- A RUN

-- of the frames that are not out: nothing names them, and nothing was counted there
pub record Known (m : Machine) (so : So) : Type 0 where
  pub free : (F : ℕ) → m.store.out F ≡ false → IsFreeOf F m.pool m
  pub zero : (x : Counter) (F : ℕ) → m.store.out F ≡ false → so.counted x F ≡ 0

module _ (P : Plan) (p : Program) where
  -- a frame that was out is not, only by its release
  out_kept : (total F : ℕ) (m new : Store) (to : To) (w : Word) (made : List Token) → m.out F ≡ true → new.out F ≡ false → Happens p total m to w made new
      → (to ≡ To.Release F) × (made ≡ []) × (new
      ≡ record { slots = m.slots; cells = m.cells; out = put_at m.out F false; requests = m.requests; outputs = m.outputs; done = m.done })
  out_kept total F m new (To.Instr g ip q) w made is free e =
      let same = fires_out m new g (slot_used (instr_at p ip))
      (rule_at p record { frame = g; ip = ip } (instr_at p ip) (slot_in m g (slot_used (instr_at p ip))) q w) made e in
      absurd (true≢false (sym is ∙ ap (λ (o : ℕ → Bool). o F) (sym same.0) ∙ free))
  out_kept total F m new (To.Fetch x) (Word.Back c) made is free e =
      let same = fetches_out m new x c (m.cells x) made e in absurd (true≢false (sym is ∙ ap (λ (o : ℕ → Bool). o F) (sym same.0) ∙ free))
  out_kept total F m new (To.Store x v) (Word.Back c) made is free e =
      let same = stores_out m new x v c (m.cells x) made e in absurd (true≢false (sym is ∙ ap (λ (o : ℕ → Bool). o F) (sym same.0) ∙ free))
  out_kept total F m new (To.Host j) w made is free e =
      let same = hosts_out (outputs_of p) m new j w made e in absurd (true≢false (sym is ∙ ap (λ (o : ℕ → Bool). o F) (sym same.0) ∙ free))
  out_kept total F m new To.Manager (Word.Back c) made is free (inl e) = absurd (true≢false (sym (stays (cases_eq e.0 F)) ∙ free))
    where
      stays : (e.0 ≡ F) ⊎ (e.0 ≡ F → ⊥) → new.out F ≡ true
      stays (inl d) = ap (λ (s : Store). s.out F) e.4 ∙ put_same m.out e.0 true F d
      stays (inr d) = ap (λ (s : Store). s.out F) e.4 ∙ put_other m.out e.0 true F d ∙ is
  out_kept total F m new To.Manager (Word.Back c) made is free (inr e) = absurd (true≢false (sym is ∙ sym (ap (λ (s : Store). s.out F) e.2) ∙ free))
  out_kept total F m new (To.Release g) w made is free (out, inr e) = absurd (true≢false (sym is ∙ sym (ap (λ (s : Store). s.out F) e.4) ∙ free))
  out_kept total F m new (To.Release g) w made is free (out, inl e) = go (cases_eq g F)
    where
      go : (g ≡ F) ⊎ (g ≡ F → ⊥) → (To.Release g ≡ To.Release F) × (made ≡ [])
          × (new ≡ record { slots = m.slots; cells = m.cells; out = put_at m.out F false; requests = m.requests; outputs = m.outputs; done = m.done })
      go (inl d) = (
        ap (λ (x : ℕ). To.Release x) d,
        e.1,
        e.2 ∙ ap (λ (x : ℕ). record { slots = m.slots; cells = m.cells; out = put_at m.out x false; requests = m.requests; outputs = m.outputs; done = m.done })
            d,
      )
      go (inr d) = absurd (true≢false (sym is ∙ sym (ap (λ (s : Store). s.out F) e.2 ∙ put_other m.out g false F d) ∙ free))
  out_kept total F m new to w made is free e = absurd e

  known_next : (z : Size) (m c : Machine) (e : ℕ) (t : Token) (so : So) → Known m so → IsFreeAtRelease m → (ev : Event p z e t m c)
      → Known c (so_next P p so m.store t.to ev.made c.store)
  known_next z m c e t so K frees ev =
      record { free = λ F out. free F out (cases_Bool (m.store.out F)); zero = λ x F out. zero x F out (cases_Bool (m.store.out F)) }
    where
      total : ℕ
      total = z.elements * z.frames

      here : Contains m.pool t
      here = Contains-permutation _ _ t (IsPermutation-sym _ _ ev.takes) (contains_head t ev.rest)

      leaves : (F : ℕ) → c.store.out F ≡ false → m.store.out F ≡ false → Spared F c.store × ((t : Token) → Contains ev.made t → Silent F t)
      leaves F out was =
          let S = K.free F was in
          let s = S.tokens t here in
          event_leaves F p (z.elements * z.frames) m.store c.store t.to t.word
          ev.made record { readers = S.readers; requests = S.requests; words = S.words; slots = S.slots } out s.0 s.1 ev.happens

      pool : (F : ℕ) (u : Token) → m.store.out F ≡ false → ((t : Token) → Contains ev.made t → Silent F t) → Contains ev.made u ⊎ Contains ev.rest u
          → Silent F u
      pool F u was made (inl inside) = made u inside
      pool F u was made (inr inside) =
          (K.free F was).tokens u (Contains-permutation _ _ u (IsPermutation-sym _ _ ev.takes) (Contains-append_right (t ∷ []) ev.rest u inside))

      free : (F : ℕ) → c.store.out F ≡ false → (m.store.out F ≡ true) ⊎ (m.store.out F ≡ false) → IsFreeOf F c.pool c
      free F out (inr was) =
          let l = leaves F out was in
          record {
            tokens = λ u inside. pool F u was l.1 (Contains-append_cases ev.made ev.rest u (Contains-permutation _ _ u ev.leaves inside));
            readers = l.0.readers;
            requests = l.0.requests;
            words = l.0.words;
            slots = l.0.slots;
          }
      free F out (inl was) =
          let r = out_kept (z.elements * z.frames) F m.store c.store t.to t.word ev.made was out ev.happens in
          let S = (frees F t.word ev.rest (subst (λ (x : To). IsPermutation m.pool (token x t.word ∷ ev.rest)) r.0 ev.takes) was).1 in
          record {
            tokens = λ u inside. S.tokens u (subst (λ (l : List Token). Contains (l ++ ev.rest) u) r.1 (Contains-permutation _ _ u ev.leaves inside));
            readers = λ x d inside. S.readers x d (subst (λ (s : Store). Contains (readers_of (s.cells x)) d) r.2 inside);
            requests = λ d inside. S.requests d (subst (λ (s : Store). Contains s.requests d) r.2 inside);
            words = λ g q names. S.words g q (subst (λ (s : Store). NamesSlot F (s.slots g q)) r.2 names);
            slots = λ q. ap (λ (s : Store). s.slots F q) r.2 ∙ S.slots q;
          }

      zero : (x : Counter) (F : ℕ) → c.store.out F ≡ false → (m.store.out F ≡ true) ⊎ (m.store.out F ≡ false)
          → counted_next P p so.counted m.store t.to ev.made x F ≡ 0
      zero x F out (inl was) =
          let r = out_kept (z.elements * z.frames) F m.store c.store t.to t.word ev.made was out ev.happens in
          ap (λ (to : To). counted_next P p so.counted m.store to ev.made x F) r.0 ∙ ap (λ (b : Bool). if b then 0 else so.counted x F) (eq-eqb F F refl)
      zero x F out (inr was) =
          let l = leaves F out was in
          let s = (K.free F was).tokens t here in
          go t.to s.0 (λ u inside. (l.1 u inside).0)
        where
          sum : (a b : ℕ) → a ≡ 0 → b ≡ 0 → a + b ≡ 0
          sum a b p q = omega (arith, p, q)

          go : (to : To) → (NamesTo F to → ⊥) → ((u : Token) → Contains ev.made u → NamesTo F u.to → ⊥) → counted_next P p so.counted m.store to ev.made x F ≡ 0
          go (To.Release g) ne made = ap (λ (b : Bool). if b then 0 else so.counted x F) (ne_eqb g F ne) ∙ K.zero x F was
          go (To.Instr g ip q) ne made = sum _ _ (K.zero x F was) (count_off P p x F m.store (To.Instr g ip q) ev.made ne made)
          go (To.Fetch y) ne made = sum _ _ (K.zero x F was) (count_off P p x F m.store (To.Fetch y) ev.made ne made)
          go (To.Store y v) ne made = sum _ _ (K.zero x F was) (count_off P p x F m.store (To.Store y v) ev.made ne made)
          go To.Manager ne made = sum _ _ (K.zero x F was) (count_off P p x F m.store To.Manager ev.made ne made)
          go (To.Host j) ne made = sum _ _ (K.zero x F was) (count_off P p x F m.store (To.Host j) ev.made ne made)

  known_start : (inputs : List ℤ) (so : So) → ((x : Counter) (F : ℕ) → so.counted x F ≡ 0) → Known (at_start p inputs) so
  known_start inputs so none = record {
    free = λ F out. record {
      tokens =
          λ t inside. go F out t (contains_cases (token (To.Instr 0 (first_of p p.main) Left) (Word.Back (Cont.Host 0)))
          (input_tokens (first_of p p.main + 1) inputs) t inside);
      readers = λ x c inside. absurd (contains_none c inside);
      requests = λ c inside. absurd (contains_none c inside);
      words = λ g r is. is;
      slots = λ r. refl;
    };
    zero = λ x F out. none x F;
  }
    where
      other : (F : ℕ) → (F == 0) ≡ false → 0 ≡ F → ⊥
      other F out e = true≢false (sym (eq-eqb F 0 (sym e)) ∙ out)

      values : (F ip : ℕ) (xs : List ℤ) → (F == 0) ≡ false → (t : Token) → Contains (input_tokens ip xs) t → Silent F t
      values F ip [] out t inside = absurd (contains_none t inside)
      values F ip (x ∷ xs) out t inside =
          pick (contains_cases (token (To.Instr 0 ip Left) (Word.Val (Int x))) (input_tokens (ip + 1) xs) t inside)
          (λ inside. values F (ip + 1) xs out t inside)
        where
          pick : (token (To.Instr 0 ip Left) (Word.Val (Int x)) ≡ t) ⊎ Contains (input_tokens (ip + 1) xs) t
              → (Contains (input_tokens (ip + 1) xs) t → Silent F t) → Silent F t
          pick (inl e) more = subst (Silent F) e (other F out, λ is. is)
          pick (inr n) more = more n

      go : (F : ℕ) → (F == 0) ≡ false → (t : Token)
          → (token (To.Instr 0 (first_of p p.main) Left) (Word.Back (Cont.Host 0)) ≡ t) ⊎ Contains (input_tokens (first_of p p.main + 1) inputs) t → Silent F t
      go F out t (inl e) = subst (Silent F) e (other F out, λ is. is)
      go F out t (inr n) = values F (first_of p p.main + 1) inputs out t n

  -- in runs where nothing else names a frame that is released
  known_run : (z : Size) (inputs : List ℤ) → ((events : Events) (m : Machine) → Run p z (at_start p inputs) events m → IsFreeAtRelease m)
      → (later done : Events) (m c : Machine) (so : So) → Known m so → Run p z (at_start p inputs) done m → (r : Run p z m later c)
      → Known c (so_after P p so z m later c r)
  known_run z inputs frees [] done m c so K before r = record {
    free = λ F out.
        (let S = K.free F (ap (λ (s : Store). s.out F) (sym r.1) ∙ out) in
        record {
          tokens = λ t inside. S.tokens t (Contains-permutation _ _ t (IsPermutation-sym _ _ r.0) inside);
          readers = λ x d inside. S.readers x d (subst (λ (s : Store). Contains (readers_of (s.cells x)) d) r.1 inside);
          requests = λ d inside. S.requests d (subst (λ (s : Store). Contains s.requests d) r.1 inside);
          words = λ g q names. S.words g q (subst (λ (s : Store). NamesSlot F (s.slots g q)) r.1 names);
          slots = λ q. ap (λ (s : Store). s.slots F q) r.1 ∙ S.slots q;
        });
    zero = λ x F out. K.zero x F (ap (λ (s : Store). s.out F) (sym r.1) ∙ out);
  }
  known_run z inputs frees (x ∷ later) done m c so K before r =
      known_run z inputs frees later (done ++ (x.0, x.1) ∷ []) r.0 c (so_next P p so m.store x.1.to r.1.made r.0.store)
      (known_next z m r.0 x.0 x.1 so K (frees done m before) r.1)
      (run_snoc p z (at_start p inputs) m r.0 done x.0 x.1 before r.1) r.2

  pub known : (z : Size) (inputs : List ℤ) → ((events : Events) (m : Machine) → Run p z (at_start p inputs) events m → IsFreeAtRelease m)
      → (events : Events) (m : Machine) (so : So) → ((x : Counter) (F : ℕ) → so.counted x F ≡ 0) → (r : Run p z (at_start p inputs) events m)
      → Known m (so_after P p so z (at_start p inputs) events m r)
  known z inputs frees events m so none r =
      known_run z inputs frees events [] (at_start p inputs) m so (known_start inputs so none) (IsPermutation-refl _, refl) r
