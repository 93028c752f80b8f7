-- A run in which frames are used again, and one in which each is used once, where frame g is h g: an event of the one is
-- an event of the other.
use Rattle.std.proofs.Common.{◌≡◌, refl, sym, ap, ◌∙◌, subst, ℕ, ◌<◌, ◌⊎◌, inl, inr, ⊎_elim, Bool, true, false, List, [], ◌∷◌, ◌++◌, map, Option, Some, None}
use Rattle.std.specs.Prelude.{if◌then◌else◌, ◌==◌}
use Rattle.std.proofs.lemmas.Bool.{cases_eq, eq-eqb, eqb-true}
use Rattle.lemmas.proofs.Lists.{map_append}
use Rattle.tags.specs.declared.value.Value.{Value}
use Rattle.tags.specs.declared.token.Port.{Port}
use Rattle.tags.specs.declared.token.Cont.{Cont}
use Rattle.tags.specs.declared.token.Word.{Word}
use Rattle.tags.specs.declared.token.To.{To}
use Rattle.tags.specs.declared.token.Token.{Token}
use Rattle.tags.specs.declared.slot.SlotState.{SlotState}
use Rattle.tags.specs.declared.slot.SlotState.TheVariants.{Empty}
use Rattle.semantics.specs.Program.{Instr, Program, instr_at}
use Rattle.semantics.specs.Rule.{token, Outcome, Becomes, Excluded, rule_at}
use Rattle.semantics.specs.Machine.{CellState, Vacant, Full, Deferred, Store, put_at, with_slot, with_cell, with_out, with_requests, with_output, with_done}
use Rattle.semantics.specs.Machine.{answer, slot_in, with_slot_in, slot_used, Fires, Fetches, answers, Stores, Requests, Happens}
use Rattle.semantics.specs.Renamed.{re_cont, re_word, re_to, re_token, re_slot, re_cell}
use Rattle.law_reuse.proofs.FramesRenames.{re_outcome, back_to_re, rule_re}

abbrev pub Injective : (ℕ → ℕ) → Type 0
Injective h = (x y : ℕ) → h x ≡ h y → x ≡ y

-- ---- changes at one place

pub ne_eqb : (x y : ℕ) → (x ≡ y → ⊥) → (x == y) ≡ false
ne_eqb x y ne = go (x == y) refl
  where
    go : (b : Bool) → (x == y) ≡ b → (x == y) ≡ false
    go true e = absurd (ne (eqb-true x y e))
    go false e = e

pub put_same : {A : Type 0} (f : ℕ → A) (x : ℕ) (a : A) (y : ℕ) → x ≡ y → put_at f x a y ≡ a
put_same f x a y e = ap (λ (b : Bool). if b then a else f y) (eq-eqb x y e)

pub put_other : {A : Type 0} (f : ℕ → A) (x : ℕ) (a : A) (y : ℕ) → (x ≡ y → ⊥) → put_at f x a y ≡ f y
put_other f x a y ne = ap (λ (b : Bool). if b then a else f y) (ne_eqb x y ne)

pub eq_under : (h : ℕ → ℕ) → Injective h → (x y : ℕ) → (h x == h y) ≡ (x == y)
eq_under h inj x y =
    ⊎_elim (λ e. eq-eqb (h x) (h y) (ap h e) ∙ sym (eq-eqb x y e)) (λ ne. ne_eqb (h x) (h y) (λ e. ne (inj x y e)) ∙ sym (ne_eqb x y ne)) (cases_eq x y)

if_both : {A B : Type 0} (φ : A → B) (b c : Bool) (u v : B) (x y : A) → b ≡ c → u ≡ φ x → v ≡ φ y → (if b then u else v) ≡ φ (if c then x else y)
if_both φ b true u v x y e p q = ap (λ (b : Bool). if b then u else v) e ∙ p
if_both φ b false u v x y e p q = ap (λ (b : Bool). if b then u else v) e ∙ q

if_at : {A : Type 0} (b : Bool) (u v : ℕ → A) (r : ℕ) → (if b then u else v) r ≡ (if b then u r else v r)
if_at true u v r = refl
if_at false u v r = refl

-- ---- the two states

pub record Fold (t : ℕ) (h : ℕ → ℕ) (m u : Store) : Type 0 where
  pub slots : (g r : ℕ) → u.slots (h g) r ≡ re_slot h (m.slots g r)
  pub cells : (x : ℕ) → u.cells x ≡ re_cell h (m.cells x)
  pub out : (g : ℕ) → u.out (h g) ≡ m.out g
  pub none_waits : u.requests ≡ []
  pub outputs : u.outputs ≡ m.outputs
  pub done : u.done ≡ m.done
  -- any other frame is empty and not out
  pub others : (f : ℕ) → (((r : ℕ) → u.slots f r ≡ Empty) × (u.out f ≡ false)) ⊎ ((g : ℕ) × (f ≡ h g))
  pub within : (g : ℕ) → m.out g ≡ true → g < t

-- an event of the one is an event of the other
abbrev pub Follows : (p : Program) (t tu : ℕ) (h : ℕ → ℕ) (u : Store) (to : To) (w : Word) (made : List Token) (new : Store) → Type 0
Follows p t tu h u to w made new = (after : Store) × Happens p tu u (re_to h to) (re_word h w) (map (re_token h) made) after × Fold t h new after

-- what is the same except for requests and how `out` is written
pub fold_same : (t : ℕ) (h : ℕ → ℕ) (m n u : Store) → n.slots ≡ m.slots → n.cells ≡ m.cells → ((g : ℕ) → n.out g ≡ m.out g) → n.outputs ≡ m.outputs
    → n.done ≡ m.done → Fold t h m u → Fold t h n u
fold_same t h m n u es ec eo ej ed F = record {
  slots = λ g r. F.slots g r ∙ ap (λ (s : ℕ → ℕ → SlotState). re_slot h (s g r)) (sym es);
  cells = λ x. F.cells x ∙ ap (λ (s : ℕ → CellState). re_cell h (s x)) (sym ec);
  out = λ g. F.out g ∙ sym (eo g);
  none_waits = F.none_waits;
  outputs = F.outputs ∙ sym ej;
  done = F.done ∙ sym ed;
  others = F.others;
  within = λ g e. F.within g (sym (eo g) ∙ e);
}

slot_fold : (t : ℕ) (h : ℕ → ℕ) → Injective h → (m u : Store) (f r : ℕ) (s : SlotState) → Fold t h m u
    → Fold t h (with_slot m f r s) (with_slot u (h f) r (re_slot h s))
slot_fold t h inj m u f r s F = record {
  slots = λ g q. if_at (h f == h g) (put_at (u.slots (h f)) r (re_slot h s)) (u.slots (h g)) q
      ∙ if_both (re_slot h) (h f == h g) (f == g) (put_at (u.slots (h f)) r (re_slot h s) q) (u.slots (h g) q) (put_at (m.slots f) r s q) (m.slots g q)
      (eq_under h inj f g)
      (if_both (re_slot h) (r == q) (r == q) (re_slot h s) (u.slots (h f) q) s (m.slots f q) refl refl (F.slots f q)) (F.slots g q)
      ∙ ap (re_slot h) (sym (if_at (f == g) (put_at (m.slots f) r s) (m.slots g) q));
  cells = F.cells;
  out = F.out;
  none_waits = F.none_waits;
  outputs = F.outputs;
  done = F.done;
  others = λ k. other k (cases_eq (h f) k) (F.others k);
  within = F.within;
}
  where
    new : ℕ → ℕ → SlotState
    new = put_at u.slots (h f) (put_at (u.slots (h f)) r (re_slot h s))

    other : (k : ℕ) → ((h f ≡ k) ⊎ (h f ≡ k → ⊥)) → (((q : ℕ) → u.slots k q ≡ Empty) × (u.out k ≡ false)) ⊎ ((g : ℕ) × (k ≡ h g))
        → (((q : ℕ) → put_at u.slots (h f) (put_at (u.slots (h f)) r (re_slot h s)) k q ≡ Empty) × (u.out k ≡ false)) ⊎ ((g : ℕ) × (k ≡ h g))
    other k (inl e) o = inr (f, sym e)
    other k (inr ne) (inl o) = inl (λ q. ap (λ (z : ℕ → SlotState). z q) (put_other u.slots (h f) (put_at (u.slots (h f)) r (re_slot h s)) k ne) ∙ o.0 q, o.1)
    other k (inr ne) (inr o) = inr o

cell_fold : (t : ℕ) (h : ℕ → ℕ) (m u : Store) (x : ℕ) (v : CellState) → Fold t h m u → Fold t h (with_cell m x v) (with_cell u x (re_cell h v))
cell_fold t h m u x v F = record {
  slots = F.slots;
  cells = λ y. if_both (re_cell h) (x == y) (x == y) (re_cell h v) (u.cells y) v (m.cells y) refl refl (F.cells y);
  out = F.out;
  none_waits = F.none_waits;
  outputs = F.outputs;
  done = F.done;
  others = F.others;
  within = F.within;
}

-- a frame goes out
pub out_fold : (t : ℕ) (h : ℕ → ℕ) → Injective h → (m u : Store) (f : ℕ) → f < t → Fold t h m u → Fold t h (with_out m f true) (with_out u (h f) true)
out_fold t h inj m u f below F = record {
  slots = F.slots;
  cells = F.cells;
  out = λ g. if_both (λ (b : Bool). b) (h f == h g) (f == g) true (u.out (h g)) true (m.out g) (eq_under h inj f g) refl (F.out g);
  none_waits = F.none_waits;
  outputs = F.outputs;
  done = F.done;
  others = λ k. other k (cases_eq (h f) k) (F.others k);
  within = λ g. inside g (cases_eq f g);
}
  where
    other : (k : ℕ) → ((h f ≡ k) ⊎ (h f ≡ k → ⊥)) → (((q : ℕ) → u.slots k q ≡ Empty) × (u.out k ≡ false)) ⊎ ((g : ℕ) × (k ≡ h g))
        → (((q : ℕ) → u.slots k q ≡ Empty) × (put_at u.out (h f) true k ≡ false)) ⊎ ((g : ℕ) × (k ≡ h g))
    other k (inl e) o = inr (f, sym e)
    other k (inr ne) (inl o) = inl (o.0, put_other u.out (h f) true k ne ∙ o.1)
    other k (inr ne) (inr o) = inr o

    inside : (g : ℕ) → ((f ≡ g) ⊎ (f ≡ g → ⊥)) → put_at m.out f true g ≡ true → g < t
    inside g (inl e) q = subst (λ (k : ℕ). k < t) e below
    inside g (inr ne) q = F.within g (sym (put_other m.out f true g ne) ∙ q)

-- ---- ONE LEMMA FOR EACH KIND OF EVENT

pub slot_in_re : (t : ℕ) (h : ℕ → ℕ) (m u : Store) (f : ℕ) (r : Option ℕ) → Fold t h m u → slot_in u (h f) r ≡ re_slot h (slot_in m f r)
slot_in_re t h m u f None F = refl
slot_in_re t h m u f (Some r) F = F.slots f r

slot_in_fold : (t : ℕ) (h : ℕ → ℕ) → Injective h → (m u : Store) (f : ℕ) (r : Option ℕ) (s : SlotState) → Fold t h m u
    → Fold t h (with_slot_in m f r s) (with_slot_in u (h f) r (re_slot h s))
slot_in_fold t h inj m u f None s F = F
slot_in_fold t h inj m u f (Some r) s F = slot_fold t h inj m u f r s F

fires_fold : (t : ℕ) (h : ℕ → ℕ) → Injective h → (m u new : Store) (f : ℕ) (r : Option ℕ) (o : Outcome) (made : List Token) → Fold t h m u
    → Fires m f r o made new
    → (after : Store) × Fires u (h f) r (re_outcome h o) (map (re_token h) made) after × Fold t h new after
fires_fold t h inj m u new f r (Excluded n) made F e = absurd e
fires_fold t h inj m u new f r (Becomes s ts) made F e = (
  with_slot_in u (h f) r (re_slot h s),
  (ap (map (re_token h)) e.0, refl),
  subst (λ (n : Store). Fold t h n (with_slot_in u (h f) r (re_slot h s))) (sym e.1) (slot_in_fold t h inj m u f r s F),
)

pub instr_step : (p : Program) (t tu : ℕ) (h : ℕ → ℕ) → Injective h → (m u new : Store) (f ip : ℕ) (q : Port) (w : Word) (made : List Token) → Fold t h m u
    → Happens p t m (To.Instr f ip q) w made new → Follows p t tu h u (To.Instr f ip q) w made new
instr_step p t tu h inj m u new f ip q w made F e =
    let i : Option Instr = instr_at p ip in
    let r : Option ℕ = slot_used i in
    let s : SlotState = slot_in m f r in
    let does = fires_fold t h inj m u new f r (rule_at p record { frame = f; ip = ip } i s q w) made F e in
    let same : rule_at p record { frame = h f; ip = ip } i (slot_in u (h f) r) q (re_word h w)
    ≡ re_outcome h (rule_at p record { frame = f; ip = ip } i s q w) =
    ap (λ (z : SlotState). rule_at p record { frame = h f; ip = ip } i z q (re_word h w)) (slot_in_re t h m u f r F)
    ∙ rule_re h p record { frame = f; ip = ip } i s q w in
    (does.0, subst (λ (o : Outcome). Fires u (h f) r o (map (re_token h) made) does.0) (sym same) does.1, does.2)

pub answer_re : (h : ℕ → ℕ) (c : Cont) (w : Word) → re_token h (answer c w) ≡ answer (re_cont h c) (re_word h w)
answer_re h c w = ap (λ (t : To). token t (re_word h w)) (sym (back_to_re h c))

answers_re : (h : ℕ → ℕ) (cs : List Cont) (v : Value) → map (re_token h) (answers cs v) ≡ answers (map (re_cont h) cs) v
answers_re h [] v = refl
answers_re h (c ∷ cs) v =
    ap (λ (t : Token). t ∷ map (re_token h) (answers cs v)) (answer_re h c (Word.Val v))
    ∙ ap (λ (l : List Token). answer (re_cont h c) (Word.Val v) ∷ l) (answers_re h cs v)

fetches_fold : (t : ℕ) (h : ℕ → ℕ) (m u new : Store) (x : ℕ) (c : Cont) (y : CellState) (made : List Token) → Fold t h m u → Fetches m x c y made new
    → (after : Store) × Fetches u x (re_cont h c) (re_cell h y) (map (re_token h) made) after × Fold t h new after
fetches_fold t h m u new x c Vacant made F e = (
  with_cell u x (Deferred (re_cont h c ∷ [])),
  (ap (map (re_token h)) e.0, refl),
  subst (λ (n : Store). Fold t h n (with_cell u x (Deferred (re_cont h c ∷ [])))) (sym e.1) (cell_fold t h m u x (Deferred (c ∷ [])) F),
)
fetches_fold t h m u new x c (Deferred cs) made F e =
    let one : Fold t h (with_cell m x (Deferred (cs ++ c ∷ []))) (with_cell u x (Deferred (map (re_cont h) (cs ++ c ∷ [])))) =
    cell_fold t h m u x (Deferred (cs ++ c ∷ [])) F in (
      with_cell u x (Deferred (map (re_cont h) cs ++ re_cont h c ∷ [])),
      (ap (map (re_token h)) e.0, refl),
      subst (λ (n : Store). Fold t h n (with_cell u x (Deferred (map (re_cont h) cs ++ re_cont h c ∷ [])))) (sym e.1)
          (subst (λ (l : List Cont). Fold t h (with_cell m x (Deferred (cs ++ c ∷ []))) (with_cell u x (Deferred l))) (map_append (re_cont h) cs (c ∷ [])) one),
    )
fetches_fold t h m u new x c (Full v) made F e =
    (u, (ap (map (re_token h)) e.0 ∙ ap (λ (k : Token). k ∷ []) (answer_re h c (Word.Val v)), refl), subst (λ (n : Store). Fold t h n u) (sym e.1) F)

pub fetch_step : (p : Program) (t tu : ℕ) (h : ℕ → ℕ) (m u new : Store) (x : ℕ) (w : Word) (made : List Token) → Fold t h m u
    → Happens p t m (To.Fetch x) w made new → Follows p t tu h u (To.Fetch x) w made new
fetch_step p t tu h m u new x (Word.Back c) made F e =
    let does = fetches_fold t h m u new x c (m.cells x) made F e in
    (does.0, subst (λ (y : CellState). Fetches u x (re_cont h c) y (map (re_token h) made) does.0) (sym (F.cells x)) does.1, does.2)
fetch_step p t tu h m u new x (Word.Val v) made F e = absurd e
fetch_step p t tu h m u new x (Word.Frame f) made F e = absurd e

stores_fold : (t : ℕ) (h : ℕ → ℕ) (m u new : Store) (x : ℕ) (v : Value) (c : Cont) (y : CellState) (made : List Token) → Fold t h m u
    → Stores m x v c y made new
    → (after : Store) × Stores u x v (re_cont h c) (re_cell h y) (map (re_token h) made) after × Fold t h new after
stores_fold t h m u new x v c Vacant made F e = (
  with_cell u x (Full v),
  (ap (map (re_token h)) e.0 ∙ ap (λ (k : Token). k ∷ []) (answer_re h c (Word.Val v)), refl),
  subst (λ (n : Store). Fold t h n (with_cell u x (Full v))) (sym e.1) (cell_fold t h m u x (Full v) F),
)
stores_fold t h m u new x v c (Deferred cs) made F e = (
  with_cell u x (Full v),
  (ap (map (re_token h)) e.0 ∙ answers_re h (cs ++ c ∷ []) v ∙ ap (λ (l : List Cont). answers l v) (map_append (re_cont h) cs (c ∷ [])), refl),
  subst (λ (n : Store). Fold t h n (with_cell u x (Full v))) (sym e.1) (cell_fold t h m u x (Full v) F),
)
stores_fold t h m u new x v c (Full w) made F e = absurd e

pub store_step : (p : Program) (t tu : ℕ) (h : ℕ → ℕ) (m u new : Store) (x : ℕ) (v : Value) (w : Word) (made : List Token) → Fold t h m u
    → Happens p t m (To.Store x v) w made new → Follows p t tu h u (To.Store x v) w made new
store_step p t tu h m u new x v (Word.Back c) made F e =
    let does = stores_fold t h m u new x v c (m.cells x) made F e in
    (does.0, subst (λ (y : CellState). Stores u x v (re_cont h c) y (map (re_token h) made) does.0) (sym (F.cells x)) does.1, does.2)
store_step p t tu h m u new x v (Word.Val _) made F e = absurd e
store_step p t tu h m u new x v (Word.Frame f) made F e = absurd e

-- a request that is served, and one that waits: nothing happens in the unfolded run
pub request_step : (p : Program) (t tu : ℕ) (h : ℕ → ℕ) → Injective h → ((f : ℕ) → f < t → h f < tu) → (m u new : Store) (c : Cont) (made : List Token)
    → Fold t h m u
    → Requests t m c made new
    → ((f : ℕ) × (f < t) × (m.out f ≡ false) × (new ≡ with_out m f true) × (made ≡ answer c (Word.Frame f) ∷ [])
    × Happens p tu u To.Manager (re_word h (Word.Back c)) (map (re_token h) made) (with_out u (h f) true) × Fold t h new (with_out u (h f) true))
    ⊎ ((made ≡ []) × (new.requests ≡ m.requests ++ c ∷ []) × (new.out ≡ m.out) × Fold t h new u)
request_step p t tu h inj below m u new c made F (inl e) =
    inl (
      e.0,
      e.1,
      e.2,
      e.4,
      e.3,
      inl (h e.0, below e.0 e.1, F.out e.0 ∙ e.2, ap (map (re_token h)) e.3 ∙ ap (λ (k : Token). k ∷ []) (answer_re h c (Word.Frame e.0)), refl),
      subst (λ (n : Store). Fold t h n (with_out u (h e.0) true)) (sym e.4) (out_fold t h inj m u e.0 e.1 F),
    )
request_step p t tu h inj below m u new c made F (inr e) =
    inr (
      e.1,
      ap (λ (s : Store). s.requests) e.2,
      ap (λ (s : Store). s.out) e.2,
      subst (λ (n : Store). Fold t h n u) (sym e.2) (fold_same t h m (with_requests m (m.requests ++ c ∷ [])) u refl refl (λ g. refl) refl refl F),
    )

pub host_step : (p : Program) (t tu : ℕ) (h : ℕ → ℕ) (m u new : Store) (j : ℕ) (w : Word) (made : List Token) → Fold t h m u
    → Happens p t m (To.Host j) w made new → Follows p t tu h u (To.Host j) w made new
host_step p t tu h m u new j w made F (inl e) = (
  with_output u j e.2.0,
  inl (e.0, ap (λ (o : ℕ → Option Value). o j) F.outputs ∙ e.1, (e.2.0, ap (re_word h) e.2.1, ap (map (re_token h)) e.2.2, refl)),
  subst (λ (n : Store). Fold t h n (with_output u j e.2.0)) (sym e.2.3)
      record {
        slots = F.slots;
        cells = F.cells;
        out = F.out;
        none_waits = F.none_waits;
        outputs = ap (λ (o : ℕ → Option Value). put_at o j (Some e.2.0)) F.outputs;
        done = F.done;
        others = F.others;
        within = F.within;
      },
)
host_step p t tu h m u new j w made F (inr e) = (
  with_done u,
  inr (e.0, F.done ∙ e.1, ap (map (re_token h)) e.2, refl),
  subst (λ (n : Store). Fold t h n (with_done u)) (sym e.3)
      record {
        slots = F.slots;
        cells = F.cells;
        out = F.out;
        none_waits = F.none_waits;
        outputs = F.outputs;
        done = refl;
        others = F.others;
        within = F.within;
      },
)
