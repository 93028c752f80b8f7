-- THE MEMORY OF A RUN IN ORDER: a part finds the cells that it reads full, and those that it fills empty.
use Rattle.std.proofs.Common.{◌≡◌, ℕ, suc, ◌⊎◌, List, [], ◌∷◌, ◌++◌, Option, Some, None, Contains, inl, inr, refl, sym, ap, ◌∙◌, subst, arith, ⊎_elim}
use Rattle.std.specs.Prelude.{⊤, slice_get}
use Rattle.std.proofs.lemmas.List.Elements.{Contains-append_left, Contains-append_right, Contains-append_cases}
use Rattle.lemmas.proofs.Contains.{contains_none, contains_cases, contains_head, contains_tail, contains_get}
use Rattle.tags.specs.declared.value.Value.{Value}
use Rattle.operators.specs.Values.{Indexed, Place, Outside}
use Rattle.source.specs.Evaluates as eval
use Rattle.source.specs.Evaluates.{World, Env, Stores, Evaluates, EvaluatesAll, Runs, filled, number, named, bracket, prefix, infix_, fetch, store, call}
use Rattle.source.specs.Evaluates.{if_true, if_false, loop, one, more, lets, does, gives, chain, leaves, goes, ends, again}
use Rattle.source.specs.Tree.{Expr, Exprs, Body, Turn}
use Rattle.law_ordered_runs.specs.InOrder.{Touch, Reads, Fills, reading, filling, touches, list_touches, body_touches, turn_touches}

-- each cell that is read is full before, or filled earlier
abbrev pub ReadsFull : (ℕ → Type 0) → List Touch → Type 0
ReadsFull full [] = ⊤
ReadsFull full (Reads x ∷ ts) = full x × ReadsFull full ts
ReadsFull full (Fills x ∷ ts) = ReadsFull (λ y. full y ⊎ (y ≡ x)) ts

pub reads_more : (full wide : ℕ → Type 0) → ((x : ℕ) → full x → wide x) → (ts : List Touch) → ReadsFull full ts → ReadsFull wide ts
reads_more full wide f [] h = tt
reads_more full wide f (Reads x ∷ ts) h = (f x h.0, reads_more full wide f ts h.1)
reads_more full wide f (Fills x ∷ ts) h =
    reads_more (λ y. full y ⊎ (y ≡ x)) (λ y. wide y ⊎ (y ≡ x)) (λ y k. ⊎_elim (λ i. inl (f y i)) (λ e. inr e) k) ts h

-- of two parts: the second finds full also what the first fills
pub reads_both : (full : ℕ → Type 0) (ts us : List Touch) → ReadsFull full (ts ++ us)
    → ReadsFull full ts × ReadsFull (λ x. full x ⊎ Contains ts (Fills x)) us
reads_both full [] us h = (tt, reads_more full (λ x. full x ⊎ Contains [] (Fills x)) (λ x k. inl k) us h)
reads_both full (Reads x ∷ ts) us h =
    let k = reads_both full ts us h.1 in (
      (h.0, k.0),
      reads_more (λ y. full y ⊎ Contains ts (Fills y)) (λ y. full y ⊎ Contains (Reads x ∷ ts) (Fills y))
          (λ y i. ⊎_elim (λ j. inl j) (λ j. inr (contains_tail (Reads x) ts (Fills y) j)) i) us k.1,
    )
reads_both full (Fills x ∷ ts) us h =
    let k = reads_both (λ y. full y ⊎ (y ≡ x)) ts us h in
    (k.0, reads_more (λ y. (full y ⊎ (y ≡ x)) ⊎ Contains ts (Fills y)) (λ y. full y ⊎ Contains (Fills x ∷ ts) (Fills y)) (λ y i. there y i) us k.1)
  where
    there : (y : ℕ) → ((full y ⊎ (y ≡ x)) ⊎ Contains ts (Fills y)) → full y ⊎ Contains (Fills x ∷ ts) (Fills y)
    there y (inl (inl i)) = inl i
    there y (inl (inr e)) = inr (subst (λ y. Contains (Fills x ∷ ts) (Fills y)) (sym e) (contains_head (Fills x) ts))
    there y (inr i) = inr (contains_tail (Fills x) ts (Fills y) i)

-- THE CELLS THAT AN EVALUATION FILLS are those of its stores.
abbrev pub FillsStored : List Touch → Stores → Type 0
FillsStored ts ss = (x : ℕ) → Contains ts (Fills x) → (v : Value) × Contains ss (x, v)

pub fills_none : (ss : Stores) → FillsStored [] ss
fills_none ss x h = absurd (contains_none (Fills x) h)

pub fills_both : (ts us : List Touch) (ss qs : Stores) → FillsStored ts ss → FillsStored us qs → FillsStored (ts ++ us) (ss ++ qs)
fills_both ts us ss qs f g x h =
    ⊎_elim (λ k. (let a = f x k in (a.0, Contains-append_left ss qs (x, a.0) a.1))) (λ k. (let a = g x k in (a.0, Contains-append_right ss qs (x, a.0) a.1)))
    (Contains-append_cases ts us (Fills x) h)

fills_reading : (i : Indexed) (ss : Stores) → FillsStored (reading i) ss
fills_reading (Outside v) ss x h = absurd (contains_none (Fills x) h)
fills_reading (Place q) ss x h = ⊎_elim (λ e. absurd (cc)) (λ k. absurd (contains_none (Fills x) k)) (contains_cases (Reads q) [] (Fills x) h)

fill_same : (q x : ℕ) → Fills q ≡ Fills x → q ≡ x
fill_same q x e = cc

fills_filling : (i : Indexed) (v : Value) → FillsStored (filling i) (filled i v)
fills_filling (Outside w) v x h = absurd (contains_none (Fills x) h)
fills_filling (Place q) v x h =
    ⊎_elim (λ e. (v, subst (λ x. Contains {X = ℕ × Value} ((q, v) ∷ []) (x, v)) (fill_same q x e) (contains_head (q, v) []))) (λ k. absurd (contains_none (Fills x) k))
    (contains_cases (Fills q) [] (Fills x) h)

fills_with : (ts us : List Touch) (ss : Stores) → FillsStored ts ss → ((x : ℕ) → Contains us (Fills x) → ⊥) → FillsStored (ts ++ us) ss
fills_with ts us ss f none x h = ⊎_elim (λ k. f x k) (λ k. absurd (none x k)) (Contains-append_cases ts us (Fills x) h)

no_fills : (i : Indexed) (x : ℕ) → Contains (reading i) (Fills x) → ⊥
no_fills (Outside v) x h = contains_none (Fills x) h
no_fills (Place q) x h = ⊎_elim (λ e. absurd (cc)) (λ k. contains_none (Fills x) k) (contains_cases (Reads q) [] (Fills x) h)

mutual
  pub fills : {w : World} {env : Env} {e : Expr} {vs : List Value} {ss : Stores} (d : Evaluates w env e vs ss) → FillsStored (touches d) ss
  fills number = fills_none []
  fills (named b) = fills_none []
  fills (bracket d) = fills d
  fills (prefix d) = fills d
  fills (infix_ d c) = fills_both (touches d) (touches c) _ _ (fills d) (fills c)
  fills {w = w} (fetch {t = t} {a = a} {i = i} d r) = fills_with (touches d) _ _ (fills d) (λ x h. no_fills (eval.place_in w t a i) x h)
  fills {w = w} (store {t = t} {a = a} {i = i} {v = v} d c) =
      fills_both (touches d ++ touches c) _ _ _ (fills_both (touches d) (touches c) _ _ (fills d) (fills c)) (fills_filling (eval.place_in w t a i) v)
  fills (call d found c) = fills_both (list_touches d) (body_touches c) _ _ (list_fills d) (body_fills c)
  fills (if_true d test c) = fills_both (touches d) (body_touches c) _ _ (fills d) (body_fills c)
  fills (if_false d test c) = fills_both (touches d) (body_touches c) _ _ (fills d) (body_fills c)
  fills (loop d c) = fills_both (list_touches d) (turn_touches c) _ _ (list_fills d) (turn_fills c)

  pub list_fills : {w : World} {env : Env} {es : Exprs} {vs : List Value} {ss : Stores} (d : EvaluatesAll w env es vs ss) → FillsStored (list_touches d) ss
  list_fills (one d) = fills d
  list_fills (more d c) = fills_both (touches d) (list_touches c) _ _ (fills d) (list_fills c)

  pub body_fills : {w : World} {env : Env} {b : Body} {vs : List Value} {ss : Stores} (d : Runs w env b vs ss) → FillsStored (body_touches d) ss
  body_fills (lets d c) = fills_both (list_touches d) (body_touches c) _ _ (list_fills d) (body_fills c)
  body_fills (does d c) = fills_both (list_touches d) (body_touches c) _ _ (list_fills d) (body_fills c)
  body_fills (gives d) = list_fills d
  body_fills (chain d) = fills d

  pub turn_fills : {w : World} {env : Env} {t : Turn} {vs rs : List Value} {ss : Stores} (d : eval.Turns w env t vs rs ss) → FillsStored (turn_touches d) ss
  turn_fills (leaves d test) = fills d
  turn_fills (goes d test c next) =
      fills_both (touches d ++ body_touches c) (turn_touches next) _ _ (fills_both (touches d) (body_touches c) _ _ (fills d) (body_fills c))
      (turn_fills next)
  turn_fills (ends c d test) = fills_both (body_touches c) (touches d) _ _ (body_fills c) (fills d)
  turn_fills (again c d test next) =
      fills_both (body_touches c ++ touches d) (turn_touches next) _ _ (fills_both (body_touches c) (touches d) _ _ (body_fills c) (fills d))
      (turn_fills next)

-- No cell is filled twice.
abbrev pub Apart : Stores → Type 0
Apart [] = ⊤
Apart (s ∷ ss) = ((w : Value) → Contains ss (s.0, w) → ⊥) × Apart ss

pub apart_both : (ss us : Stores) → Apart (ss ++ us) → Apart ss × Apart us × ((x : ℕ) (v w : Value) → Contains ss (x, v) → Contains us (x, w) → ⊥)
apart_both [] us h = (tt, h, λ x v w i j. contains_none (x, v) i)
apart_both (s ∷ ss) us h =
    let k = apart_both ss us h.1 in (
      ((λ w i. h.0 w (Contains-append_left ss us (s.0, w) i)), k.0),
      k.1,
      λ x v w i j.
          ⊎_elim (λ (e : s ≡ (x, v)). h.0 w (Contains-append_right ss us (s.0, w)
          (subst (λ x. Contains us (x, w)) (sym (ap (λ (t : ℕ × Value). t.0) e)) j))) (λ l. k.2 x v w l j) (contains_cases s ss (x, v) i),
    )

pub apart_from : (ss : Stores) → ((i j x : ℕ) (v w : Value) → slice_get ss i ≡ Some (x, v) → slice_get ss j ≡ Some (x, w) → i ≡ j) → Apart ss
apart_from [] h = tt
apart_from (s ∷ ss) h = (
  λ w i. (let at = contains_get ss (s.0, w) i in let e = h 0 (suc at.0) s.0 s.1 w refl at.1 in absurd (omega (arith, e))),
  apart_from ss (λ i j x v w e f. let k = h (suc i) (suc j) x v w e f in omega (arith, k)),
)

-- WHAT A PART NEEDS of the cells: those that are full have what the memory has in the end, those that it fills are empty and differ
pub record Ready (memory cells : ℕ → Option Value) (ss : Stores) (ts : List Touch) : Type 0 where
  pub sound : (x : ℕ) (v : Value) → cells x ≡ Some v → memory x ≡ Some v
  pub stores : (x : ℕ) (v : Value) → Contains ss (x, v) → memory x ≡ Some v
  pub empty : (x : ℕ) (v : Value) → Contains ss (x, v) → cells x ≡ None
  pub once : Apart ss
  pub reads : ReadsFull (λ x. (v : Value) × (cells x ≡ Some v)) ts

-- and what it leaves: its stores are full, and nothing else has changed
pub record Changed (old new : ℕ → Option Value) (ss : Stores) : Type 0 where
  pub full : (x : ℕ) (v : Value) → Contains ss (x, v) → new x ≡ Some v
  pub other : (x : ℕ) → (new x ≡ old x) ⊎ ((v : Value) × Contains ss (x, v))

pub changed_none : (old : ℕ → Option Value) → Changed old old []
changed_none old = record { full = λ x v h. absurd (contains_none (x, v) h); other = λ x. inl refl }

pub changed_both : (old mid new : ℕ → Option Value) (ss us : Stores) → ((x : ℕ) (v : Value) → mid x ≡ Some v → new x ≡ Some v)
    → Changed old mid ss → Changed mid new us → Changed old new (ss ++ us)
changed_both old mid new ss us keeps f g = record {
  full = λ x v h. ⊎_elim (λ k. keeps x v (f.full x v k)) (λ k. g.full x v k) (Contains-append_cases ss us (x, v) h);
  other = λ x. ⊎_elim
      (λ e. ⊎_elim (λ d. inl (e ∙ d)) (λ (k : (v : Value) × Contains ss (x, v)). inr (k.0, Contains-append_left ss us (x, k.0) k.1)) (f.other x))
      (λ (k : (v : Value) × Contains us (x, v)). inr (k.0, Contains-append_right ss us (x, k.0) k.1)) (g.other x);
}

pub changed_same : (old mid new : ℕ → Option Value) (ss : Stores) → mid ≡ new → Changed old mid ss → Changed old new ss
changed_same old mid new ss e f = subst (λ new. Changed old new ss) e f

-- ONE PART AFTER ANOTHER
pub ready_first : (memory cells : ℕ → Option Value) (ss us : Stores) (ts rs : List Touch) → Ready memory cells (ss ++ us) (ts ++ rs) → Ready memory cells ss ts
ready_first memory cells ss us ts rs h = record {
  sound = h.sound;
  stores = λ x v k. h.stores x v (Contains-append_left ss us (x, v) k);
  empty = λ x v k. h.empty x v (Contains-append_left ss us (x, v) k);
  once = (apart_both ss us h.once).0;
  reads = (reads_both _ ts rs h.reads).0;
}

pub ready_then : (memory cells new : ℕ → Option Value) (ss us : Stores) (ts rs : List Touch) → Ready memory cells (ss ++ us) (ts ++ rs)
    → ((x : ℕ) (v : Value) → cells x ≡ Some v → new x ≡ Some v) → Changed cells new ss → FillsStored ts ss → Ready memory new us rs
ready_then memory cells new ss us ts rs h keeps changed stored = record {
  sound = λ x v e. ⊎_elim (λ d. h.sound x v (sym d ∙ e)) (λ (k : (w : Value) × Contains ss (x, w)).
      h.stores x k.0 (Contains-append_left ss us (x, k.0) k.1) ∙ sym (changed.full x k.0 k.1) ∙ e) (changed.other x);
  stores = λ x v k. h.stores x v (Contains-append_right ss us (x, v) k);
  empty = λ x v k. ⊎_elim (λ d. d ∙ h.empty x v (Contains-append_right ss us (x, v) k)) (λ (l : (w : Value) × Contains ss (x, w)).
      absurd ((apart_both ss us h.once).2 x l.0 v l.1 k)) (changed.other x);
  once = (apart_both ss us h.once).1;
  reads = reads_more _ (λ x. (v : Value) × (new x ≡ Some v))
      (λ x k. ⊎_elim (λ (l : (v : Value) × (cells x ≡ Some v)). (l.0, keeps x l.0 l.1)) (λ l. (let s = stored x l in (s.0, changed.full x s.0 s.1))) k) rs
      (reads_both _ ts rs h.reads).1;
}
