-- What two deeds do to the memory, in either order.
use Rattle.std.proofs.Common.{◌≡◌, ℕ, ◌⊎◌, Bool, true, false, [], Option, Some, None, ◌==◌, if◌then◌else◌, inl, inr, refl, sym, ap, ◌∙◌, subst₂, ⊎_elim}
use Rattle.std.proofs.Common.{eqb-true, ne_eqb}
use Rattle.std.specs.Prelude.{⊤}
use Rattle.std.proofs.lemmas.Bool.{cases_eq}
use Rattle.std.proofs.lemmas.Option.{same_Some}
use Rattle.tags.specs.declared.value.Value.{Value}
use Rattle.semantics.specs.Graph.{Flow}
use Rattle.semantics.specs.Meaning.{Context, Memory, Effect, Message, Sends, Deed, Says, Reads, Fills, Puts, done, adds, tokens_of, when_full, when_empty}
use Rattle.semantics.specs.Meaning.{at_place, with_cell, with_output}

-- neither writes the output that the other writes
abbrev pub Apart : Deed → Deed → Type 0
Apart (Puts j v) (Puts k w) = j ≡ k → ⊥
Apart d e = ⊤

-- both fill one cell
abbrev pub SameCell : Deed → Deed → Type 0
SameCell (Fills c n x v) (Fills c' n' y w) = x ≡ y
SameCell d e = ⊥

pub record Commutes (fl : Flow) (d e : Deed) (E F : Effect) : Type 0 where
  pub memory : Memory
  pub first : done fl E.memory e ≡ Some record { added = F.added; memory = memory }
  pub second : done fl F.memory d ≡ Some record { added = E.added; memory = memory }

abbrev pub CellsKept : Memory → Memory → Type 0
CellsKept m n = (x : ℕ) (v : Value) → m.cells x ≡ Some v → n.cells x ≡ Some v

pub full_of : (o : Option Value) (f : Value → Option Effect) (E : Effect) → when_full o f ≡ Some E → (v : Value) × (o ≡ Some v) × (f v ≡ Some E)
full_of None f E e = cc
full_of (Some v) f E e = (v, refl, e)

pub empty_of : (o : Option Value) (f : Option Effect) (E : Effect) → when_empty o f ≡ Some E → (o ≡ None) × (f ≡ Some E)
empty_of None f E e = (refl, e)
empty_of (Some v) f E e = cc

at_other : (f : ℕ → Option Value) (x y : ℕ) (v : Value) → (x ≡ y → ⊥) → at_place f x v y ≡ f y
at_other f x y v other = ap (λ (b : Bool). if b then Some v else f y) (ne_eqb x y other)

at_swapped : (f : ℕ → Option Value) (x y : ℕ) (v w : Value) → (x ≡ y → ⊥) → (z : ℕ) → at_place (at_place f x v) y w z ≡ at_place (at_place f y w) x v z
at_swapped f x y v w other z = go (x == z) (y == z) refl refl
  where
    go : (s t : Bool) → (x == z) ≡ s → (y == z) ≡ t → (if t then Some w else if s then Some v else f z) ≡ (if s then Some v else if t then Some w else f z)
    go true true p q = absurd (other (eqb-true x z p ∙ sym (eqb-true y z q)))
    go true false p q = refl
    go false true p q = refl
    go false false p q = refl

cells_swapped : (f : ℕ → Option Value) (x y : ℕ) (v w : Value) → (x ≡ y → ⊥) → at_place (at_place f x v) y w ≡ at_place (at_place f y w) x v
cells_swapped f x y v w other = λ i z. at_swapped f x y v w other z i

pub kept : (fl : Flow) (m : Memory) (d : Deed) (E : Effect) → done fl m d ≡ Some E → CellsKept m E.memory
kept fl m (Says t) E e x v h = let r = ap (λ (E : Effect). E.memory.cells x) (same_Some _ E e) in sym r ∙ h
kept fl m (Reads c n y) E e x v h =
    let f = full_of (m.cells y) (λ v. adds (tokens_of fl (Sends c n 0 v)) m) E e in
    let r = ap (λ (E : Effect). E.memory.cells x) (same_Some _ E f.2) in sym r ∙ h
kept fl m (Fills c n y w) E e x v h =
    let f = empty_of (m.cells y) (adds (tokens_of fl (Sends c n 0 w)) (with_cell m y w)) E e in
    let r = ap (λ (E : Effect). E.memory.cells x) (same_Some _ E f.1) in
    let other : y ≡ x → ⊥ = λ k. let s = ap m.cells k in cc in
    sym r ∙ at_other m.cells y x w other ∙ h
kept fl m (Puts j w) E e x v h = let r = ap (λ (E : Effect). E.memory.cells x) (same_Some _ E e) in sym r ∙ h

-- a deed that leaves the memory alone, and goes as well in any that keeps what is full
abbrev pub Steady : Flow → Memory → Deed → Effect → Type 0
Steady fl m d E = (E.memory ≡ m) × ((n : Memory) → CellsKept m n → done fl n d ≡ Some record { added = E.added; memory = n })

says_steady : (fl : Flow) (m : Memory) (t : Message) (E : Effect) → done fl m (Says t) ≡ Some E → Steady fl m (Says t) E
says_steady fl m t E e =
    let r = same_Some _ E e in
    (sym (ap (λ (E : Effect). E.memory) r), λ n h. ap (λ (E : Effect). Some record { added = E.added; memory = n }) r)

reads_steady : (fl : Flow) (m : Memory) (c : Context) (n x : ℕ) (E : Effect) → done fl m (Reads c n x) ≡ Some E → Steady fl m (Reads c n x) E
reads_steady fl m c n x E e =
    let f = full_of (m.cells x) (λ v. adds (tokens_of fl (Sends c n 0 v)) m) E e in
    let r = same_Some _ E f.2 in (
      sym (ap (λ (E : Effect). E.memory) r),
      λ k h. ap (λ o. when_full o (λ v. adds (tokens_of fl (Sends c n 0 v)) k)) (h x f.0 f.1)
          ∙ ap (λ (E : Effect). Some record { added = E.added; memory = k }) r,
    )

from_first : (fl : Flow) (m : Memory) (d e : Deed) (E F : Effect) → done fl m e ≡ Some F → Steady fl m d E → Commutes fl d e E F
from_first fl m d e E F q s = record {
  memory = F.memory;
  first = ap (λ k. done fl k e) s.0 ∙ q;
  second = s.1 F.memory (kept fl m e F q);
}

from_second : (fl : Flow) (m : Memory) (d e : Deed) (E F : Effect) → done fl m d ≡ Some E → Steady fl m e F → Commutes fl d e E F
from_second fl m d e E F p s = record {
  memory = E.memory;
  first = s.1 E.memory (kept fl m d E p);
  second = ap (λ k. done fl k d) s.0 ∙ p;
}

fills_fills : (fl : Flow) (m : Memory) (c c' : Context) (n n' x y : ℕ) (v w : Value) → m.cells x ≡ None → m.cells y ≡ None → (x ≡ y → ⊥)
    → Commutes fl (Fills c n x v) (Fills c' n' y
    w) record { added = tokens_of fl (Sends c n 0 v); memory = with_cell m x v } record { added = tokens_of fl (Sends c' n' 0 w); memory = with_cell m y w }
fills_fills fl m c c' n n' x y v w p q other = record {
  memory = with_cell (with_cell m x v) y w;
  first = ap (λ o. when_empty o (adds (tokens_of fl (Sends c' n' 0 w)) (with_cell (with_cell m x v) y w))) (at_other m.cells x y v other ∙ q);
  second =
      ap (λ o. when_empty o (adds (tokens_of fl (Sends c n 0 v)) (with_cell (with_cell m y w) x v))) (at_other m.cells y x w (λ e. other (sym e)) ∙ p)
      ∙ ap (λ f. adds (tokens_of fl (Sends c n 0 v)) record { cells = f; outputs = m.outputs }) (sym (cells_swapped m.cells x y v w other));
}

pub commutes : (fl : Flow) (m : Memory) (d e : Deed) (E F : Effect) → done fl m d ≡ Some E → done fl m e ≡ Some F → Apart d e
    → Commutes fl d e E F ⊎ SameCell d e
commutes fl m (Says t) e E F p q h = inl (from_first fl m (Says t) e E F q (says_steady fl m t E p))
commutes fl m (Reads c n x) e E F p q h = inl (from_first fl m (Reads c n x) e E F q (reads_steady fl m c n x E p))
commutes fl m d (Says t) E F p q h = inl (from_second fl m d (Says t) E F p (says_steady fl m t F q))
commutes fl m d (Reads c n x) E F p q h = inl (from_second fl m d (Reads c n x) E F p (reads_steady fl m c n x F q))
commutes fl m (Fills c n x v) (Fills c' n' y w) E F p q h =
    let f = empty_of (m.cells x) (adds (tokens_of fl (Sends c n 0 v)) (with_cell m x v)) E p in
    let g = empty_of (m.cells y) (adds (tokens_of fl (Sends c' n' 0 w)) (with_cell m y w)) F q in
    ⊎_elim (λ same. inr same)
    (λ other. inl (subst₂ (λ E F. Commutes fl (Fills c n x v) (Fills c' n' y w) E F) (same_Some _ E f.1) (same_Some _ F g.1)
    (fills_fills fl m c c' n n' x y v w f.0 g.0 other)))
    (cases_eq x y)
commutes fl m (Fills c n x v) (Puts j w) E F p q h =
    let f = empty_of (m.cells x) (adds (tokens_of fl (Sends c n 0 v)) (with_cell m x v)) E p in
    inl (subst₂ (λ E F. Commutes fl (Fills c n x v) (Puts j w) E F) (same_Some _ E f.1) (same_Some _ F q) record {
      memory = with_output (with_cell m x v) j w;
      first = refl;
      second = ap (λ o. when_empty o (adds (tokens_of fl (Sends c n 0 v)) (with_cell (with_output m j w) x v))) f.0;
    })
commutes fl m (Puts j w) (Fills c n x v) E F p q h =
    let f = empty_of (m.cells x) (adds (tokens_of fl (Sends c n 0 v)) (with_cell m x v)) F q in
    inl (subst₂ (λ E F. Commutes fl (Puts j w) (Fills c n x v) E F) (same_Some _ E p) (same_Some _ F f.1) record {
      memory = with_output (with_cell m x v) j w;
      first = ap (λ o. when_empty o (adds (tokens_of fl (Sends c n 0 v)) (with_cell (with_output m j w) x v))) f.0;
      second = refl;
    })
commutes fl m (Puts j v) (Puts k w) E F p q h =
    inl (subst₂ (λ E F. Commutes fl (Puts j v) (Puts k w) E F) (same_Some _ E p) (same_Some _ F q) record {
      memory = with_output (with_output m j v) k w;
      first = refl;
      second = ap (λ f. adds [] record { cells = m.cells; outputs = f }) (sym (cells_swapped m.outputs j k v w h));
    })
