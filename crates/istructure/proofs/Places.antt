-- Where the state of a cell is, and what a change of one state leaves.
use Rattle.std.proofs.Common.{◌≡◌, ℕ, ◌+◌, ◌*◌, ◌/◌, ◌%◌, ◌<◌, Bool, true, false, cond, eqb, ltb, length, Option, Some, None, sym, ap, ◌∙◌, refl, arith, subst}
use Rattle.std.specs.Prelude.{slice_get, option_and_then}
use Rattle.std.proofs.lemmas.Bool.{eqb-true, ltb-true, eq-eqb, lt-ltb}
use Rattle.std.proofs.lemmas.Option.{cond_some}
use Rattle.semantics.specs.Machine.{CellState}
use Rattle.istructure.specs.OwnCells.{OwnCells, place_of, cell_at}

pub record IsPlace (own : OwnCells) (x k : ℕ) : Type 0 where
  pub ours : x % own.elements ≡ own.element
  pub here : x / own.elements ≡ k
  pub within : k < length own.states

outer : (b : Bool) (o : Option ℕ) (k : ℕ) → cond b o None ≡ Some k → (b ≡ true) × (o ≡ Some k)
outer true o k e = (refl, e)
outer false o k e = cc

pub place_is : (own : OwnCells) (x k : ℕ) → place_of own x ≡ Some k → IsPlace own x k
place_is own x k e =
    let p = outer (eqb (x % own.elements) own.element) (cond (ltb (x / own.elements) (length own.states)) (Some (x / own.elements)) None) k e in
    let q = cond_some (ltb (x / own.elements) (length own.states)) (x / own.elements) k p.1 in
    let below : x / own.elements < length own.states = ltb-true (x / own.elements) (length own.states) q.0 in
    record { ours = eqb-true (x % own.elements) own.element p.0; here = q.1; within = subst (λ n. n < length own.states) q.1 below }

-- the state at a place
pub cell_at-place : (own : OwnCells) (x k : ℕ) → place_of own x ≡ Some k → cell_at own x ≡ slice_get own.states k
cell_at-place own x k e = ap (option_and_then (slice_get own.states)) e

pub cell_at-none : (own : OwnCells) (x : ℕ) → place_of own x ≡ None → cell_at own x ≡ None
cell_at-none own x e = ap (option_and_then (slice_get own.states)) e

inner : (b : Bool) (k : ℕ) (o : Option ℕ) → b ≡ true → o ≡ Some k → cond b o None ≡ Some k
inner true k o h e = e
inner false k o h e = cc

pub is_place : (own : OwnCells) (x k : ℕ) → IsPlace own x k → place_of own x ≡ Some k
is_place own x k p =
    let within : x / own.elements < length own.states = subst (λ n. n < length own.states) (sym p.here) p.within in
    inner (eqb (x % own.elements) own.element) k _ (eq-eqb _ _ p.ours) (inner (ltb (x / own.elements) (length own.states)) k _ (lt-ltb _ _ within)
    (ap (λ (n : ℕ). Some n) p.here))

-- a cell with a state has a place
pub place_from_state : (own : OwnCells) (x : ℕ) (state : CellState) → cell_at own x ≡ Some state → (k : ℕ) × (place_of own x ≡ Some k)
    × (slice_get own.states k ≡ Some state)
place_from_state own x state e = go (place_of own x) refl e where
  go : (o : Option ℕ) → place_of own x ≡ o → option_and_then (slice_get own.states) o ≡ Some state → (k : ℕ) × (place_of own x ≡ Some k)
      × (slice_get own.states k ≡ Some state)
  go None h e = cc
  go (Some k) h e = (k, h, e)

-- two cells in one place are one cell
pub one_cell : (own : OwnCells) (x y k : ℕ) → 0 < own.elements → IsPlace own x k → IsPlace own y k → x ≡ y
one_cell own x y k h p q =
    let e : x / own.elements ≡ y / own.elements = p.here ∙ sym q.here in
    let f : x % own.elements ≡ y % own.elements = p.ours ∙ sym q.ours in
    omega (arith, e, f, div-mod x own.elements, div-mod y own.elements, ap (λ n. own.elements * n) e) where
      div-mod : (a n : ℕ) → n * (a / n) + a % n ≡ a
      div-mod a n = omega arith
