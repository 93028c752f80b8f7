-- Cells and outputs as lists, and as the memory of a state.
use Rattle.std.proofs.Common.{◌≡◌, ℕ, zero, suc, ◌+◌, ◌<◌, Bool, true, false, ◌==◌, List, [], ◌∷◌, ◌++◌, length, Option, Some, None, slice_get}
use Rattle.std.proofs.Common.{if◌then◌else◌, refl, sym, ap, ◌∙◌, subst, arith, lt-ltb, eq-eqb, eqb-true}
use Rattle.std.specs.Prelude.{slice_set}
use Rattle.std.proofs.lemmas.List.{length-append}
use Rattle.std.proofs.lemmas.Option.{slice_get_within}
use Rattle.tags.specs.declared.value.Value.{Value}
use Rattle.semantics.specs.Meaning.{Memory, at_place}
use Rattle.oracle.specs.Lines.{first_of, len_of, total_of}
use Rattle.oracle.specs.Acting.{held_of, held_in, filled_in}
use Rattle.oracle.specs.Running.{nones, no_cells}

abbrev pub memory_of : List (Option Value) → List (Option Value) → Memory
memory_of cells outputs = record { cells = held_in cells; outputs = held_in outputs }

set_long : (places : List (Option Value)) (x : ℕ) (o : Option Value) → length (slice_set places x o) ≡ length places
set_long [] zero o = refl
set_long [] (suc x) o = refl
set_long (p ∷ places) zero o = refl
set_long (p ∷ places) (suc x) o = ap suc (set_long places x o)

set_here : (places : List (Option Value)) (x : ℕ) (v : Value) → x < length places → held_in (slice_set places x (Some v)) x ≡ Some v
set_here [] x v h = absurd (omega (arith, h))
set_here (p ∷ places) zero v h = refl
set_here (p ∷ places) (suc x) v h = set_here places x v (omega (arith, h))

set_other : (places : List (Option Value)) (x y : ℕ) (v : Value) → (x ≡ y → ⊥) → held_in (slice_set places x (Some v)) y ≡ held_in places y
set_other [] zero y v h = refl
set_other [] (suc x) y v h = refl
set_other (p ∷ places) zero zero v h = absurd (h refl)
set_other (p ∷ places) zero (suc y) v h = refl
set_other (p ∷ places) (suc x) zero v h = refl
set_other (p ∷ places) (suc x) (suc y) v h = set_other places x y v (λ e. h (ap suc e))

filled_is : (places : List (Option Value)) (x : ℕ) (v : Value) → x < length places → filled_in places x v ≡ slice_set places x (Some v)
filled_is places x v h = ap (λ b. if b then slice_set places x (Some v) else places) (lt-ltb x (length places) h)

pub filled_long : (places : List (Option Value)) (x : ℕ) (v : Value) → x < length places → length (filled_in places x v) ≡ length places
filled_long places x v h = ap length (filled_is places x v h) ∙ set_long places x (Some v)

filled_one : (places : List (Option Value)) (x : ℕ) (v : Value) → x < length places → (y : ℕ) → held_in (filled_in places x v) y
    ≡ at_place (held_in places) x v y
filled_one places x v h y =
    let cases : (b : Bool) → (x == y) ≡ b → held_in (slice_set places x (Some v)) y ≡ (if b then Some v else held_in places y)
    = λ b. elim b as (λ b. (x == y) ≡ b → held_in (slice_set places x (Some v)) y ≡ (if b then Some v else held_in places y)) [
      | true ↦ λ e. subst (λ z. held_in (slice_set places x (Some v)) z ≡ Some v) (eqb-true x y e) (set_here places x v h)
      | false ↦ λ e. set_other places x y v (λ s. let yes = eq-eqb x y s in let no : true ≡ false = sym yes ∙ e in cc)
    ] in
    ap (λ l. held_in l y) (filled_is places x v h) ∙ cases (x == y) refl

pub filled_same : (places : List (Option Value)) (x : ℕ) (v : Value) → x < length places → held_in (filled_in places x v) ≡ at_place (held_in places) x v
filled_same places x v h = λ i y. filled_one places x v h y i

held_some : (o : Option (Option Value)) (v : Value) → held_of o ≡ Some v → o ≡ Some (Some v)
held_some None v h = cc
held_some (Some None) v h = cc
held_some (Some (Some w)) v h = ap Some h

pub held_low : (places : List (Option Value)) (x : ℕ) (v : Value) → held_in places x ≡ Some v → x < length places
held_low places x v h = slice_get_within places x (Some v) (held_some (slice_get places x) v h)

-- nothing is held at first
nones_held : (n x : ℕ) → held_in (nones n) x ≡ None
nones_held zero x = refl
nones_held (suc n) zero = refl
nones_held (suc n) (suc x) = nones_held n x

append_held : (xs ys : List (Option Value)) → ((x : ℕ) → held_in xs x ≡ None) → ((x : ℕ) → held_in ys x ≡ None) → (x : ℕ) → held_in (xs ++ ys) x ≡ None
append_held [] ys h k x = k x
append_held (o ∷ xs) ys h k zero = h zero
append_held (o ∷ xs) ys h k (suc x) = append_held xs ys (λ y. h (suc y)) k x

cells_held : (arrays : List (List ℕ × ℕ)) (x : ℕ) → held_in (no_cells arrays) x ≡ None
cells_held [] x = refl
cells_held (a ∷ arrays) x = append_held (nones a.1) (no_cells arrays) (nones_held a.1) (cells_held arrays) x

pub empty_at_start : (arrays : List (List ℕ × ℕ)) (n : ℕ) → memory_of (no_cells arrays) (nones n) ≡ record { cells = λ x. None; outputs = λ j. None }
empty_at_start arrays n = λ i. record { cells = λ x. cells_held arrays x i; outputs = λ j. nones_held n j i }

pub nones_long : (n : ℕ) → length (nones n) ≡ n
nones_long zero = refl
nones_long (suc n) = ap suc (nones_long n)

pub cells_long : (arrays : List (List ℕ × ℕ)) → length (no_cells arrays) ≡ total_of arrays
cells_long [] = refl
cells_long (a ∷ arrays) =
    let p = length-append (nones a.1) (no_cells arrays) in
    let q = nones_long a.1 in
    let r = cells_long arrays in
    omega (arith, p, q, r)

pub cell_low : (arrays : List (List ℕ × ℕ)) (a i : ℕ) → i < len_of arrays a → first_of arrays a + i < total_of arrays
cell_low [] a i h = absurd (omega (arith, h))
cell_low (x ∷ arrays) zero i h = omega (arith, h)
cell_low (x ∷ arrays) (suc a) i h = let ih = cell_low arrays a i h in omega (arith, ih)
