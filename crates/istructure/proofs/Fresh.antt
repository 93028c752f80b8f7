-- Which cells an element owns at first.
use Rattle.std.proofs.Common.{◌≡◌, ℕ, suc, ◌+◌, ◌-◌, ◌*◌, ◌/◌, ◌%◌, ◌<◌, ◌≤◌, length, Option, Some, None, sym, ap, refl, ◌∙◌, arith, replicate, subst}
use Rattle.std.proofs.Math.Nat.{le-div_iff_mul-le, div-lt_iff_lt-mul}
use Rattle.std.proofs.lemmas.List.{length-replicate, get_or-replicate}
use Rattle.std.proofs.lemmas.Option.{slice_get-get_or}
use Rattle.semantics.specs.Machine.{CellState, Vacant}
use Rattle.istructure.specs.OwnCells.{cell_at, own_count, all_vacant}
use Rattle.istructure.proofs.Places.{place_is, is_place, cell_at-place, place_from_state}

-- row q lies within m cells, so q is below the number of whole rows of n cells
row_below : (n q m : ℕ) → 0 < n → n * q + n ≤ m → q < m / n
row_below n q m pos h =
    let e : suc q * n ≤ m = omega (arith, h) in
    (le-div_iff_mul-le {x = suc q} {y = m} pos).1 e

row_above : (n q m : ℕ) → 0 < n → m < n * q + n → m / n ≤ q
row_above n q m pos h =
    let e : m < suc q * n = omega (arith, h) in
    let f : m / n < suc q = (div-lt_iff_lt-mul {x = m} {y = suc q} pos).1 e in
    omega (arith, f)

pub vacant_here : (cells e es x : ℕ) → e < es → x < cells → x % es ≡ e → cell_at (all_vacant cells e es) x ≡ Some Vacant
vacant_here cells e es x h below ours =
    let pos : 0 < es = omega arith in
    let at : es * (x / es) + x % es ≡ x = omega arith in
    let within : x / es < own_count cells e es = row_below es (x / es) (cells + es - 1 - e) pos (omega arith) in
    let inside : x / es < length (replicate (own_count cells e es) Vacant) = subst (λ n. x / es < n)
    (sym (length-replicate (own_count cells e es) Vacant)) within in
    cell_at-place (all_vacant cells e es) x (x / es) (is_place (all_vacant cells e es) x (x / es) record { ours = ours; here = refl; within = inside })
    ∙ slice_get-get_or (replicate (own_count cells e es) Vacant) (x / es) Vacant inside
    ∙ ap (λ (z : CellState). Some z) (get_or-replicate (own_count cells e es) (x / es) Vacant Vacant within)

pub none_beyond : (cells e es x : ℕ) → e < es → cells ≤ x → cell_at (all_vacant cells e es) x ≡ None
none_beyond cells e es x h above = go (cell_at (all_vacant cells e es) x) refl where
  go : (o : Option CellState) → cell_at (all_vacant cells e es) x ≡ o → o ≡ None
  go None q = refl
  go (Some state) q =
      let w = place_from_state (all_vacant cells e es) x state q in
      let p = place_is (all_vacant cells e es) x w.0 w.1 in
      let within : w.0 < own_count cells e es = subst (λ n. w.0 < n) (length-replicate (own_count cells e es) Vacant) p.within in
      let pos : 0 < es = omega arith in
      let at : es * (x / es) + x % es ≡ x = omega arith in
      let rem : x % es ≡ e = p.ours in
      let past : own_count cells e es ≤ x / es = row_above es (x / es) (cells + es - 1 - e) pos (omega arith) in
      let same : x / es ≡ w.0 = p.here in
      absurd (omega arith)
