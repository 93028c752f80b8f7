-- Checks of many items in a row.
use Rattle.std.proofs.Common.{◌≡◌, ℕ, zero, suc, ◌+◌, ◌-◌, ◌<◌, ◌≤◌, Ok, Err, refl, ap, ◌∙◌, arith, add-zero}
use Rattle.object_view.specs.declared.fault.ObjectFault.{ObjectFault}
use Rattle.object_view.specs.Fields.{count_in, slots_in}
use Rattle.object_view.specs.Reading.{instrs_below, array_in}
use Rattle.object_view.specs.Checks.{Checked, each, first_then, cells_below, instr_checked, block_checked}

one_more : (check : ℕ → Checked) (i n : ℕ) → i < n → each check i (n - i) ≡ first_then (check i) (each check (i + 1) (n - (i + 1)))
one_more check i n h =
    let e : n - i ≡ suc (n - (i + 1)) = omega arith in
    ap (each check i) e

pub each_passed : (check : ℕ → Checked) (i n : ℕ) → i < n → check i ≡ Ok tt → each check i (n - i) ≡ each check (i + 1) (n - (i + 1))
each_passed check i n h ok = one_more check i n h ∙ ap (λ (c : Checked). first_then c (each check (i + 1) (n - (i + 1)))) ok

pub each_failed : (check : ℕ → Checked) (i n : ℕ) (e : ObjectFault) → i < n → check i ≡ Err e → each check i (n - i) ≡ Err e
each_failed check i n e h bad = one_more check i n h ∙ ap (λ (c : Checked). first_then c (each check (i + 1) (n - (i + 1)))) bad

pub each_done : (check : ℕ → Checked) (i n : ℕ) → n ≤ i → each check i (n - i) ≡ Ok tt
each_done check i n h =
    let e : n - i ≡ zero = omega arith in
    ap (each check i) e

-- the instructions before a block are no more than all
pub below_rises : (w : ℕ → ℕ) (b k : ℕ) → instrs_below w b ≤ instrs_below w (b + k)
below_rises w b zero = rw add-zero (omega arith)
below_rises w b (suc k) =
    let h : instrs_below w b ≤ instrs_below w (b + k) = below_rises w b k in
    let e : b + suc k ≡ suc (b + k) = omega arith in
    rw e (omega arith)

pub below_all : (w : ℕ → ℕ) (b n : ℕ) → b ≤ n → instrs_below w b ≤ instrs_below w n
below_all w b n h =
    let e : b + (n - b) ≡ n = omega arith in
    rw e at (below_rises w b (n - b))

pub below_next : (w : ℕ → ℕ) (b : ℕ) → instrs_below w (b + 1) ≡ instrs_below w b + count_in (w (6 + b))
below_next w b = let e : b + 1 ≡ suc b = omega arith in ap (instrs_below w) e

pub cells_next : (w : ℕ → ℕ) (k : ℕ) → cells_below w (k + 1) ≡ cells_below w k + array_in w k
cells_next w k = let e : k + 1 ≡ suc k = omega arith in ap (cells_below w) e

pub failed_first : (check : Checked) (next : Checked) (e : ObjectFault) → check ≡ Err e → first_then check next ≡ Err e
failed_first check next e h = ap (λ (c : Checked). first_then c next) h

pub passed_first : (check : Checked) (next : Checked) → check ≡ Ok tt → first_then check next ≡ next
passed_first check next h = ap (λ (c : Checked). first_then c next) h

pub block_same : (w : ℕ → ℕ) (b s f n : ℕ) → s ≡ slots_in (w (6 + b)) → f ≡ instrs_below w b → n ≡ count_in (w (6 + b))
    → each (instr_checked w s (f + n)) f n ≡ block_checked w b
block_same w b s f n p q r = rw (p, q, r) refl
