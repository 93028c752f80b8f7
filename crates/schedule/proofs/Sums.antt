-- Sums and lists over the numbers below n.
use Rattle.std.proofs.Common.{◌≡◌, sym, ap, subst, ℕ, suc, ◌+◌, ◌<◌, List, ◌++◌, length, map, get_or, Option, Some, arith}
use Rattle.std.specs.Prelude.{◌%◌, ◌*◌, ◌/◌}
use Rattle.std.proofs.Math.Nat.{mul_comm}
use Rattle.std.proofs.lemmas.Nat.{div_below}
use Rattle.semantics.specs.Report.{sum_below, waiters}
use Rattle.element.specs.Holding.{Holding, LaneView, held_of}
use Rattle.schedule.specs.Reported.{slot_of_lane, credits_below, entry, cell_value, cell_readers, full_below, value_of, readers_of}
use Rattle.schedule.proofs.Memory.{held_at}

pub sum_next : (n : ℕ) (f : ℕ → ℕ) → sum_below (n + 1) f ≡ sum_below n f + f n
sum_next n f = let e : n + 1 ≡ suc n = omega arith in ap (λ (m : ℕ). sum_below m f) e

pub full_next : (n : ℕ) (lanes : List Holding) (k : ℕ) → full_below n lanes (k + 1) ≡ full_below n lanes k ++ entry k (cell_value n lanes k)
full_next n lanes k = let e : k + 1 ≡ suc k = omega arith in ap (λ (m : ℕ). full_below n lanes m) e

pub value_there : (items : List LaneView) (n x : ℕ) (lane : LaneView) → x % n < length items → lane ≡ get_or items (x % n) lane
    → value_of x (Some (held_of lane)) ≡ cell_value n (map held_of items) x
value_there items n x lane low is = ap (λ (o : Option Holding). value_of x o) (sym (held_at items (x % n) lane low is))

pub readers_there : (items : List LaneView) (n x : ℕ) (lane : LaneView) → x % n < length items → lane ≡ get_or items (x % n) lane
    → readers_of x (Some (held_of lane)) ≡ cell_readers n (map held_of items) x
readers_there items n x lane low is = ap (λ (o : Option Holding). readers_of x o) (sym (held_at items (x % n) lane low is))

pub credits_there : (items : List LaneView) (n width f : ℕ) (lane : LaneView) → f % n < length items → lane ≡ get_or items (f % n) lane
    → sum_below width (λ r. waiters (slot_of_lane f r (Some (held_of lane)))) ≡ credits_below n (map held_of items) width f
credits_there items n width f lane low is = ap (λ (o : Option Holding). sum_below width (λ r. waiters (slot_of_lane f r o)))
    (sym (held_at items (f % n) lane low is))

pub frame_below : (f n frames : ℕ) → 0 < n → f < n * frames → f / n < frames
frame_below f n frames some low = div_below f n frames some (subst (λ (t : ℕ). f < t) (mul_comm n frames) low)
