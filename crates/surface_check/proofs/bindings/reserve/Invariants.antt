use Rattle.std.proofs.Common.{◌≡◌, ℕ, ◌+◌, ◌-◌, length, slice_index_or}
use Rattle.surface_check.proofs.bindings.reserve.Given as goal

abbrev pub invariant-loop-places : goal.invariant-loop-places
invariant-loop-places g l = (n : ℕ) → slice_index_or l.places.items n 0 ≡ slice_index_or l.initial.places.items n 0

abbrev pub decreases-loop-places : goal.decreases-loop-places
decreases-loop-places g l = (l.name + 1) - length l.places.items
