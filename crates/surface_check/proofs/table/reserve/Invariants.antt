use Rattle.std.proofs.Common.{◌≡◌, ℕ, ◌+◌, ◌-◌, length, slice_index_or, None}
use Rattle.surface_check.proofs.table.reserve.Given as goal

abbrev pub invariant-loop-entries : goal.invariant-loop-entries
invariant-loop-entries g l = (n : ℕ) → slice_index_or l.entries.items n None ≡ slice_index_or l.initial.entries.items n None

abbrev pub decreases-loop-entries : goal.decreases-loop-entries
decreases-loop-entries g l = (l.name + 1) - length l.entries.items
