use Rattle.std.proofs.Common.{◌≡◌, ℕ, ◌<◌, get_or, true, false}
use Rattle.slot_alloc.proofs.table.Table.least_open.Given as goal

abbrev pub invariant-loop-slot : goal.invariant-loop-slot
invariant-loop-slot g l = (r : ℕ) → r < l.slot → get_or l.blocked r false ≡ true
