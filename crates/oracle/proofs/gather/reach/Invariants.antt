use Rattle.std.proofs.Common.{◌≡◌, ◌+◌, ◌-◌, map, length}
use Rattle.oracle.specs.Rows.{rows_of}
use Rattle.oracle.proofs.gather.reach.Given as goal

abbrev pub invariant-loop-rows : goal.invariant-loop-rows
invariant-loop-rows g l = rows_of (map (λ v. v.items) l.rows.items) ≡ rows_of (map (λ v. v.items) l.fn.rows.items)

abbrev pub decreases-loop-rows : goal.decreases-loop-rows
decreases-loop-rows g l = l.context + 1 - length l.rows.items
