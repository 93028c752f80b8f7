use Rattle.std.proofs.Common.{◌≡◌}
use Rattle.slot_alloc.specs.Tables.{after_rows}
use Rattle.slot_alloc.proofs.table.after_rows.Given as goal

abbrev pub invariant-loop-group : goal.invariant-loop-group
invariant-loop-group g l = l.rows.items ≡ after_rows l.fn.plan l.marks l.fn.block l.group
