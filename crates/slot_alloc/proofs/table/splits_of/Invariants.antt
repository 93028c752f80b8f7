use Rattle.std.proofs.Common.{◌≡◌}
use Rattle.slot_alloc.specs.Tables.{splits_of}
use Rattle.slot_alloc.proofs.table.splits_of.Given as goal

abbrev pub invariant-loop-group : goal.invariant-loop-group
invariant-loop-group g l = l.splits.items ≡ splits_of l.fn.plan l.marks l.fn.block l.known.items l.group
