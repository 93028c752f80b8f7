use Rattle.std.proofs.Common.{◌≡◌, drop, []}
use Rattle.slot_alloc.specs.Tables.{distinct}
use Rattle.slot_alloc.proofs.table.distinct.Given as goal

abbrev pub invariant-loop-mark : goal.invariant-loop-mark
invariant-loop-mark g l = distinct l.seen.items (drop l.mark-index l.marks) ≡ distinct [] l.marks
