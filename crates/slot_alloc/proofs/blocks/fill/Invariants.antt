use Rattle.std.proofs.Common.{◌≡◌, length}
use Rattle.slot_alloc.specs.Tables.{IsFilled}
use Rattle.slot_alloc.proofs.blocks.fill.Given as goal

abbrev pub invariant-loop-holder : goal.invariant-loop-holder
invariant-loop-holder g l = IsFilled l.fn.table l.slots.items × (length l.slots.items ≡ l._holder)
