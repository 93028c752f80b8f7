use Rattle.slot_alloc.proofs.Steps.{GoodBelow}
use Rattle.slot_alloc.proofs.check_slots.Given as goal

abbrev pub invariant-loop-number : goal.invariant-loop-number
invariant-loop-number g l = GoodBelow l.fn.plan l.number l.fn.slots
