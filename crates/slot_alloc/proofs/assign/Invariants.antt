use Rattle.std.proofs.Common.{◌≡◌, map, length}
use Rattle.slot_alloc.proofs.Steps.{AssignedBelow}
use Rattle.slot_alloc.proofs.assign.Given as goal

abbrev pub invariant-loop-number : goal.invariant-loop-number
invariant-loop-number g l = AssignedBelow l.fn.plan l.number (map (λ v. v.items) l.lists.items) × (length l.lists.items ≡ l.number)
