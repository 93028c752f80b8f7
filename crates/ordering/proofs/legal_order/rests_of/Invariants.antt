use Rattle.std.proofs.Common.{◌≡◌, length}
use Rattle.ordering.specs.Orders.{AreWholeSoFar}
use Rattle.ordering.proofs.legal_order.rests_of.Given as goal

abbrev pub invariant-loop-at : goal.invariant-loop-at
invariant-loop-at g l = (length l.rests.items ≡ l.at) × AreWholeSoFar l.logs l.rests.items
