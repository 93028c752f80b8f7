use Rattle.std.proofs.Common.{◌<◌}
use Rattle.element.proofs.grant_order.GrantOrder.best_of.Given as goal

abbrev pub invariant-loop-at : goal.invariant-loop-at
invariant-loop-at g l = l.best < l.held
