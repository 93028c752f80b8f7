use Rattle.std.proofs.Common.{◌<◌}
use Rattle.std.specs.Prelude.{vec_len}
use Rattle.element.proofs.grant_order.GrantOrder.hold.Given as goal

abbrev pub invariant-places : goal.invariant-places
invariant-places g l = l.at < vec_len l.self.held

abbrev pub decreases-places : goal.decreases-places
decreases-places g l = l.at
