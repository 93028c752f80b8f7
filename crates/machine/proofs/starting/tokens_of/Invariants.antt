use Rattle.std.proofs.Common.{◌≡◌, take, map}
use Rattle.element.specs.Holding.{held_of}
use Rattle.schedule.specs.State.{tokens_in}
use Rattle.machine.proofs.starting.tokens_of.Given as goal

abbrev pub invariant-loop-at : goal.invariant-loop-at
invariant-loop-at g l = l.tokens.items ≡ tokens_in (map held_of (take l.at l.lanes))
