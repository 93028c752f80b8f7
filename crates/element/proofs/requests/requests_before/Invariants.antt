use Rattle.std.proofs.Common.{◌≡◌, ◌+◌, drop}
use Rattle.element.specs.Requests.{held_back}
use Rattle.element.proofs.requests.requests_before.Given as goal

abbrev pub invariant-loop-at : goal.invariant-loop-at
invariant-loop-at g l = held_back l.queue.items ≡ l.at + held_back (drop l.at l.queue.items)
