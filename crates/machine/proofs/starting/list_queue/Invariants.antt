use Rattle.std.proofs.Common.{◌≡◌, ◌++◌, take}
use Rattle.machine.proofs.starting.list_queue.Given as goal

abbrev pub invariant-loop-at : goal.invariant-loop-at
invariant-loop-at g l = l.tokens.items ≡ l.fn.tokens.items ++ take l.at l.queue.items
