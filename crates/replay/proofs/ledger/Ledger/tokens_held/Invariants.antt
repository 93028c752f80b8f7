use Rattle.std.proofs.Common.{◌≡◌, take}
use Rattle.replay.proofs.ledger.Ledger.tokens_held.Given as goal

abbrev pub invariant-loop-at : goal.invariant-loop-at
invariant-loop-at g l = l.tokens.items ≡ take l.at l.queue.items
