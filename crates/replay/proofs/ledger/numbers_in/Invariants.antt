use Rattle.std.proofs.Common.{◌≡◌, take}
use Rattle.replay.specs.Entering.{numbers_from}
use Rattle.replay.proofs.ledger.numbers_in.Given as goal

abbrev pub invariant-loop-number : goal.invariant-loop-number
invariant-loop-number g l = l.numbers.items ≡ numbers_from 0 (take l.number l.places)
