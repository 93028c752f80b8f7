use Rattle.std.proofs.Common.{◌≡◌, take}
use Rattle.replay.specs.Entering.{on_way}
use Rattle.replay.proofs.ledger.tokens_in.Given as goal

abbrev pub invariant-loop-place : goal.invariant-loop-place
invariant-loop-place g l = l.tokens.items ≡ on_way (take l.place-index l.places)
