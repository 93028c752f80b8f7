use Rattle.std.proofs.Common.{◌≡◌, ◌++◌, map, take, Some}
use Rattle.replay.proofs.ledger.place_all.Given as goal

abbrev pub invariant-loop-token : goal.invariant-loop-token
invariant-loop-token g l = l.places.items ≡ l.fn.places.items ++ map Some (take l.token-index l.tokens)
