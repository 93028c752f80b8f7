use Rattle.std.proofs.Common.{◌≡◌, ◌+◌, take}
use Rattle.tags.specs.declared.token.Token.{Token}
use Rattle.ordering.specs.Pools.{amount, all_copies}
use Rattle.ordering.proofs.pool.Pool.put_all.Given as goal

abbrev pub invariant-loop-token : goal.invariant-loop-token
invariant-loop-token g l = (q : Token) → amount l.self q ≡ amount l.fn.self q + all_copies q (take l.token-index l.tokens)
