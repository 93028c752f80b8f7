use Rattle.std.proofs.Common.{◌≡◌, ◌+◌, take}
use Rattle.tags.specs.declared.token.Token.{Token}
use Rattle.ordering.specs.Pools.{amount, all_copies}
use Rattle.ordering.proofs.pool.Pool.take_first.Given as goal

abbrev pub invariant-loop-at : goal.invariant-loop-at
invariant-loop-at g l = (q : Token) → amount l.fn.self q ≡ amount l.self q + all_copies q (take l.at l.tokens)
