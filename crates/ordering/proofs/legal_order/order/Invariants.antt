use Rattle.std.proofs.Common.{◌≡◌, List, length, IsPermutation}
use Rattle.tags.specs.declared.token.Token.{Token}
use Rattle.law_linearization.specs.History.{Block}
use Rattle.ordering.specs.Pools.{amount}
use Rattle.ordering.specs.Orders.{IsHistory, OrderedSoFar, blocks_left}
use Rattle.ordering.proofs.legal_order.order.Given as goal

abbrev pub invariant-passes : goal.invariant-passes
invariant-passes g l = record {
  so_far : (log : List Block) (start last : List Token) → IsHistory l.logs log start last → IsPermutation l.opening start
      → OrderedSoFar (length l.logs) log start last (amount l.pool) l.rests.items l.events.items;
  count : length l.rests.items ≡ length l.logs;
}

abbrev pub decreases-passes : goal.decreases-passes
decreases-passes g l = blocks_left l.rests.items
