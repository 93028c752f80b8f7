use Rattle.std.proofs.Common.{◌≡◌, ℕ, ◌+◌, ◌<◌, ◌≤◌, false, List, length, slice_get, Some, if◌then◌else◌}
use Rattle.tags.specs.declared.token.Token.{Token}
use Rattle.law_linearization.specs.History.{Block}
use Rattle.ordering.specs.declared.rest.Rest.{Rest}
use Rattle.ordering.specs.Pools.{amount}
use Rattle.ordering.specs.Rests.{IsStuck}
use Rattle.ordering.specs.Orders.{OrderedSoFar, blocks_left}
use Rattle.ordering.proofs.legal_order.pass.Given as goal

abbrev pub invariant-loop-at : goal.invariant-loop-at
invariant-loop-at g l = record {
  so_far : (log : List Block) (start last : List Token) → OrderedSoFar (length l.fn.rests.items) log start last (amount l.fn.pool) l.fn.rests.items
      l.fn.events.items
      → OrderedSoFar (length l.fn.rests.items) log start last (amount l.pool) l.rests.items l.events.items;
  stuck : l.went_on ≡ false → (e : ℕ) (r : Rest) → e < l.at → slice_get l.rests.items e ≡ Some r → IsStuck (amount l.pool) r;
  left : blocks_left l.rests.items + (if l.went_on then 1 else 0) ≤ blocks_left l.fn.rests.items;
  count : length l.rests.items ≡ length l.fn.rests.items;
}
