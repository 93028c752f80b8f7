use Rattle.std.proofs.Common.{◌≡◌, ℕ, ◌≤◌, List, length}
use Rattle.tags.specs.declared.token.Token.{Token}
use Rattle.law_linearization.specs.History.{Block}
use Rattle.ordering.specs.Pools.{amount}
use Rattle.ordering.specs.Rests.{IsRestOf, Holds, GoesOn}
use Rattle.ordering.proofs.rest.go_on.Given as goal

abbrev pub invariant-turn : goal.invariant-turn
invariant-turn g l = record {
  goes : (n : ℕ) (tokens : List Token) (blocks : List Block) → Holds (amount l.fn.pool) tokens → IsRestOf l.rest blocks
      → GoesOn n l.element tokens blocks l.fn.events.items (amount l.pool) l.left l.events.items;
  fewer : length l.left.blocks.now ≤ length l.rest.blocks.now;
  less : length l.left.blocks.now ≡ length l.rest.blocks.now → (q : Token) → amount l.pool q ≤ amount l.fn.pool q;
}

abbrev pub decreases-turn : goal.decreases-turn
decreases-turn g l = length l.left.blocks.now
