-- What the code of a block depends on.
use Rattle.std.specs.Prelude.{ℕ, Bool, List, [], Option, Some, None}
use Rattle.semantics.specs.declared.graph.Source.{Source}
use Rattle.semantics.specs.Graph.{Node, Block, node_at}
use Rattle.schemas.specs.declared.uses.Uses.{Uses}
use Rattle.schemas.specs.Builds.{first_source}

-- `number`: that of the block. `variants`: for each block the number of its loop variant's code. `triggers`: the nodes that
-- are conditionals with triggers that something takes. `uses`: those of each node of the block.
pub record Scope : Type 0 where
  pub version : ℕ
  pub number : ℕ
  pub blocks : List (Block ℕ)
  pub variants : List ℕ
  pub block : Block ℕ
  pub triggers : List Bool
  pub uses : List Uses

abbrev pub predicate_in : Option (Node ℕ) → Source
predicate_in None = first_source []
predicate_in (Some n) = first_source n.sources

-- the source of a conditional's predicate
abbrev pub predicate_of : Block ℕ → ℕ → Source
predicate_of b k = predicate_in (node_at b k)
