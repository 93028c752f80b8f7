-- WHAT A BLOCK HOLDS: these lines, from a node on.
use Rattle.std.specs.Prelude.{◌≡◌, ℕ, ◌+◌, ⊤, List, [], ◌∷◌, Some}
use Rattle.semantics.specs.Graph.{Node, Block, node_at}

-- from node n on, the block has these lines
abbrev pub Holds : {N : Type 0} → Block N → ℕ → List (Node N) → Type 0
Holds b n [] = ⊤
Holds b n (line ∷ lines) = (node_at b n ≡ Some line) × Holds b (n + 1) lines
