-- The uses of the output ports of a node, listed before a run.
use Rattle.std.specs.Prelude.{ℕ, zero, suc, ◌+◌, ◌==◌, List, [], ◌∷◌, ◌++◌, map, length, Option, Some, None, slice_get, nat_lt, if◌then◌else◌}
use Rattle.semantics.specs.declared.graph.Source.{Source}
use Rattle.semantics.specs.Graph.{Node, Block}
use Rattle.oracle.specs.declared.invocations.Made.{Made}
use Rattle.oracle.specs.declared.sending.Sent.{Sent}
use Rattle.oracle.specs.declared.tokens.Spot.{Spot}
use Rattle.oracle.specs.declared.tokens.Spot.TheVariants.{Operand, Predicate, Out, Flag, Carried}
use Rattle.oracle.specs.declared.tokens.Token.{Token}
use Rattle.oracle.specs.declared.uses.Use.{Use}
use Rattle.oracle.specs.Sending.{token_at, result_tokens}

-- for each operand of node m that comes from node n
abbrev pub operand_uses : ℕ → ℕ → ℕ → List Source → List Use
operand_uses n m i [] = []
operand_uses n m i (s ∷ ss) = if s.node == n then record { port = s.port; spot = Operand m i } ∷ operand_uses n m (i + 1) ss else operand_uses n m (i + 1) ss

abbrev pub node_uses : ℕ → ℕ → List (Node (List ℕ)) → List Use
node_uses n m [] = []
node_uses n m (line ∷ lines) = operand_uses n m 0 line.sources ++ node_uses n (m + 1) lines

-- for each result that comes from node n
abbrev pub result_uses : ℕ → ℕ → List Source → List Use
result_uses n j [] = []
result_uses n j (s ∷ ss) = if s.node == n then record { port = s.port; spot = Out j } ∷ result_uses n (j + 1) ss else result_uses n (j + 1) ss

-- one for each use of a port of node n
abbrev pub uses_in : ℕ → Block (List ℕ) → List Use
uses_in n b = node_uses n b.inputs b.nodes ++ result_uses n 0 b.results

-- those of a given number of nodes, from node n on
abbrev pub uses_from : Block (List ℕ) → ℕ → ℕ → List (List Use)
uses_from b n zero = []
uses_from b n (suc k) = uses_in n b ∷ uses_from b (n + 1) k

-- the nodes whose uses are listed are the first ones
abbrev pub listed_count : Block (List ℕ) → ℕ
listed_count b = if nat_lt 256 (b.inputs + length b.nodes) then 256 else b.inputs + length b.nodes

abbrev pub listed_in : List (List ℕ × Block (List ℕ)) → List (List (List Use))
listed_in bs = map (λ (b : List ℕ × Block (List ℕ)). uses_from b.1 0 (listed_count b.1)) bs

abbrev pub row_at : Option (List (List Use)) → ℕ → Option (List Use)
row_at None n = None
row_at (Some rows) n = slice_get rows n

-- what is sent to a use
abbrev pub use_tokens : Sent → Made → ℕ → Spot → List Token
use_tokens x made inputs (Operand m i) = token_at x (Operand m i) ∷ []
use_tokens x made inputs (Predicate m) = token_at x (Predicate m) ∷ []
use_tokens x made inputs (Out j) = result_tokens x made inputs j
use_tokens x made inputs (Flag j) = token_at x (Flag j) ∷ []
use_tokens x made inputs (Carried j) = token_at x (Carried j) ∷ []

-- what is sent to the uses of a port
abbrev pub used_tokens : Sent → Made → ℕ → ℕ → List Use → List Token
used_tokens x made inputs p [] = []
used_tokens x made inputs p (u ∷ us) = if u.port == p then use_tokens x made inputs u.spot ++ used_tokens x made inputs p us
    else used_tokens x made inputs p us
