-- The tokens that an activity adds.
use Rattle.std.specs.Prelude.{◌≡◌, ◌<◌, Some, slice_get, ℕ, ◌+◌, zero, suc, Bool, false, ◌&&◌, ◌==◌, List, [], ◌∷◌, ◌++◌, if◌then◌else◌}
use Rattle.tags.specs.declared.value.Value.{Value}
use Rattle.semantics.specs.declared.graph.Region.{Region}
use Rattle.semantics.specs.declared.graph.Region.TheVariants.{Root, Arm}
use Rattle.semantics.specs.declared.graph.Source.{Source}
use Rattle.semantics.specs.declared.graph.Kind.{Kind}
use Rattle.semantics.specs.declared.graph.Kind.TheVariants.{Enter}
use Rattle.semantics.specs.Graph.{Node, Block}
use Rattle.oracle.specs.declared.invocations.Made.{Made}
use Rattle.oracle.specs.declared.invocations.Made.TheVariants.{Main, Called, Turned}
use Rattle.oracle.specs.declared.sending.Sent.{Sent}
use Rattle.oracle.specs.declared.tokens.Spot.{Spot}
use Rattle.oracle.specs.declared.tokens.Spot.TheVariants.{Operand, Predicate, Out, Flag, Carried}
use Rattle.oracle.specs.declared.tokens.Token.{Token}

abbrev pub token_at : Sent → Spot → Token
token_at x s = record { context = x.context; spot = s; value = x.value }

abbrev pub is_port_of : Source → ℕ → ℕ → Bool
is_port_of s n p = (s.node == n) && (s.port == p)

-- the sources of each node are earlier ones; the first of the nodes has number m
abbrev pub AreOrdered : ℕ → List (Node (List ℕ)) → Type 0
AreOrdered m nodes = (k : ℕ) (node : Node (List ℕ)) (i : ℕ) (s : Source) → slice_get nodes k ≡ Some node → slice_get node.sources i ≡ Some s → s.node < m + k

-- for each operand of node m that comes from port p of node n
abbrev pub operand_tokens : Sent → ℕ → ℕ → ℕ → ℕ → List Source → List Token
operand_tokens x n p m i [] = []
operand_tokens x n p m i (s ∷ ss) = if is_port_of s n p then token_at x (Operand m i) ∷ operand_tokens x n p m (i + 1) ss else operand_tokens x n p m (i + 1) ss

abbrev pub node_tokens : Sent → ℕ → ℕ → ℕ → List (Node (List ℕ)) → List Token
node_tokens x n p m [] = []
node_tokens x n p m (line ∷ lines) = operand_tokens x n p m 0 line.sources ++ node_tokens x n p (m + 1) lines

abbrev pub flag_tokens : Sent → ℕ → ℕ → List Token
flag_tokens x from zero = []
flag_tokens x from (suc k) = token_at x (Flag from) ∷ flag_tokens x (from + 1) k

abbrev pub turned_tokens : Sent → ℕ → ℕ → List Token
turned_tokens x inputs zero = flag_tokens x 1 inputs
turned_tokens x inputs (suc j) = token_at x (Carried (suc j)) ∷ []

-- result j of an invocation
abbrev pub result_tokens : Sent → Made → ℕ → ℕ → List Token
result_tokens x Main inputs j = token_at x (Out j) ∷ []
result_tokens x (Called c n) inputs j = token_at x (Out j) ∷ []
result_tokens x (Turned c n i) inputs j = turned_tokens x inputs j

abbrev pub results_tokens : Sent → Made → ℕ → ℕ → ℕ → ℕ → List Source → List Token
results_tokens x made inputs n p j [] = []
results_tokens x made inputs n p j (s ∷ ss) = if is_port_of s n p then result_tokens x made inputs j ++ results_tokens x made inputs n p (j + 1) ss
    else results_tokens x made inputs n p (j + 1) ss

-- one token for each use of port p of node n
abbrev pub sent_tokens : Sent → Made → ℕ → ℕ → Block (List ℕ) → List Token
sent_tokens x made n p b = node_tokens x n p b.inputs b.nodes ++ results_tokens x made b.inputs n p 0 b.results

abbrev pub is_arm_of : ℕ → Region → Bool
is_arm_of k Root = false
is_arm_of k (Arm c side) = c == k

abbrev pub is_gate_of : ℕ → Region → Kind (List ℕ) → Bool
is_gate_of k r Enter = is_arm_of k r
is_gate_of k r kind = false

-- a predicate for each `enter` of an arm of conditional k
abbrev pub steered_tokens : Sent → ℕ → ℕ → List (Node (List ℕ)) → List Token
steered_tokens x k m [] = []
steered_tokens x k m (line ∷ lines) = if is_gate_of k line.region line.kind then token_at x (Predicate m)
    ∷ steered_tokens x k (m + 1) lines else steered_tokens x k (m + 1) lines

-- the inputs of an invocation, from a first one on
abbrev pub entering_tokens : ℕ → ℕ → List Value → List Token
entering_tokens c i [] = []
entering_tokens c i (v ∷ vs) = record { context = c; spot = Operand i 0; value = v } ∷ entering_tokens c (i + 1) vs
