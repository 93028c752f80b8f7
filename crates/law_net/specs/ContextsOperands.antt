-- How many sources a node has and that they are earlier nodes, where an enter lies, and that a loop has at least one turn: what a graph's
-- conditions say of it besides `IsFlowWell`.
use Rattle.std.specs.Prelude.{◌≡◌, ◌≢◌, ℕ, ◌<◌, List, Some, slice_get, length, ⊤}
use Rattle.semantics.specs.declared.graph.Region.{Region}
use Rattle.semantics.specs.declared.graph.Region.TheVariants.{Root}
use Rattle.semantics.specs.declared.graph.Kind.{Kind}
use Rattle.semantics.specs.declared.graph.Source.{Source}
use Rattle.semantics.specs.Graph.{Node, Block, Flow, node_at}

-- an enter lies in an arm
abbrev pub HasOperands : Region → Kind ℕ → ℕ → Type 0
HasOperands r (Kind.Lit z) n = n ≡ 1
HasOperands r (Kind.Apply1 op) n = n ≡ 1
HasOperands r (Kind.Apply2 op) n = n ≡ 2
HasOperands r Kind.Cond n = n ≡ 1
HasOperands r Kind.Enter n = (n ≡ 1) × (r ≢ Root)
HasOperands r (Kind.Merge k) n = n ≡ 2
HasOperands r (Kind.Fetch a) n = n ≡ 1
HasOperands r (Kind.Store a) n = n ≡ 2
HasOperands r (Kind.Loop f k) n = 0 < k
HasOperands r kind n = ⊤

abbrev pub HaveOperands : Flow → Type 0
HaveOperands fl = (i n : ℕ) (b : Block ℕ) (line : Node ℕ) → slice_get fl.blocks i ≡ Some b → node_at b n ≡ Some line
    → HasOperands line.region line.kind (length line.sources)

-- A node's sources are earlier nodes of its block.
abbrev pub SourcesAreEarlier : Flow → Type 0
SourcesAreEarlier fl = (i n l : ℕ) (b : Block ℕ) (line : Node ℕ) (s : Source) → slice_get fl.blocks i ≡ Some b → node_at b n ≡ Some line
    → slice_get line.sources l ≡ Some s → s.node < n
