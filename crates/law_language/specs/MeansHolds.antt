-- WHAT A GRAPH HOLDS OF A LOWERED PART: its lines in a block, from a node on, and the blocks of its loops.
use Rattle.std.specs.Prelude.{◌≡◌, ℕ, ◌+◌, ⊤, List, [], ◌∷◌, Some, slice_get}
use Rattle.tags.specs.declared.value.Origin.{Origin}
use Rattle.tags.specs.declared.value.Origin.TheVariants.{At}
use Rattle.semantics.specs.declared.graph.Kind.{Kind}
use Rattle.semantics.specs.declared.graph.Kind.TheVariants.{Apply2, Fetch, Store}
use Rattle.semantics.specs.Graph.{Node, Block, Graph, place_of, resolved_kind, resolved_block, array_names, block_names, flow_of}
use Rattle.source.specs.Tree.{Name}
use Rattle.source.specs.Lowered.{Made, MadeBlock, graph_block, block_name}

-- a node line, with the places of arrays and blocks of the graph for their names
abbrev pub resolved : Graph → Made → Node ℕ
resolved g m = record { region = m.node.region; kind = resolved_kind (array_names g) (block_names g) m.node.kind; sources = m.node.sources }

-- the nodes that make faults
abbrev pub MayFail : Kind Name → Type 0
MayFail (Apply2 op) = ⊤
MayFail (Fetch a) = ⊤
MayFail (Store a) = ⊤
MayFail kind = ⊥

-- The faults of these lines of block i, from node n on, have the origins that are given for their tokens.
abbrev pub AreTraced : (ℕ → Origin) → ℕ → ℕ → List Made → Type 0
AreTraced origin i n [] = ⊤
AreTraced origin i n (m ∷ ms) = (MayFail m.node.kind → origin m.at ≡ At i n) × AreTraced origin i (n + 1) ms

-- the place of a block of function f
abbrev pub block_place : Graph → Name → MadeBlock → ℕ
block_place g f b = place_of (block_name f b.loop) (block_names g)

abbrev pub block_in : Graph → Name → MadeBlock → Block ℕ
block_in g f b = resolved_block (array_names g) (block_names g) (graph_block f b).1

-- The graph has this block of f at the place of its name.
pub record HasBlock (g : Graph) (origin : ℕ → Origin) (f : Name) (b : MadeBlock) : Type 0 where
  pub is_there : slice_get (flow_of g).blocks (block_place g f b) ≡ Some (block_in g f b)
  pub traced : AreTraced origin (block_place g f b) b.inputs b.nodes

abbrev pub HasBlocks : Graph → (ℕ → Origin) → Name → List MadeBlock → Type 0
HasBlocks g origin f [] = ⊤
HasBlocks g origin f (b ∷ blocks) = HasBlock g origin f b × HasBlocks g origin f blocks
