-- The picture of a graph, as text in Graphviz's language DOT.
use Rattle.std.specs.Prelude.{ℕ, zero, suc, ◌+◌, Bool, true, false, Option, Some, None, List, [], ◌∷◌, ◌++◌, length, codes, decimal}
use Rattle.semantics.specs.declared.graph.Region.{Region}
use Rattle.semantics.specs.declared.graph.Region.TheVariants.{Root, Arm}
use Rattle.semantics.specs.declared.graph.Source.{Source}
use Rattle.semantics.specs.declared.graph.Kind.{Kind}
use Rattle.semantics.specs.declared.graph.Kind.TheVariants.{Lit, Apply1, Apply2, Cond, Enter, Merge, Fetch, Store, Call, StrictCall, Loop}
use Rattle.semantics.specs.Graph.{Node, Block, Graph, node_at}
use Rattle.semantics.specs.Text.{field, kind_text}
use Rattle.sink.specs.Numbered.{numbered}

-- ARMS. A node lies within the arms of all conditionals around it, the outermost first.
abbrev pub region_in : Option (Node (List ℕ)) → Region
region_in None = Root
region_in (Some node) = node.region

abbrev pub region_of : Block (List ℕ) → ℕ → Region
region_of block n = region_in (node_at block n)

-- the letter of an arm in the name of its box, and its sign on it
abbrev pub arm_letter : Region → List ℕ
arm_letter Root = []
arm_letter (Arm k true) = codes "t"
arm_letter (Arm k false) = codes "f"

abbrev pub arm_sign : Region → List ℕ
arm_sign Root = []
arm_sign (Arm k true) = codes "+"
arm_sign (Arm k false) = codes "-"

-- an arm is a dotted box with the name that the text has for it
abbrev pub arm_opens : ℕ → Region → List ℕ
arm_opens b Root = []
arm_opens b (Arm k side) = codes "subgraph cluster_b" ++ decimal b ++ arm_letter (Arm k side) ++ decimal k ++ codes " { style=dotted label=\""
    ++ decimal k ++ arm_sign (Arm k side) ++ codes "\" "

-- the boxes that begin around a node: `depth` conditionals at most
abbrev pub opens : ℕ → ℕ → Block (List ℕ) → Region → List ℕ
opens depth b block Root = []
opens zero b block (Arm k side) = []
opens (suc depth) b block (Arm k side) = opens depth b block (region_of block k) ++ arm_opens b (Arm k side)

abbrev pub closes : ℕ → Block (List ℕ) → Region → List ℕ
closes depth block Root = []
closes zero block (Arm k side) = []
closes (suc depth) block (Arm k side) = closes depth block (region_of block k) ++ codes "} "

-- NODES AND EDGES
abbrev pub node_box : ℕ → ℕ → Kind (List ℕ) → List ℕ
node_box b n kind = codes "b" ++ decimal b ++ codes "n" ++ decimal n ++ codes " [label=\"" ++ decimal n ++ field (kind_text kind) ++ codes "\"] "

-- the predicate of a conditional has a dashed edge
abbrev pub style_of : Kind (List ℕ) → List ℕ
style_of Cond = codes " style=dashed"
style_of kind = []

-- an edge has the port of its source at its tail, and the number of the operand at its head
abbrev pub edge : ℕ → ℕ → List ℕ → ℕ → Source → List ℕ
edge b n style k s = codes "b" ++ decimal b ++ codes "n" ++ decimal s.node ++ codes " -> b" ++ decimal b ++ codes "n" ++ decimal n
    ++ codes " [taillabel=\"" ++ decimal s.port ++ codes "\" headlabel=\"" ++ decimal k ++ codes "\"" ++ style ++ codes "]\n"

-- a node's box within those of its arms, of which there are at most `depth`
abbrev pub node_place : ℕ → ℕ → Block (List ℕ) → Region → ℕ → Kind (List ℕ) → List ℕ
node_place depth b block region n kind = opens depth b block region ++ node_box b n kind ++ closes depth block region ++ codes "\n"

-- node lines are numbered after the inputs
abbrev pub node_dot : ℕ → Block (List ℕ) → ℕ → Node (List ℕ) → List ℕ
node_dot b block i node = node_place (length block.nodes) b block node.region (block.inputs + i) node.kind
    ++ numbered (edge b (block.inputs + i) (style_of node.kind)) 0 node.sources

-- INPUTS AND RESULTS
abbrev pub input_box : ℕ → ℕ → List ℕ
input_box b n = codes "b" ++ decimal b ++ codes "n" ++ decimal n ++ codes " [shape=box label=\"" ++ decimal n ++ codes " input\"]\n"

abbrev pub inputs_dot : ℕ → ℕ → List ℕ
inputs_dot b zero = []
inputs_dot b (suc n) = inputs_dot b n ++ input_box b n

abbrev pub result_dot : ℕ → ℕ → Source → List ℕ
result_dot b k s = codes "b" ++ decimal b ++ codes "o" ++ decimal k ++ codes " [shape=box label=\"output " ++ decimal k ++ codes "\"]\nb" ++ decimal b
    ++ codes "n" ++ decimal s.node
    ++ codes " -> b" ++ decimal b ++ codes "o" ++ decimal k ++ codes " [taillabel=\"" ++ decimal s.port ++ codes "\"]\n"

-- THE WHOLE
abbrev pub block_head : ℕ → List ℕ → List ℕ
block_head b name = codes "subgraph cluster_b" ++ decimal b ++ codes " { label=\"block " ++ name ++ codes "\"\n"

abbrev pub block_dot : ℕ → List ℕ × Block (List ℕ) → List ℕ
block_dot b named = block_head b named.0 ++ inputs_dot b named.1.inputs ++ numbered (node_dot b named.1) 0 named.1.nodes
    ++ numbered (result_dot b) 0 named.1.results ++ codes "}\n"

abbrev pub graph_head : List ℕ → List ℕ
graph_head main = codes "digraph ets { label=\"main " ++ main ++ codes "\"\nnode [fontname=\"sans-serif\"] edge [fontsize=8 fontname=\"sans-serif\"]\n"

-- each block's box, with its inputs, nodes, edges and results
abbrev pub graph_dot : Graph → List ℕ
graph_dot g = graph_head g.main ++ numbered block_dot 0 g.blocks ++ codes "}\n"
