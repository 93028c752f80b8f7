-- Which conditionals have triggers that something takes.
use Rattle.std.specs.Prelude.{ℕ, Bool, true, false, List, [], ◌∷◌, replicate, slice_set, slice_index_or, if◌then◌else◌}
use Rattle.semantics.specs.declared.graph.Region.{Region}
use Rattle.semantics.specs.declared.graph.Region.TheVariants.{Root, Arm}
use Rattle.semantics.specs.declared.graph.Kind.{Kind}
use Rattle.semantics.specs.declared.graph.Kind.TheVariants.{Call, Loop}
use Rattle.semantics.specs.Graph.{Node, Block}

abbrev pub takes_trigger : Kind ℕ → Bool
takes_trigger (Call f) = true
takes_trigger (Loop f k) = true
takes_trigger kind = false

-- with the triggers of the arms of that region's conditional, if it is an arm
abbrev pub with_region : List Bool → Region → List Bool
with_region ts Root = ts
with_region ts (Arm k side) = slice_set ts k true

abbrev pub with_node : List Bool → Node ℕ → List Bool
with_node ts n = if takes_trigger n.kind then with_region ts n.region else ts

abbrev pub with_nodes : List Bool → List (Node ℕ) → List Bool
with_nodes ts [] = ts
with_nodes ts (n ∷ ns) = with_nodes (with_node ts n) ns

-- those of the first `count` nodes
abbrev pub triggers_of : Block ℕ → ℕ → List Bool
triggers_of b count = with_nodes (replicate count false) b.nodes

abbrev pub has_trigger : List Bool → ℕ → Bool
has_trigger ts n = slice_index_or ts n false
