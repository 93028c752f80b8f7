-- How often the outputs of nodes are used.
use Rattle.std.specs.Prelude.{ℕ, ◌+◌, Bool, true, false, List, [], ◌∷◌, replicate, slice_set, slice_index_or, if◌then◌else◌}
use Rattle.semantics.specs.declared.graph.Region.{Region}
use Rattle.semantics.specs.declared.graph.Region.TheVariants.{Root, Arm}
use Rattle.semantics.specs.declared.graph.Source.{Source}
use Rattle.semantics.specs.declared.graph.Kind.{Kind}
use Rattle.semantics.specs.declared.graph.Kind.TheVariants.{Cond, Enter, StrictCall}
use Rattle.semantics.specs.Graph.{Node, Block}
use Rattle.schemas.specs.declared.uses.Uses.{Uses}
use Rattle.schemas.specs.declared.uses.Uses.TheVariants.{Never, Once, Often}
use Rattle.schemas.specs.Scopes.{predicate_of}
use Rattle.schemas.specs.Triggers.{has_trigger}

abbrev pub more : Uses → Uses
more Never = Once
more Once = Often
more Often = Often

abbrev pub is_often : Uses → Bool
is_often Never = false
is_often Once = false
is_often Often = true

abbrev pub uses_at : List Uses → ℕ → Uses
uses_at us n = slice_index_or us n Never

abbrev pub noted : List Uses → Source → List Uses
noted us s = slice_set us s.node (more (uses_at us s.node))

abbrev pub noted_use : List Uses → Source → Bool → List Uses
noted_use us s twice = if twice then noted (noted us s) s else noted us s

abbrev pub noted_sources : List Uses → List Source → Bool → List Uses
noted_sources us [] twice = us
noted_sources us (s ∷ ss) twice = noted_sources (noted_use us s twice) ss twice

-- the predicate of that region's conditional, if it is an arm
abbrev pub noted_predicate : List Uses → Block ℕ → Region → List Uses
noted_predicate us b Root = us
noted_predicate us b (Arm k side) = noted us (predicate_of b k)

-- where its triggers are taken
abbrev pub noted_conditional : List Uses → Bool → List Source → List Uses
noted_conditional us triggered ss = if triggered then noted_sources us ss true else us

abbrev pub noted_kind : List Uses → Block ℕ → List Bool → ℕ → Kind ℕ → Region → List Source → List Uses
noted_kind us b ts n Cond region ss = noted_conditional us (has_trigger ts n) ss
noted_kind us b ts n Enter region ss = noted_predicate (noted_sources us ss false) b region
noted_kind us b ts n (StrictCall f) region ss = noted_sources us ss true
noted_kind us b ts n kind region ss = noted_sources us ss false

abbrev pub noted_node : List Uses → Block ℕ → List Bool → ℕ → Node ℕ → List Uses
noted_node us b ts n node = noted_kind us b ts n node.kind node.region node.sources

abbrev pub noted_nodes : List Uses → Block ℕ → List Bool → ℕ → List (Node ℕ) → List Uses
noted_nodes us b ts n [] = us
noted_nodes us b ts n (node ∷ nodes) = noted_nodes (noted_node us b ts n node) b ts (n + 1) nodes

abbrev pub noted_results : List Uses → Bool → List Source → List Uses
noted_results us turns [] = us
noted_results us turns (s ∷ ss) = noted_sources (noted_use us s turns) ss false

-- those of the first `count` nodes
abbrev pub uses_of : Block ℕ → List Bool → Bool → ℕ → List Uses
uses_of b triggers turns count = noted_results (noted_nodes (replicate count Never) b triggers b.inputs b.nodes) turns b.results
