-- What the compiler makes of any graph.
use Rattle.std.specs.Prelude.{◌≡◌, ℕ, List}
use Rattle.semantics.specs.Graph.{Graph, flow_of}
use Rattle.semantics.specs.WellFormed.{WellFormed}
use Rattle.semantics.specs.Text.{HasText}
use Rattle.semantics.specs.Plan.{Plan}
use Rattle.semantics.specs.Orderly as Orderly
use Rattle.semantics.specs.Sharing.{Good}
use Rattle.semantics.specs.Faithful as Faithful
use Rattle.semantics.specs.Cause.{HasBounds}
use Rattle.code.specs.Sound.{IsSound}
use Rattle.schemas.specs.Expanded.{expanded}
use Rattle.folding.specs.Folded.{folded}
use Rattle.fanout.specs.Narrowed.{narrowed}
use Rattle.semantics.specs.declared.version.Version.{Version}
use Rattle.select.specs.Emitted.{code_of}
use Rattle.select.specs.Emittable.{IsEmittable}

-- THE PASSES. A graph becomes a plan with any number of destinations at an instruction; operators take literals as operands;
-- trees of copies replace more than two destinations.
abbrev pub plan_of : Graph → Plan
plan_of g = narrowed (folded (expanded (flow_of g)))

-- The plan of each well-formed graph within the limits of a text is sound.
abbrev pub PlansAreSound : Type 0
PlansAreSound = (g : Graph) → HasText g → WellFormed g → IsSound (plan_of g)

-- With any good slots it has an object, where its blocks and its table of literals are not too large.
abbrev pub PlansHaveObjects : Type 0
PlansHaveObjects = (g : Graph) (slots : List (List ℕ)) → HasText g → WellFormed g → Good (plan_of g) slots → IsEmittable (plan_of g) slots

-- Its main block has as many inputs as the graph's.
abbrev pub PlansTakeInputs : Type 0
PlansTakeInputs = (g : Graph) → HasText g → WellFormed g → Orderly.inputs_of (plan_of g) ≡ Faithful.inputs_of (flow_of g)

-- Its code's loops open with the graph's bounds.
abbrev pub CodeHasBounds : Type 0
CodeHasBounds = (g : Graph) (slots : List (List ℕ)) (version : Version) → Good (plan_of g) slots → HasBounds (flow_of g) (code_of version (plan_of g) slots)
