-- The code of every graph is faithful.
use Rattle.std.specs.Prelude.{◌≡◌, ℕ, List}
use Rattle.semantics.specs.Graph.{Graph, Flow, flow_of}
use Rattle.semantics.specs.Plan.{Plan}
use Rattle.semantics.specs.Text.{HasText}
use Rattle.semantics.specs.WellFormed.{WellFormed}
use Rattle.semantics.specs.Sharing.{Good}
use Rattle.semantics.specs.declared.version.Version.{Version}
use Rattle.semantics.specs.Versions.{version_number}
use Rattle.law_compiler.specs.Objects.{plan_of}
use Rattle.law_net.specs.Contexts.{Wires}
use Rattle.law_net.specs.ContextsTheorem.{IsGood}
use Rattle.law_net.specs.ContextsPackages.{AllPackages}
use Rattle.law_net.specs.ContextsExpanded.{AllStatic}
use Rattle.law_compiler.specs.Graphs.{LeadsToNoneOften, KeepsPromises}

-- In a wired plan only a link's landing leads to a `give` or a `take`: no wire feeds these.
abbrev pub WiredLeadsToNoneOften : Type 0
WiredLeadsToNoneOften = (fl : Flow) (p : Plan) (w : Wires) → IsGood fl p w → LeadsToNoneOften p

-- THE LAW: for each well-formed graph within the limits of a text, the code that the compiler makes is faithful with any good slots, and
-- keeps what is promised of frames and slots that are used again.
abbrev pub GraphsKeepPromises : Type 0
GraphsKeepPromises = (g : Graph) (slots : List (List ℕ)) (version : Version) → HasText g → WellFormed g → Good (plan_of g) slots
    → version_number version ≡ g.version → KeepsPromises g slots version

-- What the law follows from.
abbrev pub PartsSuffice : Type 0
PartsSuffice = AllPackages → AllStatic → GraphsKeepPromises
