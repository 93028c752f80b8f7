-- What is proved of the data: each proper firing is some activities.
use Rattle.std.specs.Prelude.{ℕ}
use Rattle.semantics.specs.Graph.{Graph, flow_of}
use Rattle.semantics.specs.WellFormed.{WellFormed}
use Rattle.law_net.specs.ContextsPackages.{FiringGroup, FiringsAreMeant}
use Rattle.law_net.specs.ContextsOperands.{HaveOperands, SourcesAreEarlier}

-- each proper firing of a lawful net is some activities
abbrev pub AllIsMeant : Type 0
AllIsMeant = (group : FiringGroup) → FiringsAreMeant group

-- a well-formed graph has as many operands as its nodes want
abbrev pub GraphsHaveOperands : Type 0
GraphsHaveOperands = (g : Graph) → WellFormed g → HaveOperands (flow_of g)

-- and its sources are earlier nodes
abbrev pub GraphsAreEarlier : Type 0
GraphsAreEarlier = (g : Graph) → WellFormed g → SourcesAreEarlier (flow_of g)
