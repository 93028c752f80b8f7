-- Keeping
pub mod KeepingSteps
-- Bounds
pub mod Bounds
pub mod BoundsWholes
pub mod BoundsInputs
-- Facts
pub mod FactsHeads
pub mod FactsHolders
pub mod FactsHeld
pub mod FactsCodes
pub mod FactsFlows
pub mod FactsOperands
pub mod FactsWholes
pub mod FactsSound
-- Shapes
pub mod ShapesNoted
pub mod ShapesClosed
pub mod ShapesPlans
-- Arcs
pub mod ArcsLists
pub mod ArcsLaws
-- Written
pub mod WrittenMembers
pub mod WrittenNodes
pub mod WrittenTriggered
pub mod WrittenSides
pub mod WrittenNodeWires
pub mod WrittenSuits
pub mod WrittenWaits
pub mod WrittenBoth
pub mod WrittenBothArms
pub mod WrittenStarting
pub mod WrittenLeads
pub mod WrittenLaws
pub mod WrittenArms
-- Parts
pub mod PartsSame
pub mod PartsStanding
pub mod PartsCounts
pub mod Parts
pub mod PartsThere
pub mod PartsHas
pub mod PartsOnce
pub mod PartsPlaces
pub mod PartsAgree
-- Laid
pub mod Laid
pub mod LaidNodes
pub mod LaidCalls
pub mod LaidBody
pub mod LaidEnds
pub mod LaidJoins
pub mod LaidTurn
pub mod LaidUsual
pub mod LaidWhole
pub mod LaidArcs
pub mod LaidArcsSame
pub mod LaidArcsMore
-- Code
pub mod CodeFits
pub mod CodeCompose
pub mod CodeCredits
pub mod CodeFacts
pub mod CodeWritten
pub mod CodeRows
pub mod CodeLaid
pub mod CodeRead
-- Fed
pub mod FedOnce
pub mod FedEnds
pub mod FedFrom
pub mod Fed
-- Uses
pub mod UsesAlone
pub mod UsesSilent
pub mod UsesQuiet
pub mod Uses
pub mod UsesAll
pub mod UsesCopies
pub mod UsesWhole
-- Turns
pub mod Turns
pub mod TurnsValues
pub mod TurnsUses
pub mod TurnsWhole
-- Whole
pub mod WholeStatic
pub mod Whole
pub mod WholeExample
