-- Activity
pub mod ActivityKeys
pub mod ActivityDeeds
pub mod ActivityShapes
pub mod ActivityRows
pub mod ActivityUses
pub mod ActivityDiamond
-- History
pub mod HistoryLaws
pub mod HistoryGrounds
pub mod HistoryRivals
pub mod HistoryShare
pub mod History
pub mod HistoryDue
pub mod HistoryRuns
-- Outcome
pub mod OutcomeDeterminacy
pub mod OutcomeResolved
pub mod OutcomeRest
pub mod OutcomeClash
pub mod Outcome
pub mod OutcomeExample
-- Equations
pub mod EquationsContexts
pub mod EquationsGraphForms
pub mod EquationsGraphFormed
pub mod Equations
pub mod EquationsNoneWaits
pub mod EquationsRunTakers
pub mod EquationsRunHappens
pub mod EquationsRunSaid
pub mod EquationsRunRested
pub mod EquationsRunUses
pub mod EquationsRunOrigins
pub mod EquationsRunDepth
pub mod EquationsRunRegions
pub mod EquationsProgressNodes
pub mod EquationsProgressInvocations
pub mod EquationsProgressDues
pub mod EquationsValuesGivers
pub mod EquationsValuesEqual
pub mod EquationsValuesSilent
pub mod EquationsValuesSides
pub mod EquationsEndCells
pub mod EquationsEndIndexes
pub mod EquationsEndOutputs
pub mod EquationsEndTokens
pub mod EquationsExampleValues
pub mod EquationsExampleFactorial
pub mod EquationsExampleFalse
pub mod EquationsExampleEcho
-- Orders
pub mod OrdersTotals
pub mod Orders
-- Net
pub mod Net
pub mod NetMeans
pub mod NetSlots
pub mod NetChains
pub mod NetArms
