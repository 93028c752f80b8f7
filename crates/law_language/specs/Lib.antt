-- Grammar
pub mod GrammarAutomaton
pub mod GrammarNamed
pub mod GrammarReady
pub mod Grammar
-- Lowered
pub mod LoweredHasText
pub mod LoweredWell
-- Means
pub mod MeansHolds
pub mod MeansAgrees
pub mod MeansBelow
pub mod Means
pub mod MeansTheorem
