-- Fresh
pub mod FreshFaith
pub mod FreshReady
pub mod FreshParts
pub mod FreshArcs
-- Alike
pub mod Alike
-- Bounded
pub mod Bounded
pub mod BoundedWeights
pub mod BoundedSpending
pub mod BoundedRows
pub mod BoundedCovered
