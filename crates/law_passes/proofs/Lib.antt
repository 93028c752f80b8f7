-- Spread
pub mod SpreadPlaces
pub mod SpreadMoves
pub mod SpreadWays
pub mod SpreadSimulates
pub mod SpreadTidy
pub mod SpreadKeeps
-- Narrow
pub mod NarrowPlaces
pub mod NarrowTrees
pub mod NarrowEntries
pub mod NarrowBlocks
pub mod NarrowSpread
pub mod NarrowKeeps
-- Kept
pub mod KeptClosed
pub mod KeptUses
pub mod KeptLeading
pub mod KeptTargets
pub mod KeptNumbering
pub mod KeptPlaces
pub mod KeptBlocks
pub mod KeptSpots
pub mod KeptReadies
pub mod KeptMoves
pub mod KeptRuns
pub mod KeptStatic
pub mod KeptKeeps
pub mod KeptEntries
-- Renumber
pub mod RenumberPlaces
pub mod RenumberEvents
pub mod RenumberRuns
pub mod RenumberOrders
pub mod RenumberCredits
pub mod RenumberKeeping
pub mod RenumberHolders
pub mod RenumberFolding
pub mod RenumberTwice
