-- Emitted
pub mod EmittedAlike
pub mod EmittedSame
pub mod EmittedSameRuns
pub mod EmittedLoops
-- Objects
pub mod Objects
pub mod ObjectsSound
-- Passes
pub mod Passes
-- Graphs
pub mod Graphs
-- Whole
pub mod Whole
