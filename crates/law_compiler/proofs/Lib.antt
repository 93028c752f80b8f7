-- Emitted
pub mod EmittedRules
pub mod EmittedPrograms
pub mod EmittedPromises
pub mod Emitted
pub mod EmittedOwn
pub mod EmittedLaws
pub mod EmittedLoops
-- Objects
pub mod Objects
pub mod ObjectsSound
pub mod ObjectsInstrs
-- Passes
pub mod Passes
pub mod PassesTidy
pub mod PassesFoldedTidy
-- Graphs
pub mod Graphs
pub mod GraphsOrigins
-- Whole
pub mod Whole
pub mod WholeTidy
pub mod WholeLaw
