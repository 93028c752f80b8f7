-- Over
pub mod Over
pub mod OverSorts
pub mod OverPaths
pub mod OverMade
pub mod OverOpen
pub mod OverBack
pub mod OverLeft
pub mod OverKin
pub mod OverNames
pub mod OverLast
-- Rest
pub mod RestCells
pub mod RestStores
pub mod RestWaits
pub mod RestForward
pub mod RestReached
pub mod RestTokens
pub mod RestReaders
pub mod RestHalts
pub mod RestStarted
pub mod RestExact
pub mod RestStory
pub mod RestArms
-- Causes
pub mod CausesCalls
pub mod CausesDues
pub mod CausesKnown
pub mod CausesStrict
pub mod CausesCalled
pub mod CausesApart
pub mod CausesAsked
pub mod Causes
-- Clean
pub mod CleanStill
pub mod CleanFires
pub mod CleanStarts
pub mod CleanAlong
pub mod CleanCredits
pub mod CleanSupplied
pub mod CleanWhole
pub mod CleanFrames
pub mod Clean
