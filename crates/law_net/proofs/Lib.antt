-- Runs
pub mod RunsPorts
pub mod RunsArrives
pub mod RunsAgree
pub mod RunsLands
pub mod RunsFires
pub mod RunsMatching
pub mod RunsPigeons
-- Contexts
pub mod ContextsBlocks
pub mod ContextsWords
pub mod ContextsComposition
pub mod ContextsStatic
pub mod ContextsExample
pub mod ContextsSames
pub mod ContextsCoded
-- Wired
pub mod WiredRegions
pub mod WiredSends
pub mod WiredSites
pub mod WiredNets
pub mod WiredInvoked
pub mod WiredGifts
pub mod WiredWords
pub mod WiredFed
pub mod WiredRounds
pub mod WiredEntered
pub mod WiredRivals
pub mod WiredTraced
-- Credits
pub mod CreditsTurns
pub mod CreditsOpened
pub mod Credits
pub mod CreditsTaken
pub mod CreditsLoops
pub mod CreditsKept
