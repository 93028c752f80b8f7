-- Contexts
pub mod ContextsParts
pub mod ContextsBlocks
pub mod Contexts
pub mod ContextsMeant
pub mod ContextsAround
pub mod ContextsCredits
pub mod ContextsWires
pub mod ContextsFirings
pub mod ContextsLaws
pub mod ContextsMirror
pub mod ContextsOperands
pub mod ContextsTheorem
pub mod ContextsPackages
pub mod ContextsExpanded
pub mod ContextsCoded
-- Credits
pub mod Credits
