pub mod Bundles
pub mod Blocks
pub mod ByDepth
pub mod Runners
pub mod Ends
pub mod Starts
