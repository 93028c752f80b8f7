pub mod Loops
pub mod LoopsComplete
pub mod Within
