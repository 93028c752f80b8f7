pub mod LoopsComplete
pub mod Within
