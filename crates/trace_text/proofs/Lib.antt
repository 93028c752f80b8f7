mod Objects
pub mod Pairs
