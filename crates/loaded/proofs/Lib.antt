pub mod Seen
pub mod Tables
pub mod Short
pub mod Sizes
