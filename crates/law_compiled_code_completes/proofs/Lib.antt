pub mod SameLength
pub mod Compiled
