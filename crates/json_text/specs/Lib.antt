pub mod Json
pub mod Strings
