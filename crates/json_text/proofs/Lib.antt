pub mod Steps
pub mod Walk
pub mod Plain
pub mod Strings
