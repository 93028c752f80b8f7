pub mod Naming
pub mod Outcomes
pub mod Reading
pub mod Running
