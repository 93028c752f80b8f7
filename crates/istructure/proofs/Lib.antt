pub mod Places
pub mod Lifts
pub mod Events
pub mod Fresh
