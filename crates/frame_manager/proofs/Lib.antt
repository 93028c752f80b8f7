pub mod Words
pub mod Flagged
pub mod Counts
pub mod Events
pub mod ManagerLemmas
