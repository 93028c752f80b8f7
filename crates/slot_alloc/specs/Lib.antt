pub mod Passes
pub mod Words
pub mod Rows
pub mod Tables
pub mod Assigned
