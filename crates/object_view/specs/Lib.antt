pub mod Fields
pub mod Checks
pub mod Flaws
pub mod Reading
pub mod Sending
pub mod Taking
pub mod Unique
