pub mod Sent
pub mod Numbered
