pub mod Sends
pub mod Numbered
