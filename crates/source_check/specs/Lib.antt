pub mod Checked
pub mod Heads
pub mod Steps
pub mod Checks
pub mod Renamed
pub mod Numbers
pub mod Stack
