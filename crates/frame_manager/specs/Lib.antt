pub mod Bits
pub mod Flags
pub mod Managed
pub mod Answered
