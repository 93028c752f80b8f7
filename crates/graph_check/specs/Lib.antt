pub mod Causes
pub mod FirstFault
pub mod Names
