pub mod Lowers
pub mod Reported
pub mod Texts
pub mod Parts
