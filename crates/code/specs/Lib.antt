pub mod Holders
pub mod Marks
pub mod Sound
