pub mod Sent
pub mod Explained
pub mod Flushed
pub mod Wanted
pub mod FileAnswers
