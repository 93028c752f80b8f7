pub mod Namers
pub mod Folds
pub mod Places
pub mod Moved
pub mod Folded
pub mod Laws
pub mod Sound
pub mod Loops
