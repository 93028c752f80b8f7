pub mod Lexed
pub mod Numerals
pub mod Parts
pub mod Placed
pub mod Sound
pub mod Standing
