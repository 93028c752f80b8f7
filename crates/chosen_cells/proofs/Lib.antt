pub mod Blanks
pub mod Walk
