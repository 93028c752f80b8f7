pub mod Ring
pub mod Tokens
