pub mod Beginnings
pub mod Lexing
pub mod HasToken
