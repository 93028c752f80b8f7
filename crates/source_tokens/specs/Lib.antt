pub mod Beginnings
pub mod Lexing
pub mod Signs
pub mod HasToken
pub mod Placing
