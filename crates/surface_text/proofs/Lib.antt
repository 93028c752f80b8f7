pub mod Acting
pub mod Known
pub mod Named
pub mod Tokens
pub mod Trees
