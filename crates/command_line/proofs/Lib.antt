pub mod WordForms
pub mod Walks
pub mod Included
pub mod Givens
