pub mod CommentEnds
pub mod NewWords
pub mod WithForms
pub mod Sound
pub mod Lexed
pub mod Slices
pub mod Standing
