pub mod Bytes
pub mod Escapes
pub mod Panes
pub mod PlainTexts
