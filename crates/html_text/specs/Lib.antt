pub mod DataText
pub mod Escape
pub mod PageText
pub mod PaneText
pub mod Plain
