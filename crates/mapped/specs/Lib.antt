pub mod Mapped
pub mod Paned
