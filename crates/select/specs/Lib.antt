pub mod Emitted
pub mod Literals
pub mod Emittable
