mod FirstHeld
pub mod Mains
