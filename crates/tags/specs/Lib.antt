pub mod Packed
pub mod Addresses
