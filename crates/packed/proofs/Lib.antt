pub mod Unpacked
pub mod TokensBack
