pub mod Packing
pub mod FieldsOf
pub mod PackedTokens
pub mod AddressOf
