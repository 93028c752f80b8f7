pub mod Laws
pub mod MapText
