pub mod Promise
pub mod Compiled
pub mod Refused
pub mod Laws
pub mod InOrder
