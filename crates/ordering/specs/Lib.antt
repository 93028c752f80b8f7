pub mod Noted
pub mod Numbers
pub mod Keys
pub mod Pools
pub mod Logs
pub mod Rests
pub mod Orders
