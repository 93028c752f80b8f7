pub mod Deeds
pub mod Seats
pub mod Rule
pub mod Plays
pub mod Places
