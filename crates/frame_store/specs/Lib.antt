pub mod Sides
pub mod Slots
pub mod BankViews
pub mod Lends
pub mod Banked
pub mod LendsSlots
pub mod LendsFrames
pub mod LendsBanks
