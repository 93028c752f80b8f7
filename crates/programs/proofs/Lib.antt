mod Outputs
pub mod Shown
mod Refusals
mod Completed
pub mod InOrder
