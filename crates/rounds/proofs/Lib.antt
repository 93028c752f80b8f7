pub mod Going
pub mod Taking
pub mod Stopping
pub mod Turning
pub mod Counting
pub mod Rounding
pub mod Changes
pub mod Closing
