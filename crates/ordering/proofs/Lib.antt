pub mod Copies
pub mod Moving
pub mod Standing
pub mod Going
pub mod Noting
pub mod Placing
pub mod Passing
pub mod Logging
