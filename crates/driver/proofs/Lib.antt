pub mod Waiting
pub mod Truth
pub mod Outputs
pub mod GraphObjects
pub mod ObjectRuns
pub mod TextObjects
pub mod OpenedObjects
pub mod Joined
pub mod Watched
pub mod Valued
pub mod Booked
pub mod Completed
pub mod Needed
pub mod FramesUnwanted
mod TextNeeds
pub mod Taking
