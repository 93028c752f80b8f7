pub mod Moments
pub mod Views
pub mod Books
pub mod Known
pub mod Nearby
pub mod DoesAs
pub mod Entering
