-- Slots
pub mod Slots
-- Frames
pub mod Frames
pub mod FramesGenerations
-- Bounds
pub mod Bounds
