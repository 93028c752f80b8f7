-- Waits
pub mod WaitsNet
pub mod WaitsSimulated
pub mod WaitsRenumbered
pub mod WaitsShared
pub mod Waits
-- Within
pub mod WithinPlaces
pub mod WithinNext
pub mod WithinHeld
pub mod WithinDone
pub mod WithinParts
pub mod WithinEnds
