-- Waits
pub mod Waits
pub mod NetsWait
pub mod GraphsWait
-- Within
pub mod WithinParts
