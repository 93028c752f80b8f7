-- Bounds
pub mod BoundsKeeping
pub mod Bounds
-- Facts
pub mod Facts
-- Shapes
pub mod Shapes
-- Arcs
pub mod Arcs
-- Written
pub mod WrittenTypes
pub mod Written
pub mod WrittenFit
pub mod WrittenHalves
-- Whole
pub mod WholeStatic
