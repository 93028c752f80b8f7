-- Outcome
pub mod Outcome
-- Equations
pub mod EquationsContexts
pub mod EquationsHave
pub mod Equations
pub mod EquationsSettled
pub mod EquationsShown
-- Orders
pub mod OrdersTotals
