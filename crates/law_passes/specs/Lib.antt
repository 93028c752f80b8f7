-- Spread
pub mod Spreads
-- Narrow
pub mod Narrowed
-- Fold
pub mod Fold
-- Kept
pub mod Kept
-- Renumber
pub mod Renumber
pub mod RenumberKeeps
pub mod RenumberFolded
