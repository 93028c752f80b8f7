-- Fresh
pub mod Fresh
pub mod FreshReady
-- Alike
pub mod Alike
-- Bounded
pub mod Bounded
