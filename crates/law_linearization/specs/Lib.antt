-- History
pub mod History
pub mod HistoryLaws
-- Ends
pub mod Ends
