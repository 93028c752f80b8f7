-- History
pub mod HistoryActing
pub mod HistoryRunning
pub mod HistoryReordering
pub mod HistoryWeaving
-- Ends
pub mod EndsBalancing
pub mod EndsShowing
pub mod EndsJoining
pub mod Ends
