-- Over
pub mod Over
-- Rest
pub mod Rest
pub mod RestStarts
-- Causes
pub mod CausesCounted
