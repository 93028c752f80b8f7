pub mod Hinted
pub mod HintSent
pub mod Process
pub mod Files
