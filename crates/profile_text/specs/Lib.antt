pub mod Picture
pub mod ProfileText
