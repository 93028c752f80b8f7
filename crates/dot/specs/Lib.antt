pub mod GraphDot
pub mod CodeDot
