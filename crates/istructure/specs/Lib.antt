pub mod OwnCells
pub mod CellStates
pub mod Steps
pub mod Answered
pub mod Holds
