pub mod MovesCases
pub mod Moves
