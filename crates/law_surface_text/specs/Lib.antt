pub mod Automaton
pub mod Law
pub mod Ready
pub mod Named
