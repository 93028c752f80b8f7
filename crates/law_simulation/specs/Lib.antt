-- Simulation
pub mod Places
pub mod Simulates
