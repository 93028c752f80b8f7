mod Refused
mod Writing
