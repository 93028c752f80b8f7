pub mod InputLines
pub mod Served
mod Drawn
mod PlayedOn
mod OrderRuns
mod Decided
mod Feeds
mod Agreeing
mod Rowed
mod GraphEnds
mod IntegerLines
pub mod PipedRuns
mod Sufficing
mod EnoughRuns
pub mod FileInputs
pub mod FileRuns
