mod ReadTokens
mod Positions
pub mod Spelling
pub mod Steps
pub mod Kept
pub mod CountedSources
pub mod Counted
pub mod Counting
pub mod NamesUsed
pub mod OutsideNames
pub mod Holding
mod OneAnswer
mod ReadSamples
mod LowerSamples
mod RefusedSamples
mod SizesOfBlocks
mod Worked
mod SampleWords
