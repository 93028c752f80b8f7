mod Spelling
mod ReadTokens
mod ReadSamples
mod RefusedSamples
mod SampleWords
mod ShortFor
