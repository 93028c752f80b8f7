pub mod ProgramCounts
