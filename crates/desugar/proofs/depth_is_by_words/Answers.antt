use Rattle.desugar.proofs.DeepSteps.{depth_is_by_words, depth_is_by_numbers}
use Rattle.desugar.proofs.depth_is_by_words.Goals as goal

pub returns : goal.returns
returns c = record { words = depth_is_by_words; numbers = depth_is_by_numbers }
