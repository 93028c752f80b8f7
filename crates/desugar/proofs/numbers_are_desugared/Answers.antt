use Rattle.desugar.proofs.Numbers.{numbers_desugar}
use Rattle.desugar.proofs.numbers_are_desugared.Goals as goal

pub returns : goal.returns
returns c = record { law = numbers_desugar }
