use Rattle.desugar.proofs.Items.{steps_desugar}
use Rattle.desugar.proofs.words_are_desugared.Goals as goal

pub returns : goal.returns
returns c = record { law = steps_desugar }
