use Rattle.desugar.proofs.CoreMade.{plain_is_made, table_is_spelled}
use Rattle.desugar.proofs.Wanted.{plain_desugared}
use Rattle.desugar.proofs.core_is_made.Goals as goal

pub returns : goal.returns
returns c = record { core = plain_desugared; words = plain_is_made; spelled = table_is_spelled }
