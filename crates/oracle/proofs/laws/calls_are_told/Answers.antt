use Rattle.oracle.proofs.Called.{calls_told}
use Rattle.oracle.proofs.laws.calls_are_told.Goals as goal

pub returns : goal.returns
returns c = calls_told
