use Rattle.programs.proofs.Completed.{programs_complete}
use Rattle.programs.proofs.laws.programs_complete.Goals as goal

pub returns : goal.returns
returns c = programs_complete
