use Rattle.programs.proofs.Completed.{counted_programs_complete}
use Rattle.programs.proofs.laws.programs_complete_counted.Goals as goal

pub returns : goal.returns
returns c = counted_programs_complete c.programs_complete_counted.ensures.texts
