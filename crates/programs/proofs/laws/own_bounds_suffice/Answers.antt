use Rattle.programs.proofs.Completed as Completed
use Rattle.programs.proofs.laws.own_bounds_suffice.Goals as goal

pub returns : goal.returns
returns c = Completed.own_bounds_suffice c.programs_complete_counted.ensures.texts
