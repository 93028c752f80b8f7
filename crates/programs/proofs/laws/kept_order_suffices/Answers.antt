use Rattle.programs.proofs.Completed as Completed
use Rattle.programs.proofs.laws.kept_order_suffices.Goals as goal

pub returns : goal.returns
returns c = Completed.kept_order_suffices c.programs_complete_counted.ensures.texts
