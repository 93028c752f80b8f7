use Rattle.law_ordered_runs.proofs.Ordered as Ordered
use Rattle.law_ordered_runs.proofs.one_after_another_keeps.Goals as goal

pub returns : goal.returns
returns c = record { keeps = Ordered.one_after_another_keeps }
