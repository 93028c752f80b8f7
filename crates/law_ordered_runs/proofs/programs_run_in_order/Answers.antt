use Rattle.law_ordered_runs.proofs.ReachingMain as Reaching
use Rattle.law_ordered_runs.proofs.programs_run_in_order.Goals as goal

pub returns : goal.returns
returns c = record { runs = Reaching.programs_run_in_order }
