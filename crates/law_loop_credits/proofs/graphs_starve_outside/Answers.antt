use Rattle.law_loop_credits.proofs.Waits as Waits
use Rattle.law_loop_credits.proofs.graphs_starve_outside.Goals as goal

pub returns-clause-within : goal.returns-clause-within
returns-clause-within c = Waits.graphs_starve_outside

pub returns-clause-complete : goal.returns-clause-complete
returns-clause-complete c = Waits.compiled_within_completes
