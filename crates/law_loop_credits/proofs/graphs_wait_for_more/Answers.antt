use Rattle.law_loop_credits.proofs.Waits as Waits
use Rattle.law_loop_credits.proofs.graphs_wait_for_more.Goals as goal

pub returns-clause-waits : goal.returns-clause-waits
returns-clause-waits c = Waits.graphs_wait_for_more

pub returns-clause-complete : goal.returns-clause-complete
returns-clause-complete c = Waits.compiled_loops_complete
