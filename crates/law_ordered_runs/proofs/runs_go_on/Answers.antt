use Rattle.law_ordered_runs.proofs.GoingOn as Going
use Rattle.law_ordered_runs.proofs.runs_go_on.Goals as goal

pub returns-clause-goes_on : goal.returns-clause-goes_on
returns-clause-goes_on c = Going.runs_go_on

pub returns-clause-rests : goal.returns-clause-rests
returns-clause-rests c = Going.closed_runs_rest
