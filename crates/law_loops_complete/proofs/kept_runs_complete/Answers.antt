use Rattle.law_loops_complete.proofs.Within as Within
use Rattle.law_loops_complete.proofs.kept_runs_complete.Goals as goal

pub returns-clause-complete : goal.returns-clause-complete
returns-clause-complete c = Within.within_completes

pub returns-clause-missing : goal.returns-clause-missing
returns-clause-missing c = Within.first_missing
