use Rattle.oracle.proofs.Whole.{runs_end, reports_true}
use Rattle.oracle.proofs.laws.runs_are_meant.Goals as goal

pub returns-clause-ends : goal.returns-clause-ends
returns-clause-ends c = runs_end

pub returns-clause-reports : goal.returns-clause-reports
returns-clause-reports c = reports_true
