use Rattle.driver.proofs.Completed.{report_completes, mode_completes, quiet_completes}
use Rattle.driver.proofs.completion.reports_complete.Goals as goal

pub returns-clause-reports : goal.returns-clause-reports
returns-clause-reports c = report_completes

pub returns-clause-modes : goal.returns-clause-modes
returns-clause-modes c = mode_completes

pub returns-clause-quiet : goal.returns-clause-quiet
returns-clause-quiet c = quiet_completes
