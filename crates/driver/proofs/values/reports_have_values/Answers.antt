use Rattle.driver.proofs.Valued.{reports_values, modes_have, quiet_reports}
use Rattle.driver.proofs.values.reports_have_values.Goals as goal

pub returns-clause-values : goal.returns-clause-values
returns-clause-values c = reports_values

pub returns-clause-modes : goal.returns-clause-modes
returns-clause-modes c = modes_have

pub returns-clause-quiet : goal.returns-clause-quiet
returns-clause-quiet c = quiet_reports
