use Rattle.driver.proofs.Completed as Completed
use Rattle.driver.proofs.completion.own_bounds_suffice.Goals as goal

pub returns-clause-reports : goal.returns-clause-reports
returns-clause-reports c = Completed.own_bounds_suffice

pub returns-clause-modes : goal.returns-clause-modes
returns-clause-modes c = Completed.own_bounds_suffice_in

pub returns-clause-quiet : goal.returns-clause-quiet
returns-clause-quiet c = Completed.own_bounds_suffice_quietly
