use Rattle.driver.proofs.Completed as Completed
use Rattle.driver.proofs.completion.kept_order_suffices.Goals as goal

pub returns-clause-reports : goal.returns-clause-reports
returns-clause-reports c = Completed.kept_order_suffices

pub returns-clause-modes : goal.returns-clause-modes
returns-clause-modes c = Completed.kept_order_suffices_in

pub returns-clause-quiet : goal.returns-clause-quiet
returns-clause-quiet c = Completed.kept_order_suffices_quietly
