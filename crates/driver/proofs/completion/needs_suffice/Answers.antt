use Rattle.driver.proofs.Needed.{needs_suffice, needs_suffice_in_modes, needs_suffice_quietly}
use Rattle.driver.proofs.completion.needs_suffice.Goals as goal

pub returns-clause-reports : goal.returns-clause-reports
returns-clause-reports c = needs_suffice

pub returns-clause-modes : goal.returns-clause-modes
returns-clause-modes c = needs_suffice_in_modes

pub returns-clause-quiet : goal.returns-clause-quiet
returns-clause-quiet c = needs_suffice_quietly
