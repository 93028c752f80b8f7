use Rattle.law_wiring.proofs.FactsWholes.{plans_name_rightly, plans_hold_rightly, plans_mark_rightly}
use Rattle.law_wiring.proofs.facts.plans_name_rightly.Goals as goal

pub returns-clause-names : goal.returns-clause-names
returns-clause-names c = plans_name_rightly

pub returns-clause-holders : goal.returns-clause-holders
returns-clause-holders c = plans_hold_rightly

pub returns-clause-marks : goal.returns-clause-marks
returns-clause-marks c = plans_mark_rightly
