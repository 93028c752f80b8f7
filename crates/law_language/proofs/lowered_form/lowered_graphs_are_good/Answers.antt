use Rattle.law_language.proofs.LoweredHasText.{lowering_has_text}
use Rattle.law_language.proofs.LoweredWellFormed.{lowering_is_well_formed}
use Rattle.law_language.proofs.lowered_form.lowered_graphs_are_good.Goals as goal

pub returns-clause-text : goal.returns-clause-text
returns-clause-text c = lowering_has_text

pub returns-clause-form : goal.returns-clause-form
returns-clause-form c = lowering_is_well_formed
