use Rattle.law_ordered_runs.proofs.InOrderCompletes.{programs_come_to_rest, programs_in_order_complete, programs_in_order_complete_within}
use Rattle.law_ordered_runs.proofs.programs_complete_in_order.Goals as goal

pub returns-clause-rests : goal.returns-clause-rests
returns-clause-rests c = programs_come_to_rest c.programs_complete_counted.ensures.texts

pub returns-clause-completes : goal.returns-clause-completes
returns-clause-completes c = programs_in_order_complete (programs_come_to_rest c.programs_complete_counted.ensures.texts)

pub returns-clause-within : goal.returns-clause-within
returns-clause-within c = programs_in_order_complete_within (programs_come_to_rest c.programs_complete_counted.ensures.texts)
