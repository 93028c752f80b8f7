use Rattle.law_program_counts.proofs.Theorem.{programs_call_for, programs_complete, texts_call_for, texts_complete}
use Rattle.law_program_counts.proofs.programs_complete_counted.Goals as goal

pub returns-clause-calls : goal.returns-clause-calls
returns-clause-calls c = programs_call_for c.answers_are_one.ensures.expression

pub returns-clause-completes : goal.returns-clause-completes
returns-clause-completes c = programs_complete c.answers_are_one.ensures.expression

pub returns-clause-texts : goal.returns-clause-texts
returns-clause-texts c = texts_call_for c.answers_are_one.ensures.expression

pub returns-clause-texts_complete : goal.returns-clause-texts_complete
returns-clause-texts_complete c = texts_complete c.answers_are_one.ensures.expression
