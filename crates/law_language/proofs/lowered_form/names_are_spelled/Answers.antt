use Rattle.law_language.proofs.LoweredTables as tables
use Rattle.law_language.proofs.lowered_form.names_are_spelled.Goals as goal

pub returns-clause-spelled : goal.returns-clause-spelled
returns-clause-spelled c = tables.names_are_spelled

pub returns-clause-single : goal.returns-clause-single
returns-clause-single c = tables.spelled_names_are_single
