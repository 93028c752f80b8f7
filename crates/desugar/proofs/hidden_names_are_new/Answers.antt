use Rattle.desugar.proofs.HiddenTable.{all_are_reached, free_is_not_hidden, hidden_names_are_new}
use Rattle.desugar.proofs.HiddenSpelled.{hidden_names_are_spelled}
use Rattle.desugar.proofs.hidden_names_are_new.Goals as goal

pub returns : goal.returns
returns c = record { length = all_are_reached; free = free_is_not_hidden; words = hidden_names_are_new; spelled = hidden_names_are_spelled }
