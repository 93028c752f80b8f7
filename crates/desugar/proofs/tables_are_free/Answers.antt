use Rattle.desugar.proofs.TextNames.{words_have_all_names, names_are_few}
use Rattle.desugar.proofs.TextTables.{text_names_are_said, tables_are_free, prefix_is_found}
use Rattle.desugar.proofs.tables_are_free.Goals as goal

pub returns : goal.returns
returns c = record { said = text_names_are_said; names = words_have_all_names; few = names_are_few; free = tables_are_free; prefix = prefix_is_found }
