use Rattle.code_map.proofs.RowParts.{rows_are_owned}
use Rattle.code_map.proofs.laws.rows_are_owned.Goals as goal

pub returns : goal.returns
returns c = rows_are_owned
