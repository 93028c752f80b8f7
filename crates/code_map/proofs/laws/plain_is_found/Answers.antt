use Rattle.code_map.proofs.Plain.{plain_is_found}
use Rattle.code_map.proofs.laws.plain_is_found.Goals as goal

pub returns : goal.returns
returns c = plain_is_found
