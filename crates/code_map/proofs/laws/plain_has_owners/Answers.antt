use Rattle.code_map.proofs.Plain.{plain_has_owners}
use Rattle.code_map.proofs.laws.plain_has_owners.Goals as goal

pub returns : goal.returns
returns c = plain_has_owners
