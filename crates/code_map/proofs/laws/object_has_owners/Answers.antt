use Rattle.code_map.proofs.Whole.{object_has_owners}
use Rattle.code_map.proofs.laws.object_has_owners.Goals as goal

pub returns : goal.returns
returns c = object_has_owners
