use Rattle.code_map.proofs.Lengths.{bodies_have_owners}
use Rattle.code_map.proofs.laws.bodies_have_owners.Goals as goal

pub returns : goal.returns
returns c = bodies_have_owners
