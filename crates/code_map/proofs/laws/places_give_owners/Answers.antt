use Rattle.code_map.proofs.Carry.{places_give_owners}
use Rattle.code_map.proofs.laws.places_give_owners.Goals as goal

pub returns : goal.returns
returns c = places_give_owners
