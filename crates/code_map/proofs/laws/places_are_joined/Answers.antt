use Rattle.code_map.proofs.Passes.{joined_places}
use Rattle.code_map.proofs.laws.places_are_joined.Goals as goal

pub returns : goal.returns
returns c = joined_places
