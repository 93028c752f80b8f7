use Rattle.source_check.proofs.Places.{place_there}
use Rattle.surface_check.proofs.bindings.Bindings.contains.Goals as goal

pub returns : goal.returns
returns g c = rw c.place.ensures (place_there c.args.name c.args.self.now)
