use Rattle.source_check.proofs.Places.{place_since}
use Rattle.surface_check.proofs.bindings.Bindings.contains_since.Goals as goal

pub returns : goal.returns
returns g c = rw c.place.ensures (place_since c.args.name c.args.start c.args.self.now)
