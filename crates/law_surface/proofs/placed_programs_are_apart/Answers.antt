use Rattle.law_surface.proofs.PlacedApart.{placed_apart}
use Rattle.law_surface.proofs.placed_programs_are_apart.Goals as goal

pub returns : goal.returns
returns c = record { law = placed_apart }
