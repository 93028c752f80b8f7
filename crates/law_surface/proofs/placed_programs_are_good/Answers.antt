use Rattle.law_surface.proofs.PlacedKeeps.{placed_is_good}
use Rattle.law_surface.proofs.placed_programs_are_good.Goals as goal

pub returns : goal.returns
returns c = record { law = placed_is_good }
