use Rattle.law_surface.proofs.DepthIsFound.{depth_is_found}
use Rattle.law_surface.proofs.depth_is_found.Goals as goal

pub returns : goal.returns
returns c = record { law = depth_is_found }
