use Rattle.law_surface.proofs.CoreIsSurface.{core_is_surface}
use Rattle.law_surface.proofs.core_is_surface.Goals as goal

pub returns : goal.returns
returns c = record { law = core_is_surface }
