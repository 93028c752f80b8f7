use Rattle.law_surface.proofs.SameNames.{names_are_same}
use Rattle.law_surface.proofs.names_are_same.Goals as goal

pub returns : goal.returns
returns c = record { law = names_are_same }
