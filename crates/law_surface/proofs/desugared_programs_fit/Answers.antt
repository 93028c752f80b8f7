use Rattle.law_surface.proofs.DesugaredProgramFits.{desugared_fits}
use Rattle.law_surface.proofs.desugared_programs_fit.Goals as goal

pub returns : goal.returns
returns c = record { law = desugared_fits }
