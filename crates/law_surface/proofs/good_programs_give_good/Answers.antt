use Rattle.law_surface.proofs.DesugaredKeepsRules.{desugared_keeps_rules}
use Rattle.law_surface.proofs.SurfaceMeans.{good_gives_good}
use Rattle.law_surface.proofs.good_programs_give_good.Goals as goal

pub returns : goal.returns
returns c = record { rules = desugared_keeps_rules; good = good_gives_good }
