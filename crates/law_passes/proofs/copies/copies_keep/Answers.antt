use Rattle.law_passes.proofs.SpreadKeeps.{spread_plans_keep}
use Rattle.law_passes.proofs.SpreadTidy.{spread_plans_stay_tidy}
use Rattle.law_passes.proofs.copies.copies_keep.Goals as goal

pub returns-clause-spread : goal.returns-clause-spread
returns-clause-spread c = spread_plans_keep

pub returns-clause-tidy : goal.returns-clause-tidy
returns-clause-tidy c = spread_plans_stay_tidy
