use Rattle.law_wiring.proofs.ShapesPlans.{plans_are_shaped, plans_are_exact, plans_end_in_release}
use Rattle.law_wiring.proofs.shapes.plans_are_shaped.Goals as goal

pub returns-clause-shapes : goal.returns-clause-shapes
returns-clause-shapes c = plans_are_shaped

pub returns-clause-exact : goal.returns-clause-exact
returns-clause-exact c = plans_are_exact

pub returns-clause-release : goal.returns-clause-release
returns-clause-release c = plans_end_in_release
