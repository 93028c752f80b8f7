use Rattle.law_wiring.proofs.BoundsWholes.{has_bounds, marks_fit, holders_in_order}
use Rattle.law_wiring.proofs.keeping.plans_keep_to_their_graphs.Goals as goal

pub returns-clause-bounds : goal.returns-clause-bounds
returns-clause-bounds c = has_bounds

pub returns-clause-marks : goal.returns-clause-marks
returns-clause-marks c = marks_fit

pub returns-clause-holders : goal.returns-clause-holders
returns-clause-holders c = holders_in_order
