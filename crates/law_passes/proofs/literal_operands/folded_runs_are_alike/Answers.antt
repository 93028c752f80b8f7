use Rattle.law_simulation.proofs.SimulationSeen.{related_runs_alike}
use Rattle.law_passes.proofs.KeptMoves.{kept_slots_folds}
use Rattle.law_passes.proofs.KeptRuns.{kept_slots_runs_alike, kept_slots_faithful}
use Rattle.law_passes.proofs.KeptKeeps.{kept_slots_tidy, kept_slots_lands, kept_slots_bounds, kept_slots_orderly, kept_slots_keep}
use Rattle.law_passes.proofs.literal_operands.folded_runs_are_alike.Goals as goal

pub returns-clause-folds : goal.returns-clause-folds
returns-clause-folds c = related_runs_alike

pub returns-clause-kept_folds : goal.returns-clause-kept_folds
returns-clause-kept_folds c = kept_slots_folds

pub returns-clause-kept_alike : goal.returns-clause-kept_alike
returns-clause-kept_alike c = kept_slots_runs_alike

pub returns-clause-kept_faithful : goal.returns-clause-kept_faithful
returns-clause-kept_faithful c = kept_slots_faithful

pub returns-clause-kept_tidy : goal.returns-clause-kept_tidy
returns-clause-kept_tidy c = kept_slots_tidy

pub returns-clause-kept_lands : goal.returns-clause-kept_lands
returns-clause-kept_lands c = kept_slots_lands

pub returns-clause-kept_bounds : goal.returns-clause-kept_bounds
returns-clause-kept_bounds c = kept_slots_bounds

pub returns-clause-kept_orderly : goal.returns-clause-kept_orderly
returns-clause-kept_orderly c = kept_slots_orderly

pub returns-clause-kept_keeps : goal.returns-clause-kept_keeps
returns-clause-kept_keeps c = kept_slots_keep
