use Rattle.fanout.proofs.LoopsStay.{still_has_bounds, keeps_arrays}
use Rattle.fanout.proofs.loops.narrowing_keeps_loops.Goals as goal

pub returns-clause-bounds : goal.returns-clause-bounds
returns-clause-bounds c = still_has_bounds

pub returns-clause-arrays : goal.returns-clause-arrays
returns-clause-arrays c = keeps_arrays
