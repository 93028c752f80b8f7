use Rattle.law_loops_complete.proofs.LoopsComplete as Loops
use Rattle.law_loops_complete.proofs.own_bounds_suffice.Goals as goal

pub returns-clause-tells : goal.returns-clause-tells
returns-clause-tells c = Loops.one_run_bounds

pub returns-clause-complete : goal.returns-clause-complete
returns-clause-complete c = Loops.loops_complete
