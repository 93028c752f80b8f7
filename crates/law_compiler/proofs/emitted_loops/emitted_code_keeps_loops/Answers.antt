use Rattle.law_compiler.proofs.EmittedLoops.{emitted_bounds, emitted_arrays}
use Rattle.law_compiler.proofs.emitted_loops.emitted_code_keeps_loops.Goals as goal

pub returns-clause-bounds : goal.returns-clause-bounds
returns-clause-bounds c = emitted_bounds

pub returns-clause-arrays : goal.returns-clause-arrays
returns-clause-arrays c = emitted_arrays
