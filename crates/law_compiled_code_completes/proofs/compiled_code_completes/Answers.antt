use Rattle.law_compiled_code_completes.proofs.Compiled.{promises_make_true, compiled_code_is_true, compiled_code_completes}
use Rattle.law_compiled_code_completes.proofs.compiled_code_completes.Goals as goal

pub returns-clause-promises : goal.returns-clause-promises
returns-clause-promises c = promises_make_true

pub returns-clause-compiled : goal.returns-clause-compiled
returns-clause-compiled c = compiled_code_is_true

pub returns-clause-completes : goal.returns-clause-completes
returns-clause-completes c = compiled_code_completes
