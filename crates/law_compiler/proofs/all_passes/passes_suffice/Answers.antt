use Rattle.law_compiler.proofs.PassesFoldedTidy.{folded_is_tidy}
use Rattle.law_compiler.proofs.Passes.{folded_is_ready, passes_suffice}
use Rattle.law_compiler.proofs.all_passes.passes_suffice.Goals as goal

pub returns-clause-tidy : goal.returns-clause-tidy
returns-clause-tidy c = folded_is_tidy

pub returns-clause-ready : goal.returns-clause-ready
returns-clause-ready c = folded_is_ready

pub returns-clause-suffice : goal.returns-clause-suffice
returns-clause-suffice c = passes_suffice
