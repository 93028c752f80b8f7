use Rattle.law_passes.proofs.NarrowSpread.{narrowed_spreads}
use Rattle.law_passes.proofs.NarrowKeeps.{narrowing_keeps, narrowed_is_tidy, narrowed_is_ready, narrowed_code_is_faithful}
use Rattle.law_passes.proofs.narrowing.narrowing_keeps.Goals as goal

pub returns-clause-spreads : goal.returns-clause-spreads
returns-clause-spreads c = narrowed_spreads

pub returns-clause-keeps : goal.returns-clause-keeps
returns-clause-keeps c = narrowing_keeps

pub returns-clause-tidy : goal.returns-clause-tidy
returns-clause-tidy c = narrowed_is_tidy

pub returns-clause-ready : goal.returns-clause-ready
returns-clause-ready c = narrowed_is_ready

pub returns-clause-code : goal.returns-clause-code
returns-clause-code c = narrowed_code_is_faithful
