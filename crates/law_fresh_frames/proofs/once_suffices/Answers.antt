use Rattle.law_fresh_frames.proofs.FreshFaith.{once_suffices}
use Rattle.law_fresh_frames.proofs.Alike.{alike_is_faithful}
use Rattle.law_fresh_frames.proofs.Bounded.{orderly_is_bounded}
use Rattle.law_fresh_frames.proofs.FreshReady.{ready_stays, ready_code_is_faithful}
use Rattle.law_fresh_frames.proofs.once_suffices.Goals as goal

pub returns-clause-faithful : goal.returns-clause-faithful
returns-clause-faithful c = once_suffices

pub returns-clause-bounded : goal.returns-clause-bounded
returns-clause-bounded c = orderly_is_bounded

pub returns-clause-alike : goal.returns-clause-alike
returns-clause-alike c = alike_is_faithful

pub returns-clause-stays : goal.returns-clause-stays
returns-clause-stays c = ready_stays

pub returns-clause-code : goal.returns-clause-code
returns-clause-code c = ready_code_is_faithful
