use Rattle.law_net.proofs.RunsMatching.{is_matching}
use Rattle.law_net.proofs.CreditsTaken.{credits_take_them}
use Rattle.law_net.proofs.ContextsCoded.{all_coded}
use Rattle.law_net.proofs.CreditsKept.{bound_is_kept}
use Rattle.law_net.proofs.runs.tokens_match.Goals as goal

pub returns-clause-matching : goal.returns-clause-matching
returns-clause-matching c = λ fl p w inputs q m good fit k. is_matching fl p w inputs q m good k (credits_take_them fl p w inputs q m good k)

pub returns-clause-bound : goal.returns-clause-bound
returns-clause-bound c = λ fl p w inputs q m good fit k. bound_is_kept fl p w inputs q m good k (all_coded fl p w good)
