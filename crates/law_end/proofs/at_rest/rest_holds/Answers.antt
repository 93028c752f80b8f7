use Rattle.law_end.proofs.RestStores.{all_second_stores}
use Rattle.law_end.proofs.RestExact.{all_exact_at_rest}
use Rattle.law_end.proofs.Causes.{all_caused_by_meaning}
use Rattle.law_end.proofs.at_rest.rest_holds.Goals as goal

pub returns-clause-second_store : goal.returns-clause-second_store
returns-clause-second_store c = all_second_stores

pub returns-clause-exact : goal.returns-clause-exact
returns-clause-exact c = all_exact_at_rest

pub returns-clause-cause : goal.returns-clause-cause
returns-clause-cause c = all_caused_by_meaning
