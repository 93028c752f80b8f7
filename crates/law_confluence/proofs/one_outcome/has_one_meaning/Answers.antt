use Rattle.law_confluence.proofs.Outcome.{unique_tags, determinacy, second_store_from}
use Rattle.law_confluence.proofs.one_outcome.has_one_meaning.Goals as goal

pub returns-clause-tags : goal.returns-clause-tags
returns-clause-tags c = λ g inputs well count. unique_tags g well inputs count

pub returns-clause-outcome : goal.returns-clause-outcome
returns-clause-outcome c = λ g inputs well count. determinacy g well inputs count

pub returns-clause-second_store : goal.returns-clause-second_store
returns-clause-second_store c = λ g inputs well count s other x reached clash. (second_store_from g well inputs count s x reached clash).always other
