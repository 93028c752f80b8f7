use Rattle.law_net.proofs.ContextsComposition.{wired_keeps_faith, wired_code_is_faithful, faith_goes_on, faith_through_pass}
use Rattle.law_net.proofs.ContextsStatic.{expanded_is_wired}
use Rattle.law_net.proofs.contexts.packages_suffice.Goals as goal

pub returns-clause-plan : goal.returns-clause-plan
returns-clause-plan c = wired_keeps_faith

pub returns-clause-code : goal.returns-clause-code
returns-clause-code c = wired_code_is_faithful

pub returns-clause-goes_on : goal.returns-clause-goes_on
returns-clause-goes_on c = faith_goes_on

pub returns-clause-wired : goal.returns-clause-wired
returns-clause-wired c = expanded_is_wired

pub returns-clause-passes : goal.returns-clause-passes
returns-clause-passes c = faith_through_pass
