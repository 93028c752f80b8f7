use Rattle.law_compiler.proofs.EmittedLaws.{emitted_events, emitted_faithful, emitted_releases, emitted_credits, emitted_holders}
use Rattle.law_compiler.proofs.emitting.emitted_code_is_faithful.Goals as goal

pub returns-clause-events : goal.returns-clause-events
returns-clause-events c = emitted_events

pub returns-clause-faithful : goal.returns-clause-faithful
returns-clause-faithful c = emitted_faithful

pub returns-clause-release : goal.returns-clause-release
returns-clause-release c = emitted_releases

pub returns-clause-credits : goal.returns-clause-credits
returns-clause-credits c = emitted_credits

pub returns-clause-holders : goal.returns-clause-holders
returns-clause-holders c = emitted_holders
