use Rattle.law_compiler.proofs.EmittedLaws.{own_are_good, own_events, own_faithful}
use Rattle.law_compiler.proofs.emitting.own_slots_are_faithful.Goals as goal

pub returns-clause-good : goal.returns-clause-good
returns-clause-good c = own_are_good

pub returns-clause-events : goal.returns-clause-events
returns-clause-events c = own_events

pub returns-clause-faithful : goal.returns-clause-faithful
returns-clause-faithful c = own_faithful
