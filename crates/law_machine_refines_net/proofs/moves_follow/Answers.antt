use Rattle.law_machine_refines_net.proofs.HostsStarts.{starts, tokens_are_items}
use Rattle.law_machine_refines_net.proofs.MovesHalts.{halts_follow}
use Rattle.law_machine_refines_net.proofs.MovesGoes.{goes_follow}
use Rattle.law_machine_refines_net.proofs.MovesEvents.{events_follow}
use Rattle.law_machine_refines_net.proofs.moves_follow.Goals as goal

pub returns-clause-starts : goal.returns-clause-starts
returns-clause-starts c = starts

pub returns-clause-tokens : goal.returns-clause-tokens
returns-clause-tokens c = tokens_are_items

pub returns-clause-halts : goal.returns-clause-halts
returns-clause-halts c = halts_follow

pub returns-clause-goes : goal.returns-clause-goes
returns-clause-goes c = goes_follow

pub returns-clause-events : goal.returns-clause-events
returns-clause-events c = events_follow
