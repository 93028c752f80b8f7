use Rattle.oracle.proofs.Entering.{entered_law}
use Rattle.oracle.proofs.Joining.{join_law}
use Rattle.oracle.proofs.Known.{known_law}
use Rattle.oracle.proofs.Sends.{all_sent}
use Rattle.oracle.proofs.laws.steps_agree.Goals as goal

pub returns-clause-joins : goal.returns-clause-joins
returns-clause-joins c = join_law

pub returns-clause-sending : goal.returns-clause-sending
returns-clause-sending c = all_sent

pub returns-clause-known : goal.returns-clause-known
returns-clause-known c = known_law

pub returns-clause-entering : goal.returns-clause-entering
returns-clause-entering c = entered_law
