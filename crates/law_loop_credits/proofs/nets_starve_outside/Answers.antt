use Rattle.law_loop_credits.proofs.WithinNext.{next_is_held}
use Rattle.law_loop_credits.proofs.WithinHeld.{held_has_token}
use Rattle.law_loop_credits.proofs.WithinDone.{done_is_given_back}
use Rattle.law_loop_credits.proofs.WithinParts as Parts
use Rattle.law_loop_credits.proofs.nets_starve_outside.Goals as goal

pub returns-clause-next : goal.returns-clause-next
returns-clause-next c = next_is_held

pub returns-clause-held : goal.returns-clause-held
returns-clause-held c = held_has_token

pub returns-clause-back : goal.returns-clause-back
returns-clause-back c = done_is_given_back

pub returns-clause-within : goal.returns-clause-within
returns-clause-within c = Parts.nets_starve_outside
