use Rattle.law_loop_credits.proofs.WaitsNet as Nets
use Rattle.law_loop_credits.proofs.nets_wait_for_more.Goals as goal

pub returns : goal.returns
returns c = record { waits = Nets.nets_wait_for_more }
