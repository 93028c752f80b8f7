use Rattle.std.proofs.Common.{refl}
use Rattle.sink.specs.Sends.{Sends}
use Rattle.in_turn.proofs.printing.print_refusal.Goals as goal

pub returns-in-Ok : goal.returns-in-Ok
unfolding Sends
returns-in-Ok g c = (refl, c.in-Ok.ensures)

pub returns-in-Err : goal.returns-in-Err
unfolding Sends
returns-in-Err g c = c.in-Err.ensures
