use Rattle.std.proofs.Common.{inl, refl}
use Rattle.outcomes.specs.declared.outcome.Outcome.{Outcome}
use Rattle.commands.proofs.Served.{printed, stopped}
use Rattle.commands.proofs.serving.print_check.Goals as goal

pub returns-in-Ok-send : goal.returns-in-Ok-send
returns-in-Ok-send g c = inl (c.in-Ok._checked, c.in-Ok.ensures, printed _ _ Outcome.Done _ _ _ _ Outcome.Done refl refl c.in-Ok-send.ensures)

pub returns-in-Ok : goal.returns-in-Ok
returns-in-Ok g c = inl (c.in-Ok._checked, c.in-Ok.ensures, stopped _ _ _ _ _ _ Outcome.Done refl c.in-Err-send.ensures)
