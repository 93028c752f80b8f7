use Rattle.std.proofs.Common.{inl, refl}
use Rattle.driver.specs.declared.fault.Fault.{Fault}
use Rattle.commands.proofs.feed.line_refusal.Goals as goal

pub returns-in_default : goal.returns-in_default
returns-in_default g c = inl (Fault.Memory, tt, refl)
