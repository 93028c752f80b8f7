use Rattle.std.proofs.Common.{inl, inr, refl}
use Rattle.outcomes.specs.declared.refusal.Refusal.{Refusal}
use Rattle.ets_core.proofs.runs.ets_run.Goals as goal

pub returns-in_default : goal.returns-in_default
returns-in_default c = inr (Refusal.Memory, inr (inl refl), refl, c.result_of-in_default.ensures)
