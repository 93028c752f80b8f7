use Rattle.std.proofs.Common.{refl, ◌∙◌, ap, ℕ, inl, inr}
use Rattle.schedule.specs.Reported.{opening_picture}
use Rattle.schedule.proofs.reporting.report_of.Goals as goal

pub returns-in-Ok : goal.returns-in-Ok
returns-in-Ok g c = inr (refl, c.end_of.ensures, c.in-Ok.ensures)

pub returns-in-Err : goal.returns-in-Err
returns-in-Err g c = inl (c.opening_report.ensures ∙ ap (λ (n : ℕ). opening_picture n) c.outputs.ensures.exact)
