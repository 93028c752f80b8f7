use Rattle.std.proofs.Common.{inl, ap}
use Rattle.semantics.specs.Graph.{Graph}
use Rattle.report_text.specs.ReportText.{report_text}
use Rattle.outcomes.specs.declared.outcome.Outcome.{Outcome}
use Rattle.outcomes.specs.Outcomes.{ending_of}
use Rattle.commands.proofs.Served.{printed, stopped}
use Rattle.in_turn.proofs.printing.print_run_on.Goals as goal

pub returns-in-Ok-write_report : goal.returns-in-Ok-write_report
returns-in-Ok-write_report g c =
    let e = c.in-Ok.emulated in
    inl (
      e.checked,
      e.report,
      c.in-Ok.ensures,
      printed _ _ _ _ _ _ _ (Outcome.Reported (ending_of e.report)) (ap (λ (h : Graph). report_text h.arrays e.report) c.graph.ensures.same)
          (ap Outcome.Reported c.of.ensures) c.in-Ok-write_report.ensures,
    )

pub returns-in-Ok : goal.returns-in-Ok
returns-in-Ok g c =
    let e = c.in-Ok.emulated in
    inl (
      e.checked,
      e.report,
      c.in-Ok.ensures,
      stopped _ _ _ _ _ _ (Outcome.Reported (ending_of e.report)) (ap (λ (h : Graph). report_text h.arrays e.report) c.graph.ensures.same)
          c.in-Err-write_report.ensures,
    )
