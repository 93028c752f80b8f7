use Rattle.std.proofs.Common.{inl, ap, refl}
use Rattle.semantics.specs.Graph.{Graph}
use Rattle.report_text.specs.ReportText.{meaning_text}
use Rattle.outcomes.specs.declared.outcome.Ending.{Ending}
use Rattle.outcomes.specs.declared.outcome.Outcome.{Outcome}
use Rattle.commands.proofs.Served.{printed, stopped}
use Rattle.in_turn.proofs.printing.print_meaning_on.Goals as goal

pub returns-in-Ok-write_meaning : goal.returns-in-Ok-write_meaning
returns-in-Ok-write_meaning g c =
    let m = c.in-Ok.meant in
    inl (
      m.checked,
      m.report.end,
      m.report.outputs.items,
      m.report.cells.items,
      c.in-Ok.ensures.good,
      c.in-Ok.ensures.meant,
      printed _ _ _ _ _ _ _ (Outcome.Reported (Ending.Meaning m.report.end))
          (ap (λ (h : Graph). meaning_text h.arrays m.report.outputs.items m.report.cells.items m.report.end) c.graph.ensures.same) refl
          c.in-Ok-write_meaning.ensures,
    )

pub returns-in-Ok : goal.returns-in-Ok
returns-in-Ok g c =
    let m = c.in-Ok.meant in
    inl (
      m.checked,
      m.report.end,
      m.report.outputs.items,
      m.report.cells.items,
      c.in-Ok.ensures.good,
      c.in-Ok.ensures.meant,
      stopped _ _ _ _ _ _ (Outcome.Reported (Ending.Meaning m.report.end))
          (ap (λ (h : Graph). meaning_text h.arrays m.report.outputs.items m.report.cells.items m.report.end) c.graph.ensures.same)
          c.in-Err-write_meaning.ensures,
    )
