use Rattle.std.proofs.Common.{inl, inr, ap, refl, rules}
use Rattle.semantics.specs.Graph.{Graph}
use Rattle.commands.specs.Agreed.{differing_text, same_text}
use Rattle.outcomes.specs.declared.outcome.Outcome.{Outcome}
use Rattle.outcomes.specs.Outcomes.{ending_of}
use Rattle.commands.proofs.Agreeing.{at_some}
use Rattle.commands.proofs.Served.{printed, stopped}
use Rattle.commands.proofs.orders.print_orders.Goals as goal

pub returns-in-Ok-write_same : goal.returns-in-Ok-write_same
returns-in-Ok-write_same g c =
    let o = c.in-Ok.orders in
    inl (
      o.checked,
      o.reports.first,
      c.in-Ok.ensures.same (search rules),
      printed _ _ _ _ _ _ _ (Outcome.Reported (ending_of o.reports.first)) (ap (λ (h : Graph). same_text c.args.count h o.reports.first)
          c.graph.ensures.same) (ap Outcome.Reported c.of.ensures) c.in-Ok-write_same.ensures,
    )

pub returns-in-None : goal.returns-in-None
returns-in-None g c =
    let o = c.in-Ok.orders in
    inl (
      o.checked,
      o.reports.first,
      c.in-Ok.ensures.same (search rules),
      stopped _ _ _ _ _ _ (Outcome.Reported (ending_of o.reports.first))
          (ap (λ (h : Graph). same_text c.args.count h o.reports.first) c.graph.ensures.same) c.in-Err-write_same.ensures,
    )

pub returns-in-Ok-write_differing : goal.returns-in-Ok-write_differing
returns-in-Ok-write_differing g c =
    let o = c.in-Ok.orders in
    let b = c.in-Some.other in
    inr (inl (
      o.checked,
      o.reports.first,
      b.number,
      o.checked,
      b.report,
      at_some _ _ _ _ c.in-Some.is c.in-Ok.ensures.other,
      printed _ _
          Outcome.Differed _ _ _ _ Outcome.Differed (ap (λ (h : Graph). differing_text h o.reports.first b.number h b.report)
          c.graph-in-Some.ensures.same) refl c.in-Ok-write_differing.ensures,
    ))

pub returns : goal.returns
returns g c =
    let o = c.in-Ok.orders in
    let b = c.in-Some.other in
    inr (inl (
      o.checked,
      o.reports.first,
      b.number,
      o.checked,
      b.report,
      at_some _ _ _ _ c.in-Some.is c.in-Ok.ensures.other,
      stopped _ _ _ _ _ _
          Outcome.Differed (ap (λ (h : Graph). differing_text h o.reports.first b.number h b.report) c.graph-in-Some.ensures.same)
          c.in-Err-write_differing.ensures,
    ))
