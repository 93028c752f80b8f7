use Rattle.std.proofs.Common.{inl, refl, ap}
use Rattle.dot.specs.GraphDot.{graph_dot}
use Rattle.outcomes.specs.declared.outcome.Outcome.{Outcome}
use Rattle.commands.proofs.Served.{printed, stopped}
use Rattle.commands.proofs.serving.print_graph_picture.Goals as goal

pub returns-in-Ok-write_graph_dot : goal.returns-in-Ok-write_graph_dot
returns-in-Ok-write_graph_dot g c = inl (
  c.in-Ok.checked,
  c.in-Ok.ensures,
  printed _ _ Outcome.Done _ _ _ _ Outcome.Done
      (ap graph_dot c.graph.ensures.same) refl c.in-Ok-write_graph_dot.ensures,
)

pub returns-in-Ok : goal.returns-in-Ok
returns-in-Ok g c = inl (
  c.in-Ok.checked,
  c.in-Ok.ensures,
  stopped _ _ _ _ _ _ Outcome.Done (ap graph_dot c.graph.ensures.same)
      c.in-Err-write_graph_dot.ensures,
)
