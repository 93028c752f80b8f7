use Rattle.std.proofs.Common.{ap, List, ℕ, ◌++◌}
use Rattle.semantics.specs.Text.{text_of}
use Rattle.lowered_text.specs.Parts.{IsMade}
use Rattle.lowered_text.proofs.Writing.{all_of, front_of}
use Rattle.lowered_text.proofs.write_graph.Goals as goal

pub returns-in-Ok-send_graph : goal.returns-in-Ok-send_graph
returns-in-Ok-send_graph g c = λ text r.
    let m : IsMade text c.in-Ok.made.graph c.in-Ok.made.places.items = c.in-Ok.ensures text c.args.parts.inputs.now r in (
      m.tree,
      c.in-Ok.made.graph,
      m.lowers,
      all_of _ c.in-Ok-send_graph.field-0 _ _ _ _ (ap (λ (xs : List ℕ). text_of c.in-Ok.made.graph ++ xs) r.inputs_are)
          c.in-Ok-send_graph.ensures,
    )

pub returns : goal.returns
returns g c = λ text r.
    let m : IsMade text c.in-Ok.made.graph c.in-Ok.made.places.items = c.in-Ok.ensures text c.args.parts.inputs.now r in (
      m.tree,
      c.in-Ok.made.graph,
      m.lowers,
      front_of c.in-Err-send_graph.fault _ _ _ _ (ap (λ (xs : List ℕ). text_of c.in-Ok.made.graph ++ xs) r.inputs_are)
          c.in-Err-send_graph.ensures,
    )
