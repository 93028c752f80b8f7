use Rattle.std.proofs.Common.{refl, ap, ◌∙◌}
use Rattle.semantics.specs.Graph.{Graph}
use Rattle.driver.proofs.TextObjects.{sends_whole, sends_front, compiled_bytes, too_large}
use Rattle.driver.proofs.compiling.write_object.Goals as goal

pub returns-in-Ok-write : goal.returns-in-Ok-write
returns-in-Ok-write g c =
    let graph : Graph = c.in-Ok-check_text.checked in
    let number = c.version_of.ensures ∙ ap (λ (x : Graph). x.version) c.graph.ensures.same in (
      graph,
      _,
      compiled_bytes c.args.text.now graph c.in-Ok-code_of.code c.in-Ok-check_text.ensures c.in-Ok-code_of.ensures _ number,
      sends_whole _
          c.in-Ok-write.field-0 _ _ _ c.in-Ok-write.ensures,
    )

pub returns : goal.returns
returns g c =
    let graph : Graph = c.in-Ok-check_text.checked in
    let number = c.version_of.ensures ∙ ap (λ (x : Graph). x.version) c.graph.ensures.same in (
      graph,
      _,
      compiled_bytes c.args.text.now graph c.in-Ok-code_of.code c.in-Ok-check_text.ensures c.in-Ok-code_of.ensures _ number,
      sends_front _
          c.in-Err-write.fault _ _ _ c.in-Err-write.ensures,
    )

pub returns-in-Err-code_of : goal.returns-in-Err-code_of
returns-in-Err-code_of g c = (
  too_large c.args.text.now c.in-Ok-check_text.checked c.in-Ok-check_text.ensures c.in-Err-code_of.fault
      c.in-Err-code_of.ensures,
  refl,
)
