use Rattle.std.proofs.Common.{ap, ◌∙◌}
use Rattle.semantics.specs.Graph.{Graph}
use Rattle.driver.proofs.TextObjects.{object_bytes}
use Rattle.driver.proofs.compiling.compile_graph.Goals as goal

pub returns : goal.returns
returns g c =
    let number = c.version_of.ensures ∙ ap (λ (x : Graph). x.version) c.graph.ensures.same in
    object_bytes c.args.checked.now c.in_ok-code.code c.in_ok-code.ensures _ number _ c.in_ok-object.ensures.bytes
