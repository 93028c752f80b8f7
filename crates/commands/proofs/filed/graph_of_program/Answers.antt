use Rattle.std.proofs.Common.{ap, ◌∙◌}
use Rattle.commands.specs.FileInputs.{graph_part}
use Rattle.commands.proofs.FileInputs.{is_graph}
use Rattle.commands.proofs.filed.graph_of_program.Goals as goal

pub returns : goal.returns
returns g c =
    is_graph c.args.inputs.now c.args.text.now c.in_ok-graph.graph.items _ c.in_ok-graph.ensures
    (c.in_ok-graph_alone.ensures ∙ ap graph_part c.deref.ensures.value)
