use Rattle.std.proofs.Common.{ap, ◌∙◌}
use Rattle.commands.specs.FileInputs.{followed}
use Rattle.commands.proofs.FileInputs.{is_run}
use Rattle.commands.proofs.filed.run_of_program.Goals as goal

pub returns : goal.returns
returns g c =
    is_run c.args.inputs.now c.args.text.now c.in_ok-graph.graph.items _ c.in_ok-graph.ensures
    (c.in_ok-with_given.ensures ∙ ap (followed c.args.inputs.now) c.deref.ensures.value)
