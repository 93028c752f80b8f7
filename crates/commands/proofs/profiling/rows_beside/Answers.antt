use Rattle.std.proofs.Common.{◌≡◌}
use Rattle.commands.specs.declared.profiling.ProfileFormat.{ProfileFormat}
use Rattle.commands.specs.Profiled.{AreRows, IsNoRow, sizes_below}
use Rattle.commands.proofs.Rowed.{rows_in_lines}
use Rattle.commands.proofs.profiling.rows_beside.Goals as goal

pub returns-in-Lines : goal.returns-in-Lines
returns-in-Lines g c = λ text good.
    rows_in_lines c.rows_of_graph.result (c.args.format ≡ ProfileFormat.Lines) c.in-Lines.is
    (λ v. AreRows text c.args.inputs.now c.args.options.now (sizes_below c.args.sizes 64) v.items)
    (λ f. IsNoRow text c.args.inputs.now c.args.options.now c.args.sizes f)
    (c.rows_of_graph.ensures text good)
