use Rattle.std.proofs.Common.{◌∙◌, ap}
use Rattle.semantics.specs.Graph.{block_names}
use Rattle.graph_check.specs.Names.{is_name}
use Rattle.graph_check.proofs.Places.{is_some_place}
use Rattle.graph_check.proofs.names.Named.has_block.Goals as goal

pub returns : goal.returns
returns g c =
    let name = c.args.name.now in
    let names = block_names c.self.inside.graph in
    c.is_some.ensures ∙ is_some_place name names _ (c.find.ensures names c.self.invariant.1) ∙ ap (λ g. is_name name (block_names g)) c.self.view_is
