use Rattle.std.proofs.Common.{ℕ, List, ◌∙◌, sym, ap}
use Rattle.semantics.specs.Graph.{Block, place_of, block_names}
use Rattle.graph_check.proofs.Places.{place_some, place_none_count}
use Rattle.graph_check.proofs.names.Named.place_of_block.Goals as goal

pub returns-in-Some : goal.returns-in-Some
returns-in-Some g c =
    let name = c.args.name.now in
    let names = block_names c.self.inside.graph in
    let found = c.in-Some.ensures names c.self.invariant.1 in
    (place_some name names c.in-Some.place (sym found)).0 ∙ ap (λ g. place_of name (block_names g)) c.self.view_is

pub returns-in-None : goal.returns-in-None
returns-in-None g c =
    let name = c.args.name.now in
    let graph = c.self.inside.graph in
    let found = c.in-None.ensures (block_names graph) c.self.invariant.1 in
    place_none_count (λ (n : List ℕ × Block (List ℕ)). n.0) name graph.blocks _ c.block_count.ensures (sym found)
    ∙ ap (λ g. place_of name (block_names g)) c.self.view_is
