use Rattle.std.proofs.Common.{ℕ, List, ◌∙◌, sym, ap}
use Rattle.semantics.specs.Graph.{place_of, array_names}
use Rattle.graph_check.proofs.Places.{place_some, place_none_count}
use Rattle.graph_check.proofs.names.Named.place_of_array.Goals as goal

pub returns-in-Some : goal.returns-in-Some
returns-in-Some g c =
    let name = c.args.name.now in
    let names = array_names c.self.inside.graph in
    let found = c.in-Some.ensures names c.self.invariant.0 in
    (place_some name names c.in-Some.place (sym found)).0 ∙ ap (λ g. place_of name (array_names g)) c.self.view_is

pub returns-in-None : goal.returns-in-None
returns-in-None g c =
    let name = c.args.name.now in
    let graph = c.self.inside.graph in
    let found = c.in-None.ensures (array_names graph) c.self.invariant.0 in
    place_none_count (λ (n : List ℕ × ℕ). n.0) name graph.arrays _ c.array_count.ensures (sym found) ∙ ap (λ g. place_of name (array_names g)) c.self.view_is
