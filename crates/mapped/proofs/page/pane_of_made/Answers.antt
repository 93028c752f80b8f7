use Rattle.std.proofs.Common.{◌∙◌, ap, List, ℕ}
use Rattle.std.proofs.lemmas.Result.{IfOk-weaker}
use Rattle.semantics.specs.Graph.{Graph, flow_of}
use Rattle.source.specs.Tokens.{program_of}
use Rattle.lowering.specs.Built.{Places}
use Rattle.code_map.specs.Carried.{owners_of}
use Rattle.html_text.specs.PaneText.{program_pane}
use Rattle.mapped.proofs.page.pane_of_made.Goals as goal

pub returns-in-Ok : goal.returns-in-Ok
returns-in-Ok g c = λ text is made.
    let program = c.args.program.now in
    let checked = c.in-Ok.checked in
    let graph_is = (c.in-Ok.ensures made.lowers.well_formed).0 in
    let places_are = c.deref.ensures.value ∙ made.places in
    IfOk-weaker c.program_pane.result _ _ (λ v pane. (
      made.tree,
      c.args.made.graph,
      made.lowers,
      pane ∙ ap (λ (h : Graph). program_pane (owners_of (flow_of h)) program c.deref.result.now) graph_is
          ∙ ap (λ (xs : List ℕ). program_pane (owners_of (flow_of c.args.made.graph)) xs c.deref.result.now) is
          ∙ ap (λ (ps : List Places). program_pane (owners_of (flow_of c.args.made.graph)) (program_of text) ps) places_are,
    )) c.program_pane.ensures
