use Rattle.std.proofs.Common.{◌≡◌, ◌∙◌, ap, sym, List, ℕ, Ok}
use Rattle.semantics.specs.Graph.{Graph, Block}
use Rattle.source.specs.Tree.{Name}
use Rattle.source.specs.Rules.{main_name}
use Rattle.source.specs.Words.{HasTree}
use Rattle.source.specs.Counts.{IsGood}
use Rattle.source.specs.Lowered.{lowered, graph_of, arrays_of}
use Rattle.law_language.proofs.LoweredWellFormed.{lowering_is_well_formed}
use Rattle.lowered_text.specs.Lowers.{of_sizes}
use Rattle.law_language.proofs.LoweredTables.{names_are_spelled, spelled_names_are_single}
use Rattle.lowered_text.proofs.Refused.{reported_of, later_fault}
use Rattle.lowered_text.proofs.programs.make.Goals as goal

pub returns-in-Err : goal.returns-in-Err
returns-in-Err g c = λ text inputs r.
    reported_of text c.args.program.now c.in-Err.fault c.reported.result r.text_is (later_fault text c.in-Err.fault (of_sizes r.tree r.good)
    (c.in-Err.ensures.refused r.tree r.words)) c.reported.ensures

pub graph_of-graph-requires : goal.graph_of-graph-requires
graph_of-graph-requires g c =
    let t : HasTree c.args.named.now.checked.program.names c.args.named.now.checked.program.words = c.names_of-names.ensures in
    let l = c.in-Ok.ensures.lowered t.tree t.is in
    record {
      tree = t.tree;
      good = record { fits = t.is.fits; end = 0; checked = c.args.named.now.checked.checked.checked t.tree 0 t.is };
      spelled = names_are_spelled c.args.named.now.checked.program.names c.args.named.now.checked.program.words t.tree t.is.words t.spelled;
      lowered = l.lowered;
      arrays_are = l.arrays;
      blocks_are = l.code;
    }

pub returns : goal.returns
returns g c = λ text inputs r.
    let t : HasTree c.args.named.now.checked.program.names c.args.named.now.checked.program.words = c.names_of-names.ensures in
    let l = c.in-Ok.ensures.lowered r.tree r.words in
    let good : IsGood r.tree = record { fits = r.words.fits; end = 0; checked = c.args.named.now.checked.checked.checked r.tree 0 r.words } in
    let is : graph_of r.tree ≡ c.graph_of-graph.result =
    sym (c.graph_of-graph.ensures
    ∙ ap (λ (cells : List (Name × ℕ)). record { version = 2; arrays = cells; blocks = c.in-Ok.lowered.blocks.items; main = main_name }) l.arrays
    ∙ ap (λ (bs : List (Name × Block Name)). record { version = 2; arrays = arrays_of r.tree; blocks = bs; main = main_name }) l.code) in
    let reported : lowered r.tree ≡ Ok c.graph_of-graph.result = l.lowered ∙ ap (λ (graph : Graph). Ok graph) is in
    record {
      tree = r.tree;
      lowers = record {
        lowered = record { good = r.good; lowered = reported };
        well_formed = lowering_is_well_formed r.tree c.graph_of-graph.result good
            (spelled_names_are_single r.tree (names_are_spelled c.args.named.now.checked.program.names c.args.named.now.checked.program.words r.tree
            r.words.words t.spelled)) reported;
      };
      places = l.places;
    }
