-- A LOWERED PROGRAM'S GRAPH IS WELL FORMED.
use Rattle.std.proofs.Common.{◌≡◌, ℕ, true, false, List, is_some, Option, Some, None, Ok, refl, sym, subst, arith, Contains}
use Rattle.lemmas.proofs.Contains.{contains_map}
use Rattle.lemmas.proofs.Permutations.{each_weaker}
use Rattle.semantics.specs.Graph.{Block, Graph, block_names}
use Rattle.semantics.specs.WellFormed.{IsBlockWell, WellFormed}
use Rattle.source.specs.Tree.{Name, Function, Program}
use Rattle.source.specs.Tokens.{has_double}
use Rattle.source.specs.Rules.{function_in, main_name, item_names, no_items}
use Rattle.source.specs.Counts.{IsGood}
use Rattle.source.specs.Lowered.{graph_block, made_blocks, graph_of, sizes}
use Rattle.source.specs.Theorem.{NoDoubles, LoweringIsWellFormed}
use Rattle.source.proofs.Steps.{then_ok, ok_same}
use Rattle.law_language.specs.LoweredWell.{IsBlockGood}
use Rattle.law_language.proofs.LoweredSources.{all_of_each}
use Rattle.law_language.proofs.LoweredFunctions.{AreFunctionsGood, taken_apart, own_block, function_named, all_good}
use Rattle.law_language.proofs.LoweredDiffer.{all_differ, each_of_all, items_differ, arrays_differ, blocks_differ}
use Rattle.law_language.proofs.LoweredHasText.{sized}

has_main : (p : Program) → AreFunctionsGood p p → (o : Option Function) → function_in p main_name ≡ o → is_some o ≡ true
    → Contains (block_names (graph_of p)) main_name
has_main p all None e h = cc
has_main p all (Some f) e h =
    let n = function_named p p main_name f all e in
    subst (Contains (block_names (graph_of p))) (sym n.name)
    (contains_map (λ (b : List ℕ × Block (List ℕ)). b.0) (graph_of p).blocks (graph_block f.name.name (own_block p f)) n.there)

graph_well : (p : Program) → IsGood p → NoDoubles p → sizes 0 (made_blocks p p) ≡ Ok tt → WellFormed (graph_of p)
graph_well p good single fits =
    let g : Graph = graph_of p in
    let parts = taken_apart p good in
    let size = sized 0 (made_blocks p p) (omega arith) fits in
    let few = size.few in
    let differ = items_differ no_items parts.after p parts.heads in
    record {
      arrays_differ = all_differ _ (arrays_differ p differ);
      blocks_differ = all_differ _ (blocks_differ p p differ (each_of_all (λ x. has_double x ≡ false) (item_names p) single) (omega (arith, few)));
      main = has_main p parts.functions (function_in p main_name) refl parts.main;
      blocks = all_of_each (λ (x : Name × Block Name). IsBlockWell g x.1) g.blocks
          (each_weaker (λ (x : Name × Block Name). IsBlockGood g x.1) (λ (x : Name × Block Name). IsBlockWell g x.1) (λ x w. w.well) g.blocks
          (all_good p g refl parts.functions));
    }

pub lowering_is_well_formed : LoweringIsWellFormed
lowering_is_well_formed p g good single h =
    let s = then_ok (sizes 0 (made_blocks p p)) (λ fits. Ok (graph_of p)) g h in
    subst WellFormed (ok_same (graph_of p) g s.2) (graph_well p good single s.1)
