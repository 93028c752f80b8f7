-- The machine, the scan and the rules together.
use Rattle.std.proofs.Common.{◌≡◌, List, [], ◌∷◌, ◌++◌, map, refl, sym, ◌∙◌, ap, append-nil}
use Rattle.lemmas.proofs.Lists.{map_append}
use Rattle.source.specs.Tree.{Name, Item, Cells, Defines, Program}
use Rattle.source.specs.Words.{program_words}
use Rattle.source.specs.Lowered.{MadeBlock, made_blocks, blocks_of, graph_block, function_blocks}
use Rattle.lowering.specs.Counts.{ItemsCounted}
use Rattle.lowering.specs.Plans.{Plan, program_plans}
use Rattle.lowering.specs.Functions.{between, of_function}
use Rattle.lowering.specs.Machine.{run}
use Rattle.lowering.specs.Blocks.{named_blocks}
use Rattle.lowering.specs.Lowers.{MachineLowers, BlocksAreMade, BlocksOfGraph}
use Rattle.lowering.proofs.Whole.{items_say}
use Rattle.lowering.proofs.Scanned.{plans_gathered}
use Rattle.lowering.proofs.Checked.{all_counted}

pub machine_lowers : MachineLowers
machine_lowers p end fits good =
    let c : ItemsCounted p p = all_counted p end fits good in
    ap (λ (ps : List Plan). run p (between ps []) (program_words p)) (plans_gathered p c ∙ sym (append-nil (program_plans p))) ∙ items_say p p [] [] c

blocks_again : (f : Name) (bs : List MadeBlock) → map (λ (b : Name × MadeBlock). b.1) (of_function f bs) ≡ bs
blocks_again f [] = refl
blocks_again f (b ∷ bs) = ap (λ cs. b ∷ cs) (blocks_again f bs)

graph_blocks_again : (f : Name) (bs : List MadeBlock) → map (λ (b : Name × MadeBlock). graph_block b.0 b.1) (of_function f bs) ≡ map (graph_block f) bs
graph_blocks_again f [] = refl
graph_blocks_again f (b ∷ bs) = ap (λ cs. graph_block f b ∷ cs) (graph_blocks_again f bs)

items_made : (p : Program) (items : List Item) → map (λ (b : Name × MadeBlock). b.1) (named_blocks p items) ≡ made_blocks p items
items_made p [] = refl
items_made p (Cells x len ∷ items) = items_made p items
items_made p (Defines f ∷ items) =
    map_append (λ (b : Name × MadeBlock). b.1) (of_function f.name.name (function_blocks p f)) (named_blocks p items)
    ∙ ap (λ (bs : List MadeBlock). bs ++ map (λ (b : Name × MadeBlock). b.1) (named_blocks p items)) (blocks_again f.name.name (function_blocks p f))
    ∙ ap (λ (bs : List MadeBlock). function_blocks p f ++ bs) (items_made p items)

items_graph : (p : Program) (items : List Item) → map (λ (b : Name × MadeBlock). graph_block b.0 b.1) (named_blocks p items) ≡ blocks_of p items
items_graph p [] = refl
items_graph p (Cells x len ∷ items) = items_graph p items
items_graph p (Defines f ∷ items) =
    map_append (λ (b : Name × MadeBlock). graph_block b.0 b.1) (of_function f.name.name (function_blocks p f)) (named_blocks p items)
    ∙ ap (λ bs. bs ++ map (λ (b : Name × MadeBlock). graph_block b.0 b.1) (named_blocks p items)) (graph_blocks_again f.name.name (function_blocks p f))
    ∙ ap (λ bs. map (graph_block f.name.name) (function_blocks p f) ++ bs) (items_graph p items)

pub blocks_are_made : BlocksAreMade
blocks_are_made p = items_made p p

pub blocks_of_graph : BlocksOfGraph
blocks_of_graph p = items_graph p p
