use Rattle.std.proofs.Common.{List, ℕ, sym, subst}
use Rattle.semantics.specs.Graph.{Block}
use Rattle.semantics.specs.Text.{HasText}
use Rattle.source.specs.Tree.{Name}
use Rattle.source.specs.Rules.{main_name}
use Rattle.source.specs.Lowered.{graph_of, arrays_of}
use Rattle.law_language.proofs.LoweredHasText.{lowering_has_text}
use Rattle.lowered_text.proofs.programs.graph_of.Goals as goal

pub invariant_of-result : goal.invariant_of-result
invariant_of-result g c =
    let r = c.requires in
    subst (λ (cells : List (Name × ℕ)). HasText record { version = 2; arrays = cells; blocks = c.args.blocks.items; main = main_name }) (sym r.arrays_are)
    (subst (λ (bs : List (Name × Block Name)). HasText record { version = 2; arrays = arrays_of r.tree; blocks = bs; main = main_name }) (sym r.blocks_are)
    (lowering_has_text r.tree (graph_of r.tree) r.good r.spelled r.lowered))
