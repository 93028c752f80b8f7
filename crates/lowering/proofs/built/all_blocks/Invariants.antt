use Rattle.std.proofs.Common.{◌≡◌, ◌++◌, length, map}
use Rattle.source.specs.Tree.{Name}
use Rattle.source.specs.Lowered as lowered
use Rattle.lowering.proofs.built.all_blocks.Given as goal

abbrev pub invariant-loop-of_function : goal.invariant-loop-of_function
invariant-loop-of_function g l = l.blocks.items ++ map (λ (b : Name × lowered.MadeBlock). lowered.graph_block b.0 b.1) l.rest.items
    ≡ map (λ (b : Name × lowered.MadeBlock). lowered.graph_block b.0 b.1) l.fn.made.items

abbrev pub decreases-loop-of_function : goal.decreases-loop-of_function
decreases-loop-of_function g l = length l.rest.items
