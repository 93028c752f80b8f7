use Rattle.std.proofs.Common.{◌≡◌, ◌≤◌, drop, map}
use Rattle.source.specs.Tree.{Name}
use Rattle.source.specs.Lowered as lowered
use Rattle.lowering.proofs.built.sizes.Given as goal

-- the blocks that are left are as all are
abbrev pub invariant-loop-of_function : goal.invariant-loop-of_function
invariant-loop-of_function g l = (lowered.sizes 0 (map (λ (b : Name × lowered.MadeBlock). b.1) l.blocks)
    ≡ lowered.sizes l.before (map (λ (b : Name × lowered.MadeBlock). b.1) (drop l.of_function-index l.blocks))) × (l.before ≤ 256)
