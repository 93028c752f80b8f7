use Rattle.std.proofs.Common.{ap, sym, ◌∙◌, [], ◌∷◌, ◌++◌, ◌+◌, ◌-◌}
use Rattle.oracle.specs.Uses.{uses_from}
use Rattle.oracle.proofs.Used.{uses_more}
use Rattle.oracle.proofs.uses.uses_of_nodes.Goals as goal

pub loop-node-preserved : goal.loop-node-preserved
loop-node-preserved g c =
    let i = c.loop-node.node in
    let b = c.args.block.now.1 in
    let so_far = c.loop-node.nodes.items in
    uses_more b i c.args.count (uses_from b 0 c.args.count) so_far c.loop-node-test.true c.loop-node.invariant
    ∙ ap (λ y. y ++ uses_from b (i + 1) (c.args.count - (i + 1))) (sym (c.in_ok-push.ensures.items ∙ ap (λ u. so_far ++ u ∷ []) c.in_ok-uses.ensures))
