use Rattle.std.proofs.Common.{ap, sym, ◌∙◌, ◌++◌, ◌+◌, ◌-◌}
use Rattle.oracle.specs.Lines.{operand_spots}
use Rattle.oracle.proofs.Counting.{spots_more}
use Rattle.oracle.proofs.shapes.push_operands.Goals as goal

pub loop-position-preserved : goal.loop-position-preserved
loop-position-preserved g c =
    let i = c.loop-position.position in
    spots_more c.args.node i c.args.count (c.args.spots.now.items ++ operand_spots c.args.node 0 c.args.count) c.loop-position.spots.items
    c.loop-position-test.true c.loop-position.invariant
    ∙ ap (λ y. y ++ operand_spots c.args.node (i + 1) (c.args.count - (i + 1))) (sym c.in_ok-push.ensures.items)
