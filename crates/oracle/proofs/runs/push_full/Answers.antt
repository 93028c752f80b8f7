use Rattle.std.proofs.Common.{ap, sym, ◌∙◌, ◌++◌, ◌+◌, ◌-◌}
use Rattle.oracle.specs.Running.{full_if, full_from}
use Rattle.oracle.proofs.Counting.{full_more}
use Rattle.oracle.proofs.runs.push_full.Goals as goal

pub loop-index-preserved : goal.loop-index-preserved
loop-index-preserved g c =
    let i = c.loop-index.index in
    let cells = c.args.cells.now in
    let so_far = c.loop-index.full.items in
    full_more cells c.args.array c.args.first i c.args.len (c.args.full.now.items ++ full_from cells c.args.array c.args.first 0 c.args.len) so_far
    c.loop-index-test.true c.loop-index.invariant
    ∙ ap (λ y. y ++ full_from cells c.args.array (c.args.first + (i + 1)) (i + 1) (c.args.len - (i + 1)))
    (ap (λ h. so_far ++ full_if c.args.array i h) (sym c.held.ensures) ∙ sym c.in_ok-push_if.ensures)
