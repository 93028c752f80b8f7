use Rattle.std.proofs.Common.{ap, sym, ◌∙◌, ◌++◌, ◌+◌, ◌-◌}
use Rattle.oracle.specs.Running.{nones}
use Rattle.oracle.proofs.Counting.{nones_more}
use Rattle.oracle.proofs.runs.push_empty.Goals as goal

pub loop-made-preserved : goal.loop-made-preserved
loop-made-preserved g c =
    let i = c.loop-made._made in
    nones_more i c.args.count (c.args.places.now.items ++ nones c.args.count) c.loop-made.places.items c.loop-made-test.true c.loop-made.invariant
    ∙ ap (λ y. y ++ nones (c.args.count - (i + 1))) (sym c.in_ok-push.ensures.items)
