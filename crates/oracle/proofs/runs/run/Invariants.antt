use Rattle.std.proofs.Common.{◌≡◌, [], map}
use Rattle.oracle.specs.Running.{plain}
use Rattle.oracle.specs.Rows.{rows_of, run_among}
use Rattle.oracle.proofs.runs.run.Given as goal

abbrev pub invariant-loop-spare : goal.invariant-loop-spare
invariant-loop-spare g l =
    let s = l.fn.state in
    let t = l.state in
    run_among l.checked l.steps (plain s.invocations s.fresh.items [] s.deferred.items s.cells.items s.outputs.items)
    (rows_of (map (λ v. v.items) s.waiting.items))
    ≡ run_among l.checked l.left (plain t.invocations t.fresh.items [] t.deferred.items t.cells.items t.outputs.items)
    (rows_of (map (λ v. v.items) t.waiting.items))

abbrev pub decreases-loop-spare : goal.decreases-loop-spare
decreases-loop-spare g l = l.left
