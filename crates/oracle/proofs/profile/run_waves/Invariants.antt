use Rattle.std.proofs.Common.{◌≡◌, ℕ, ◌<◌, [], map}
use Rattle.oracle.specs.Running.{plain}
use Rattle.oracle.specs.Rows.{rows_of}
use Rattle.oracle.specs.Gathering.{wave_counts, waves_among}
use Rattle.oracle.proofs.profile.run_waves.Given as goal

abbrev pub invariant-loop-counts : goal.invariant-loop-counts
invariant-loop-counts g l =
    let t = l.state in
    (most : ℕ) × (l.left < most)
    × (wave_counts l.checked l.inputs l.steps ≡ waves_among l.checked most l.left (plain t.invocations t.fresh.items [] t.deferred.items t.cells.items
    t.outputs.items) (rows_of (map (λ v. v.items) t.waiting.items)) l.counts.items)

abbrev pub decreases-loop-counts : goal.decreases-loop-counts
decreases-loop-counts g l = l.left
