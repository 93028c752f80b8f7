use Rattle.std.proofs.Common.{◌≡◌, [], map}
use Rattle.std.specs.VecDeque.{deque_len}
use Rattle.oracle.specs.Rows.{rows_of}
use Rattle.oracle.specs.Gathering.{gathered}
use Rattle.oracle.specs.Telling.{told}
use Rattle.oracle.proofs.wave.gather.Given as goal

abbrev pub invariant-loop-token : goal.invariant-loop-token
invariant-loop-token g l =
    let s = l.fn.state in
    let t = l.state in
    (
    gathered l.checked s.invocations s.cells.items s.fresh.items (rows_of (map (λ v. v.items) s.waiting.items)) s.deferred.items []
    ≡ gathered l.checked t.invocations t.cells.items t.fresh.items (rows_of (map (λ v. v.items) t.waiting.items)) t.deferred.items
    (map (λ a. (a.values.items, told a.act)) l.acts.items)
    )
    × (t.invocations ≡ s.invocations) × (t.cells.items ≡ s.cells.items) × (t.outputs.items ≡ s.outputs.items)

abbrev pub decreases-loop-token : goal.decreases-loop-token
decreases-loop-token g l = deque_len l.state.fresh
