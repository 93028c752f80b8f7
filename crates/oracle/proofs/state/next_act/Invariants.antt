use Rattle.std.proofs.Common.{◌≡◌, [], map}
use Rattle.std.specs.VecDeque.{deque_len}
use Rattle.oracle.specs.Running.{plain}
use Rattle.oracle.specs.Rows.{rows_of, next_among}
use Rattle.oracle.proofs.state.next_act.Given as goal

abbrev pub invariant-loop-token : goal.invariant-loop-token
invariant-loop-token g l =
    let s = l.fn.state in
    let t = l.state in
    next_among l.checked (plain s.invocations s.fresh.items [] s.deferred.items s.cells.items s.outputs.items) (rows_of (map (λ v. v.items) s.waiting.items))
    ≡ next_among l.checked (plain t.invocations t.fresh.items [] t.deferred.items t.cells.items t.outputs.items) (rows_of (map (λ v. v.items) t.waiting.items))

abbrev pub decreases-loop-token : goal.decreases-loop-token
decreases-loop-token g l = deque_len l.state.fresh
