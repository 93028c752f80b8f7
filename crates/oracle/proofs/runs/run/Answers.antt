use Rattle.std.proofs.Common.{◌≡◌, ◌-◌, [], map, ap, sym, ◌∙◌, subst, arith}
use Rattle.std.specs.Prelude.{MatchResult}
use Rattle.oracle.specs.Running.{plain, performed}
use Rattle.oracle.specs.Rows.{rows_of, next_among, Goes, Stays, run_among}
use Rattle.oracle.specs.Pairing.{taken_in}
use Rattle.oracle.specs.Telling.{told}
use Rattle.oracle.proofs.RowRuns.{run_goes, run_kept}
use Rattle.oracle.proofs.runs.run.Goals as goal

pub loop-spare-preserved : goal.loop-spare-preserved
loop-spare-preserved g c =
    let f = c.args.state.now in
    let s = c.loop-spare.state in
    let t = c.next_act.new.state in
    let taken = c.next_act.new.spare.taken in
    let vs = taken_in taken c.next_act.new.spare.values.items in
    let act = c.in-Ok.act in
    let first = plain f.invocations f.fresh.items [] f.deferred.items f.cells.items f.outputs.items in
    let old = plain s.invocations s.fresh.items [] s.deferred.items s.cells.items s.outputs.items in
    let mid = plain t.invocations t.fresh.items [] t.deferred.items t.cells.items t.outputs.items in
    let from = rows_of (map (λ v. v.items) s.waiting.items) in
    let to = rows_of (map (λ v. v.items) t.waiting.items) in
    let checked = c.args.checked.now in
    let left = c.loop-spare.left in
    let some = c.if-left-eq0.false in
    let came = subst (λ r. MatchResult r (λ act. next_among checked old from ≡ Goes mid to vs (told act)) (λ e. next_among checked old from
    ≡ Stays mid e)) c.in-Ok.is c.in_ok-act.ensures in
    run_goes checked old mid from to vs (told act) left (run_among checked c.args.steps first (rows_of (map (λ v. v.items) f.waiting.items)))
    (omega (arith, some)) c.loop-spare.invariant came
    ∙ run_kept checked (left - 1) (performed checked mid vs (told act)) _ t.waiting.items _ (λ v. v.items)
    (ap (λ vs. performed checked mid (taken_in taken vs) (told act)) (sym c.deref.ensures.value)
    ∙ sym (c.in_ok-perform-in-Ok.ensures.0)) (c.in_ok-perform-in-Ok.ensures.1)
