use Rattle.std.proofs.Common.{refl}
use Rattle.std.proofs.lemmas.Result.{err_from_is_err_and}
use Rattle.report_text.specs.ReportText.{full_line}
use Rattle.sink.proofs.Sent.{loop_more_at, loop_stop_at, loop_done, sends_other, sends_from}
use Rattle.report_text.proofs.cells.send_fulls.Goals as goal

pub returns-in_err-send_full : goal.returns-in_err-send_full
returns-in_err-send_full g c =
    let p = err_from_is_err_and c.from_residual.result c.from_residual.ensures.1 in
    let l = c.loop-full in
    rw p.1 (loop_stop_at (full_line c.args.arrays.now) c.args.fulls.now l.full-index c.full-item.result p.0 _ _ _ c.loop-full-test.true c.full-item.is
    l.invariant (sends_other c.in_err-send_full.field-0.0 p.0 _ _ _ c.in_err-send_full.ensures))

pub loop-full-preserved : goal.loop-full-preserved
loop-full-preserved g c =
    let l = c.loop-full in
    loop_more_at (full_line c.args.arrays.now) c.args.fulls.now l.full-index c.full-item.result _ _ _ c.loop-full-test.true c.full-item.is l.invariant
    (sends_from _ _ _ _ c.in_ok-send_full.was c.send_full.ensures)

pub returns : goal.returns
returns g c =
    let l = c.loop-full in
    loop_done (full_line c.args.arrays.now) c.args.fulls.now l.full-index _ tt _ _ refl c.loop-full-test.false l.invariant
