use Rattle.std.proofs.Common.{refl}
use Rattle.std.proofs.lemmas.Result.{err_from_is_err_and}
use Rattle.profile_text.specs.ProfileText.{row_line}
use Rattle.sink.proofs.Sent.{loop_more, loop_stop, loop_done, sends_other, sends_from}
use Rattle.profile_text.proofs.lines.send_rows.Goals as goal

pub returns-in_err-send_row : goal.returns-in_err-send_row
returns-in_err-send_row g c =
    let p = err_from_is_err_and c.from_residual.result c.from_residual.ensures.1 in
    let l = c.loop-row in
    rw p.1 (loop_stop (row_line c.args.arrays.now) c.args.rows.now l.row-index _ p.0 _ _ _ c.loop-row-test.true l.invariant
    (sends_other c.in_err-send_row.field-0.0 p.0 _ _ _ c.in_err-send_row.ensures))

pub loop-row-preserved : goal.loop-row-preserved
loop-row-preserved g c =
    let l = c.loop-row in
    loop_more (row_line c.args.arrays.now) c.args.rows.now l.row-index _ _ _ _ c.loop-row-test.true l.invariant (sends_from _ _ _ _ c.in_ok-send_row.was c.send_row.ensures)

pub returns : goal.returns
returns g c =
    let l = c.loop-row in
    loop_done (row_line c.args.arrays.now) c.args.rows.now l.row-index _ tt _ _ refl c.loop-row-test.false l.invariant
