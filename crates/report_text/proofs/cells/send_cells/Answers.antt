use Rattle.std.proofs.Common.{refl}
use Rattle.std.proofs.lemmas.Result.{err_from_is_err_and}
use Rattle.report_text.specs.ReportText.{cell_line}
use Rattle.sink.proofs.Sent.{loop_more_at, loop_stop_at, loop_done, sends_other, sends_from}
use Rattle.report_text.proofs.cells.send_cells.Goals as goal

pub returns-in_err-send_cell : goal.returns-in_err-send_cell
returns-in_err-send_cell g c =
    let p = err_from_is_err_and c.from_residual.result c.from_residual.ensures.1 in
    let l = c.loop-cell in
    rw p.1 (loop_stop_at (cell_line c.args.arrays.now) c.args.cells.now l.cell-index c.cell-item.result p.0 _ _ _ c.loop-cell-test.true c.cell-item.is
    l.invariant (sends_other c.in_err-send_cell.field-0.0 p.0 _ _ _ c.in_err-send_cell.ensures))

pub loop-cell-preserved : goal.loop-cell-preserved
loop-cell-preserved g c =
    let l = c.loop-cell in
    loop_more_at (cell_line c.args.arrays.now) c.args.cells.now l.cell-index c.cell-item.result _ _ _ c.loop-cell-test.true c.cell-item.is l.invariant
    (sends_from _ _ _ _ c.in_ok-send_cell.was c.send_cell.ensures)

pub returns : goal.returns
returns g c =
    let l = c.loop-cell in
    loop_done (cell_line c.args.arrays.now) c.args.cells.now l.cell-index _ tt _ _ refl c.loop-cell-test.false l.invariant
