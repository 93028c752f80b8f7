use Rattle.std.proofs.Common.{refl}
use Rattle.std.proofs.lemmas.Result.{err_from_is_err_and}
use Rattle.semantics.specs.Text.{array_line}
use Rattle.sink.proofs.Sent.{loop_more_at, loop_stop_at, loop_done, sends_other, sends_from}
use Rattle.graph_file.proofs.writing.send_arrays.Goals as goal

pub returns-in_err-send_array : goal.returns-in_err-send_array
returns-in_err-send_array g c =
    let p = err_from_is_err_and c.from_residual.result c.from_residual.ensures.1 in
    let l = c.loop-array in
    rw p.1 (loop_stop_at array_line c.args.arrays.now l.array-index c.array-item.result p.0 _ _ _ c.loop-array-test.true c.array-item.is l.invariant
    (sends_other c.in_err-send_array.field-0.0 p.0 _ _ _ c.in_err-send_array.ensures))

pub loop-array-preserved : goal.loop-array-preserved
loop-array-preserved g c =
    let l = c.loop-array in
    loop_more_at array_line c.args.arrays.now l.array-index c.array-item.result _ _ _ c.loop-array-test.true c.array-item.is l.invariant
    (sends_from _ _ _ _ c.in_ok-send_array.was c.send_array.ensures)

pub returns : goal.returns
returns g c =
    let l = c.loop-array in
    loop_done array_line c.args.arrays.now l.array-index _ tt _ _ refl c.loop-array-test.false l.invariant
