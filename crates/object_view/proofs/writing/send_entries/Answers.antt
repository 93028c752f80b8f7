use Rattle.std.proofs.Common.{refl}
use Rattle.std.proofs.lemmas.Result.{err_from_is_err_and}
use Rattle.object_view.specs.Sending.{bytes_of_entry}
use Rattle.sink.proofs.Sent.{loop_more_at, loop_stop_at, loop_done, sends_other, sends_from}
use Rattle.object_view.proofs.writing.send_entries.Goals as goal

pub returns-in_err-send_entry : goal.returns-in_err-send_entry
returns-in_err-send_entry g c =
    let p = err_from_is_err_and c.from_residual.result c.from_residual.ensures.1 in
    let l = c.loop-block in
    rw p.1 (loop_stop_at bytes_of_entry c.args.blocks.now l.block-index c.block-item.result p.0 _ _ _ c.loop-block-test.true c.block-item.is
    l.invariant (sends_other c.in_err-send_entry.field-0.0 p.0 _ _ _ c.in_err-send_entry.ensures))

pub loop-block-preserved : goal.loop-block-preserved
loop-block-preserved g c =
    let l = c.loop-block in
    loop_more_at bytes_of_entry c.args.blocks.now l.block-index c.block-item.result _ _ _ c.loop-block-test.true c.block-item.is l.invariant
    (sends_from _ _ _ _ c.in_ok-send_entry.was c.send_entry.ensures)

pub returns : goal.returns
returns g c =
    let l = c.loop-block in
    loop_done bytes_of_entry c.args.blocks.now l.block-index _ tt _ _ refl c.loop-block-test.false l.invariant
