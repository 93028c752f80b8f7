use Rattle.std.proofs.Common.{refl}
use Rattle.std.proofs.lemmas.Result.{err_from_is_err_and}
use Rattle.object_view.specs.Sending.{bytes_of_block}
use Rattle.sink.proofs.Sent.{loop_more_at, loop_stop_at, loop_done, sends_other, sends_from}
use Rattle.object_view.proofs.writing.send_blocks.Goals as goal

pub returns-in_err-send_block : goal.returns-in_err-send_block
returns-in_err-send_block g c =
    let p = err_from_is_err_and c.from_residual.result c.from_residual.ensures.1 in
    let l = c.loop-block in
    rw p.1 (loop_stop_at (bytes_of_block c.args.literals.now) c.args.blocks.now l.block-index c.block-item.result p.0 _ _ _ c.loop-block-test.true
    c.block-item.is l.invariant (sends_other c.in_err-send_block.field-0.0 p.0 _ _ _ c.in_err-send_block.ensures))

pub loop-block-preserved : goal.loop-block-preserved
loop-block-preserved g c =
    let l = c.loop-block in
    loop_more_at (bytes_of_block c.args.literals.now) c.args.blocks.now l.block-index c.block-item.result _ _ _ c.loop-block-test.true c.block-item.is
    l.invariant (sends_from _ _ _ _ c.in_ok-send_block.was c.send_block.ensures)

pub returns : goal.returns
returns g c =
    let l = c.loop-block in
    loop_done (bytes_of_block c.args.literals.now) c.args.blocks.now l.block-index _ tt _ _ refl c.loop-block-test.false l.invariant
