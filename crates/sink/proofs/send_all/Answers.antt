use Rattle.std.proofs.Common.{refl}
use Rattle.std.proofs.lemmas.Result.{err_from_is_err_and}
use Rattle.sink.proofs.Sent.{loop_more, loop_stop, loop_done, sends_other, sends_from}
use Rattle.sink.proofs.send_all.Goals as goal

pub returns-in_err-send : goal.returns-in_err-send
returns-in_err-send g c =
    let p = err_from_is_err_and c.from_residual.result c.from_residual.ensures.1 in
    let l = c.loop-piece in
    rw p.1 (loop_stop (λ q. q.now) c.args.pieces.now l.piece-index _ p.0 _ _ _ c.loop-piece-test.true l.invariant
    (sends_other c.in_err-send.field-0.0 p.0 _ _ _ c.in_err-send.ensures))

pub loop-piece-preserved : goal.loop-piece-preserved
loop-piece-preserved g c =
    let l = c.loop-piece in
    loop_more (λ q. q.now) c.args.pieces.now l.piece-index _ _ _ _ c.loop-piece-test.true l.invariant (sends_from _ _ _ _ c.in_ok-send.was c.send.ensures)

pub returns : goal.returns
returns g c =
    let l = c.loop-piece in
    loop_done (λ q. q.now) c.args.pieces.now l.piece-index _ tt _ _ refl c.loop-piece-test.false l.invariant
