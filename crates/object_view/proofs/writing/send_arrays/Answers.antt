use Rattle.std.proofs.Common.{refl, ap}
use Rattle.std.proofs.lemmas.Result.{err_from_is_err_and}
use Rattle.object_view.specs.Sending.{bytes_of_word}
use Rattle.sink.proofs.Sent.{loop_more, loop_stop, loop_done, sends_other, sends_from, sends_same}
use Rattle.object_view.proofs.writing.send_arrays.Goals as goal

pub returns-in_err-send_word : goal.returns-in_err-send_word
returns-in_err-send_word g c =
    let p = err_from_is_err_and c.from_residual.result c.from_residual.ensures.1 in
    let l = c.loop-len in
    rw p.1 (loop_stop bytes_of_word c.args.arrays.now l.len-index 0 p.0 _ _ _ c.loop-len-test.true l.invariant
    (sends_other c.in_err-send_word.field-0.0 p.0 _ _ _ (sends_same _ _ _ _ _ (ap bytes_of_word c.from.ensures) c.in_err-send_word.ensures)))

pub loop-len-preserved : goal.loop-len-preserved
loop-len-preserved g c =
    let l = c.loop-len in
    loop_more bytes_of_word c.args.arrays.now l.len-index 0 _ _ _ c.loop-len-test.true l.invariant
    (sends_from _ _ _ _ c.in_ok-send_word.was (sends_same _ _ _ _ _ (ap bytes_of_word c.from.ensures) c.send_word.ensures))

pub returns : goal.returns
returns g c =
    let l = c.loop-len in
    loop_done bytes_of_word c.args.arrays.now l.len-index _ tt _ _ refl c.loop-len-test.false l.invariant
