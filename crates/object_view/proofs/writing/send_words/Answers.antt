use Rattle.std.proofs.Common.{refl}
use Rattle.std.proofs.lemmas.Result.{err_from_is_err_and}
use Rattle.object_view.specs.Sending.{bytes_of_word}
use Rattle.sink.proofs.Sent.{loop_more, loop_stop, loop_done, sends_other, sends_from}
use Rattle.object_view.proofs.writing.send_words.Goals as goal

pub returns-in_err-send_word : goal.returns-in_err-send_word
returns-in_err-send_word g c =
    let p = err_from_is_err_and c.from_residual.result c.from_residual.ensures.1 in
    let l = c.loop-word in
    rw p.1 (loop_stop bytes_of_word c.args.words.now l.word-index 0 p.0 _ _ _ c.loop-word-test.true l.invariant
    (sends_other c.in_err-send_word.field-0.0 p.0 _ _ _ c.in_err-send_word.ensures))

pub loop-word-preserved : goal.loop-word-preserved
loop-word-preserved g c =
    let l = c.loop-word in
    loop_more bytes_of_word c.args.words.now l.word-index 0 _ _ _ c.loop-word-test.true l.invariant
    (sends_from _ _ _ _ c.in_ok-send_word.was c.send_word.ensures)

pub returns : goal.returns
returns g c =
    let l = c.loop-word in
    loop_done bytes_of_word c.args.words.now l.word-index _ tt _ _ refl c.loop-word-test.false l.invariant
