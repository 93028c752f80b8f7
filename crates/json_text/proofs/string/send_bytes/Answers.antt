use Rattle.std.proofs.Common.{refl}
use Rattle.std.proofs.lemmas.Result.{err_from_is_err_and}
use Rattle.json_text.specs.Json.{escaped_byte}
use Rattle.sink.proofs.Sent.{loop_more, loop_stop, loop_done, sends_other, sends_from}
use Rattle.json_text.proofs.string.send_bytes.Goals as goal

pub returns-in_err-send_byte : goal.returns-in_err-send_byte
returns-in_err-send_byte g c =
    let p = err_from_is_err_and c.from_residual.result c.from_residual.ensures.1 in
    let l = c.loop-byte in
    rw p.1 (loop_stop escaped_byte c.args.text.now l.byte-index 0 p.0 _ _ _ c.loop-byte-test.true l.invariant
    (sends_other c.in_err-send_byte.field-0.0 p.0 _ _ _ c.in_err-send_byte.ensures))

pub loop-byte-preserved : goal.loop-byte-preserved
loop-byte-preserved g c =
    let l = c.loop-byte in
    loop_more escaped_byte c.args.text.now l.byte-index 0 _ _ _ c.loop-byte-test.true l.invariant
    (sends_from _ _ _ _ c.in_ok-send_byte.was c.send_byte.ensures)

pub returns : goal.returns
returns g c =
    let l = c.loop-byte in
    loop_done escaped_byte c.args.text.now l.byte-index _ tt _ _ refl c.loop-byte-test.false l.invariant
