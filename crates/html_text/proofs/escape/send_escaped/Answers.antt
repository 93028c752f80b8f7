use Rattle.std.proofs.Common.{refl, get_or}
use Rattle.std.proofs.lemmas.Result.{err_from_is_err_and}
use Rattle.std.proofs.lemmas.Option.{slice_get-get_or}
use Rattle.html_text.specs.Escape.{byte_at}
use Rattle.sink.proofs.Sent.{sends_from, sends_other}
use Rattle.sink.proofs.Numbered.{more, stop, done}
use Rattle.html_text.proofs.escape.send_escaped.Goals as goal

pub returns-in_err-send_byte : goal.returns-in_err-send_byte
returns-in_err-send_byte g c =
    let p = err_from_is_err_and c.from_residual.result c.from_residual.ensures.1 in
    let l = c.loop-place in
    rw p.1 (stop byte_at l.place c.args.bytes.now (get_or c.args.bytes.now l.place 0) p.0 _ _ _
    (slice_get-get_or c.args.bytes.now l.place 0 c.loop-place-test.true) l.invariant
    (sends_other c.in_err-send_byte.field-0.0 p.0 _ _ _ c.in_err-send_byte.ensures))

pub loop-place-preserved : goal.loop-place-preserved
loop-place-preserved g c =
    let l = c.loop-place in
    more byte_at l.place c.args.bytes.now (get_or c.args.bytes.now l.place 0) _ _ _
    (slice_get-get_or c.args.bytes.now l.place 0 c.loop-place-test.true) l.invariant
    (sends_from _ _ _ _ c.in_ok-send_byte.was c.send_byte.ensures)

pub returns : goal.returns
returns g c =
    let l = c.loop-place in
    done byte_at l.place c.args.bytes.now _ tt _ _ refl c.loop-place-test.false l.invariant
