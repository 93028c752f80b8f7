use Rattle.std.proofs.Common.{refl, pos}
use Rattle.std.proofs.lemmas.Result.{err_from_is_err_and}
use Rattle.files.specs.Files.{integer_line}
use Rattle.sink.proofs.Sent.{loop_more, loop_stop, loop_done, sends_other, sends_from}
use Rattle.files.proofs.lines.send_integers.Goals as goal

pub returns-in_err-send_integer : goal.returns-in_err-send_integer
returns-in_err-send_integer g c =
    let p = err_from_is_err_and c.from_residual.result c.from_residual.ensures.1 in
    let l = c.loop-integer in
    rw p.1 (loop_stop integer_line c.args.integers.now l.integer-index (pos 0) p.0 _ _ _ c.loop-integer-test.true l.invariant
    (sends_other c.in_err-send_integer.field-0.0 p.0 _ _ _ c.in_err-send_integer.ensures))

pub loop-integer-preserved : goal.loop-integer-preserved
loop-integer-preserved g c =
    let l = c.loop-integer in
    loop_more integer_line c.args.integers.now l.integer-index (pos 0) _ _ _ c.loop-integer-test.true l.invariant
    (sends_from _ _ _ _ c.in_ok-send_integer.was c.send_integer.ensures)

pub returns : goal.returns
returns g c =
    let l = c.loop-integer in
    loop_done integer_line c.args.integers.now l.integer-index _ tt _ _ refl c.loop-integer-test.false l.invariant
