use Rattle.std.proofs.Common.{pos, refl}
use Rattle.std.proofs.lemmas.Result.{err_from_is_err_and}
use Rattle.object_view.specs.Sending.{bytes_of_literal}
use Rattle.sink.proofs.Sent.{loop_more, loop_stop, loop_done, sends_other, sends_from}
use Rattle.object_view.proofs.writing.send_literals.Goals as goal

pub returns-in_err-send_literal : goal.returns-in_err-send_literal
returns-in_err-send_literal g c =
    let p = err_from_is_err_and c.from_residual.result c.from_residual.ensures.1 in
    let l = c.loop-literal in
    rw p.1 (loop_stop bytes_of_literal c.args.literals.now l.literal-index (pos 0) p.0 _ _ _ c.loop-literal-test.true l.invariant
    (sends_other c.in_err-send_literal.field-0.0 p.0 _ _ _ c.in_err-send_literal.ensures))

pub loop-literal-preserved : goal.loop-literal-preserved
loop-literal-preserved g c =
    let l = c.loop-literal in
    loop_more bytes_of_literal c.args.literals.now l.literal-index (pos 0) _ _ _ c.loop-literal-test.true l.invariant
    (sends_from _ _ _ _ c.in_ok-send_literal.was c.send_literal.ensures)

pub returns : goal.returns
returns g c =
    let l = c.loop-literal in
    loop_done bytes_of_literal c.args.literals.now l.literal-index _ tt _ _ refl c.loop-literal-test.false l.invariant
