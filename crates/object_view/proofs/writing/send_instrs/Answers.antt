use Rattle.std.proofs.Common.{refl}
use Rattle.std.proofs.lemmas.Result.{err_from_is_err_and}
use Rattle.object_view.specs.Sending.{bytes_of_instr}
use Rattle.sink.proofs.Sent.{loop_more_at, loop_stop_at, loop_done, sends_other, sends_from}
use Rattle.object_view.proofs.writing.send_instrs.Goals as goal

pub returns-in_err-send_instr : goal.returns-in_err-send_instr
returns-in_err-send_instr g c =
    let p = err_from_is_err_and c.from_residual.result c.from_residual.ensures.1 in
    let l = c.loop-instr in
    rw p.1 (loop_stop_at (bytes_of_instr c.args.literals.now) c.args.instrs.now l.instr-index c.instr-item.result p.0 _ _ _ c.loop-instr-test.true
    c.instr-item.is l.invariant (sends_other c.in_err-send_instr.field-0.0 p.0 _ _ _ c.in_err-send_instr.ensures))

pub loop-instr-preserved : goal.loop-instr-preserved
loop-instr-preserved g c =
    let l = c.loop-instr in
    loop_more_at (bytes_of_instr c.args.literals.now) c.args.instrs.now l.instr-index c.instr-item.result _ _ _ c.loop-instr-test.true c.instr-item.is
    l.invariant (sends_from _ _ _ _ c.in_ok-send_instr.was c.send_instr.ensures)

pub returns : goal.returns
returns g c =
    let l = c.loop-instr in
    loop_done (bytes_of_instr c.args.literals.now) c.args.instrs.now l.instr-index _ tt _ _ refl c.loop-instr-test.false l.invariant
