use Rattle.std.proofs.Common.{refl}
use Rattle.std.proofs.lemmas.Result.{err_from_is_err_and}
use Rattle.std.proofs.lemmas.Option.{slice_get_read}
use Rattle.report_text.specs.ReportText.{output_line}
use Rattle.sink.proofs.Sent.{sends_from, sends_other}
use Rattle.sink.proofs.Numbered.{more, stop, done}
use Rattle.report_text.proofs.outputs.send_outputs.Goals as goal

pub returns-in_err-send_output : goal.returns-in_err-send_output
returns-in_err-send_output g c =
    let p = err_from_is_err_and c.from_residual.result c.from_residual.ensures.1 in
    let l = c.loop-port in
    rw p.1 (stop output_line l.port c.args.outputs.now c.index-outputs-port.result p.0 _ _ _
    (slice_get_read c.args.outputs.now _ l.port c.index-outputs-port.result refl c.loop-port-test.true c.index-outputs-port.is) l.invariant
    (sends_other c.in_err-send_output.field-0.0 p.0 _ _ _ c.in_err-send_output.ensures))

pub loop-port-preserved : goal.loop-port-preserved
loop-port-preserved g c =
    let l = c.loop-port in
    more output_line l.port c.args.outputs.now c.index-outputs-port.result _ _ _
    (slice_get_read c.args.outputs.now _ l.port c.index-outputs-port.result refl c.loop-port-test.true c.index-outputs-port.is) l.invariant
    (sends_from _ _ _ _ c.in_ok-send_output.was c.send_output.ensures)

pub returns : goal.returns
returns g c =
    let l = c.loop-port in
    done output_line l.port c.args.outputs.now _ tt _ _ refl c.loop-port-test.false l.invariant
