use Rattle.std.proofs.Common.{refl}
use Rattle.std.proofs.lemmas.Result.{err_from_is_err_and}
use Rattle.graph_file.specs.Sending.{source_text}
use Rattle.sink.proofs.Sent.{loop_more, loop_stop, loop_done, sends_other, sends_from}
use Rattle.graph_file.proofs.writing.send_sources.Goals as goal

pub returns-in_err-send_source : goal.returns-in_err-send_source
returns-in_err-send_source g c =
    let p = err_from_is_err_and c.from_residual.result c.from_residual.ensures.1 in
    let l = c.loop-source in
    rw p.1 (loop_stop source_text c.args.sources.now l.source-index _ p.0 _ _ _ c.loop-source-test.true l.invariant
    (sends_other c.in_err-send_source.field-0.0 p.0 _ _ _ c.in_err-send_source.ensures))

pub loop-source-preserved : goal.loop-source-preserved
loop-source-preserved g c =
    let l = c.loop-source in
    loop_more source_text c.args.sources.now l.source-index _ _ _ _ c.loop-source-test.true l.invariant
    (sends_from _ _ _ _ c.in_ok-send_source.was c.send_source.ensures)

pub returns : goal.returns
returns g c =
    let l = c.loop-source in
    loop_done source_text c.args.sources.now l.source-index _ tt _ _ refl c.loop-source-test.false l.invariant
