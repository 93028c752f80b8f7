use Rattle.std.proofs.Common.{◌∙◌, Err, ℕ, List, Option, ap, drop}
use Rattle.std.proofs.lemmas.Result.{err_from_is_err_and}
use Rattle.semantics.specs.Graph.{Graph}
use Rattle.semantics.specs.Machine.{Events}
use Rattle.semantics.specs.Report.{Report}
use Rattle.object_view.specs.Reading.{Opened, opened}
use Rattle.replay.specs.declared.moment.Moment.{Moment}
use Rattle.trace_text.specs.TraceText.{trace_text}
use Rattle.report_text.specs.ReportText.{report_text}
use Rattle.sink.proofs.Sent.{sends_from, sends_more, sends_less, sends_other, sends_same}
use Rattle.commands.proofs.tracing.write_lines.Goals as goal

pub returns-in_err-write_events : goal.returns-in_err-write_events
returns-in_err-write_events g c =
    let p = err_from_is_err_and c.from_residual.result c.from_residual.ensures.1 in
    let run = c.args.run.now in
    let first = c.args.first in
    let events = drop first run.watched.report.events in
    let t1 : List ℕ = trace_text (opened run.compiled.object.bytes).code.program first events (drop first run.watched.moments.items) in
    let t2 : List ℕ = report_text run.compiled.checked.arrays run.watched.report in
    let w0 : Option (List ℕ) = g.W.Write.contents c.args.writer.now in
    let w1 : Option (List ℕ) = g.W.Write.contents c.write_events.new.writer in
    let d1 = ap (λ (o : Opened). trace_text o.code.program first c.events_from-events.result.now c.moments_from-moments.result.now)
    (c.bytes-bytes.ensures.opened ∙ ap opened c.bytes-bytes.ensures.same ∙ ap (λ (o : Opened). opened o.bytes) c.as_object-object.ensures) in
    let d2 = ap (λ (es : Events). trace_text (opened run.compiled.object.bytes).code.program first es c.moments_from-moments.result.now)
    (c.events_from-events.ensures ∙ ap (drop first) (c.deref.ensures.value ∙ ap (λ (r : Report). r.events) c.report.view_is)) in
    let d3 = ap (λ (ms : List Moment). trace_text (opened run.compiled.object.bytes).code.program first events ms)
    (c.moments_from-moments.ensures ∙ ap (drop first) c.deref-2.ensures.value) in
    rw p.1 (sends_less p.0 w0 w1 t1 t2 (sends_other c.in_err-write_events.field-0.0 p.0 w0 w1 t1 (sends_same
    (Err c.in_err-write_events.field-0.0) w0 w1 _ t1 (d1 ∙ d2 ∙ d3) c.in_err-write_events.ensures)))

pub returns : goal.returns
returns g c =
    let run = c.args.run.now in
    let first = c.args.first in
    let events = drop first run.watched.report.events in
    let t1 : List ℕ = trace_text (opened run.compiled.object.bytes).code.program first events (drop first run.watched.moments.items) in
    let t2 : List ℕ = report_text run.compiled.checked.arrays run.watched.report in
    let w0 : Option (List ℕ) = g.W.Write.contents c.args.writer.now in
    let w1 : Option (List ℕ) = g.W.Write.contents c.write_events.new.writer in
    let w2 : Option (List ℕ) = g.W.Write.contents c.write_report.new.writer in
    let d1 = ap (λ (o : Opened). trace_text o.code.program first c.events_from-events.result.now c.moments_from-moments.result.now)
    (c.bytes-bytes.ensures.opened ∙ ap opened c.bytes-bytes.ensures.same ∙ ap (λ (o : Opened). opened o.bytes) c.as_object-object.ensures) in
    let d2 = ap (λ (es : Events). trace_text (opened run.compiled.object.bytes).code.program first es c.moments_from-moments.result.now)
    (c.events_from-events.ensures ∙ ap (drop first) (c.deref.ensures.value ∙ ap (λ (r : Report). r.events) c.report.view_is)) in
    let d3 = ap (λ (ms : List Moment). trace_text (opened run.compiled.object.bytes).code.program first events ms)
    (c.moments_from-moments.ensures ∙ ap (drop first) c.deref-2.ensures.value) in
    let e2 = ap (λ (h : Graph). report_text h.arrays run.watched.report) c.graph.ensures.same in
    sends_more c.write_report.result w0 w1 w2 t1 t2
    (sends_from c.write_events.result w0 w1 t1 c.in_ok-write_events.was (sends_same c.write_events.result w0 w1 _ t1 (d1 ∙ d2 ∙ d3) c.write_events.ensures))
    (sends_same c.write_report.result w1 w2 _ t2 e2 c.write_report.ensures)
