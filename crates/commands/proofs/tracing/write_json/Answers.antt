use Rattle.std.proofs.Common.{◌∙◌, List, ap, drop}
use Rattle.semantics.specs.Machine.{Events}
use Rattle.semantics.specs.Report.{Report}
use Rattle.object_view.specs.Reading.{Opened, opened}
use Rattle.replay.specs.declared.moment.Moment.{Moment}
use Rattle.trace_text.specs.TraceText.{chrome_text}
use Rattle.sink.proofs.Sent.{sends_same}
use Rattle.commands.proofs.tracing.write_json.Goals as goal

pub returns : goal.returns
returns g c =
    let run = c.args.run.now in
    let first = c.args.first in
    let elements = c.args.elements in
    let events = drop first run.watched.report.events in
    let d1 = ap (λ (o : Opened). chrome_text o.code.program elements first c.events_from-events.result.now c.moments_from-moments.result.now)
    (c.bytes-bytes.ensures.opened ∙ ap opened c.bytes-bytes.ensures.same ∙ ap (λ (o : Opened). opened o.bytes) c.as_object-object.ensures) in
    let d2 = ap (λ (es : Events). chrome_text (opened run.compiled.object.bytes).code.program elements first es c.moments_from-moments.result.now)
    (c.events_from-events.ensures ∙ ap (drop first) (c.deref.ensures.value ∙ ap (λ (r : Report). r.events) c.report.view_is)) in
    let d3 = ap (λ (ms : List Moment). chrome_text (opened run.compiled.object.bytes).code.program elements first events ms)
    (c.moments_from-moments.ensures ∙ ap (drop first) c.deref-2.ensures.value) in
    sends_same c.write_chrome.result _ _ _ _ (d1 ∙ d2 ∙ d3) c.write_chrome.ensures
