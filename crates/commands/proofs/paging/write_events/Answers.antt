use Rattle.std.proofs.Common.{◌*◌, ◌∙◌, ap, drop}
use Rattle.semantics.specs.Machine.{Events}
use Rattle.semantics.specs.Report.{Report}
use Rattle.html_text.specs.DataText.{data_text}
use Rattle.sink.proofs.Sent.{sends_same}
use Rattle.commands.proofs.paging.write_events.Goals as goal

pub returns : goal.returns
returns g c =
    let run = c.args.run.now in
    let o = c.args.options.now in
    let e = ap (λ (es : Events). data_text o.elements (o.elements * o.frames) run.first es run.books)
    (c.events_from.ensures ∙ ap (drop run.first) (c.deref.ensures.value ∙ ap (λ (r : Report). r.events) c.report.view_is)) in
    sends_same c.write_data.result (g.W.Write.contents c.args.writer.now) (g.W.Write.contents c.write_data.new.writer) _ _ e c.write_data.ensures
