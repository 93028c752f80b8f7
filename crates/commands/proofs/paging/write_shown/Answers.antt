use Rattle.std.proofs.Common.{◌++◌, ℕ, List, Option, ◌*◌, drop}
use Rattle.html_text.specs.DataText.{data_text}
use Rattle.std.proofs.lemmas.Result.{err_from_is_err_and}
use Rattle.sink.proofs.Sent.{sends_from, sends_more, sends_less, sends_other}
use Rattle.commands.proofs.paging.write_shown.Goals as goal

pub returns-in_err-write_events : goal.returns-in_err-write_events
returns-in_err-write_events g c =
    let p = err_from_is_err_and c.from_residual.result c.from_residual.ensures.1 in
    let run = c.args.run.now in
    let o = c.args.options.now in
    let t1 : List ℕ = data_text o.elements (o.elements * o.frames) run.first (drop run.first run.report.events) run.books in
    let t2 : List ℕ = c.args.pane.now in
    let w0 : Option (List ℕ) = g.W.Write.contents c.args.writer.now in
    let w1 : Option (List ℕ) = g.W.Write.contents c.write_events.new.writer in
    rw p.1 (sends_less p.0 w0 w1 t1 t2 (sends_other c.in_err-write_events.field-0.0 p.0 w0 w1 t1 c.in_err-write_events.ensures))

pub returns : goal.returns
returns g c =
    let run = c.args.run.now in
    let o = c.args.options.now in
    let t1 : List ℕ = data_text o.elements (o.elements * o.frames) run.first (drop run.first run.report.events) run.books in
    let t2 : List ℕ = c.args.pane.now in
    let w0 : Option (List ℕ) = g.W.Write.contents c.args.writer.now in
    let w1 : Option (List ℕ) = g.W.Write.contents c.write_events.new.writer in
    let w2 : Option (List ℕ) = g.W.Write.contents c.send.new.writer in
    sends_more c.send.result w0 w1 w2 t1 t2 (sends_from c.write_events.result w0 w1 t1 c.in_ok-write_events.was c.write_events.ensures) c.send.ensures
