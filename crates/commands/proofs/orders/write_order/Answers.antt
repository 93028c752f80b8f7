use Rattle.std.proofs.Common.{ℕ, List, Option}
use Rattle.std.proofs.lemmas.Result.{err_from_is_err_and}
use Rattle.report_text.specs.ReportText.{report_text}
use Rattle.sink.proofs.Sent.{sends_from, sends_more, sends_less, sends_other}
use Rattle.commands.specs.Agreed.{order_line}
use Rattle.commands.proofs.orders.write_order.Goals as goal

pub returns-in_err-write_numbered : goal.returns-in_err-write_numbered
returns-in_err-write_numbered g c =
    let p = err_from_is_err_and c.from_residual.result c.from_residual.ensures.1 in
    let t1 : List ℕ = order_line c.args.number in
    let t2 : List ℕ = report_text c.args.graph.now.arrays c.args.report.now in
    let w0 : Option (List ℕ) = g.W.Write.contents c.args.writer.now in
    let w1 : Option (List ℕ) = g.W.Write.contents c.write_numbered.new.writer in
    rw p.1 (sends_less p.0 w0 w1 t1 t2 (sends_other c.in_err-write_numbered.field-0.0 p.0 w0 w1 t1 c.in_err-write_numbered.ensures))

pub returns : goal.returns
returns g c =
    let t1 : List ℕ = order_line c.args.number in
    let t2 : List ℕ = report_text c.args.graph.now.arrays c.args.report.now in
    let w0 : Option (List ℕ) = g.W.Write.contents c.args.writer.now in
    let w1 : Option (List ℕ) = g.W.Write.contents c.write_numbered.new.writer in
    let w2 : Option (List ℕ) = g.W.Write.contents c.write_report.new.writer in
    sends_more c.write_report.result w0 w1 w2 t1 t2 (sends_from c.write_numbered.result w0 w1 t1 c.in_ok-write_numbered.was c.write_numbered.ensures)
    c.write_report.ensures
