use Rattle.std.proofs.Common.{◌++◌, ℕ, List, Option, ◌*◌, drop}
use Rattle.html_text.specs.DataText.{data_text}
use Rattle.html_text.specs.PageText.{part_text}
use Rattle.html_text.specs.declared.page.Part.TheVariants.{ToData}
use Rattle.std.proofs.lemmas.Result.{err_from_is_err_and}
use Rattle.sink.proofs.Sent.{sends_from, sends_more, sends_less, sends_other}
use Rattle.commands.proofs.paging.write_run.Goals as goal

pub returns-in_err-write_part : goal.returns-in_err-write_part
returns-in_err-write_part g c =
    let p = err_from_is_err_and c.from_residual.result c.from_residual.ensures.1 in
    let run = c.args.run.now in
    let o = c.args.options.now in
    let t1 : List ℕ = part_text ToData in
    let t2 : List ℕ = data_text o.elements (o.elements * o.frames) run.first (drop run.first run.report.events) run.books ++ c.args.pane.now in
    let w0 : Option (List ℕ) = g.W.Write.contents c.args.writer.now in
    let w1 : Option (List ℕ) = g.W.Write.contents c.write_part.new.writer in
    rw p.1 (sends_less p.0 w0 w1 t1 t2 (sends_other c.in_err-write_part.field-0.0 p.0 w0 w1 t1 c.in_err-write_part.ensures))

pub returns : goal.returns
returns g c =
    let run = c.args.run.now in
    let o = c.args.options.now in
    let t1 : List ℕ = part_text ToData in
    let t2 : List ℕ = data_text o.elements (o.elements * o.frames) run.first (drop run.first run.report.events) run.books ++ c.args.pane.now in
    let w0 : Option (List ℕ) = g.W.Write.contents c.args.writer.now in
    let w1 : Option (List ℕ) = g.W.Write.contents c.write_part.new.writer in
    let w2 : Option (List ℕ) = g.W.Write.contents c.write_shown.new.writer in
    sends_more c.write_shown.result w0 w1 w2 t1 t2 (sends_from c.write_part.result w0 w1 t1 c.in_ok-write_part.was c.write_part.ensures) c.write_shown.ensures
