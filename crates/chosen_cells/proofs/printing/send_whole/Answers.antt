use Rattle.std.proofs.Common.{◌++◌, ◌∷◌, [], ◌%◌, ℕ, List, Option}
use Rattle.std.specs.Prelude.{codes, decimal}
use Rattle.std.proofs.lemmas.Result.{err_from_is_err_and}
use Rattle.semantics.specs.Text.{field, line}
use Rattle.sink.proofs.Sent.{sends_from, sends_less, sends_more, sends_other}
use Rattle.chosen_cells.specs.Chosen.{closing}
use Rattle.chosen_cells.proofs.printing.send_whole.Goals as goal

pub returns-in_err-close : goal.returns-in_err-close
returns-in_err-close g c =
    let p = err_from_is_err_and c.from_residual.result c.from_residual.ensures.1 in
    let t1 : List ℕ = closing c.args.row.now in
    let t2 : List ℕ = line c.args.text.now in
    let w0 : Option (List ℕ) = g.W.Write.contents c.args.writer.now in
    let w1 : Option (List ℕ) = g.W.Write.contents c.close.new.writer in
    rw p.1 (sends_less p.0 w0 w1 t1 t2 (sends_other c.in_err-close.field-0.0 p.0 w0 w1 t1 c.in_err-close.ensures))

pub returns : goal.returns
returns g c =
    let t1 : List ℕ = closing c.args.row.now in
    let t2 : List ℕ = line c.args.text.now in
    let w0 : Option (List ℕ) = g.W.Write.contents c.args.writer.now in
    let w1 : Option (List ℕ) = g.W.Write.contents c.close.new.writer in
    let w2 : Option (List ℕ) = g.W.Write.contents c.send_text.new.writer in
    sends_more c.send_text.result w0 w1 w2 t1 t2 (sends_from c.close.result w0 w1 t1 c.in_ok-close.was c.close.ensures) c.send_text.ensures
