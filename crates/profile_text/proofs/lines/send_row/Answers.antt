use Rattle.std.proofs.Common.{ℕ, List, Option}
use Rattle.std.proofs.lemmas.Result.{err_from_is_err_and}
use Rattle.profile_text.specs.ProfileText.{taken_text, row_end}
use Rattle.sink.proofs.Sent.{sends_from, sends_more, sends_less, sends_other}
use Rattle.profile_text.proofs.lines.send_row.Goals as goal

pub returns-in_err-send_taken : goal.returns-in_err-send_taken
returns-in_err-send_taken g c =
    let p = err_from_is_err_and c.from_residual.result c.from_residual.ensures.1 in
    let t1 : List ℕ = taken_text c.args.row.now in
    let t2 : List ℕ = row_end c.args.arrays.now c.args.row.now.end in
    let w0 : Option (List ℕ) = g.W.Write.contents c.args.writer.now in
    let w1 : Option (List ℕ) = g.W.Write.contents c.send_taken.new.writer in
    rw p.1 (sends_less p.0 w0 w1 t1 t2 (sends_other c.in_err-send_taken.field-0.0 p.0 w0 w1 t1 c.in_err-send_taken.ensures))

pub returns : goal.returns
returns g c =
    let t1 : List ℕ = taken_text c.args.row.now in
    let t2 : List ℕ = row_end c.args.arrays.now c.args.row.now.end in
    let w0 : Option (List ℕ) = g.W.Write.contents c.args.writer.now in
    let w1 : Option (List ℕ) = g.W.Write.contents c.send_taken.new.writer in
    let w2 : Option (List ℕ) = g.W.Write.contents c.send_row_end.new.writer in
    sends_more c.send_row_end.result w0 w1 w2 t1 t2 (sends_from c.send_taken.result w0 w1 t1 c.in_ok-send_taken.was c.send_taken.ensures) c.send_row_end.ensures
