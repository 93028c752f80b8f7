use Rattle.std.proofs.Common.{ℕ, List, Option}
use Rattle.std.proofs.lemmas.Result.{err_from_is_err_and}
use Rattle.profile_text.specs.ProfileText.{both_lines, end_line}
use Rattle.sink.proofs.Sent.{sends_from, sends_more, sends_less, sends_other}
use Rattle.profile_text.proofs.lines.send_before_end.Goals as goal

pub returns-in_err-send_sufficient : goal.returns-in_err-send_sufficient
returns-in_err-send_sufficient g c =
    let p = err_from_is_err_and c.from_residual.result c.from_residual.ensures.1 in
    let t1 : List ℕ = both_lines c.args.sufficient.now in
    let t2 : List ℕ = end_line c.args.arrays.now c.args.end in
    let w0 : Option (List ℕ) = g.W.Write.contents c.args.writer.now in
    let w1 : Option (List ℕ) = g.W.Write.contents c.send_sufficient.new.writer in
    rw p.1 (sends_less p.0 w0 w1 t1 t2 (sends_other c.in_err-send_sufficient.field-0.0 p.0 w0 w1 t1 c.in_err-send_sufficient.ensures))

pub returns : goal.returns
returns g c =
    let t1 : List ℕ = both_lines c.args.sufficient.now in
    let t2 : List ℕ = end_line c.args.arrays.now c.args.end in
    let w0 : Option (List ℕ) = g.W.Write.contents c.args.writer.now in
    let w1 : Option (List ℕ) = g.W.Write.contents c.send_sufficient.new.writer in
    let w2 : Option (List ℕ) = g.W.Write.contents c.send_end.new.writer in
    sends_more c.send_end.result w0 w1 w2 t1 t2 (sends_from c.send_sufficient.result w0 w1 t1 c.in_ok-send_sufficient.was c.send_sufficient.ensures) c.send_end.ensures
