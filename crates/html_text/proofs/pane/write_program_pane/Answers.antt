use Rattle.std.proofs.Common.{ℕ, List, Option}
use Rattle.html_text.specs.PaneText.{pane_head, program_parts}
use Rattle.std.proofs.lemmas.Result.{err_from_is_err_and}
use Rattle.sink.proofs.Sent.{sends_from, sends_more, sends_less, sends_other}
use Rattle.html_text.proofs.pane.write_program_pane.Goals as goal

pub returns-in_err-send_head : goal.returns-in_err-send_head
returns-in_err-send_head g c =
    let p = err_from_is_err_and c.from_residual.result c.from_residual.ensures.1 in
    let t1 : List ℕ = pane_head in
    let t2 : List ℕ = program_parts c.args.owners.now c.args.program.now c.args.places.now in
    let w0 : Option (List ℕ) = g.W.Write.contents c.args.writer.now in
    let w1 : Option (List ℕ) = g.W.Write.contents c.send_head.new.writer in
    rw p.1 (sends_less p.0 w0 w1 t1 t2 (sends_other c.in_err-send_head.field-0.0 p.0 w0 w1 t1 c.in_err-send_head.ensures))

pub returns : goal.returns
returns g c =
    let t1 : List ℕ = pane_head in
    let t2 : List ℕ = program_parts c.args.owners.now c.args.program.now c.args.places.now in
    let w0 : Option (List ℕ) = g.W.Write.contents c.args.writer.now in
    let w1 : Option (List ℕ) = g.W.Write.contents c.send_head.new.writer in
    let w2 : Option (List ℕ) = g.W.Write.contents c.send_program_parts.new.writer in
    sends_more c.send_program_parts.result w0 w1 w2 t1 t2 (sends_from c.send_head.result w0 w1 t1 c.in_ok-send_head.was c.send_head.ensures) c.send_program_parts.ensures
