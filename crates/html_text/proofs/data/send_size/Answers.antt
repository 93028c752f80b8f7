use Rattle.std.proofs.Common.{◌++◌, ℕ, List, Option, Err}
use Rattle.std.specs.Prelude.{codes}
use Rattle.html_text.specs.DataText.{number_text}
use Rattle.std.proofs.lemmas.Result.{err_from_is_err_and}
use Rattle.sink.proofs.Sent.{appends_then, sends_from, sends_more, sends_less, sends_other}
use Rattle.html_text.proofs.data.send_size.Goals as goal

pub returns-in_err-send_number : goal.returns-in_err-send_number
returns-in_err-send_number g c =
    let p = err_from_is_err_and c.from_residual.result c.from_residual.ensures.1 in
    let t1 : List ℕ = number_text (codes "{\"format\":2,\"elements\":") c.args.elements in
    let t2 : List ℕ = number_text (codes ",\"frames\":") c.args.frames in
    let t3 : List ℕ = number_text (codes ",\"first\":") c.args.first in
    let w0 : Option (List ℕ) = g.W.Write.contents c.args.writer.now in
    let w1 : Option (List ℕ) = g.W.Write.contents c.send_number.new.writer in
    rw p.1 (sends_less p.0 w0 w1 (t1 ++ t2) t3 (sends_less p.0 w0 w1 t1 t2
    (sends_other c.in_err-send_number.field-0.0 p.0 w0 w1 t1 c.in_err-send_number.ensures)))

pub returns-in_err-send_number-2 : goal.returns-in_err-send_number-2
returns-in_err-send_number-2 g c =
    let p = err_from_is_err_and c.from_residual-in_err-send_number-2.result c.from_residual-in_err-send_number-2.ensures.1 in
    let t1 : List ℕ = number_text (codes "{\"format\":2,\"elements\":") c.args.elements in
    let t2 : List ℕ = number_text (codes ",\"frames\":") c.args.frames in
    let t3 : List ℕ = number_text (codes ",\"first\":") c.args.first in
    let w0 : Option (List ℕ) = g.W.Write.contents c.args.writer.now in
    let w1 : Option (List ℕ) = g.W.Write.contents c.send_number.new.writer in
    let w2 : Option (List ℕ) = g.W.Write.contents c.send_number-2.new.writer in
    rw p.1 (sends_less p.0 w0 w2 (t1 ++ t2) t3 (sends_more (Err p.0) w0 w1 w2 t1 t2
    (sends_from c.send_number.result w0 w1 t1 c.in_ok-send_number.was c.send_number.ensures)
    (sends_other c.in_err-send_number-2.field-0.0 p.0 w1 w2 t2 c.in_err-send_number-2.ensures)))

pub returns : goal.returns
returns g c =
    let t1 : List ℕ = number_text (codes "{\"format\":2,\"elements\":") c.args.elements in
    let t2 : List ℕ = number_text (codes ",\"frames\":") c.args.frames in
    let t3 : List ℕ = number_text (codes ",\"first\":") c.args.first in
    let w0 : Option (List ℕ) = g.W.Write.contents c.args.writer.now in
    let w1 : Option (List ℕ) = g.W.Write.contents c.send_number.new.writer in
    let w2 : Option (List ℕ) = g.W.Write.contents c.send_number-2.new.writer in
    let w3 : Option (List ℕ) = g.W.Write.contents c.send_long.new.writer in
    sends_more c.send_long.result w0 w2 w3 (t1 ++ t2) t3
    (appends_then w0 w1 w2 t1 t2
    (sends_from c.send_number.result w0 w1 t1 c.in_ok-send_number.was c.send_number.ensures)
    (sends_from c.send_number-2.result w1 w2 t2 c.in_ok-send_number-2.was c.send_number-2.ensures))
    c.send_long.ensures
