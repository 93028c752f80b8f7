use Rattle.std.proofs.Common.{◌+◌, ℕ, List, Option, Err, ap}
use Rattle.std.proofs.lemmas.Result.{err_from_is_err_and}
use Rattle.html_text.specs.DataText.{line_lead, deed_letter, number_text, beyond_text}
use Rattle.sink.proofs.Sent.{sends_from, sends_more, sends_less, sends_other, sends_same}
use Rattle.html_text.proofs.data.send_head.Goals as goal

pub returns-in_err-send_number : goal.returns-in_err-send_number
returns-in_err-send_number g c =
    let p = err_from_is_err_and c.from_residual.result c.from_residual.ensures.1 in
    let t1 : List ℕ = number_text (line_lead c.args.place) c.args.element in
    let t2 : List ℕ = beyond_text (deed_letter c.args.deed) c.args.number (c.args.first + c.args.place) in
    let w0 : Option (List ℕ) = g.W.Write.contents c.args.writer.now in
    let w1 : Option (List ℕ) = g.W.Write.contents c.send_number.new.writer in
    rw p.1 (sends_less p.0 w0 w1 t1 t2 (sends_other c.in_err-send_number.field-0.0 p.0 w0 w1 t1 (sends_same (Err c.in_err-send_number.field-0.0) w0 w1 _ t1 (ap (λ (l : List ℕ). number_text l c.args.element) c.line_lead.ensures) c.in_err-send_number.ensures)))

pub returns : goal.returns
returns g c =
    let t1 : List ℕ = number_text (line_lead c.args.place) c.args.element in
    let t2 : List ℕ = beyond_text (deed_letter c.args.deed) c.args.number (c.args.first + c.args.place) in
    let w0 : Option (List ℕ) = g.W.Write.contents c.args.writer.now in
    let w1 : Option (List ℕ) = g.W.Write.contents c.send_number.new.writer in
    let w2 : Option (List ℕ) = g.W.Write.contents c.send_beyond.new.writer in
    sends_more c.send_beyond.result w0 w1 w2 t1 t2
    (sends_from c.send_number.result w0 w1 t1 c.in_ok-send_number.was (sends_same c.send_number.result w0 w1 _ t1 (ap (λ (l : List ℕ). number_text l c.args.element) c.line_lead.ensures) c.send_number.ensures))
    (sends_same c.send_beyond.result w1 w2 _ t2 (ap (λ (l : List ℕ). beyond_text l c.args.number (c.args.first + c.args.place)) c.deed_letter.ensures) c.send_beyond.ensures)
