use Rattle.std.proofs.Common.{◌++◌, ℕ, List, Option, Err, ap}
use Rattle.html_text.specs.DataText.{number_text, semicolon}
use Rattle.html_text.specs.PaneText.{turn_mark, part_text}
use Rattle.std.proofs.lemmas.Result.{err_from_is_err_and}
use Rattle.sink.proofs.Sent.{appends_then, sends_from, sends_more, sends_less, sends_other, sends_same}
use Rattle.html_text.proofs.pane.send_owner.Goals as goal

pub returns-in_err-send_number : goal.returns-in_err-send_number
returns-in_err-send_number g c =
    let p = err_from_is_err_and c.from_residual.result c.from_residual.ensures.1 in
    let t1 : List ℕ = number_text (semicolon c.args.place) c.args.owner.now.block in
    let t2 : List ℕ = turn_mark c.args.owner.now.turns in
    let t3 : List ℕ = part_text c.args.owner.now.part in
    let w0 : Option (List ℕ) = g.W.Write.contents c.args.writer.now in
    let w1 : Option (List ℕ) = g.W.Write.contents c.send_number.new.writer in
    let e1 = ap (λ (l : List ℕ). number_text l c.args.owner.now.block) c.semicolon.ensures in
    rw p.1 (sends_less p.0 w0 w1 (t1 ++ t2) t3 (sends_less p.0 w0 w1 t1 t2 (sends_other c.in_err-send_number.field-0.0 p.0 w0 w1 t1 (sends_same (Err c.in_err-send_number.field-0.0) w0 w1 _ t1 e1 c.in_err-send_number.ensures))))

pub returns-in_err-send : goal.returns-in_err-send
returns-in_err-send g c =
    let p = err_from_is_err_and c.from_residual-in_err-send.result c.from_residual-in_err-send.ensures.1 in
    let t1 : List ℕ = number_text (semicolon c.args.place) c.args.owner.now.block in
    let t2 : List ℕ = turn_mark c.args.owner.now.turns in
    let t3 : List ℕ = part_text c.args.owner.now.part in
    let w0 : Option (List ℕ) = g.W.Write.contents c.args.writer.now in
    let w1 : Option (List ℕ) = g.W.Write.contents c.send_number.new.writer in
    let w2 : Option (List ℕ) = g.W.Write.contents c.send.new.writer in
    let e1 = ap (λ (l : List ℕ). number_text l c.args.owner.now.block) c.semicolon.ensures in
    let e2 = c.turn_mark.ensures in
    rw p.1 (sends_less p.0 w0 w2 (t1 ++ t2) t3 (sends_more (Err p.0) w0 w1 w2 t1 t2 (sends_from c.send_number.result w0 w1 t1 c.in_ok-send_number.was (sends_same c.send_number.result w0 w1 _ t1 e1 c.send_number.ensures)) (sends_other c.in_err-send.field-0.0 p.0 w1 w2 t2 (sends_same (Err c.in_err-send.field-0.0) w1 w2 _ t2 e2 c.in_err-send.ensures))))

pub returns : goal.returns
returns g c =
    let t1 : List ℕ = number_text (semicolon c.args.place) c.args.owner.now.block in
    let t2 : List ℕ = turn_mark c.args.owner.now.turns in
    let t3 : List ℕ = part_text c.args.owner.now.part in
    let w0 : Option (List ℕ) = g.W.Write.contents c.args.writer.now in
    let w1 : Option (List ℕ) = g.W.Write.contents c.send_number.new.writer in
    let w2 : Option (List ℕ) = g.W.Write.contents c.send.new.writer in
    let w3 : Option (List ℕ) = g.W.Write.contents c.send_part.new.writer in
    let e1 = ap (λ (l : List ℕ). number_text l c.args.owner.now.block) c.semicolon.ensures in
    let e2 = c.turn_mark.ensures in
    sends_more c.send_part.result w0 w2 w3 (t1 ++ t2) t3 (appends_then w0 w1 w2 t1 t2 (sends_from c.send_number.result w0 w1 t1 c.in_ok-send_number.was (sends_same c.send_number.result w0 w1 _ t1 e1 c.send_number.ensures)) (sends_from c.send.result w1 w2 t2 c.in_ok-send.was (sends_same c.send.result w1 w2 _ t2 e2 c.send.ensures))) c.send_part.ensures
