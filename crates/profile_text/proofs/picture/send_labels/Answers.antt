use Rattle.std.specs.Prelude.{codes}
use Rattle.std.proofs.Common.{◌++◌, ℕ, List, [], Option, Err}
use Rattle.std.proofs.lemmas.Result.{err_from_is_err_and}
use Rattle.sink.proofs.Sent.{appends_then, sends_from, sends_more, sends_less, sends_other}
use Rattle.profile_text.specs.Picture.{label_text}
use Rattle.profile_text.proofs.picture.send_labels.Goals as goal

pub returns-in_err-send_top : goal.returns-in_err-send_top
returns-in_err-send_top g c =
    let p = err_from_is_err_and c.from_residual.result c.from_residual.ensures.1 in
    let t1 : List ℕ = label_text (codes "x=\"62\" y=\"45\" text-anchor=\"end\"") c.args.top [] in
    let t2 : List ℕ = label_text (codes "x=\"870\" y=\"360\" text-anchor=\"end\"") c.args.span [] in
    let t3 : List ℕ = label_text (codes "x=\"470\" y=\"385\" text-anchor=\"middle\"") c.args.size (codes " wave(s) a bar") in
    let w0 : Option (List ℕ) = g.W.Write.contents c.args.writer.now in
    let w1 : Option (List ℕ) = g.W.Write.contents c.send_top.new.writer in
    rw p.1 (sends_less p.0 w0 w1 (t1 ++ t2) t3 (sends_less p.0 w0 w1 t1 t2 (sends_other c.in_err-send_top.field-0.0 p.0 w0 w1 t1 c.in_err-send_top.ensures)))

pub returns-in_err-send_last : goal.returns-in_err-send_last
returns-in_err-send_last g c =
    let p = err_from_is_err_and c.from_residual-in_err-send_last.result c.from_residual-in_err-send_last.ensures.1 in
    let t1 : List ℕ = label_text (codes "x=\"62\" y=\"45\" text-anchor=\"end\"") c.args.top [] in
    let t2 : List ℕ = label_text (codes "x=\"870\" y=\"360\" text-anchor=\"end\"") c.args.span [] in
    let t3 : List ℕ = label_text (codes "x=\"470\" y=\"385\" text-anchor=\"middle\"") c.args.size (codes " wave(s) a bar") in
    let w0 : Option (List ℕ) = g.W.Write.contents c.args.writer.now in
    let w1 : Option (List ℕ) = g.W.Write.contents c.send_top.new.writer in
    let w2 : Option (List ℕ) = g.W.Write.contents c.send_last.new.writer in
    rw p.1 (sends_less p.0 w0 w2 (t1 ++ t2) t3 (sends_more (Err p.0) w0 w1 w2 t1 t2 (sends_from c.send_top.result w0 w1 t1 c.in_ok-send_top.was
    c.send_top.ensures) (sends_other c.in_err-send_last.field-0.0 p.0 w1 w2 t2 c.in_err-send_last.ensures)))

pub returns : goal.returns
returns g c =
    let t1 : List ℕ = label_text (codes "x=\"62\" y=\"45\" text-anchor=\"end\"") c.args.top [] in
    let t2 : List ℕ = label_text (codes "x=\"870\" y=\"360\" text-anchor=\"end\"") c.args.span [] in
    let t3 : List ℕ = label_text (codes "x=\"470\" y=\"385\" text-anchor=\"middle\"") c.args.size (codes " wave(s) a bar") in
    let w0 : Option (List ℕ) = g.W.Write.contents c.args.writer.now in
    let w1 : Option (List ℕ) = g.W.Write.contents c.send_top.new.writer in
    let w2 : Option (List ℕ) = g.W.Write.contents c.send_last.new.writer in
    let w3 : Option (List ℕ) = g.W.Write.contents c.send_size.new.writer in
    sends_more c.send_size.result w0 w2 w3 (t1 ++ t2) t3
    (appends_then w0 w1 w2 t1 t2 (sends_from c.send_top.result w0 w1 t1 c.in_ok-send_top.was c.send_top.ensures)
    (sends_from c.send_last.result w1 w2 t2 c.in_ok-send_last.was c.send_last.ensures)) c.send_size.ensures
