use Rattle.std.specs.Prelude.{codes}
use Rattle.std.proofs.Common.{◌++◌, ℕ, List, Option, Err}
use Rattle.std.proofs.lemmas.Result.{err_from_is_err_and}
use Rattle.sink.proofs.Sent.{appends_then, sends_from, sends_more, sends_less, sends_other}
use Rattle.profile_text.specs.Picture.{bars_text}
use Rattle.profile_text.proofs.picture.send_field.Goals as goal

pub returns-in_err-send_ground : goal.returns-in_err-send_ground
returns-in_err-send_ground g c =
    let p = err_from_is_err_and c.from_residual.result c.from_residual.ensures.1 in
    let t1 : List ℕ = codes "<g transform=\"translate(70 340) scale(1 -1)\" fill=\"steelblue\">\n" in
    let t2 : List ℕ = bars_text c.args.counts.now in
    let t3 : List ℕ = codes "</g>\n</svg>\n" in
    let w0 : Option (List ℕ) = g.W.Write.contents c.args.writer.now in
    let w1 : Option (List ℕ) = g.W.Write.contents c.send_ground.new.writer in
    rw p.1 (sends_less p.0 w0 w1 (t1 ++ t2) t3
    (sends_less p.0 w0 w1 t1 t2 (sends_other c.in_err-send_ground.field-0.0 p.0 w0 w1 t1 c.in_err-send_ground.ensures)))

pub returns-in_err-send_bars : goal.returns-in_err-send_bars
returns-in_err-send_bars g c =
    let p = err_from_is_err_and c.from_residual-in_err-send_bars.result c.from_residual-in_err-send_bars.ensures.1 in
    let t1 : List ℕ = codes "<g transform=\"translate(70 340) scale(1 -1)\" fill=\"steelblue\">\n" in
    let t2 : List ℕ = bars_text c.args.counts.now in
    let t3 : List ℕ = codes "</g>\n</svg>\n" in
    let w0 : Option (List ℕ) = g.W.Write.contents c.args.writer.now in
    let w1 : Option (List ℕ) = g.W.Write.contents c.send_ground.new.writer in
    let w2 : Option (List ℕ) = g.W.Write.contents c.send_bars.new.writer in
    rw p.1 (sends_less p.0 w0 w2 (t1 ++ t2) t3 (sends_more (Err p.0) w0 w1 w2 t1 t2 (sends_from c.send_ground.result w0 w1 t1 c.in_ok-send_ground.was
    c.send_ground.ensures) (sends_other c.in_err-send_bars.field-0.0 p.0 w1 w2 t2 c.in_err-send_bars.ensures)))

pub returns : goal.returns
returns g c =
    let t1 : List ℕ = codes "<g transform=\"translate(70 340) scale(1 -1)\" fill=\"steelblue\">\n" in
    let t2 : List ℕ = bars_text c.args.counts.now in
    let t3 : List ℕ = codes "</g>\n</svg>\n" in
    let w0 : Option (List ℕ) = g.W.Write.contents c.args.writer.now in
    let w1 : Option (List ℕ) = g.W.Write.contents c.send_ground.new.writer in
    let w2 : Option (List ℕ) = g.W.Write.contents c.send_bars.new.writer in
    let w3 : Option (List ℕ) = g.W.Write.contents c.send.new.writer in
    sends_more c.send.result w0 w2 w3 (t1 ++ t2) t3
    (appends_then w0 w1 w2 t1 t2 (sends_from c.send_ground.result w0 w1 t1 c.in_ok-send_ground.was c.send_ground.ensures)
    (sends_from c.send_bars.result w1 w2 t2 c.in_ok-send_bars.was c.send_bars.ensures)) c.send.ensures
