use Rattle.std.proofs.Common.{◌++◌, ℕ, List, Option, Err}
use Rattle.std.specs.Prelude.{codes}
use Rattle.std.proofs.lemmas.Result.{err_from_is_err_and}
use Rattle.trace_text.specs.TraceText.{frame_text, at_text, doing_text}
use Rattle.sink.proofs.Sent.{appends_then, sends_from, sends_more, sends_less, sends_other}
use Rattle.trace_text.proofs.lines.send_place.Goals as goal

pub returns-in_err-send_frame : goal.returns-in_err-send_frame
returns-in_err-send_frame g c =
    let p = err_from_is_err_and c.from_residual.result c.from_residual.ensures.1 in
    let t1 : List ℕ = codes " " ++ frame_text c.args.to.now in
    let t2 : List ℕ = codes " " ++ at_text c.args.object.now.code.program c.args.to.now in
    let t3 : List ℕ = doing_text c.args.object.now.code.program c.args.to.now c.args.deed in
    let w0 : Option (List ℕ) = g.W.Write.contents c.args.writer.now in
    let w1 : Option (List ℕ) = g.W.Write.contents c.send_frame.new.writer in
    rw p.1 (sends_less p.0 w0 w1 (t1 ++ t2) t3
    (sends_less p.0 w0 w1 t1 t2 (sends_other c.in_err-send_frame.field-0.0 p.0 w0 w1 t1 c.in_err-send_frame.ensures)))

pub returns-in_err-send_at : goal.returns-in_err-send_at
returns-in_err-send_at g c =
    let p = err_from_is_err_and c.from_residual-in_err-send_at.result c.from_residual-in_err-send_at.ensures.1 in
    let t1 : List ℕ = codes " " ++ frame_text c.args.to.now in
    let t2 : List ℕ = codes " " ++ at_text c.args.object.now.code.program c.args.to.now in
    let t3 : List ℕ = doing_text c.args.object.now.code.program c.args.to.now c.args.deed in
    let w0 : Option (List ℕ) = g.W.Write.contents c.args.writer.now in
    let w1 : Option (List ℕ) = g.W.Write.contents c.send_frame.new.writer in
    let w2 : Option (List ℕ) = g.W.Write.contents c.send_at.new.writer in
    rw p.1 (sends_less p.0 w0 w2 (t1 ++ t2) t3 (sends_more (Err p.0) w0 w1 w2 t1 t2 (sends_from c.send_frame.result w0 w1 t1 c.in_ok-send_frame.was
    c.send_frame.ensures) (sends_other c.in_err-send_at.field-0.0 p.0 w1 w2 t2 c.in_err-send_at.ensures)))

pub returns : goal.returns
returns g c =
    let t1 : List ℕ = codes " " ++ frame_text c.args.to.now in
    let t2 : List ℕ = codes " " ++ at_text c.args.object.now.code.program c.args.to.now in
    let t3 : List ℕ = doing_text c.args.object.now.code.program c.args.to.now c.args.deed in
    let w0 : Option (List ℕ) = g.W.Write.contents c.args.writer.now in
    let w1 : Option (List ℕ) = g.W.Write.contents c.send_frame.new.writer in
    let w2 : Option (List ℕ) = g.W.Write.contents c.send_at.new.writer in
    let w3 : Option (List ℕ) = g.W.Write.contents c.send_doing.new.writer in
    sends_more c.send_doing.result w0 w2 w3 (t1 ++ t2) t3
    (appends_then w0 w1 w2 t1 t2 (sends_from c.send_frame.result w0 w1 t1 c.in_ok-send_frame.was c.send_frame.ensures)
    (sends_from c.send_at.result w1 w2 t2 c.in_ok-send_at.was c.send_at.ensures)) c.send_doing.ensures
