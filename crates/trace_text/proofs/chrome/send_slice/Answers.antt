use Rattle.std.proofs.Common.{◌++◌, ℕ, List, Option, Err}
use Rattle.std.specs.Prelude.{codes}
use Rattle.std.proofs.lemmas.Result.{err_from_is_err_and}
use Rattle.trace_text.specs.TraceText.{slice_open, slice_place, carried_text}
use Rattle.sink.proofs.Sent.{appends_then, sends_from, sends_more, sends_less, sends_other}
use Rattle.trace_text.proofs.chrome.send_slice.Goals as goal

pub returns-in_err-send_open : goal.returns-in_err-send_open
returns-in_err-send_open g c =
    let p = err_from_is_err_and c.from_residual.result c.from_residual.ensures.1 in
    let t1 : List ℕ = slice_open c.args.object.now.code.program c.args.number c.args.event.now.0 c.args.event.now.1.to in
    let t2 : List ℕ = slice_place c.args.object.now.code.program c.args.event.now.1.to c.args.deed in
    let t3 : List ℕ = codes "\",\"word\":\"" in
    let t4 : List ℕ = carried_text c.args.event.now.1.to c.args.event.now.1.word in
    let t5 : List ℕ = codes "\"}},\n" in
    let w0 : Option (List ℕ) = g.W.Write.contents c.args.writer.now in
    let w1 : Option (List ℕ) = g.W.Write.contents c.send_open.new.writer in
    rw p.1 (sends_less p.0 w0 w1 (((t1 ++ t2) ++ t3) ++ t4) t5
    (sends_less p.0 w0 w1 ((t1 ++ t2) ++ t3) t4
    (sends_less p.0 w0 w1 (t1 ++ t2) t3 (sends_less p.0 w0 w1 t1 t2 (sends_other c.in_err-send_open.field-0.0 p.0 w0 w1 t1 c.in_err-send_open.ensures)))))

pub returns-in_err-send_place : goal.returns-in_err-send_place
returns-in_err-send_place g c =
    let p = err_from_is_err_and c.from_residual-in_err-send_place.result c.from_residual-in_err-send_place.ensures.1 in
    let t1 : List ℕ = slice_open c.args.object.now.code.program c.args.number c.args.event.now.0 c.args.event.now.1.to in
    let t2 : List ℕ = slice_place c.args.object.now.code.program c.args.event.now.1.to c.args.deed in
    let t3 : List ℕ = codes "\",\"word\":\"" in
    let t4 : List ℕ = carried_text c.args.event.now.1.to c.args.event.now.1.word in
    let t5 : List ℕ = codes "\"}},\n" in
    let w0 : Option (List ℕ) = g.W.Write.contents c.args.writer.now in
    let w1 : Option (List ℕ) = g.W.Write.contents c.send_open.new.writer in
    let w2 : Option (List ℕ) = g.W.Write.contents c.send_place.new.writer in
    rw p.1 (sends_less p.0 w0 w2 (((t1 ++ t2) ++ t3) ++ t4) t5
    (sends_less p.0 w0 w2 ((t1 ++ t2) ++ t3) t4
    (sends_less p.0 w0 w2 (t1 ++ t2) t3 (sends_more (Err p.0) w0 w1 w2 t1 t2 (sends_from c.send_open.result w0 w1 t1 c.in_ok-send_open.was
    c.send_open.ensures) (sends_other c.in_err-send_place.field-0.0 p.0 w1 w2 t2 c.in_err-send_place.ensures)))))

pub returns-in_err-send : goal.returns-in_err-send
returns-in_err-send g c =
    let p = err_from_is_err_and c.from_residual-in_err-send.result c.from_residual-in_err-send.ensures.1 in
    let t1 : List ℕ = slice_open c.args.object.now.code.program c.args.number c.args.event.now.0 c.args.event.now.1.to in
    let t2 : List ℕ = slice_place c.args.object.now.code.program c.args.event.now.1.to c.args.deed in
    let t3 : List ℕ = codes "\",\"word\":\"" in
    let t4 : List ℕ = carried_text c.args.event.now.1.to c.args.event.now.1.word in
    let t5 : List ℕ = codes "\"}},\n" in
    let w0 : Option (List ℕ) = g.W.Write.contents c.args.writer.now in
    let w1 : Option (List ℕ) = g.W.Write.contents c.send_open.new.writer in
    let w2 : Option (List ℕ) = g.W.Write.contents c.send_place.new.writer in
    let w3 : Option (List ℕ) = g.W.Write.contents c.send.new.writer in
    rw p.1 (sends_less p.0 w0 w3 (((t1 ++ t2) ++ t3) ++ t4) t5
    (sends_less p.0 w0 w3 ((t1 ++ t2) ++ t3) t4
    (sends_more (Err p.0) w0 w2 w3 (t1 ++ t2) t3
    (appends_then w0 w1 w2 t1 t2 (sends_from c.send_open.result w0 w1 t1 c.in_ok-send_open.was c.send_open.ensures)
    (sends_from c.send_place.result w1 w2 t2 c.in_ok-send_place.was c.send_place.ensures)) (sends_other c.in_err-send.field-0.0 p.0 w2 w3 t3
    c.in_err-send.ensures))))

pub returns-in_err-send_carried : goal.returns-in_err-send_carried
returns-in_err-send_carried g c =
    let p = err_from_is_err_and c.from_residual-in_err-send_carried.result c.from_residual-in_err-send_carried.ensures.1 in
    let t1 : List ℕ = slice_open c.args.object.now.code.program c.args.number c.args.event.now.0 c.args.event.now.1.to in
    let t2 : List ℕ = slice_place c.args.object.now.code.program c.args.event.now.1.to c.args.deed in
    let t3 : List ℕ = codes "\",\"word\":\"" in
    let t4 : List ℕ = carried_text c.args.event.now.1.to c.args.event.now.1.word in
    let t5 : List ℕ = codes "\"}},\n" in
    let w0 : Option (List ℕ) = g.W.Write.contents c.args.writer.now in
    let w1 : Option (List ℕ) = g.W.Write.contents c.send_open.new.writer in
    let w2 : Option (List ℕ) = g.W.Write.contents c.send_place.new.writer in
    let w3 : Option (List ℕ) = g.W.Write.contents c.send.new.writer in
    let w4 : Option (List ℕ) = g.W.Write.contents c.send_carried.new.writer in
    rw p.1 (sends_less p.0 w0 w4 (((t1 ++ t2) ++ t3) ++ t4) t5 (sends_more (Err p.0) w0 w3 w4 ((t1 ++ t2) ++ t3) t4
    (appends_then w0 w2 w3 (t1 ++ t2) t3 (appends_then w0 w1 w2 t1 t2 (sends_from c.send_open.result w0 w1 t1 c.in_ok-send_open.was
    c.send_open.ensures) (sends_from c.send_place.result w1 w2 t2 c.in_ok-send_place.was c.send_place.ensures))
    (sends_from c.send.result w2 w3 t3 c.in_ok-send.was c.send.ensures)) (sends_other c.in_err-send_carried.field-0.0 p.0 w3 w4 t4
    c.in_err-send_carried.ensures)))

pub returns : goal.returns
returns g c =
    let t1 : List ℕ = slice_open c.args.object.now.code.program c.args.number c.args.event.now.0 c.args.event.now.1.to in
    let t2 : List ℕ = slice_place c.args.object.now.code.program c.args.event.now.1.to c.args.deed in
    let t3 : List ℕ = codes "\",\"word\":\"" in
    let t4 : List ℕ = carried_text c.args.event.now.1.to c.args.event.now.1.word in
    let t5 : List ℕ = codes "\"}},\n" in
    let w0 : Option (List ℕ) = g.W.Write.contents c.args.writer.now in
    let w1 : Option (List ℕ) = g.W.Write.contents c.send_open.new.writer in
    let w2 : Option (List ℕ) = g.W.Write.contents c.send_place.new.writer in
    let w3 : Option (List ℕ) = g.W.Write.contents c.send.new.writer in
    let w4 : Option (List ℕ) = g.W.Write.contents c.send_carried.new.writer in
    let w5 : Option (List ℕ) = g.W.Write.contents c.send-2.new.writer in
    sends_more c.send-2.result w0 w4 w5 (((t1 ++ t2) ++ t3) ++ t4) t5
    (appends_then w0 w3 w4 ((t1 ++ t2) ++ t3) t4
    (appends_then w0 w2 w3 (t1 ++ t2) t3 (appends_then w0 w1 w2 t1 t2 (sends_from c.send_open.result w0 w1 t1 c.in_ok-send_open.was
    c.send_open.ensures) (sends_from c.send_place.result w1 w2 t2 c.in_ok-send_place.was c.send_place.ensures))
    (sends_from c.send.result w2 w3 t3 c.in_ok-send.was c.send.ensures)) (sends_from c.send_carried.result w3 w4 t4 c.in_ok-send_carried.was
    c.send_carried.ensures)) c.send-2.ensures
