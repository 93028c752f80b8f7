use Rattle.std.proofs.Common.{◌++◌, ℕ, List, Option, Err}
use Rattle.std.specs.Prelude.{codes}
use Rattle.std.proofs.lemmas.Result.{err_from_is_err_and}
use Rattle.trace_text.specs.TraceText.{lanes_text, paired, event_objects}
use Rattle.sink.proofs.Sent.{appends_then, sends_from, sends_more, sends_less, sends_other}
use Rattle.trace_text.proofs.chrome.write_chrome.Goals as goal

pub returns-in_err-send : goal.returns-in_err-send
returns-in_err-send g c =
    let p = err_from_is_err_and c.from_residual.result c.from_residual.ensures.1 in
    let t1 : List ℕ = codes "{\"traceEvents\":[\n" in
    let t2 : List ℕ = lanes_text 0 c.args.elements in
    let t3 : List ℕ = paired (event_objects c.args.object.now.code.program) c.args.first c.args.events.now c.args.moments.now in
    let t4 : List ℕ = codes "{\"ph\":\"M\",\"pid\":0,\"name\":\"process_name\",\"args\":{\"name\":\"ets\"}}\n]}\n" in
    let w0 : Option (List ℕ) = g.W.Write.contents c.args.writer.now in
    let w1 : Option (List ℕ) = g.W.Write.contents c.send.new.writer in
    rw p.1 (sends_less p.0 w0 w1 ((t1 ++ t2) ++ t3) t4
    (sends_less p.0 w0 w1 (t1 ++ t2) t3 (sends_less p.0 w0 w1 t1 t2 (sends_other c.in_err-send.field-0.0 p.0 w0 w1 t1 c.in_err-send.ensures))))

pub returns-in_err-send_lanes : goal.returns-in_err-send_lanes
returns-in_err-send_lanes g c =
    let p = err_from_is_err_and c.from_residual-in_err-send_lanes.result c.from_residual-in_err-send_lanes.ensures.1 in
    let t1 : List ℕ = codes "{\"traceEvents\":[\n" in
    let t2 : List ℕ = lanes_text 0 c.args.elements in
    let t3 : List ℕ = paired (event_objects c.args.object.now.code.program) c.args.first c.args.events.now c.args.moments.now in
    let t4 : List ℕ = codes "{\"ph\":\"M\",\"pid\":0,\"name\":\"process_name\",\"args\":{\"name\":\"ets\"}}\n]}\n" in
    let w0 : Option (List ℕ) = g.W.Write.contents c.args.writer.now in
    let w1 : Option (List ℕ) = g.W.Write.contents c.send.new.writer in
    let w2 : Option (List ℕ) = g.W.Write.contents c.send_lanes.new.writer in
    rw p.1 (sends_less p.0 w0 w2 ((t1 ++ t2) ++ t3) t4
    (sends_less p.0 w0 w2 (t1 ++ t2) t3 (sends_more (Err p.0) w0 w1 w2 t1 t2 (sends_from c.send.result w0 w1 t1 c.in_ok-send.was c.send.ensures)
    (sends_other c.in_err-send_lanes.field-0.0 p.0 w1 w2 t2 c.in_err-send_lanes.ensures))))

pub returns-in_err-send_events : goal.returns-in_err-send_events
returns-in_err-send_events g c =
    let p = err_from_is_err_and c.from_residual-in_err-send_events.result c.from_residual-in_err-send_events.ensures.1 in
    let t1 : List ℕ = codes "{\"traceEvents\":[\n" in
    let t2 : List ℕ = lanes_text 0 c.args.elements in
    let t3 : List ℕ = paired (event_objects c.args.object.now.code.program) c.args.first c.args.events.now c.args.moments.now in
    let t4 : List ℕ = codes "{\"ph\":\"M\",\"pid\":0,\"name\":\"process_name\",\"args\":{\"name\":\"ets\"}}\n]}\n" in
    let w0 : Option (List ℕ) = g.W.Write.contents c.args.writer.now in
    let w1 : Option (List ℕ) = g.W.Write.contents c.send.new.writer in
    let w2 : Option (List ℕ) = g.W.Write.contents c.send_lanes.new.writer in
    let w3 : Option (List ℕ) = g.W.Write.contents c.send_events.new.writer in
    rw p.1 (sends_less p.0 w0 w3 ((t1 ++ t2) ++ t3) t4
    (sends_more (Err p.0) w0 w2 w3 (t1 ++ t2) t3 (appends_then w0 w1 w2 t1 t2 (sends_from c.send.result w0 w1 t1 c.in_ok-send.was c.send.ensures)
    (sends_from c.send_lanes.result w1 w2 t2 c.in_ok-send_lanes.was c.send_lanes.ensures)) (sends_other c.in_err-send_events.field-0.0 p.0 w2 w3
    t3 c.in_err-send_events.ensures)))

pub returns : goal.returns
returns g c =
    let t1 : List ℕ = codes "{\"traceEvents\":[\n" in
    let t2 : List ℕ = lanes_text 0 c.args.elements in
    let t3 : List ℕ = paired (event_objects c.args.object.now.code.program) c.args.first c.args.events.now c.args.moments.now in
    let t4 : List ℕ = codes "{\"ph\":\"M\",\"pid\":0,\"name\":\"process_name\",\"args\":{\"name\":\"ets\"}}\n]}\n" in
    let w0 : Option (List ℕ) = g.W.Write.contents c.args.writer.now in
    let w1 : Option (List ℕ) = g.W.Write.contents c.send.new.writer in
    let w2 : Option (List ℕ) = g.W.Write.contents c.send_lanes.new.writer in
    let w3 : Option (List ℕ) = g.W.Write.contents c.send_events.new.writer in
    let w4 : Option (List ℕ) = g.W.Write.contents c.send-2.new.writer in
    sends_more c.send-2.result w0 w3 w4 ((t1 ++ t2) ++ t3) t4
    (appends_then w0 w2 w3 (t1 ++ t2) t3 (appends_then w0 w1 w2 t1 t2 (sends_from c.send.result w0 w1 t1 c.in_ok-send.was c.send.ensures)
    (sends_from c.send_lanes.result w1 w2 t2 c.in_ok-send_lanes.was c.send_lanes.ensures))
    (sends_from c.send_events.result w2 w3 t3 c.in_ok-send_events.was c.send_events.ensures)) c.send-2.ensures
