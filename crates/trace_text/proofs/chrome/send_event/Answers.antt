use Rattle.std.proofs.Common.{ℕ, List, Option}
use Rattle.std.proofs.lemmas.Result.{err_from_is_err_and}
use Rattle.trace_text.specs.TraceText.{slice_text, counter_text}
use Rattle.sink.proofs.Sent.{sends_from, sends_more, sends_less, sends_other}
use Rattle.trace_text.proofs.chrome.send_event.Goals as goal

pub returns-in_err-send_slice : goal.returns-in_err-send_slice
returns-in_err-send_slice g c =
    let p = err_from_is_err_and c.from_residual.result c.from_residual.ensures.1 in
    let t1 : List ℕ = slice_text c.args.object.now.code.program c.args.number c.args.event.now c.args.moment.now.deed in
    let t2 : List ℕ = counter_text c.args.number c.args.moment.now in
    let w0 : Option (List ℕ) = g.W.Write.contents c.args.writer.now in
    let w1 : Option (List ℕ) = g.W.Write.contents c.send_slice.new.writer in
    rw p.1 (sends_less p.0 w0 w1 t1 t2 (sends_other c.in_err-send_slice.field-0.0 p.0 w0 w1 t1 c.in_err-send_slice.ensures))

pub returns : goal.returns
returns g c =
    let t1 : List ℕ = slice_text c.args.object.now.code.program c.args.number c.args.event.now c.args.moment.now.deed in
    let t2 : List ℕ = counter_text c.args.number c.args.moment.now in
    let w0 : Option (List ℕ) = g.W.Write.contents c.args.writer.now in
    let w1 : Option (List ℕ) = g.W.Write.contents c.send_slice.new.writer in
    let w2 : Option (List ℕ) = g.W.Write.contents c.send_counter.new.writer in
    sends_more c.send_counter.result w0 w1 w2 t1 t2 (sends_from c.send_slice.result w0 w1 t1 c.in_ok-send_slice.was c.send_slice.ensures) c.send_counter.ensures
