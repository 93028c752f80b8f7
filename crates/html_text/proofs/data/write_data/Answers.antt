use Rattle.std.proofs.Common.{◌++◌, ℕ, List, Option, Err, ◌∙◌, ap}
use Rattle.std.specs.Prelude.{codes}
use Rattle.replay.specs.Views.{BooksView, EntryView}
use Rattle.html_text.specs.DataText.{size_text, before_text, start_text, event_text}
use Rattle.trace_text.specs.TraceText.{paired}
use Rattle.std.proofs.lemmas.Result.{err_from_is_err_and}
use Rattle.sink.proofs.Sent.{appends_then, sends_from, sends_more, sends_less, sends_other, sends_same}
use Rattle.html_text.proofs.data.write_data.Goals as goal

pub returns-in_err-send_size : goal.returns-in_err-send_size
returns-in_err-send_size g c =
    let p = err_from_is_err_and c.from_residual.result c.from_residual.ensures.1 in
    let t1 : List ℕ = size_text c.args.elements c.args.frames c.args.first in
    let t2 : List ℕ = before_text c.args.books.now in
    let t3 : List ℕ = start_text c.args.books.now in
    let t4 : List ℕ = codes "\",\"events\":[" in
    let t5 : List ℕ = paired (event_text c.args.first) 0 c.args.events.now c.args.books.now.entries in
    let t6 : List ℕ = codes "\n]}" in
    let w0 : Option (List ℕ) = g.W.Write.contents c.args.writer.now in
    let w1 : Option (List ℕ) = g.W.Write.contents c.send_size.new.writer in
    rw p.1 (sends_less p.0 w0 w1 ((((t1 ++ t2) ++ t3) ++ t4) ++ t5) t6 (sends_less p.0 w0 w1 (((t1 ++ t2) ++ t3) ++ t4) t5 (sends_less p.0 w0 w1
    ((t1 ++ t2) ++ t3) t4 (sends_less p.0 w0 w1 (t1 ++ t2) t3 (sends_less p.0 w0 w1 t1 t2
    (sends_other c.in_err-send_size.field-0.0 p.0 w0 w1 t1 c.in_err-send_size.ensures))))))

pub returns-in_err-send_before : goal.returns-in_err-send_before
returns-in_err-send_before g c =
    let p = err_from_is_err_and c.from_residual-in_err-send_before.result c.from_residual-in_err-send_before.ensures.1 in
    let t1 : List ℕ = size_text c.args.elements c.args.frames c.args.first in
    let t2 : List ℕ = before_text c.args.books.now in
    let t3 : List ℕ = start_text c.args.books.now in
    let t4 : List ℕ = codes "\",\"events\":[" in
    let t5 : List ℕ = paired (event_text c.args.first) 0 c.args.events.now c.args.books.now.entries in
    let t6 : List ℕ = codes "\n]}" in
    let w0 : Option (List ℕ) = g.W.Write.contents c.args.writer.now in
    let w1 : Option (List ℕ) = g.W.Write.contents c.send_size.new.writer in
    let w2 : Option (List ℕ) = g.W.Write.contents c.send_before.new.writer in
    rw p.1 (sends_less p.0 w0 w2 ((((t1 ++ t2) ++ t3) ++ t4) ++ t5) t6 (sends_less p.0 w0 w2 (((t1 ++ t2) ++ t3) ++ t4) t5 (sends_less p.0 w0 w2
    ((t1 ++ t2) ++ t3) t4 (sends_less p.0 w0 w2 (t1 ++ t2) t3 (sends_more (Err p.0) w0 w1 w2 t1 t2
    (sends_from c.send_size.result w0 w1 t1 c.in_ok-send_size.was c.send_size.ensures)
    (sends_other c.in_err-send_before.field-0.0 p.0 w1 w2 t2 c.in_err-send_before.ensures))))))

pub returns-in_err-send_start : goal.returns-in_err-send_start
returns-in_err-send_start g c =
    let p = err_from_is_err_and c.from_residual-in_err-send_start.result c.from_residual-in_err-send_start.ensures.1 in
    let t1 : List ℕ = size_text c.args.elements c.args.frames c.args.first in
    let t2 : List ℕ = before_text c.args.books.now in
    let t3 : List ℕ = start_text c.args.books.now in
    let t4 : List ℕ = codes "\",\"events\":[" in
    let t5 : List ℕ = paired (event_text c.args.first) 0 c.args.events.now c.args.books.now.entries in
    let t6 : List ℕ = codes "\n]}" in
    let w0 : Option (List ℕ) = g.W.Write.contents c.args.writer.now in
    let w1 : Option (List ℕ) = g.W.Write.contents c.send_size.new.writer in
    let w2 : Option (List ℕ) = g.W.Write.contents c.send_before.new.writer in
    let w3 : Option (List ℕ) = g.W.Write.contents c.send_start.new.writer in
    rw p.1 (sends_less p.0 w0 w3 ((((t1 ++ t2) ++ t3) ++ t4) ++ t5) t6 (sends_less p.0 w0 w3 (((t1 ++ t2) ++ t3) ++ t4) t5 (sends_less p.0 w0 w3
    ((t1 ++ t2) ++ t3) t4 (sends_more (Err p.0) w0 w2 w3 (t1 ++ t2) t3
    (appends_then w0 w1 w2 t1 t2
    (sends_from c.send_size.result w0 w1 t1 c.in_ok-send_size.was c.send_size.ensures)
    (sends_from c.send_before.result w1 w2 t2 c.in_ok-send_before.was c.send_before.ensures))
    (sends_other c.in_err-send_start.field-0.0 p.0 w2 w3 t3 c.in_err-send_start.ensures)))))

pub returns-in_err-send : goal.returns-in_err-send
returns-in_err-send g c =
    let p = err_from_is_err_and c.from_residual-in_err-send.result c.from_residual-in_err-send.ensures.1 in
    let t1 : List ℕ = size_text c.args.elements c.args.frames c.args.first in
    let t2 : List ℕ = before_text c.args.books.now in
    let t3 : List ℕ = start_text c.args.books.now in
    let t4 : List ℕ = codes "\",\"events\":[" in
    let t5 : List ℕ = paired (event_text c.args.first) 0 c.args.events.now c.args.books.now.entries in
    let t6 : List ℕ = codes "\n]}" in
    let w0 : Option (List ℕ) = g.W.Write.contents c.args.writer.now in
    let w1 : Option (List ℕ) = g.W.Write.contents c.send_size.new.writer in
    let w2 : Option (List ℕ) = g.W.Write.contents c.send_before.new.writer in
    let w3 : Option (List ℕ) = g.W.Write.contents c.send_start.new.writer in
    let w4 : Option (List ℕ) = g.W.Write.contents c.send.new.writer in
    rw p.1 (sends_less p.0 w0 w4 ((((t1 ++ t2) ++ t3) ++ t4) ++ t5) t6 (sends_less p.0 w0 w4 (((t1 ++ t2) ++ t3) ++ t4) t5 (sends_more (Err p.0) w0 w3 w4
    ((t1 ++ t2) ++ t3) t4
    (appends_then w0 w2 w3 (t1 ++ t2) t3
    (appends_then w0 w1 w2 t1 t2
    (sends_from c.send_size.result w0 w1 t1 c.in_ok-send_size.was c.send_size.ensures)
    (sends_from c.send_before.result w1 w2 t2 c.in_ok-send_before.was c.send_before.ensures))
    (sends_from c.send_start.result w2 w3 t3 c.in_ok-send_start.was c.send_start.ensures))
    (sends_other c.in_err-send.field-0.0 p.0 w3 w4 t4 c.in_err-send.ensures))))

pub returns-in_err-send_events : goal.returns-in_err-send_events
returns-in_err-send_events g c =
    let p = err_from_is_err_and c.from_residual-in_err-send_events.result c.from_residual-in_err-send_events.ensures.1 in
    let t1 : List ℕ = size_text c.args.elements c.args.frames c.args.first in
    let t2 : List ℕ = before_text c.args.books.now in
    let t3 : List ℕ = start_text c.args.books.now in
    let t4 : List ℕ = codes "\",\"events\":[" in
    let t5 : List ℕ = paired (event_text c.args.first) 0 c.args.events.now c.args.books.now.entries in
    let t6 : List ℕ = codes "\n]}" in
    let w0 : Option (List ℕ) = g.W.Write.contents c.args.writer.now in
    let w1 : Option (List ℕ) = g.W.Write.contents c.send_size.new.writer in
    let w2 : Option (List ℕ) = g.W.Write.contents c.send_before.new.writer in
    let w3 : Option (List ℕ) = g.W.Write.contents c.send_start.new.writer in
    let w4 : Option (List ℕ) = g.W.Write.contents c.send.new.writer in
    let w5 : Option (List ℕ) = g.W.Write.contents c.send_events.new.writer in
    let e5 = ap (λ (xs : List EntryView). paired (event_text c.args.first) 0 c.args.events.now xs) (c.deref.ensures.value ∙ ap (λ
    (b : BooksView). b.entries) c.books.view_is) in
    rw p.1 (sends_less p.0 w0 w5 ((((t1 ++ t2) ++ t3) ++ t4) ++ t5) t6 (sends_more (Err p.0) w0 w4 w5 (((t1 ++ t2) ++ t3) ++ t4) t5
    (appends_then w0 w3 w4 ((t1 ++ t2) ++ t3) t4
    (appends_then w0 w2 w3 (t1 ++ t2) t3
    (appends_then w0 w1 w2 t1 t2
    (sends_from c.send_size.result w0 w1 t1 c.in_ok-send_size.was c.send_size.ensures)
    (sends_from c.send_before.result w1 w2 t2 c.in_ok-send_before.was c.send_before.ensures))
    (sends_from c.send_start.result w2 w3 t3 c.in_ok-send_start.was c.send_start.ensures))
    (sends_from c.send.result w3 w4 t4 c.in_ok-send.was c.send.ensures))
    (sends_other c.in_err-send_events.field-0.0 p.0 w4 w5 t5 (sends_same (Err c.in_err-send_events.field-0.0) w4 w5 _ t5 e5 c.in_err-send_events.ensures))))

pub returns : goal.returns
returns g c =
    let t1 : List ℕ = size_text c.args.elements c.args.frames c.args.first in
    let t2 : List ℕ = before_text c.args.books.now in
    let t3 : List ℕ = start_text c.args.books.now in
    let t4 : List ℕ = codes "\",\"events\":[" in
    let t5 : List ℕ = paired (event_text c.args.first) 0 c.args.events.now c.args.books.now.entries in
    let t6 : List ℕ = codes "\n]}" in
    let w0 : Option (List ℕ) = g.W.Write.contents c.args.writer.now in
    let w1 : Option (List ℕ) = g.W.Write.contents c.send_size.new.writer in
    let w2 : Option (List ℕ) = g.W.Write.contents c.send_before.new.writer in
    let w3 : Option (List ℕ) = g.W.Write.contents c.send_start.new.writer in
    let w4 : Option (List ℕ) = g.W.Write.contents c.send.new.writer in
    let w5 : Option (List ℕ) = g.W.Write.contents c.send_events.new.writer in
    let w6 : Option (List ℕ) = g.W.Write.contents c.send-2.new.writer in
    let e5 = ap (λ (xs : List EntryView). paired (event_text c.args.first) 0 c.args.events.now xs) (c.deref.ensures.value ∙ ap (λ
    (b : BooksView). b.entries) c.books.view_is) in
    sends_more c.send-2.result w0 w5 w6 ((((t1 ++ t2) ++ t3) ++ t4) ++ t5) t6
    (appends_then w0 w4 w5 (((t1 ++ t2) ++ t3) ++ t4) t5
    (appends_then w0 w3 w4 ((t1 ++ t2) ++ t3) t4
    (appends_then w0 w2 w3 (t1 ++ t2) t3
    (appends_then w0 w1 w2 t1 t2
    (sends_from c.send_size.result w0 w1 t1 c.in_ok-send_size.was c.send_size.ensures)
    (sends_from c.send_before.result w1 w2 t2 c.in_ok-send_before.was c.send_before.ensures))
    (sends_from c.send_start.result w2 w3 t3 c.in_ok-send_start.was c.send_start.ensures))
    (sends_from c.send.result w3 w4 t4 c.in_ok-send.was c.send.ensures))
    (sends_from c.send_events.result w4 w5 t5 c.in_ok-send_events.was (sends_same c.send_events.result w4 w5 _ t5 e5 c.send_events.ensures)))
    c.send-2.ensures
