use Rattle.std.proofs.Common.{◌++◌, ℕ, List, Option, Err, ◌∙◌, ap}
use Rattle.std.specs.Prelude.{codes}
use Rattle.replay.specs.Views.{EntryView}
use Rattle.html_text.specs.DataText.{event_head, change_text, tokens_text}
use Rattle.std.proofs.lemmas.Result.{err_from_is_err_and}
use Rattle.sink.proofs.Sent.{appends_then, sends_from, sends_more, sends_less, sends_other, sends_same}
use Rattle.html_text.proofs.data.send_event.Goals as goal

pub returns-in_err-send_head : goal.returns-in_err-send_head
returns-in_err-send_head g c =
    let p = err_from_is_err_and c.from_residual.result c.from_residual.ensures.1 in
    let t1 : List ℕ = event_head c.args.first c.args.place c.args.event.now.0 c.args.entry.now.number c.args.entry.now.deed in
    let t2 : List ℕ = codes ";" in
    let t3 : List ℕ = change_text c.args.entry.now.change in
    let t4 : List ℕ = codes ";" in
    let t5 : List ℕ = tokens_text c.args.entry.now.made in
    let t6 : List ℕ = codes "\"" in
    let w0 : Option (List ℕ) = g.W.Write.contents c.args.writer.now in
    let w1 : Option (List ℕ) = g.W.Write.contents c.send_head.new.writer in
    let e1 = ap (λ (x : EntryView). event_head c.args.first c.args.place c.args.event.now.0 x.number x.deed) c.entry.view_is in
    rw p.1 (sends_less p.0 w0 w1 ((((t1 ++ t2) ++ t3) ++ t4) ++ t5) t6 (sends_less p.0 w0 w1 (((t1 ++ t2) ++ t3) ++ t4) t5 (sends_less p.0 w0 w1
    ((t1 ++ t2) ++ t3) t4 (sends_less p.0 w0 w1 (t1 ++ t2) t3 (sends_less p.0 w0 w1 t1 t2 (sends_other c.in_err-send_head.field-0.0 p.0 w0 w1 t1
    (sends_same (Err c.in_err-send_head.field-0.0) w0 w1 _ t1 e1 c.in_err-send_head.ensures)))))))

pub returns-in_err-send : goal.returns-in_err-send
returns-in_err-send g c =
    let p = err_from_is_err_and c.from_residual-in_err-send.result c.from_residual-in_err-send.ensures.1 in
    let t1 : List ℕ = event_head c.args.first c.args.place c.args.event.now.0 c.args.entry.now.number c.args.entry.now.deed in
    let t2 : List ℕ = codes ";" in
    let t3 : List ℕ = change_text c.args.entry.now.change in
    let t4 : List ℕ = codes ";" in
    let t5 : List ℕ = tokens_text c.args.entry.now.made in
    let t6 : List ℕ = codes "\"" in
    let w0 : Option (List ℕ) = g.W.Write.contents c.args.writer.now in
    let w1 : Option (List ℕ) = g.W.Write.contents c.send_head.new.writer in
    let w2 : Option (List ℕ) = g.W.Write.contents c.send.new.writer in
    let e1 = ap (λ (x : EntryView). event_head c.args.first c.args.place c.args.event.now.0 x.number x.deed) c.entry.view_is in
    rw p.1 (sends_less p.0 w0 w2 ((((t1 ++ t2) ++ t3) ++ t4) ++ t5) t6 (sends_less p.0 w0 w2 (((t1 ++ t2) ++ t3) ++ t4) t5 (sends_less p.0 w0 w2
    ((t1 ++ t2) ++ t3) t4 (sends_less p.0 w0 w2 (t1 ++ t2) t3 (sends_more (Err p.0) w0 w1 w2 t1 t2
    (sends_from c.send_head.result w0 w1 t1 c.in_ok-send_head.was (sends_same c.send_head.result w0 w1 _ t1 e1 c.send_head.ensures))
    (sends_other c.in_err-send.field-0.0 p.0 w1 w2 t2 c.in_err-send.ensures))))))

pub returns-in_err-send_change : goal.returns-in_err-send_change
returns-in_err-send_change g c =
    let p = err_from_is_err_and c.from_residual-in_err-send_change.result c.from_residual-in_err-send_change.ensures.1 in
    let t1 : List ℕ = event_head c.args.first c.args.place c.args.event.now.0 c.args.entry.now.number c.args.entry.now.deed in
    let t2 : List ℕ = codes ";" in
    let t3 : List ℕ = change_text c.args.entry.now.change in
    let t4 : List ℕ = codes ";" in
    let t5 : List ℕ = tokens_text c.args.entry.now.made in
    let t6 : List ℕ = codes "\"" in
    let w0 : Option (List ℕ) = g.W.Write.contents c.args.writer.now in
    let w1 : Option (List ℕ) = g.W.Write.contents c.send_head.new.writer in
    let w2 : Option (List ℕ) = g.W.Write.contents c.send.new.writer in
    let w3 : Option (List ℕ) = g.W.Write.contents c.send_change.new.writer in
    let e1 = ap (λ (x : EntryView). event_head c.args.first c.args.place c.args.event.now.0 x.number x.deed) c.entry.view_is in
    let e3 = ap (λ (x : EntryView). change_text x.change) c.entry.view_is in
    rw p.1 (sends_less p.0 w0 w3 ((((t1 ++ t2) ++ t3) ++ t4) ++ t5) t6 (sends_less p.0 w0 w3 (((t1 ++ t2) ++ t3) ++ t4) t5 (sends_less p.0 w0 w3
    ((t1 ++ t2) ++ t3) t4 (sends_more (Err p.0) w0 w2 w3 (t1 ++ t2) t3
    (appends_then w0 w1 w2 t1 t2
    (sends_from c.send_head.result w0 w1 t1 c.in_ok-send_head.was (sends_same c.send_head.result w0 w1 _ t1 e1 c.send_head.ensures))
    (sends_from c.send.result w1 w2 t2 c.in_ok-send.was c.send.ensures))
    (sends_other c.in_err-send_change.field-0.0 p.0 w2 w3 t3 (sends_same (Err c.in_err-send_change.field-0.0) w2 w3 _ t3 e3 c.in_err-send_change.ensures))))))

pub returns-in_err-send-2 : goal.returns-in_err-send-2
returns-in_err-send-2 g c =
    let p = err_from_is_err_and c.from_residual-in_err-send-2.result c.from_residual-in_err-send-2.ensures.1 in
    let t1 : List ℕ = event_head c.args.first c.args.place c.args.event.now.0 c.args.entry.now.number c.args.entry.now.deed in
    let t2 : List ℕ = codes ";" in
    let t3 : List ℕ = change_text c.args.entry.now.change in
    let t4 : List ℕ = codes ";" in
    let t5 : List ℕ = tokens_text c.args.entry.now.made in
    let t6 : List ℕ = codes "\"" in
    let w0 : Option (List ℕ) = g.W.Write.contents c.args.writer.now in
    let w1 : Option (List ℕ) = g.W.Write.contents c.send_head.new.writer in
    let w2 : Option (List ℕ) = g.W.Write.contents c.send.new.writer in
    let w3 : Option (List ℕ) = g.W.Write.contents c.send_change.new.writer in
    let w4 : Option (List ℕ) = g.W.Write.contents c.send-2.new.writer in
    let e1 = ap (λ (x : EntryView). event_head c.args.first c.args.place c.args.event.now.0 x.number x.deed) c.entry.view_is in
    let e3 = ap (λ (x : EntryView). change_text x.change) c.entry.view_is in
    rw p.1 (sends_less p.0 w0 w4 ((((t1 ++ t2) ++ t3) ++ t4) ++ t5) t6 (sends_less p.0 w0 w4 (((t1 ++ t2) ++ t3) ++ t4) t5 (sends_more (Err p.0) w0 w3 w4
    ((t1 ++ t2) ++ t3) t4
    (appends_then w0 w2 w3 (t1 ++ t2) t3
    (appends_then w0 w1 w2 t1 t2
    (sends_from c.send_head.result w0 w1 t1 c.in_ok-send_head.was (sends_same c.send_head.result w0 w1 _ t1 e1 c.send_head.ensures))
    (sends_from c.send.result w1 w2 t2 c.in_ok-send.was c.send.ensures))
    (sends_from c.send_change.result w2 w3 t3 c.in_ok-send_change.was (sends_same c.send_change.result w2 w3 _ t3 e3 c.send_change.ensures)))
    (sends_other c.in_err-send-2.field-0.0 p.0 w3 w4 t4 c.in_err-send-2.ensures))))

pub returns-in_err-send_tokens : goal.returns-in_err-send_tokens
returns-in_err-send_tokens g c =
    let p = err_from_is_err_and c.from_residual-in_err-send_tokens.result c.from_residual-in_err-send_tokens.ensures.1 in
    let t1 : List ℕ = event_head c.args.first c.args.place c.args.event.now.0 c.args.entry.now.number c.args.entry.now.deed in
    let t2 : List ℕ = codes ";" in
    let t3 : List ℕ = change_text c.args.entry.now.change in
    let t4 : List ℕ = codes ";" in
    let t5 : List ℕ = tokens_text c.args.entry.now.made in
    let t6 : List ℕ = codes "\"" in
    let w0 : Option (List ℕ) = g.W.Write.contents c.args.writer.now in
    let w1 : Option (List ℕ) = g.W.Write.contents c.send_head.new.writer in
    let w2 : Option (List ℕ) = g.W.Write.contents c.send.new.writer in
    let w3 : Option (List ℕ) = g.W.Write.contents c.send_change.new.writer in
    let w4 : Option (List ℕ) = g.W.Write.contents c.send-2.new.writer in
    let w5 : Option (List ℕ) = g.W.Write.contents c.send_tokens.new.writer in
    let e1 = ap (λ (x : EntryView). event_head c.args.first c.args.place c.args.event.now.0 x.number x.deed) c.entry.view_is in
    let e3 = ap (λ (x : EntryView). change_text x.change) c.entry.view_is in
    let e5 = ap tokens_text (c.deref.ensures.value ∙ ap (λ (x : EntryView). x.made) c.entry.view_is) in
    rw p.1 (sends_less p.0 w0 w5 ((((t1 ++ t2) ++ t3) ++ t4) ++ t5) t6 (sends_more (Err p.0) w0 w4 w5 (((t1 ++ t2) ++ t3) ++ t4) t5
    (appends_then w0 w3 w4 ((t1 ++ t2) ++ t3) t4
    (appends_then w0 w2 w3 (t1 ++ t2) t3
    (appends_then w0 w1 w2 t1 t2
    (sends_from c.send_head.result w0 w1 t1 c.in_ok-send_head.was (sends_same c.send_head.result w0 w1 _ t1 e1 c.send_head.ensures))
    (sends_from c.send.result w1 w2 t2 c.in_ok-send.was c.send.ensures))
    (sends_from c.send_change.result w2 w3 t3 c.in_ok-send_change.was (sends_same c.send_change.result w2 w3 _ t3 e3 c.send_change.ensures)))
    (sends_from c.send-2.result w3 w4 t4 c.in_ok-send-2.was c.send-2.ensures))
    (sends_other c.in_err-send_tokens.field-0.0 p.0 w4 w5 t5 (sends_same (Err c.in_err-send_tokens.field-0.0) w4 w5 _ t5 e5 c.in_err-send_tokens.ensures))))

pub returns : goal.returns
returns g c =
    let t1 : List ℕ = event_head c.args.first c.args.place c.args.event.now.0 c.args.entry.now.number c.args.entry.now.deed in
    let t2 : List ℕ = codes ";" in
    let t3 : List ℕ = change_text c.args.entry.now.change in
    let t4 : List ℕ = codes ";" in
    let t5 : List ℕ = tokens_text c.args.entry.now.made in
    let t6 : List ℕ = codes "\"" in
    let w0 : Option (List ℕ) = g.W.Write.contents c.args.writer.now in
    let w1 : Option (List ℕ) = g.W.Write.contents c.send_head.new.writer in
    let w2 : Option (List ℕ) = g.W.Write.contents c.send.new.writer in
    let w3 : Option (List ℕ) = g.W.Write.contents c.send_change.new.writer in
    let w4 : Option (List ℕ) = g.W.Write.contents c.send-2.new.writer in
    let w5 : Option (List ℕ) = g.W.Write.contents c.send_tokens.new.writer in
    let w6 : Option (List ℕ) = g.W.Write.contents c.send-3.new.writer in
    let e1 = ap (λ (x : EntryView). event_head c.args.first c.args.place c.args.event.now.0 x.number x.deed) c.entry.view_is in
    let e3 = ap (λ (x : EntryView). change_text x.change) c.entry.view_is in
    let e5 = ap tokens_text (c.deref.ensures.value ∙ ap (λ (x : EntryView). x.made) c.entry.view_is) in
    sends_more c.send-3.result w0 w5 w6 ((((t1 ++ t2) ++ t3) ++ t4) ++ t5) t6
    (appends_then w0 w4 w5 (((t1 ++ t2) ++ t3) ++ t4) t5
    (appends_then w0 w3 w4 ((t1 ++ t2) ++ t3) t4
    (appends_then w0 w2 w3 (t1 ++ t2) t3
    (appends_then w0 w1 w2 t1 t2
    (sends_from c.send_head.result w0 w1 t1 c.in_ok-send_head.was (sends_same c.send_head.result w0 w1 _ t1 e1 c.send_head.ensures))
    (sends_from c.send.result w1 w2 t2 c.in_ok-send.was c.send.ensures))
    (sends_from c.send_change.result w2 w3 t3 c.in_ok-send_change.was (sends_same c.send_change.result w2 w3 _ t3 e3 c.send_change.ensures)))
    (sends_from c.send-2.result w3 w4 t4 c.in_ok-send-2.was c.send-2.ensures))
    (sends_from c.send_tokens.result w4 w5 t5 c.in_ok-send_tokens.was (sends_same c.send_tokens.result w4 w5 _ t5 e5 c.send_tokens.ensures)))
    c.send-3.ensures
