use Rattle.std.proofs.Common.{◌++◌, ℕ, List, Option, Err, ◌∙◌, ap}
use Rattle.std.specs.Prelude.{codes}
use Rattle.replay.specs.Views.{BooksView}
use Rattle.html_text.specs.DataText.{number_text, changes_text}
use Rattle.std.proofs.lemmas.Result.{err_from_is_err_and}
use Rattle.sink.proofs.Sent.{appends_then, sends_from, sends_more, sends_less, sends_other, sends_same}
use Rattle.html_text.proofs.data.send_before.Goals as goal

pub returns-in_err-send : goal.returns-in_err-send
returns-in_err-send g c =
    let p = err_from_is_err_and c.from_residual.result c.from_residual.ensures.1 in
    let t1 : List ℕ = codes ",\"out\":[0],\"changes\":[" in
    let t2 : List ℕ = changes_text c.args.books.now.changes in
    let t3 : List ℕ = number_text (codes "],\"next\":") c.args.books.now.next in
    let w0 : Option (List ℕ) = g.W.Write.contents c.args.writer.now in
    let w1 : Option (List ℕ) = g.W.Write.contents c.send.new.writer in
    rw p.1 (sends_less p.0 w0 w1 (t1 ++ t2) t3 (sends_less p.0 w0 w1 t1 t2 (sends_other c.in_err-send.field-0.0 p.0 w0 w1 t1 c.in_err-send.ensures)))

pub returns-in_err-send_changes : goal.returns-in_err-send_changes
returns-in_err-send_changes g c =
    let p = err_from_is_err_and c.from_residual-in_err-send_changes.result c.from_residual-in_err-send_changes.ensures.1 in
    let t1 : List ℕ = codes ",\"out\":[0],\"changes\":[" in
    let t2 : List ℕ = changes_text c.args.books.now.changes in
    let t3 : List ℕ = number_text (codes "],\"next\":") c.args.books.now.next in
    let w0 : Option (List ℕ) = g.W.Write.contents c.args.writer.now in
    let w1 : Option (List ℕ) = g.W.Write.contents c.send.new.writer in
    let w2 : Option (List ℕ) = g.W.Write.contents c.send_changes.new.writer in
    let e2 = ap changes_text (c.deref.ensures.value ∙ ap (λ (b : BooksView). b.changes) c.books.view_is) in
    rw p.1 (sends_less p.0 w0 w2 (t1 ++ t2) t3 (sends_more (Err p.0) w0 w1 w2 t1 t2
    (sends_from c.send.result w0 w1 t1 c.in_ok-send.was c.send.ensures)
    (sends_other c.in_err-send_changes.field-0.0 p.0 w1 w2 t2 (sends_same
    (Err c.in_err-send_changes.field-0.0) w1 w2 _ t2 e2 c.in_err-send_changes.ensures))))

pub returns : goal.returns
returns g c =
    let t1 : List ℕ = codes ",\"out\":[0],\"changes\":[" in
    let t2 : List ℕ = changes_text c.args.books.now.changes in
    let t3 : List ℕ = number_text (codes "],\"next\":") c.args.books.now.next in
    let w0 : Option (List ℕ) = g.W.Write.contents c.args.writer.now in
    let w1 : Option (List ℕ) = g.W.Write.contents c.send.new.writer in
    let w2 : Option (List ℕ) = g.W.Write.contents c.send_changes.new.writer in
    let w3 : Option (List ℕ) = g.W.Write.contents c.send_long.new.writer in
    let e2 = ap changes_text (c.deref.ensures.value ∙ ap (λ (b : BooksView). b.changes) c.books.view_is) in
    let e3 = ap (λ (b : BooksView). number_text (codes "],\"next\":") b.next) c.books.view_is in
    sends_more c.send_long.result w0 w2 w3 (t1 ++ t2) t3
    (appends_then w0 w1 w2 t1 t2
    (sends_from c.send.result w0 w1 t1 c.in_ok-send.was c.send.ensures)
    (sends_from c.send_changes.result w1 w2 t2 c.in_ok-send_changes.was (sends_same c.send_changes.result w1 w2 _ t2 e2 c.send_changes.ensures)))
    (sends_same c.send_long.result w2 w3 _ t3 e3 c.send_long.ensures)
