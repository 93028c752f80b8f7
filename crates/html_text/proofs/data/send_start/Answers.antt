use Rattle.std.proofs.Common.{◌++◌, ℕ, List, Option, Err, ◌∙◌, ap}
use Rattle.std.specs.Prelude.{codes}
use Rattle.replay.specs.Views.{BooksView}
use Rattle.html_text.specs.DataText.{listed_numbers, tokens_text}
use Rattle.std.proofs.lemmas.Result.{err_from_is_err_and}
use Rattle.sink.proofs.Sent.{appends_then, sends_from, sends_more, sends_less, sends_other, sends_same}
use Rattle.html_text.proofs.data.send_start.Goals as goal

pub returns-in_err-send : goal.returns-in_err-send
returns-in_err-send g c =
    let p = err_from_is_err_and c.from_residual.result c.from_residual.ensures.1 in
    let t1 : List ℕ = codes ",\"numbers\":[" in
    let t2 : List ℕ = listed_numbers c.args.books.now.numbers in
    let t3 : List ℕ = codes "],\"start\":\"" in
    let t4 : List ℕ = tokens_text c.args.books.now.tokens in
    let w0 : Option (List ℕ) = g.W.Write.contents c.args.writer.now in
    let w1 : Option (List ℕ) = g.W.Write.contents c.send.new.writer in
    rw p.1 (sends_less p.0 w0 w1 ((t1 ++ t2) ++ t3) t4 (sends_less p.0 w0 w1 (t1 ++ t2) t3 (sends_less p.0 w0 w1 t1 t2
    (sends_other c.in_err-send.field-0.0 p.0 w0 w1 t1 c.in_err-send.ensures))))

pub returns-in_err-send_numbers : goal.returns-in_err-send_numbers
returns-in_err-send_numbers g c =
    let p = err_from_is_err_and c.from_residual-in_err-send_numbers.result c.from_residual-in_err-send_numbers.ensures.1 in
    let t1 : List ℕ = codes ",\"numbers\":[" in
    let t2 : List ℕ = listed_numbers c.args.books.now.numbers in
    let t3 : List ℕ = codes "],\"start\":\"" in
    let t4 : List ℕ = tokens_text c.args.books.now.tokens in
    let w0 : Option (List ℕ) = g.W.Write.contents c.args.writer.now in
    let w1 : Option (List ℕ) = g.W.Write.contents c.send.new.writer in
    let w2 : Option (List ℕ) = g.W.Write.contents c.send_numbers.new.writer in
    let e2 = ap listed_numbers (c.deref.ensures.value ∙ ap (λ (b : BooksView). b.numbers) c.books.view_is) in
    rw p.1 (sends_less p.0 w0 w2 ((t1 ++ t2) ++ t3) t4 (sends_less p.0 w0 w2 (t1 ++ t2) t3 (sends_more (Err p.0) w0 w1 w2 t1 t2
    (sends_from c.send.result w0 w1 t1 c.in_ok-send.was c.send.ensures)
    (sends_other c.in_err-send_numbers.field-0.0 p.0 w1 w2 t2 (sends_same
    (Err c.in_err-send_numbers.field-0.0) w1 w2 _ t2 e2 c.in_err-send_numbers.ensures)))))

pub returns-in_err-send-2 : goal.returns-in_err-send-2
returns-in_err-send-2 g c =
    let p = err_from_is_err_and c.from_residual-in_err-send-2.result c.from_residual-in_err-send-2.ensures.1 in
    let t1 : List ℕ = codes ",\"numbers\":[" in
    let t2 : List ℕ = listed_numbers c.args.books.now.numbers in
    let t3 : List ℕ = codes "],\"start\":\"" in
    let t4 : List ℕ = tokens_text c.args.books.now.tokens in
    let w0 : Option (List ℕ) = g.W.Write.contents c.args.writer.now in
    let w1 : Option (List ℕ) = g.W.Write.contents c.send.new.writer in
    let w2 : Option (List ℕ) = g.W.Write.contents c.send_numbers.new.writer in
    let w3 : Option (List ℕ) = g.W.Write.contents c.send-2.new.writer in
    let e2 = ap listed_numbers (c.deref.ensures.value ∙ ap (λ (b : BooksView). b.numbers) c.books.view_is) in
    rw p.1 (sends_less p.0 w0 w3 ((t1 ++ t2) ++ t3) t4 (sends_more (Err p.0) w0 w2 w3 (t1 ++ t2) t3
    (appends_then w0 w1 w2 t1 t2
    (sends_from c.send.result w0 w1 t1 c.in_ok-send.was c.send.ensures)
    (sends_from c.send_numbers.result w1 w2 t2 c.in_ok-send_numbers.was (sends_same c.send_numbers.result w1 w2 _ t2 e2 c.send_numbers.ensures)))
    (sends_other c.in_err-send-2.field-0.0 p.0 w2 w3 t3 c.in_err-send-2.ensures)))

pub returns : goal.returns
returns g c =
    let t1 : List ℕ = codes ",\"numbers\":[" in
    let t2 : List ℕ = listed_numbers c.args.books.now.numbers in
    let t3 : List ℕ = codes "],\"start\":\"" in
    let t4 : List ℕ = tokens_text c.args.books.now.tokens in
    let w0 : Option (List ℕ) = g.W.Write.contents c.args.writer.now in
    let w1 : Option (List ℕ) = g.W.Write.contents c.send.new.writer in
    let w2 : Option (List ℕ) = g.W.Write.contents c.send_numbers.new.writer in
    let w3 : Option (List ℕ) = g.W.Write.contents c.send-2.new.writer in
    let w4 : Option (List ℕ) = g.W.Write.contents c.send_tokens.new.writer in
    let e2 = ap listed_numbers (c.deref.ensures.value ∙ ap (λ (b : BooksView). b.numbers) c.books.view_is) in
    let e4 = ap tokens_text (c.deref-2.ensures.value ∙ ap (λ (b : BooksView). b.tokens) c.books.view_is) in
    sends_more c.send_tokens.result w0 w3 w4 ((t1 ++ t2) ++ t3) t4
    (appends_then w0 w2 w3 (t1 ++ t2) t3
    (appends_then w0 w1 w2 t1 t2
    (sends_from c.send.result w0 w1 t1 c.in_ok-send.was c.send.ensures)
    (sends_from c.send_numbers.result w1 w2 t2 c.in_ok-send_numbers.was (sends_same c.send_numbers.result w1 w2 _ t2 e2 c.send_numbers.ensures)))
    (sends_from c.send-2.result w2 w3 t3 c.in_ok-send-2.was c.send-2.ensures))
    (sends_same c.send_tokens.result w3 w4 _ t4 e4 c.send_tokens.ensures)
