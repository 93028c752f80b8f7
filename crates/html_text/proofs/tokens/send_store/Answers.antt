use Rattle.std.proofs.Common.{ℕ, List, Option}
use Rattle.std.specs.Prelude.{codes}
use Rattle.std.proofs.lemmas.Result.{err_from_is_err_and}
use Rattle.html_text.specs.DataText.{number_word_text, tagged_word}
use Rattle.tags.specs.declared.token.Word.TheVariants as word
use Rattle.sink.proofs.Sent.{sends_from, sends_more, sends_less, sends_other}
use Rattle.html_text.proofs.tokens.send_store.Goals as goal

pub returns-in_err-send_number_word : goal.returns-in_err-send_number_word
returns-in_err-send_number_word g c =
    let p = err_from_is_err_and c.from_residual.result c.from_residual.ensures.1 in
    let t1 : List ℕ = number_word_text (codes "s") c.args.cell (word.Val c.args.value) in
    let t2 : List ℕ = tagged_word (codes ":") c.args.word in
    let w0 : Option (List ℕ) = g.W.Write.contents c.args.writer.now in
    let w1 : Option (List ℕ) = g.W.Write.contents c.send_number_word.new.writer in
    rw p.1 (sends_less p.0 w0 w1 t1 t2 (sends_other c.in_err-send_number_word.field-0.0 p.0 w0 w1 t1 c.in_err-send_number_word.ensures))

pub returns : goal.returns
returns g c =
    let t1 : List ℕ = number_word_text (codes "s") c.args.cell (word.Val c.args.value) in
    let t2 : List ℕ = tagged_word (codes ":") c.args.word in
    let w0 : Option (List ℕ) = g.W.Write.contents c.args.writer.now in
    let w1 : Option (List ℕ) = g.W.Write.contents c.send_number_word.new.writer in
    let w2 : Option (List ℕ) = g.W.Write.contents c.send_tagged_word.new.writer in
    sends_more c.send_tagged_word.result w0 w1 w2 t1 t2
    (sends_from c.send_number_word.result w0 w1 t1 c.in_ok-send_number_word.was c.send_number_word.ensures)
    c.send_tagged_word.ensures
