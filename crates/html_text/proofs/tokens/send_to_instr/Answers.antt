use Rattle.std.proofs.Common.{ℕ, List, Option, Err, ap}
use Rattle.std.specs.Prelude.{codes}
use Rattle.std.proofs.lemmas.Result.{err_from_is_err_and}
use Rattle.html_text.specs.DataText.{numbers_text, tagged_word}
use Rattle.disassembler.specs.Listing.{port_letter}
use Rattle.sink.proofs.Sent.{sends_from, sends_more, sends_less, sends_other, sends_same}
use Rattle.html_text.proofs.tokens.send_to_instr.Goals as goal

pub returns-in_err-send_numbers : goal.returns-in_err-send_numbers
returns-in_err-send_numbers g c =
    let p = err_from_is_err_and c.from_residual.result c.from_residual.ensures.1 in
    let t1 : List ℕ = numbers_text (port_letter c.args.port) c.args.frame c.args.ip in
    let t2 : List ℕ = tagged_word (codes ":") c.args.word in
    let w0 : Option (List ℕ) = g.W.Write.contents c.args.writer.now in
    let w1 : Option (List ℕ) = g.W.Write.contents c.send_numbers.new.writer in
    rw p.1 (sends_less p.0 w0 w1 t1 t2 (sends_other c.in_err-send_numbers.field-0.0 p.0 w0 w1 t1 (sends_same (Err c.in_err-send_numbers.field-0.0) w0 w1 _ t1 (ap (λ (l : List ℕ). numbers_text l c.args.frame c.args.ip) c.port_letter.ensures.result) c.in_err-send_numbers.ensures)))

pub returns : goal.returns
returns g c =
    let t1 : List ℕ = numbers_text (port_letter c.args.port) c.args.frame c.args.ip in
    let t2 : List ℕ = tagged_word (codes ":") c.args.word in
    let w0 : Option (List ℕ) = g.W.Write.contents c.args.writer.now in
    let w1 : Option (List ℕ) = g.W.Write.contents c.send_numbers.new.writer in
    let w2 : Option (List ℕ) = g.W.Write.contents c.send_tagged_word.new.writer in
    sends_more c.send_tagged_word.result w0 w1 w2 t1 t2
    (sends_from c.send_numbers.result w0 w1 t1 c.in_ok-send_numbers.was (sends_same c.send_numbers.result w0 w1 _ t1 (ap (λ (l : List ℕ). numbers_text l c.args.frame c.args.ip) c.port_letter.ensures.result) c.send_numbers.ensures))
    c.send_tagged_word.ensures
