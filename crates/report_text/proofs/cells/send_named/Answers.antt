use Rattle.std.proofs.Common.{◌++◌, ◌∷◌, [], ℕ, List, Option}
use Rattle.std.specs.Prelude.{codes, decimal}
use Rattle.std.proofs.lemmas.Result.{err_from_is_err_and}
use Rattle.semantics.specs.Text.{field}
use Rattle.report_text.specs.ReportText.{value_text}
use Rattle.sink.proofs.Sent.{sends_from, sends_other}
use Rattle.report_text.proofs.Lines.{ended, begun}
use Rattle.report_text.proofs.cells.send_named.Goals as goal

pub returns-in_err-send_place : goal.returns-in_err-send_place
returns-in_err-send_place g c =
    let p = err_from_is_err_and c.from_residual.result c.from_residual.ensures.1 in
    let t1 : List ℕ = codes "cell " ++ (c.args.name.now ++ field (decimal c.args.index)) in
    let w0 : Option (List ℕ) = g.W.Write.contents c.args.writer.now in
    let w1 : Option (List ℕ) = g.W.Write.contents c.send_place.new.writer in
    rw p.1 (begun p.0 w0 w1 t1 (field (value_text c.args.value)) (10 ∷ []) (sends_other c.in_err-send_place.field-0.0 p.0 w0 w1 t1 c.in_err-send_place.ensures))

pub returns : goal.returns
returns g c =
    let t1 : List ℕ = codes "cell " ++ (c.args.name.now ++ field (decimal c.args.index)) in
    let w0 : Option (List ℕ) = g.W.Write.contents c.args.writer.now in
    let w1 : Option (List ℕ) = g.W.Write.contents c.send_place.new.writer in
    let w2 : Option (List ℕ) = g.W.Write.contents c.send_value.new.writer in
    ended c.send_value.result w0 w1 w2 t1 (field (value_text c.args.value)) (10 ∷ []) (sends_from c.send_place.result w0 w1 t1 c.in_ok-send_place.was
    c.send_place.ensures) c.send_value.ensures
