use Rattle.std.proofs.Common.{◌++◌, ◌∷◌, [], ℕ, List, Option, sym, ap}
use Rattle.std.specs.Prelude.{codes, decimal}
use Rattle.std.proofs.lemmas.Result.{err_from_is_err_and}
use Rattle.semantics.specs.Text.{field}
use Rattle.report_text.specs.ReportText.{value_text, found_text, output_line}
use Rattle.sink.proofs.Sent.{sends_from, sends_other, sends_same}
use Rattle.report_text.proofs.Lines.{ended, begun}
use Rattle.report_text.proofs.outputs.send_output.Goals as goal

pub returns-in_err-send_port : goal.returns-in_err-send_port
returns-in_err-send_port g c =
    let p = err_from_is_err_and c.from_residual.result c.from_residual.ensures.1 in
    let t1 : List ℕ = codes "output" ++ field (decimal c.args.port) in
    let w0 : Option (List ℕ) = g.W.Write.contents c.args.writer.now in
    let w1 : Option (List ℕ) = g.W.Write.contents c.send_port.new.writer in
    rw p.1 (begun p.0 w0 w1 t1 (field (found_text c.args.output.now)) (10 ∷ []) (sends_other c.in_err-send_port.field-0.0 p.0 w0 w1 t1
    c.in_err-send_port.ensures))

pub returns-in-Some : goal.returns-in-Some
returns-in-Some g c =
    let t1 : List ℕ = codes "output" ++ field (decimal c.args.port) in
    let w0 : Option (List ℕ) = g.W.Write.contents c.args.writer.now in
    let w1 : Option (List ℕ) = g.W.Write.contents c.send_port.new.writer in
    let w2 : Option (List ℕ) = g.W.Write.contents c.send_value.new.writer in
    sends_same c.send_value.result w0 w2 _ _ (ap (output_line c.args.port) (sym c.in-Some.is))
    (ended c.send_value.result w0 w1 w2 t1 (field (value_text c.in-Some.value)) (10 ∷ [])
    (sends_from c.send_port.result w0 w1 t1 c.in_ok-send_port.was c.send_port.ensures) c.send_value.ensures)

pub returns-in-None : goal.returns-in-None
returns-in-None g c =
    let t1 : List ℕ = codes "output" ++ field (decimal c.args.port) in
    let w0 : Option (List ℕ) = g.W.Write.contents c.args.writer.now in
    let w1 : Option (List ℕ) = g.W.Write.contents c.send_port.new.writer in
    let w2 : Option (List ℕ) = g.W.Write.contents c.send.new.writer in
    sends_same c.send.result w0 w2 _ _ (ap (output_line c.args.port) (sym c.in-None.is))
    (ended c.send.result w0 w1 w2 t1 (field (codes "-")) (10 ∷ []) (sends_from c.send_port.result w0 w1 t1 c.in_ok-send_port.was c.send_port.ensures)
    c.send.ensures)
